-- How long a report's lines are.
use Prim.Native.Nat.{ℕ, zero, suc, ◌+◌, ◌/◌, ◌≤◌}
use mathlib.Core.Path.{◌≡◌, ◌∙◌}
use mathlib.Core.List.{List, ◌++◌}
use native.Mathlib.Omega.{arith}
use lib.Dec.{ltb}
use lib.ListN.{length, length-append}
use Rattle.promises.proofs.Choices.{of_both}
use Rattle.grammar.specs.Sheet.{eq, nl, lines}
use Rattle.grammar.specs.Given.{fields_in}
use Rattle.report_text.specs.Words.{annotations_word, decimal_in, decimal, line_of}
use Rattle.report_text.specs.Report.{annotated}
use Rattle.report_text.proofs.Values.{tail_small}

pub decimal_small : (most n : ℕ) → length (decimal_in most n) ≤ most
unfolding decimal_in
decimal_small zero n = omega arith
decimal_small (suc most) n =
    of_both (λ (l : List ℕ). length l ≤ suc most) (ltb n 10) (omega arith)
    (rw length-append (omega (arith, decimal_small most (n / 10))))

line_long : (w v : List ℕ) → length (line_of w v) ≡ length w + (1 + (length v + 1))
line_long w v =
    length-append (w ++ eq) (v ++ nl) ∙ omega (arith, length-append w eq, length-append v nl)

number_long : (w : List ℕ) (n : ℕ) → length (line_of w (decimal n)) ≤ length w + 22
number_long w n = omega (arith, line_long w (decimal n), decimal_small 20 n)

pub annotated_long : (s : List ℕ) → length (annotated s) ≤ 28200
annotated_long s =
    omega (arith, length-append (line_of annotations_word (decimal (length (fields_in s).annotations))) (lines (fields_in s).annotations), number_long annotations_word (length (fields_in s).annotations), tail_small s)
