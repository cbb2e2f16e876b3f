-- Sheets with the rule and without, counted out by hand and held against the definitions.
use Prim.Native.Nat.{ℕ}
use mathlib.Core.List.{List, [], ◌∷◌, ◌++◌}
use lib.Dec.{T}
use lib.ListN.{take}
use Rattle.promises.specs.Figure.{Figure, figure, all_right}
use Rattle.settings.specs.declared.Rule.TheVariants.{One, Two}
use Rattle.grammar.specs.Sheet.{rule_word, eq, deed_line, pins_line, rule_digit, rule_line, writes_line}
use Rattle.grammar.specs.Given.{told_in, fields_in, rule_given}

-- what is told of a sheet of `deed=A`, `pins=00`, 15 bytes, and what follows: number and place; then its rule
abbrev asked : List ℕ → List ℕ
asked s =
    let sheet = deed_line.text (65 ∷ []) ++ (pins_line.text 0 ++ s) in
    (told_in sheet).number ∷ (told_in sheet).place ∷ rule_digit (rule_given (fields_in sheet).rule) ∷ []

abbrev none_written : List ℕ
none_written = writes_line.text 0

pub examples : List Figure
examples =
    -- without the line, rule 1; with it, the one that is given
    figure (asked none_written) (0 ∷ 0 ∷ 49 ∷ [])
    ∷ figure (asked (rule_line.text One ++ none_written)) (0 ∷ 0 ∷ 49 ∷ [])
    ∷ figure (asked (rule_line.text Two ++ none_written)) (0 ∷ 0 ∷ 50 ∷ [])
    -- `rule=3` at the 3, a second line at its first byte, and a sheet cut inside `rule` at its length
    ∷ figure (asked (rule_word ++ eq ++ (51 ∷ []))) (11 ∷ 20 ∷ 49 ∷ [])
    ∷ figure (asked (rule_line.text Two ++ rule_line.text Two)) (11 ∷ 22 ∷ 49 ∷ [])
    ∷ figure (asked (take 2 rule_word)) (11 ∷ 17 ∷ 49 ∷ [])
    -- after the writes it is an annotation: `rule` stays free as a key
    ∷ figure (asked (none_written ++ rule_line.text Two)) (0 ∷ 0 ∷ 49 ∷ [])
    ∷ []

pub examples_right : T (all_right examples)
unfolding examples
examples_right = tt
