-- The longest sheet has 28,159 bytes.
use Prim.Native.Nat.{ℕ, ◌+◌, ◌≤◌, ◌<◌, zero-le}
use native.Mathlib.Omega.{arith}
use native.Mathlib.Nat.{le_refl, le_of_eq}
use mathlib.Core.Path.{◌≡◌, refl, ◌∙◌, ap}
use mathlib.Core.Logic.{⊎_elim}
use mathlib.Core.List.{List, ◌++◌}
use mathlib.Core.Bool.{true}
use mathlib.Core.Option.{Option, none, some}
use borrow.Author.Tests.{lt-ltb, le-ltb}
use lib.ListN.{length, length-append, replicate, length-replicate}
use Rattle.settings.specs.declared.Rule.{Rule}
use Rattle.settings.specs.declared.Rule.TheVariants.{One}
use Rattle.text.specs.Combine.{optional, texts}
use Rattle.text.specs.Hex.{hex}
use Rattle.text.proofs.Lists.{le_or_lt}
use Rattle.text.proofs.Runs.{all_replicate}
use Rattle.text.proofs.Hexes.{hex_length}
use Rattle.text.proofs.Lengths.{texts_most, texts_same, valid_same}
use Rattle.grammar.specs.Sheet.{deed_byte, key_byte, value_byte, deed_word, pins_word, writes_word, at_word, eq, nl, deed_line, pins_line, rule_line, count_digits, writes_line, at_line, Annotation, ValidAnnotation, line, annotation_line, Fields, ValidSheet, front, lines, render}
use Rattle.grammar.specs.Given.{is_got, accepted, fields_in}
use Rattle.grammar.proofs.Grammar.{read_back}
use Rattle.grammar.proofs.Parts.{accepted_render}

-- ---- each line
deed_most : (u : List ℕ) → deed_line.Valid u → length (deed_line.text u) ≤ 22
deed_most u h = omega (arith, length-append (deed_word ++ eq) (u ++ nl), length-append u nl, h.2)

pins_length : (v : ℕ) → length (pins_line.text v) ≡ 8
pins_length v = length-append (pins_word ++ eq) (hex 2 v ++ nl) ∙ omega (arith, length-append (hex 2 v) nl, hex_length 2 v)

rule_most : (r : Option Rule) → length ((optional rule_line).text r) ≤ 7
rule_most none = zero-le
rule_most (some r) = le_refl 7

count_digits_most : (n : ℕ) → length (count_digits n) ≤ 2
count_digits_most n = ⊎_elim (λ (h : 10 ≤ n). rw (le-ltb n 10 h) (le_refl 2)) (λ (h : n < 10). rw (lt-ltb n 10 h) (omega arith)) (le_or_lt 10 n)

count_most : (n : ℕ) → length (writes_line.text n) ≤ 10
count_most n = omega (arith, length-append (writes_word ++ eq) (count_digits n ++ nl), length-append (count_digits n) nl, count_digits_most n)

at_length : (v : ℕ) → length (at_line.text v) ≡ 8
at_length v = length-append (at_word ++ eq) (hex 4 v ++ nl) ∙ omega (arith, length-append (hex 4 v) nl, hex_length 4 v)

line_length : (a : Annotation) → length (annotation_line.text a) ≡ length a.key + length a.value + 2
line_length a = omega (arith, length-append (line a) nl, length-append a.key (eq ++ a.value), length-append eq a.value)

line_most : (a : Annotation) → ValidAnnotation a → length (annotation_line.text a) ≤ 138
line_most a h = omega (arith, line_length a, h.key_most, h.value_most)

-- ---- the sheet
render_length : (f : Fields) → length (render f) ≡ length (deed_line.text f.deed) + 8 + length ((optional rule_line).text f.rule) + length (writes_line.text (length f.writes)) + length (texts at_line f.writes) + length (lines f.annotations)
render_length f =
    let d = deed_line.text f.deed in
    let p = pins_line.text f.pins in
    let r = (optional rule_line).text f.rule in
    let w = writes_line.text (length f.writes) in
    let t = texts at_line f.writes in
    omega (arith, length-append (front f) (lines f.annotations), length-append d (p ++ (r ++ (w ++ t))), length-append p (r ++ (w ++ t)), length-append r (w ++ t), length-append w t, pins_length f.pins)

render_most : (f : Fields) → ValidSheet f → length (render f) ≤ 28159
render_most f h =
    omega (
      arith,
      render_length f,
      deed_most f.deed h.deed_valid,
      rule_most f.rule,
      count_most (length f.writes),
      texts_most at_line 8 (λ v _. le_of_eq (at_length v)) f.writes h.writes_valid,
      h.count_valid,
      texts_most annotation_line 138 line_most f.annotations h.annotations_valid.0,
      h.annotations_valid.1,
    )

-- no accepted sheet is longer
pub none_longer : (s : List ℕ) → accepted s ≡ true → length s ≤ 28159
none_longer s h = let a = accepted_render s h in omega (arith, ap length a.1, render_most (fields_in s) a.0)

-- ---- and one is as long
longest_line : Annotation
longest_line = record { key = replicate 16 45; value = replicate 120 0 }

longest : Fields
longest = record { deed = replicate 16 45; pins = 0; rule = some One; writes = replicate 64 0; annotations = replicate 200 longest_line }

line_valid : ValidAnnotation longest_line
unfolding longest_line
line_valid = record { key_bytes = all_replicate key_byte 45 refl 16; key_some = omega arith; key_most = le_refl 16; key_free = refl; value_bytes = all_replicate value_byte 0 refl 120; value_most = le_refl 120 }

longest_valid : ValidSheet longest
unfolding longest
longest_valid =
    record {
      deed_valid = (all_replicate deed_byte 45 refl 16, omega arith, le_refl 16);
      pins_valid = omega arith;
      rule_valid = tt;
      count_valid = le_refl 64;
      writes_valid = valid_same at_line 0 (omega arith) 64;
      annotations_valid = (valid_same annotation_line longest_line line_valid 200, le_of_eq (length-replicate 200 longest_line));
    }

longest_length : length (render longest) ≡ 28159
unfolding longest longest_line
longest_length =
    render_length longest ∙ omega (arith, texts_same at_line 8 0 (at_length 0) 64, texts_same annotation_line 138 longest_line (line_length longest_line) 200)

pub one_as_long : (s : List ℕ) × (accepted s ≡ true) × (length s ≡ 28159)
one_as_long = (render longest, ap is_got (read_back longest longest_valid), longest_length)
