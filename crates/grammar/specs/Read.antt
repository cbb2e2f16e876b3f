-- How a sheet is read, line by line.
use Rattle.std.specs.Prelude.{ℕ, ◌+◌, ◌-◌, ◌*◌, List, [], ◌∷◌, ◌++◌, Bool, ◌&&◌, leb, eqb, get_or}
use Rattle.std.proofs.Math.Option.{Option}
use Rattle.promises.specs.Choose.{choose}
use Rattle.settings.specs.declared.Rule.{Rule}
use Rattle.settings.specs.declared.Rule.TheVariants.{One, Two}
use Rattle.text.specs.Code.{Reading, got, stuck}
use Rattle.text.specs.Combine.{mapped, bump, and_then, read_led, read_closed, read_optional, read_times, read_up_to, read_only}
use Rattle.text.specs.Hex.{between, read_hex}
use Rattle.grammar.specs.Sheet.{deed_byte, key_byte, value_byte, deed_word, pins_word, rule_word, writes_word, at_word, eq, free, Annotation, Fields}

abbrev pub read_deed : List ℕ → Reading (List ℕ)
read_deed s = read_led (deed_word ++ eq) (read_closed deed_byte 1 16 10) s

abbrev pub read_pins : List ℕ → Reading ℕ
read_pins s = read_led (pins_word ++ eq) (read_hex 2 10) s

abbrev pub read_at : List ℕ → Reading ℕ
read_at s = read_led (at_word ++ eq) (read_hex 4 10) s

-- ---- the rule
abbrev pub rule_byte : ℕ → Bool
rule_byte b = between 49 50 b

-- the rule of one such byte
abbrev pub rule_of : List ℕ → Rule
rule_of u = choose (eqb (get_or u 0 0) 49) One Two

abbrev pub read_rule_digit : List ℕ → Reading Rule
read_rule_digit s = mapped rule_of (read_closed rule_byte 1 1 10 s)

abbrev pub read_rule_line : List ℕ → Reading Rule
read_rule_line s = read_led (rule_word ++ eq) read_rule_digit s

-- directly after pins only its line begins with r
abbrev pub read_rule : List ℕ → Reading (Option Rule)
read_rule s = read_optional 114 read_rule_line s

-- ---- the number of writes
-- the line end after the number v
abbrev pub closing : ℕ → List ℕ → Reading ℕ
closing v [] = stuck 0
closing v (c ∷ s) = choose (eqb c 10) (got v 1) (stuck 0)

abbrev pub digit : ℕ → Bool
digit b = between 48 57 b

-- a second digit c is read after the first, d, where that is not 0 and the number is at most 64
abbrev pub more : ℕ → ℕ → Bool
more d c = digit c && (leb 1 d && leb (10 * d + (c - 48)) 64)

abbrev pub read_second : ℕ → List ℕ → Reading ℕ
read_second d [] = stuck 0
read_second d (c ∷ s) = choose (more d c) (bump (λ v. v) (closing (10 * d + (c - 48)) s)) (closing d (c ∷ s))

abbrev pub read_number : List ℕ → Reading ℕ
read_number [] = stuck 0
read_number (b ∷ s) = choose (digit b) (bump (λ v. v) (read_second (b - 48) s)) (stuck 0)

abbrev pub read_count : List ℕ → Reading ℕ
read_count s = read_led (writes_word ++ eq) read_number s

-- the rule, if it is given, and then the number of writes
abbrev pub read_ruled_count : List ℕ → Reading (Option Rule × ℕ)
read_ruled_count s = and_then s (read_rule s) (λ _. read_count)

-- ---- annotations
abbrev pub to_annotation : List ℕ × List ℕ → Annotation
to_annotation p = record { key = p.0; value = p.1 }

abbrev pub read_annotation : List ℕ → Reading Annotation
read_annotation s = mapped to_annotation (and_then s (read_only free (read_closed key_byte 1 16 61 s)) (λ _ r. read_closed value_byte 0 120 10 r))

abbrev pub read_annotations : List ℕ → Reading (List Annotation)
read_annotations s = read_up_to read_annotation 200 s

-- ---- the whole: deed, pins, rule with the number of writes, writes, and the annotations to the end
abbrev pub Lines : Type 0
Lines = List ℕ × (ℕ × ((Option Rule × ℕ) × (List ℕ × List Annotation)))

abbrev pub to_fields : Lines → Fields
to_fields (deed, (pins, ((rule, count), (writes, annotations)))) = record { deed = deed; pins = pins; rule = rule; writes = writes; annotations = annotations }

abbrev pub read_sheet : List ℕ → Reading Fields
read_sheet s =
    mapped to_fields (
    and_then s (read_deed s) λ _ s.
    and_then s (read_pins s) λ _ s.
    and_then s (read_ruled_count s) λ ruled s.
    and_then s (read_times read_at ruled.1 s) λ _ s.
    read_annotations s)
