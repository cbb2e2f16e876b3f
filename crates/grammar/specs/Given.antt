-- What the operations give of the bytes of a sheet: the answer, the fields, and where the parts lie.
use Rattle.std.specs.Prelude.{ℕ, zero, suc, ◌+◌, ◌-◌, List, [], ◌∷◌, ◌++◌, Bool, true, false, not, ltb, length, take, get_or, replicate}
use Rattle.std.proofs.Math.Option.{Option, none, some}
use Rattle.promises.specs.Choose.{choose}
use Rattle.promises.specs.Told.{Told, told, done}
use Rattle.promises.specs.Order.{Check, check}
use Rattle.settings.specs.declared.Rule.{Rule}
use Rattle.settings.specs.declared.Rule.TheVariants.{One}
use Rattle.text.specs.Code.{Reading, got, stuck}
use Rattle.grammar.specs.Sheet.{deed_word, eq, Annotation, Fields, line, lines, front}
use Rattle.grammar.specs.Read.{read_sheet}

-- ---- of what is read
abbrev pub is_got : {X : Type 0} → Reading X → Bool
is_got (got v n) = true
is_got (stuck n) = false

-- done with value 0, or a broken sheet with its place
abbrev pub told_read : Reading Fields → Told
told_read (got f n) = done 0
told_read (stuck n) = told 11 n 0

-- a refused sheet yields an empty deed, pins 0, rule 1, no writes and no annotations
abbrev pub no_fields : Fields
no_fields = record { deed = []; pins = 0; rule = none; writes = []; annotations = [] }

abbrev pub fields_read : Reading Fields → Fields
fields_read (got f n) = f
fields_read (stuck n) = no_fields

-- a sheet without the line is rule 1
abbrev pub rule_given : Option Rule → Rule
rule_given none = One
rule_given (some r) = r

-- ---- of the bytes of a sheet
abbrev pub accepted : List ℕ → Bool
accepted s = is_got (read_sheet s)

abbrev pub told_in : List ℕ → Told
told_in s = told_read (read_sheet s)

abbrev pub fields_in : List ℕ → Fields
fields_in s = fields_read (read_sheet s)

-- a sheet's one refusal: 11, with its place
abbrev pub sheet_order : List ℕ → List Check
sheet_order s = check (not (accepted s)) (told 11 (told_in s).place 0) ∷ []

-- a list in an array of k places, 0 in those that are not used
abbrev pub padded : ℕ → List ℕ → List ℕ
padded k l = l ++ replicate (k - length l) 0

-- the deed lies after `deed=`
abbrev pub deed_from : List ℕ → ℕ
deed_from s = choose (accepted s) (length (deed_word ++ eq)) 0

-- the annotation lines lie after the fixed lines
abbrev pub tail_from : List ℕ → ℕ
tail_from s = choose (accepted s) (length (front (fields_in s))) 0

-- annotation n lies after those before it; there is none past the last
abbrev pub annotation_from : List ℕ → ℕ → ℕ
annotation_from s n = choose (ltb n (length (fields_in s).annotations)) (tail_from s + length (lines (take n (fields_in s).annotations))) 0

-- annotation n, counted from 0; past the last, one with no key and no value
abbrev pub annotation_at : List Annotation → ℕ → Annotation
annotation_at l n = get_or l n (record { key = []; value = [] })

-- annotation n without its byte 10, and nothing past the last
abbrev pub line_at : List Annotation → ℕ → List ℕ
line_at [] n = []
line_at (a ∷ l) zero = line a
line_at (a ∷ l) (suc n) = line_at l n
