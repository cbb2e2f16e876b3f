-- Notes that stand on the cover (document 02, CR 1): the first value under a key in the record's sheet, or failing that in the cover.
use Rattle.std.specs.Prelude.{ℕ, ◌+◌, Bool, true, false, not, ◌&&◌, List, [], ◌∷◌, ◌++◌, ltb, eqb, length}
use Rattle.std.specs.Borrow.{Bor}
use Rattle.promises.specs.Choose.{choose}
use Rattle.promises.specs.First.{first_where}
use Rattle.promises.specs.Told.{Told, told, done, refused}
use Rattle.promises.specs.Order.{Check, check, first_of}
use Rattle.promises.specs.Part.{PartOf}
use Rattle.grammar.specs.Sheet.{eq, same}
use Rattle.grammar.specs.Given.{accepted, told_in, fields_in, annotation_from, annotation_at}
use Rattle.lookup.specs.declared.Piece.{Piece}

-- ---- one sheet and a key, which may be any bytes; a refused sheet has no annotation, and so no key
-- the number, from 0, of the first annotation with the key; where none has it, how many there are
abbrev pub first_with : List ℕ → List ℕ → ℕ
first_with s key = first_where (λ n. same (annotation_at (fields_in s).annotations n).key key) (length (fields_in s).annotations)

abbrev pub has_key : List ℕ → List ℕ → Bool
has_key s key = ltb (first_with s key) (length (fields_in s).annotations)

-- the first value under the key, and nothing where no annotation has it
abbrev pub value_in : List ℕ → List ℕ → List ℕ
value_in s key = (annotation_at (fields_in s).annotations (first_with s key)).value

-- it lies in its annotation's line, after the key and the `=`; 0 where no annotation has the key
abbrev pub value_from : List ℕ → List ℕ → ℕ
value_from s key = choose (has_key s key) (annotation_from s (first_with s key) + length (key ++ eq)) 0

-- ---- which sheet has it, the record's own or the cover
-- "11 for the record's sheet, then 11 for the cover, each with the place in that sheet, then 12 exactly if neither has the key"
abbrev pub holder_order : List ℕ → List ℕ → List ℕ → List Check
holder_order own cover key =
    check (not (accepted own)) (told 11 (told_in own).place 0)
    ∷ check (not (accepted cover)) (told 11 (told_in cover).place 0)
    ∷ check (not (has_key own key) && not (has_key cover key)) (refused 12)
    ∷ []

-- "value 0 for the record's, 1 for the cover"
unfoldable pub holder_told : List ℕ → List ℕ → List ℕ → Told
holder_told own cover key = first_of (holder_order own cover key) (done (choose (has_key own key) 0 1))

-- ---- where its value lies
-- the first value under the key in a sheet s, which is the cover or not
abbrev pub piece_of : Bool → List ℕ → List ℕ → Piece
piece_of isCover s key = record { in_cover = isCover; from = value_from s key; size = length (value_in s key) }

-- nothing, at the start of the record's sheet
abbrev pub no_piece : Piece
no_piece = record { in_cover = false; from = 0; size = 0 }

-- in the sheet that is named, and nothing "where the first refuses"
unfoldable pub held : List ℕ → List ℕ → List ℕ → Piece
held own cover key = choose (eqb (holder_told own cover key).number 0) (choose (has_key own key) (piece_of false own key) (piece_of true cover key)) no_piece

-- "the value as a part of whichever sheet has it, not a copy"
abbrev pub HeldPart : Bor (List ℕ) → Bor (List ℕ) → Piece → Bor (List ℕ) → Type 0
HeldPart own cover p part = PartOf (choose p.in_cover cover own) part p.from p.size
