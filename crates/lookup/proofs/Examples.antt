-- Two sheets and some keys, counted out by hand and held against the definitions.
use Prim.Native.Nat.{ℕ}
use mathlib.Core.List.{List, [], ◌∷◌, ◌++◌}
use mathlib.Core.Option.{none}
use lib.Dec.{T}
use Rattle.promises.specs.Choose.{choose}
use Rattle.promises.specs.First.{first_where}
use Rattle.promises.specs.Figure.{Figure, figure, all_right}
use Rattle.grammar.specs.Sheet.{deed_word, eq, Annotation, render}
use Rattle.lookup.specs.Lookup.{holder_told, held}

-- an annotation, and the sheet of a deed A with annotations; its fixed lines are 24 bytes
abbrev note : List ℕ → List ℕ → Annotation
note k v = record { key = k; value = v }

abbrev sheet : List Annotation → List ℕ
sheet l = render (record { deed = 65 ∷ []; pins = 0; rule = none; writes = []; annotations = l })

-- the record's sheet has `a=1` and `a=2`; the cover has `b=`, `ab=3` and `a=4`
abbrev pub record_sheet : List ℕ
record_sheet = sheet (note (97 ∷ []) (49 ∷ []) ∷ note (97 ∷ []) (50 ∷ []) ∷ [])

abbrev pub cover_sheet : List ℕ
cover_sheet = sheet (note (98 ∷ []) [] ∷ note (97 ∷ 98 ∷ []) (51 ∷ []) ∷ note (97 ∷ []) (52 ∷ []) ∷ [])

-- what is told: number, place and value; then where the value lies: 1 for the cover, from which byte on, and how many
abbrev asked : List ℕ → List ℕ → List ℕ → List ℕ
asked own cover key =
    (holder_told own cover key).number ∷ (holder_told own cover key).place ∷ (holder_told own cover key).value
    ∷ choose (held own cover key).in_cover 1 0 ∷ (held own cover key).from ∷ (held own cover key).size ∷ []

pub examples : List Figure
examples =
    -- `a`: the record's first value, and not the second or the cover's; `ab` and `b` only the cover has, `b` with an empty value
    figure (asked record_sheet cover_sheet (97 ∷ [])) (0 ∷ 0 ∷ 0 ∷ 0 ∷ 26 ∷ 1 ∷ [])
    ∷ figure (asked record_sheet cover_sheet (97 ∷ 98 ∷ [])) (0 ∷ 0 ∷ 1 ∷ 1 ∷ 30 ∷ 1 ∷ [])
    ∷ figure (asked record_sheet cover_sheet (98 ∷ [])) (0 ∷ 0 ∷ 1 ∷ 1 ∷ 26 ∷ 0 ∷ [])
    -- `c`, nothing, and `a=` are the key of none
    ∷ figure (asked record_sheet cover_sheet (99 ∷ [])) (12 ∷ 0 ∷ 0 ∷ 0 ∷ 0 ∷ 0 ∷ [])
    ∷ figure (asked record_sheet cover_sheet []) (12 ∷ 0 ∷ 0 ∷ 0 ∷ 0 ∷ 0 ∷ [])
    ∷ figure (asked record_sheet cover_sheet (97 ∷ 61 ∷ [])) (12 ∷ 0 ∷ 0 ∷ 0 ∷ 0 ∷ 0 ∷ [])
    -- a broken cover, here `deed=`: nothing is given, whether the record's sheet has the key or not; last, both are broken, and the record's, `deed`, is told
    ∷ figure (asked record_sheet (deed_word ++ eq) (97 ∷ [])) (11 ∷ 5 ∷ 0 ∷ 0 ∷ 0 ∷ 0 ∷ [])
    ∷ figure (asked record_sheet (deed_word ++ eq) (99 ∷ [])) (11 ∷ 5 ∷ 0 ∷ 0 ∷ 0 ∷ 0 ∷ [])
    ∷ figure (asked deed_word (deed_word ++ eq) (97 ∷ [])) (11 ∷ 4 ∷ 0 ∷ 0 ∷ 0 ∷ 0 ∷ [])
    ∷ []

pub examples_right : T (all_right examples)
unfolding examples holder_told held first_where
examples_right = tt
