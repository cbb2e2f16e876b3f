-- What the functions behind the two questions answer of the bytes of a line, and of one sheet.
use Rattle.std.specs.Prelude.{ℕ, suc, ◌≡◌, Option, Some, None, Result, Ok, Err, Bool, true, false, not, ◌&&◌, List, [], ◌∷◌, eqb, length}
use Rattle.promises.specs.Choose.{choose}
use Rattle.promises.specs.Told.{told, done}
use Rattle.answer.specs.declared.Refusal.{Refusal}
use Rattle.answer.specs.Told.{told_by}
use Rattle.grammar.specs.Given.{accepted, told_in, tail_from}
use Rattle.scan.specs.declared.Span.{Span}
use Rattle.lookup.specs.declared.Piece.{Piece}
use Rattle.lookup.specs.Lookup.{has_key, value_in, value_from, holder_told, held, no_piece}

-- how many bytes stand before the first line end
abbrev pub to_line_end : List ℕ → ℕ
to_line_end [] = 0
to_line_end (b ∷ s) = choose (eqb b 10) 0 (suc (to_line_end s))

-- whether what stands before the first `=` is the key
abbrev pub keyed_by : List ℕ → List ℕ → Bool
keyed_by [] [] = false
keyed_by [] (b ∷ s) = eqb b 61
keyed_by (c ∷ k) [] = false
keyed_by (c ∷ k) (b ∷ s) = not (eqb b 61) && (eqb b c && keyed_by k s)

-- whether an `=` stands first
abbrev pub equals_first : List ℕ → Bool
equals_first [] = false
equals_first (b ∷ s) = eqb b 61

-- how many bytes the key and what stands before the first `=` begin with alike
abbrev pub alike : List ℕ → List ℕ → ℕ
alike [] s = 0
alike (c ∷ k) [] = 0
alike (c ∷ k) (b ∷ s) = choose (not (eqb b 61) && eqb b c) (suc (alike k s)) 0

-- where the first value under the key in an accepted sheet lies, if one has it
abbrev pub found_in : List ℕ → List ℕ → Option Span
found_in s k = choose (has_key s k) (Some (record { from = value_from s k; size = length (value_in s k) })) None

-- where the annotation lines of an accepted sheet begin, or the refusal
abbrev pub LinesFrom : List ℕ → Result ℕ Refusal → Type 0
LinesFrom s (Ok from) = (accepted s ≡ true) × (from ≡ tail_from s)
LinesFrom s (Err r) = (accepted s ≡ false) × (told_by r ≡ told 11 (told_in s).place 0)

-- what is told of a key in two sheets, and where its value lies: the piece, or nothing and the refusal
abbrev pub Finds : List ℕ → List ℕ → List ℕ → Result Piece Refusal → Type 0
Finds own cover key (Ok p) = (holder_told own cover key ≡ done (choose p.in_cover 1 0)) × (held own cover key ≡ p)
Finds own cover key (Err r) = (holder_told own cover key ≡ told_by r) × (held own cover key ≡ no_piece)
