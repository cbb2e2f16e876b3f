-- How a trial prints a byte by its digits.
use Rattle.std.specs.Prelude.{ℕ, ◌/◌, ◌%◌, List, [], ◌∷◌, true}
use Rattle.std.specs.Fmt.{digit_glyph}

-- a byte as two capital hex digits
abbrev pub hex_pair : ℕ → List ℕ
hex_pair b = digit_glyph true (b / 16) ∷ digit_glyph true (b % 16) ∷ []
