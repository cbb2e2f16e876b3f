-- Text (A/G = 0): which of a byte's eight dots are lit on a row of twelve, and in which colour; the others are black.
use Rattle.std.specs.Prelude.{ℕ, ◌+◌, ◌-◌, ◌*◌, ◌%◌, Bool, not, ◌&&◌, List, eqb, ltb, get_or}
use Rattle.promises.specs.Choose.{choose}
use Rattle.settings.specs.declared.Look.{Look}
use Rattle.settings.specs.Fields.{bits, external, gm1, gm0, css}

-- A byte below 128 is a letter.

-- DD6, bit 6 of a byte
abbrev pub dd6 : ℕ → ℕ
dd6 b = bits b 6 1

-- lower case: with GM0 = 1, bytes 0 to 31; external text has none, and does not read GM0
abbrev pub lower : Look → ℕ → Bool
lower l b = not (external l) && (eqb (gm0 l) 1 && ltb b 32)

-- which pattern of the font: external, the byte's whole number; else of lower case 64 plus the byte, and of others the low six bits
unfoldable pub pattern : Look → ℕ → ℕ
pattern l b = choose (external l) b (choose (lower l b) (64 + b) (b % 64))

-- whether it is inverted, 1 or 0: lower case is, else as DD6 says
unfoldable pub inverted : Look → ℕ → ℕ
inverted l b = choose (lower l b) 1 (dd6 b)

-- a row of its pattern; inverting exchanges lit and unlit dots, and GM1 = 1 exchanges them once more
unfoldable pub letter : Look → List ℕ → ℕ → ℕ → ℕ
letter l font b row = choose (eqb (inverted l b) (gm1 l)) (get_or font (pattern l b * 12 + row) 0) (255 - get_or font (pattern l b * 12 + row) 0)

-- A byte of 128 or more is Semigraphics 4, and external text refuses it: bits 3, 2, 1, 0 light top left, top right, bottom left, bottom right,
-- each part 4 dots by 6 rows. No pin matters.
unfoldable pub block : Look → ℕ → ℕ → ℕ
block l b row = choose (ltb row 6) (240 * bits b 3 1 + 15 * bits b 2 1) (240 * bits b 1 1 + 15 * bits b 0 1)

-- the eight dots of a byte on a row, as the bits of a number
unfoldable pub lit : Look → List ℕ → ℕ → ℕ → ℕ
lit l font b row = choose (ltb b 128) (letter l font b row) (block l b row)

-- the colour of the lit dots: of a letter green or orange by CSS, of Semigraphics bits 6-4
unfoldable pub ink : Look → ℕ → ℕ
ink l b = choose (ltb b 128) (7 * css l) (bits b 4 3)
