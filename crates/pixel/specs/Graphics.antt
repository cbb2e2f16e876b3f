-- Graphics (A/G = 1): one bit an element in RG modes, which have GM0 = 1, and two bits in CG modes.
use Rattle.std.specs.Prelude.{ℕ, ◌+◌, ◌*◌, ◌/◌, eqb}
use Rattle.promises.specs.Choose.{choose}
use Rattle.settings.specs.declared.Look.{Look}
use Rattle.settings.specs.Fields.{gm0, css}
use Rattle.settings.specs.Modes.{dots}
use Rattle.pixel.specs.Dots.{black, one_bit, two_bits}

-- the elements of a byte: eight of one bit, or four of two
unfoldable pub count : Look → ℕ
count l = choose (eqb (gm0 l) 1) 8 4

-- element j of a byte: 0 is black and 1 is green or buff by CSS (RG), or the two bits' colour, 4 more with CSS 1 (CG)
unfoldable pub element : Look → ℕ → ℕ → ℕ
element l b j = choose (eqb (gm0 l) 1) (one_bit (4 * css l) black b j) (4 * css l + two_bits b j)

-- dot t of a byte: that of its element
unfoldable pub graphic : Look → ℕ → ℕ → ℕ
graphic l b t = element l b (t / dots l)
