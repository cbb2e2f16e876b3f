-- The strip that a graphics frame shows: each byte by its elements, each element by its leftmost pixel.
use Rattle.std.specs.Prelude.{ℕ, ◌+◌, ◌*◌, ◌%◌, List, eqb, get_or}
use Rattle.promises.specs.Choose.{choose}
use Rattle.settings.specs.declared.Look.{Look}
use Rattle.settings.specs.Fields.{gm0}
use Rattle.settings.specs.Modes.{dots}
use Rattle.pixel.specs.Dots.{black, digits}
use Rattle.pixel.specs.Graphics.{count}
use Rattle.pixel.specs.Picture.{breadth}

-- how many values an element has: two in RG modes, four in CG modes
unfoldable pub values : Look → ℕ
values l = choose (eqb (gm0 l) 1) 2 4

-- the value of the element that shows a colour: of two, 0 is black and 1 the other; of four, v or 4 + v
unfoldable pub value : ℕ → ℕ → ℕ
value r c = choose (eqb r 2) (choose (eqb c black) 0 1) (c % 4)

-- the byte of which n elements of e dots start at pixel `at`
unfoldable pub read : ℕ → ℕ → ℕ → List ℕ → ℕ → ℕ
read r n e frame at = digits r (λ (j : ℕ). value r (get_or frame (at + j * e) 0)) n

-- byte i of the strip
unfoldable pub read_byte : Look → List ℕ → ℕ → ℕ
read_byte l frame i = read (values l) (count l) (dots l) frame (i * breadth l)
