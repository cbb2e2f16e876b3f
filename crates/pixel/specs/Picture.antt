-- The picture of a strip: 192 lines of 256 pixels, on each line W bytes of 256 / W dots.
use Rattle.std.specs.Prelude.{ℕ, ◌+◌, ◌*◌, ◌/◌, ◌%◌, List, get_or}
use Rattle.promises.specs.Choose.{choose}
use Rattle.settings.specs.declared.Look.{Look}
use Rattle.settings.specs.Fields.{graphics}
use Rattle.settings.specs.Modes.{width}
use Rattle.pixel.specs.Dots.{black, one_bit}
use Rattle.pixel.specs.Graphics.{graphic}
use Rattle.pixel.specs.Text.{lit, ink}

-- dot t of a byte on a line
unfoldable pub pixel : Look → List ℕ → ℕ → ℕ → ℕ → ℕ
pixel l font b line t = choose (graphics l) (graphic l b t) (one_bit (ink l b) black (lit l font b (line % 12)) t)

-- the dots of a byte
abbrev pub breadth : Look → ℕ
breadth l = 256 / width l

-- the strip index of the byte that draws pixel k, and which of its dots that is
unfoldable pub owner : Look → ℕ → ℕ
owner l k = k / 256 * width l + k % 256 / breadth l

unfoldable pub dot : Look → ℕ → ℕ
dot l k = k % 256 % breadth l

-- pixel k of the frame that a strip draws
unfoldable pub picture : Look → List ℕ → List ℕ → ℕ → ℕ
picture l font strip k = pixel l font (get_or strip (owner l k) 0) (k / 256) (dot l k)
