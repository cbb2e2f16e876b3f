-- The steps of drawing: by tables of the eight dots of every byte, made once a frame.
use Rattle.std.specs.Prelude.{ℕ, ◌+◌, ◌*◌, ◌/◌, ◌%◌, ◌≡◌, List, ◌⊎◌, eqb, get_or}
use Rattle.promises.specs.Choose.{choose}
use Rattle.settings.specs.declared.Look.{Look}
use Rattle.settings.specs.Fields.{gm0, css}
use Rattle.pixel.specs.Dots.{black, one_bit, two_bits}
use Rattle.pixel.specs.Text.{ink}

-- Graphics: the eight dots of a byte, as 32 bytes a line show them; with 16 bytes a line each is stretched to two pixels.
unfoldable pub shade : Look → ℕ → ℕ → ℕ
shade look b u = choose (eqb (gm0 look) 1) (one_bit (4 * css look) black b u) (4 * css look + two_bits b (u / 2))

abbrev pub Stretch : ℕ → Type 0
Stretch s = (s ≡ 1) ⊎ (s ≡ 2)

-- pixel k out of a table of eight dots a byte
unfoldable pub plotted : ℕ → List ℕ → List ℕ → ℕ → ℕ
plotted s table strip k = get_or table (get_or strip (k / (8 * s)) 0 * 8 + k % (8 * s) / s) 0

-- Text: pixel k out of a table of the lit dots of every byte on each of the twelve rows
unfoldable pub typed : Look → List ℕ → List ℕ → ℕ → ℕ
typed look glyphs strip k = one_bit (ink look (get_or strip (k / 8) 0)) black (get_or glyphs (get_or strip (k / 8) 0 * 12 + k / 256 % 12) 0) (k % 8)
