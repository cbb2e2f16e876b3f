-- Stray pixels: those that no strip draws.
use Rattle.std.specs.Prelude.{ℕ, ◌+◌, ◌*◌, ◌/◌, ◌%◌, Bool, not, ◌&&◌, ◌||◌, List, eqb, get_or}
use Rattle.promises.specs.Choose.{choose}
use Rattle.promises.specs.First.{first_where}
use Rattle.settings.specs.declared.Look.{Look}
use Rattle.settings.specs.Fields.{gm0, css}
use Rattle.settings.specs.Modes.{dots}
use Rattle.settings.specs.Refusals.{frame_length}
use Rattle.pixel.specs.Dots.{black}

-- the mode and CSS show the colour
unfoldable pub shows : Look → ℕ → Bool
shows l c = choose (eqb (gm0 l) 1) (eqb c (4 * css l) || eqb c black) (eqb (c / 4) (css l))

-- the leftmost pixel of k's element on its line
unfoldable pub leftmost : Look → ℕ → ℕ
leftmost l k = k / 256 * 256 + k % 256 / dots l * dots l

-- a colour that is never shown, or another than that of the leftmost pixel
unfoldable pub stray : Look → List ℕ → ℕ → Bool
stray l frame k = not (shows l (get_or frame k 0) && eqb (get_or frame k 0) (get_or frame (leftmost l k) 0))

-- the index of the first stray pixel, and 49,152 where there is none
unfoldable pub first_stray : Look → List ℕ → ℕ
first_stray l frame = first_where (stray l frame) frame_length
