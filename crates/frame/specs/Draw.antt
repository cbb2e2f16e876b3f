-- Drawing: the order 1, 6, 7, 8, 15 of documents 01 and 02, and the frame afterwards.
use Rattle.std.specs.Prelude.{ℕ, ◌≤◌, ◌≡◌, false, List, [], ◌∷◌, ◌++◌, length, get_or}
use Rattle.promises.specs.Told.{Told, done}
use Rattle.promises.specs.Order.{Check, first_of}
use Rattle.promises.specs.Written.{written, leaves}
use Rattle.settings.specs.declared.Look.{Look}
use Rattle.settings.specs.Fields.{graphics}
use Rattle.settings.specs.Modes.{border, font_size}
use Rattle.settings.specs.Refusals.{strip_length, frame_length, pins_above, font_length, short_strip, short_frame}
use Rattle.pixel.specs.Picture.{picture}
use Rattle.valid.specs.Valid.{not_valid_byte}

-- drawing checks 1, 6, 7, 8, by the look and the lengths of font, strip and frame
abbrev pub draw_lengths : Look → ℕ → ℕ → ℕ → List Check
draw_lengths look font strip frame = pins_above look ∷ font_length look font ∷ short_strip look strip ∷ short_frame frame ∷ []

-- then 15, by the bytes that are drawn, byte k of the strip
abbrev pub draw_bytes : Look → (ℕ → ℕ) → List Check
draw_bytes look byte = not_valid_byte look byte ∷ []

-- the whole order, over what is lent, and what is told
abbrev pub draw_order : Look → List ℕ → List ℕ → List ℕ → List Check
draw_order look font strip frame = draw_lengths look (length font) (length strip) (length frame) ++ draw_bytes look (λ k. get_or strip k 0)

unfoldable pub draw_told : Look → List ℕ → List ℕ → List ℕ → Told
draw_told look font strip frame = first_of (draw_order look font strip frame) (done (border look))

-- done, the picture is in the frame's first 49,152 bytes
unfoldable pub frame_after : Look → List ℕ → List ℕ → List ℕ → List ℕ
frame_after look font strip frame = leaves (draw_told look font strip frame) (written (picture look font strip) frame_length frame) frame

-- what is known where no length is refused
pub record DrawFits (look : Look) (font strip frame : ℕ) : Type 0 where
  pub font_whole : graphics look ≡ false → font ≡ font_size look
  pub strip_long : strip_length look ≤ strip
  pub frame_long : frame_length ≤ frame
