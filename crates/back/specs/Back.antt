-- Reading back: document 01's order 1, 3, 7, 8, 9, and the strip afterwards.
use Rattle.std.specs.Prelude.{ℕ, ◌≤◌, ◌≡◌, true, List, [], ◌∷◌, ◌++◌, ltb, length}
use Rattle.promises.specs.Told.{Told, told, done}
use Rattle.promises.specs.Order.{Check, check, first_of}
use Rattle.promises.specs.Written.{written, leaves}
use Rattle.settings.specs.declared.Look.{Look}
use Rattle.settings.specs.Fields.{graphics}
use Rattle.settings.specs.Refusals.{strip_length, frame_length, pins_above, text_back, short_strip, short_frame}
use Rattle.back.specs.Read.{read_byte}
use Rattle.back.specs.Stray.{first_stray}

-- reading back checks 1, 3, 7, 8, by the look and the lengths of strip and frame
abbrev pub back_lengths : Look → ℕ → ℕ → List Check
back_lengths look strip frame = pins_above look ∷ text_back look ∷ short_strip look strip ∷ short_frame frame ∷ []

-- then 9, by the frame's pixels
unfoldable pub back_pixels : Look → List ℕ → List Check
back_pixels look frame = check (ltb (first_stray look frame) frame_length) (told 9 (first_stray look frame) 0) ∷ []

-- the whole order, over what is lent, and what is told
abbrev pub back_order : Look → List ℕ → List ℕ → List Check
back_order look frame strip = back_lengths look (length strip) (length frame) ++ back_pixels look frame

unfoldable pub back_told : Look → List ℕ → List ℕ → Told
back_told look frame strip = first_of (back_order look frame strip) (done (strip_length look))

-- done, what the frame shows is in the strip's first 192 × W bytes
unfoldable pub strip_back : Look → List ℕ → List ℕ → List ℕ
strip_back look frame strip = leaves (back_told look frame strip) (written (read_byte look frame) (strip_length look) strip) strip

-- what is known where no length is refused
pub record BackFits (look : Look) (strip frame : ℕ) : Type 0 where
  pub pins_low : look.pins ≤ 63
  pub in_graphics : graphics look ≡ true
  pub strip_long : strip_length look ≤ strip
  pub frame_long : frame_length ≤ frame
