-- Both at once: the order 1, 4, 5, 16, 6, 7, 8, 17, 15 of documents 01 and 02, and strip and frame as fetching and drawing define them.
use Rattle.std.specs.Prelude.{ℕ, List, [], ◌∷◌, ◌++◌, length}
use Rattle.promises.specs.Told.{Told, done}
use Rattle.promises.specs.Order.{Check, first_of}
use Rattle.promises.specs.Written.{leaves}
use Rattle.settings.specs.declared.Settings.{Settings}
use Rattle.settings.specs.Modes.{border}
use Rattle.settings.specs.Refusals.{pins_above, fast_rate, image_length, not_suited, font_length, short_strip, short_frame}
use Rattle.strip.specs.Fetch.{fetched_byte, not_fitted, strip_after}
use Rattle.frame.specs.Draw.{draw_bytes, frame_after}

-- both at once checks 1, 4, 5, 16, 6, 7, 8, 17, by the settings and the lengths of image, font, strip and frame
abbrev pub show_lengths : Settings → ℕ → ℕ → ℕ → ℕ → List Check
show_lengths s image font strip frame =
    pins_above s.look ∷ fast_rate s ∷ image_length image ∷ not_suited s image ∷ font_length s.look font ∷ short_strip s.look strip ∷ short_frame frame ∷ not_fitted s image ∷ []

-- then 15, by the fetched bytes, as drawing does
abbrev pub show_fetched : Settings → List ℕ → List Check
show_fetched s image = draw_bytes s.look (fetched_byte s image)

-- the whole order, over what is lent, and what is told
abbrev pub show_order : Settings → List ℕ → List ℕ → List ℕ → List ℕ → List Check
show_order s image font strip frame = show_lengths s (length image) (length font) (length strip) (length frame) ++ show_fetched s image

unfoldable pub show_told : Settings → List ℕ → List ℕ → List ℕ → List ℕ → Told
show_told s image font strip frame = first_of (show_order s image font strip frame) (done (border s.look))

-- done, the strip and the frame are what fetching and then drawing leave
unfoldable pub strip_shown : Settings → List ℕ → List ℕ → List ℕ → List ℕ → List ℕ
strip_shown s image font strip frame = leaves (show_told s image font strip frame) (strip_after s image strip) strip

unfoldable pub frame_shown : Settings → List ℕ → List ℕ → List ℕ → List ℕ → List ℕ
frame_shown s image font strip frame = leaves (show_told s image font strip frame) (frame_after s.look font (strip_after s image strip) frame) frame
