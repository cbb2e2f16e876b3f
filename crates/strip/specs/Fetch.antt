-- Fetching: what it answers, and every byte of the strip afterwards (document 01, "Which bytes are fetched"; document 02, CR 7).
use Rattle.std.specs.Prelude.{◌≡◌, ℕ, ◌/◌, ◌%◌, ◌<◌, List, [], ◌∷◌, length, nat_lt, slice_index}
use Rattle.promises.specs.Told.{Told, told, done}
use Rattle.promises.specs.Order.{Check, check, first_of}
use Rattle.promises.specs.First.{first_where}
use Rattle.promises.specs.Written.{written, leaves}
use Rattle.settings.specs.declared.Look.{Look}
use Rattle.settings.specs.declared.Settings.{Settings}
use Rattle.settings.specs.Modes.{width}
use Rattle.settings.specs.Banks.{image_place, missing}
use Rattle.settings.specs.Refusals.{pins_above, fast_rate, image_length, not_suited, short_strip, strip_length}
use Rattle.counter.specs.Counter.{address_of}

-- the place of byte c of line n
abbrev pub place_of : Settings → ℕ → ℕ → ℕ
place_of s n c = image_place s (address_of s n c)

-- fetch k of a frame is byte k mod W of line k div W: its address, and its place
unfoldable pub fetch_address : Settings → ℕ → ℕ
fetch_address s k = address_of s (k / width s.look) (k % width s.look)

abbrev pub fetch_place : Settings → ℕ → ℕ
fetch_place s k = image_place s (fetch_address s k)

abbrev pub fetched_byte : Settings → List ℕ → ℕ → ℕ
fetched_byte s image k = slice_index image (fetch_place s k)

-- the strip index of the first fetch from a bank that an image of this length does not have, and 192 × W where there is none
unfoldable pub first_missing : Settings → ℕ → ℕ
first_missing s size = first_where (λ (k : ℕ). missing s size (fetch_address s k)) (strip_length s.look)

-- 17, with that index
abbrev pub not_fitted_at : Look → ℕ → Check
not_fitted_at look k = check (nat_lt k (strip_length look)) (told 17 k 0)

abbrev pub not_fitted : Settings → ℕ → Check
not_fitted s size = not_fitted_at s.look (first_missing s size)

-- fetching checks 1, 4, 5, 16, 7, 17, by the settings and the lengths of image and strip
abbrev pub fetch_order : Settings → ℕ → ℕ → List Check
fetch_order s image strip = pins_above s.look ∷ fast_rate s ∷ image_length image ∷ not_suited s image ∷ short_strip s.look strip ∷ not_fitted s image ∷ []

unfoldable pub fetch_told : Settings → List ℕ → List ℕ → Told
fetch_told s image strip = first_of (fetch_order s (length image) (length strip)) (done (strip_length s.look))

-- done, the first 192 × W bytes are those fetched
unfoldable pub strip_after : Settings → List ℕ → List ℕ → List ℕ
strip_after s image strip = leaves (fetch_told s image strip) (written (fetched_byte s image) (strip_length s.look) strip) strip

-- a place of the image is fetched: some line and byte of the frame has it
pub record Fetched (s : Settings) (place : ℕ) : Type 0 where
  pub line : ℕ
  pub byte : ℕ
  pub on_screen : line < 192
  pub in_line : byte < width s.look
  pub there : place_of s line byte ≡ place
