-- How many bytes of the image fetching reports as touched (document 02, CR 8).
use Rattle.std.specs.Prelude.{ℕ, zero, suc, ◌*◌, Bool, true, not, List, ◌==◌}
use Rattle.promises.specs.Choose.{choose}
use Rattle.promises.specs.Count.{how_many, somewhere}
use Rattle.settings.specs.declared.Settings.{Settings}
use Rattle.settings.specs.Modes.{width}
use Rattle.strip.specs.Fetch.{place_of, fetch_told}

-- a line's bytes are read: it is the first, or its places differ somewhere from those of the line before
unfoldable pub line_touched : Settings → ℕ → Bool
line_touched s zero = true
line_touched s (suc n) = somewhere (λ (c : ℕ). not (place_of s (suc n) c == place_of s n c)) (width s.look)

-- W times the number of such lines
unfoldable pub touched_bytes : Settings → ℕ
touched_bytes s = width s.look * how_many (line_touched s) 192

-- what a call reports; a refused call reports 0
unfoldable pub fetch_touched : Settings → List ℕ → List ℕ → ℕ
fetch_touched s image strip = choose ((fetch_told s image strip).number == 0) (touched_bytes s) 0
