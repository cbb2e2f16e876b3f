-- Only the window is felt: images that agree at the fetched places give the same answer and strip.
use Rattle.std.proofs.Common.{◌≡◌, ℕ, ◌/◌, ◌%◌, ◌<◌, List, length, get_or, refl, mod-lt, div-lt_iff_lt-mul, arith}
use Rattle.promises.proofs.Fills.{written_by, written_fills}
use Rattle.settings.specs.declared.Settings.{Settings}
use Rattle.settings.specs.Modes.{width}
use Rattle.settings.specs.Refusals.{strip_length}
use Rattle.settings.proofs.Widths.{width_pos}
use Rattle.strip.specs.Fetch.{fetch_address, fetch_place, fetched_byte, fetch_told, strip_after, Fetched}
use Rattle.strip.proofs.Fetches.{accepted, strip_done}

-- each fetch of the frame fetches a place
pub fetch_fetched : (s : Settings) (k : ℕ) → k < strip_length s.look → Fetched s (fetch_place s k)
unfolding fetch_address
fetch_fetched s k h =
    record {
      line = k / width s.look;
      byte = k % width s.look;
      on_screen = (div-lt_iff_lt-mul (width_pos s.look)).1 h;
      in_line = mod-lt k (width_pos s.look);
      there = refl;
    }

-- byte k of the strip after an accepted call
pub strip_byte : (s : Settings) (image strip : List ℕ) → (fetch_told s image strip).number ≡ 0 → (k : ℕ) → k < strip_length s.look → get_or (strip_after s image strip) k 0 ≡ fetched_byte s image k
strip_byte s image strip e k h =
    rw (strip_done s image strip e) ((written_fills (fetched_byte s image) (strip_length s.look) strip (accepted s image strip e).strip_long).is k (omega arith) h)

module _ (s : Settings) (image other strip : List ℕ) (long : length image ≡ length other) where
  -- images that agree at the fetched places are told alike, and leave the same strip
  module _ (agree : (p : ℕ) → Fetched s p → get_or image p 0 ≡ get_or other p 0) where
    pub same_fetched : (k : ℕ) → k < strip_length s.look → fetched_byte s image k ≡ fetched_byte s other k
    same_fetched k h = agree (fetch_place s k) (fetch_fetched s k h)

    pub same_told : fetch_told s image strip ≡ fetch_told s other strip
    unfolding fetch_told
    same_told = rw long

    pub same_strip : strip_after s image strip ≡ strip_after s other strip
    unfolding strip_after
    same_strip = rw (same_told, written_by (strip_length s.look) strip same_fetched)
