-- What the code behind fetching goes by: how far the next bank is, and that the banks of a frame are fitted.
use Rattle.std.specs.Prelude.{◌≡◌, ℕ, ◌-◌, ◌/◌, ◌%◌, ◌<◌, false}
use Rattle.settings.specs.declared.Settings.{Settings}
use Rattle.settings.specs.Banks.{bank_size, missing}
use Rattle.settings.specs.Refusals.{strip_length}
use Rattle.strip.specs.Fetch.{fetch_address}

-- how many rows of 32 places lie between an address and the next bank
abbrev pub rows_left : Settings → ℕ → ℕ
rows_left s a = (bank_size s - a % bank_size s) / 32

-- the banks of a whole frame are fitted
abbrev pub Fitted : Settings → ℕ → Type 0
Fitted s size = (k : ℕ) → k < strip_length s.look → missing s size (fetch_address s k) ≡ false
