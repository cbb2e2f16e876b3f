-- Which bytes external text does not show, and the refusal that names the first of them (CR 5).
use Rattle.std.specs.Prelude.{ℕ, Bool, ◌&&◌, leb, ltb}
use Rattle.promises.specs.Told.{told}
use Rattle.promises.specs.Order.{Check, check}
use Rattle.promises.specs.First.{first_where}
use Rattle.settings.specs.declared.Look.{Look}
use Rattle.settings.specs.Fields.{external}
use Rattle.settings.specs.Refusals.{strip_length}

-- document 000 calls a byte of 128 or more in this setting not valid
abbrev pub not_valid : Look → ℕ → Bool
not_valid l b = external l && leb 128 b

-- the strip index of the first, byte k being that of index k, and 192 × W where there is none
unfoldable pub first_not_valid : Look → (ℕ → ℕ) → ℕ
first_not_valid l byte = first_where (λ (k : ℕ). not_valid l (byte k)) (strip_length l)

-- 15, with that index
abbrev pub not_valid_byte : Look → (ℕ → ℕ) → Check
not_valid_byte l byte = check (ltb (first_not_valid l byte) (strip_length l)) (told 15 (first_not_valid l byte) 0)
