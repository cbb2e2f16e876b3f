-- The tables by which four bytes are summed at once. Only contracts behind the operations name them.
use Rattle.std.specs.Prelude.{ℕ, ◌+◌, ◌*◌, ◌/◌, ◌%◌, ◌<◌, ◌≡◌, List, get_or}
use Rattle.checksum.specs.Crc.{crc_bits}

-- four tables of 256 in one: entry n is byte n % 256 with n / 256 bytes behind it
unfoldable pub sliced : ℕ → ℕ
sliced n = crc_bits (8 * (n / 256 + 1)) (n % 256)

-- a table holds the first n entries
abbrev pub Stored : ℕ → List ℕ → Type 0
Stored n table = (k : ℕ) → k < n → get_or table k 0 ≡ sliced k
