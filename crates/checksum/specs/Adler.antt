-- Adler-32 (RFC 1950): the bytes summed, and those sums summed, byte by byte to the modulus 65,521.
use Rattle.std.specs.Prelude.{ℕ, zero, suc, ◌+◌, ◌*◌, ◌%◌}

-- the sum of the first n bytes of g, and 1
unfoldable pub adler_low : (ℕ → ℕ) → ℕ → ℕ
adler_low g zero = 1
adler_low g (suc n) = (adler_low g n + g n) % 65521

-- the sum of those sums
unfoldable pub adler_high : (ℕ → ℕ) → ℕ → ℕ
adler_high g zero = 0
adler_high g (suc n) = (adler_high g n + adler_low g (suc n)) % 65521

-- the Adler-32 of the first n bytes of g
unfoldable pub adler : (ℕ → ℕ) → ℕ → ℕ
adler g n = adler_high g n * 65536 + adler_low g n
