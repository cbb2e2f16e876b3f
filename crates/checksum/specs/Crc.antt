-- CRC-32 as the PNG standard has it (ISO/IEC 15948, 5.5 and annex D): bit by bit, the lowest bit of each byte first.
use Rattle.std.specs.Prelude.{ℕ, zero, suc, ◌/◌, ◌%◌, eqb}
use Rattle.std.specs.Int.Bits.{bit_xor}
use Rattle.promises.specs.Choose.{choose}

-- The polynomial x^32 + x^26 + x^23 + x^22 + x^16 + x^12 + x^11 + x^10 + x^8 + x^7 + x^5 + x^4 + x^2 + x + 1, the lowest power in the highest bit: EDB88320.
abbrev pub polynomial : ℕ
polynomial = 3988292384

-- the register after one bit
unfoldable pub crc_bit : ℕ → ℕ
crc_bit c = choose (eqb (c % 2) 1) (bit_xor (c / 2) polynomial) (c / 2)

-- after n bits
unfoldable pub crc_bits : ℕ → ℕ → ℕ
crc_bits zero c = c
crc_bits (suc n) c = crc_bits n (crc_bit c)

-- after a byte
unfoldable pub crc_byte : ℕ → ℕ → ℕ
crc_byte c b = crc_bits 8 (bit_xor c b)

-- after the first n bytes of g, from all ones
unfoldable pub crc_after : (ℕ → ℕ) → ℕ → ℕ
crc_after g zero = 4294967295
crc_after g (suc n) = crc_byte (crc_after g n) (g n)

-- the CRC of the first n bytes of g: the register's complement
unfoldable pub crc : (ℕ → ℕ) → ℕ → ℕ
crc g n = bit_xor (crc_after g n) 4294967295
