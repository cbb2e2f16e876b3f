-- CRC-32, four bytes at once as a word: by the four tables, and as the next four that are read.
use Prim.Native.Nat.{ℕ, ◌+◌, ◌/◌, ◌%◌, ◌<◌}
use mathlib.Core.Path.{◌≡◌, refl, sym, ◌∙◌}
use native.Mathlib.Omega.{arith}
use native.Mathlib.Numerals.{add-one, add-two, add-three, add-four}
use lib.Bits.{bit_xor}
use Rattle.checksum.specs.Crc.{crc_bits, crc_after}
use Rattle.checksum.specs.Sliced.{sliced}
use Rattle.checksum.proofs.Entries.{entry, word, by_parts, four_bytes}

-- each byte of a word out of its table
pub four_by : (x : ℕ) → x < 4294967296 → (a b c d : ℕ) → a ≡ sliced (0 + x / 16777216 % 256) → b ≡ sliced (256 + x / 65536 % 256) → c ≡ sliced (512 + x / 256 % 256) → d ≡ sliced (768 + x % 256)
    → bit_xor (bit_xor a b) (bit_xor c d) ≡ crc_bits 32 x
four_by x h a b c d p q r s =
    by_parts x h a b c d (p ∙ entry 0 8 (x / 16777216 % 256) (omega arith) refl) (q ∙ entry 1 16 (x / 65536 % 256) (omega arith) refl) (r ∙ entry 2 24 (x / 256 % 256) (omega arith) refl)
    (s ∙ entry 3 32 (x % 256) (omega arith) refl)

-- four bytes that were read, as a word
pub word_read : (g : ℕ → ℕ) (n : ℕ) → g n < 256 → g (n + 1) < 256 → g (n + 2) < 256 → crc_bits 32 (bit_xor (crc_after g n) (word (g n) (g (n + 1)) (g (n + 2)) (g (n + 3)))) ≡ crc_after g (n + 4)
unfolding crc_after
word_read g n p q s = sym (four_bytes (crc_after g n) (g n) (g (n + 1)) (g (n + 2)) (g (n + 3)) p q s) ∙ rw (add-one n, add-two n, add-three n, add-four n) refl
