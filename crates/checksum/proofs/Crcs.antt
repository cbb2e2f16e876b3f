-- Laws of CRC-32: its steps are linear and pass what stands above them through, and only the bytes that are summed count.
use Prim.Native.Nat.{ℕ, zero, suc, ◌*◌, ◌+◌, ◌/◌, ◌%◌, ◌^◌, ◌<◌}
use mathlib.Core.Path.{◌≡◌, refl, sym, ap, ◌∙◌}
use native.Mathlib.Omega.{arith}
use native.Mathlib.Nat.{pow-suc, mul_assoc, suc-add, zero-add}
use borrow.Author.Tests.{ne_eqb}
use lib.Dec.{eqb}
use lib.Bits.{bit_xor, differ}
use mathlib.Core.List.{List, [], ◌∷◌}
use lib.ListN.{length, get_or}
use Rattle.std.proofs.Common.{drop}
use Rattle.std.specs.List.{fold}
use Rattle.std.specs.Simd.{first_chunks}
use Rattle.promises.specs.Choose.{choose}
use Rattle.checksum.specs.Crc.{polynomial, crc_bit, crc_bits, crc_byte, crc_after, crc}
use Rattle.checksum.proofs.Chunks.{whole_then_rest, all_items}
use Rattle.checksum.proofs.Xors.{xor_half, xor_odd, xor_assoc, xor_swap, xor_cancel}

-- ---- one bit
pub bit_odd : (c : ℕ) → c % 2 ≡ 1 → crc_bit c ≡ bit_xor (c / 2) polynomial
unfolding crc_bit
bit_odd c e = rw e

pub bit_even : (c : ℕ) → (c % 2 ≡ 1 → ⊥) → crc_bit c ≡ c / 2
unfolding crc_bit
bit_even c e = rw (ne_eqb (c % 2) 1 e)

linear_by : (x y : ℕ) → x < 2 → y < 2 → (m n p : ℕ)
    → choose (eqb (differ x y) 1) (bit_xor (bit_xor m n) p) (bit_xor m n) ≡ bit_xor (choose (eqb x 1) (bit_xor m p) m) (choose (eqb y 1) (bit_xor n p) n)
linear_by zero zero a b m n p = refl
linear_by zero (suc zero) a b m n p = xor_assoc m n p
linear_by (suc zero) zero a b m n p = xor_swap m n p
linear_by (suc zero) (suc zero) a b m n p = sym (xor_cancel m n p)
linear_by zero (suc (suc y)) a b m n p = absurd (omega arith)
linear_by (suc zero) (suc (suc y)) a b m n p = absurd (omega arith)
linear_by (suc (suc x)) y a b m n p = absurd (omega arith)

bit_linear : (a b : ℕ) → crc_bit (bit_xor a b) ≡ bit_xor (crc_bit a) (crc_bit b)
unfolding crc_bit
bit_linear a b = rw (xor_half a b, xor_odd a b) (linear_by (a % 2) (b % 2) (omega arith) (omega arith) (a / 2) (b / 2) polynomial)

-- ---- several bits
-- as many as a list is long
pub bits_along : (c : ℕ) (xs : List ℕ) → fold (λ (s k : ℕ). crc_bit s) c xs ≡ crc_bits (length xs) c
unfolding crc_bits
bits_along c [] = refl
bits_along c (x ∷ xs) = bits_along (crc_bit c) xs

pub bits_add : (m n c : ℕ) → crc_bits (m + n) c ≡ crc_bits n (crc_bits m c)
unfolding crc_bits
bits_add zero n c = rw (zero-add n) refl
bits_add (suc m) n c = rw (suc-add m n) (bits_add m n (crc_bit c))

pub bits_linear : (n a b : ℕ) → crc_bits n (bit_xor a b) ≡ bit_xor (crc_bits n a) (crc_bits n b)
unfolding crc_bits
bits_linear zero a b = refl
bits_linear (suc n) a b = rw (bit_linear a b) (bits_linear n (crc_bit a) (crc_bit b))

-- what stands above the bits that are done passes through
pub bits_above : (n h : ℕ) → crc_bits n (h * 2 ^ n) ≡ h
unfolding crc_bits
bits_above zero h = omega arith
bits_above (suc n) h =
    let e : h * 2 ^ suc n ≡ h * 2 ^ n * 2 = ap (λ (x : ℕ). h * x) (pow-suc 2 n) ∙ sym (mul_assoc h (2 ^ n) 2) in
    let t : crc_bit (h * 2 ^ n * 2) ≡ h * 2 ^ n = bit_even (h * 2 ^ n * 2) (λ o. omega arith) ∙ omega arith in
    rw (e, t) (bits_above n h)

pub bits_past : (n h l : ℕ) → crc_bits n (bit_xor (h * 2 ^ n) l) ≡ bit_xor h (crc_bits n l)
bits_past n h l = bits_linear n (h * 2 ^ n) l ∙ ap (λ (x : ℕ). bit_xor x (crc_bits n l)) (bits_above n h)

-- ---- bytes
pub byte_is : (c b : ℕ) → crc_byte c b ≡ crc_bits 8 (bit_xor c b)
unfolding crc_byte
byte_is c b = refl

-- the register along a list, and complemented at the end
after_list : (bytes : List ℕ) → fold crc_byte 4294967295 bytes ≡ crc_after (λ (k : ℕ). get_or bytes k 0) (length bytes)
unfolding crc_after
after_list bytes = all_items crc_byte (crc_after (λ (k : ℕ). get_or bytes k 0)) bytes (λ k. refl)

-- the CRC, where whole fours are taken first and then the rest
pub crc_of_list : (bytes : List ℕ) (c d : ℕ) → c ≡ fold (λ a four. fold crc_byte a four) 4294967295 (first_chunks 4 (length bytes / 4) bytes) → d ≡ fold crc_byte c (drop (length bytes / 4 * 4) bytes)
    → bit_xor d 4294967295 ≡ crc (λ (k : ℕ). get_or bytes k 0) (length bytes)
unfolding crc
crc_of_list bytes c d e f =
    ap (λ (x : ℕ). bit_xor x 4294967295)
    (f ∙ ap (λ (x : ℕ). fold crc_byte x (drop (length bytes / 4 * 4) bytes)) e ∙ whole_then_rest crc_byte 4 (length bytes / 4) 4294967295 bytes ∙ after_list bytes)

-- only the bytes that are summed count
pub after_by : {g h : ℕ → ℕ} (n : ℕ) → ((k : ℕ) → k < n → g k ≡ h k) → crc_after g n ≡ crc_after h n
unfolding crc_after
after_by zero e = refl
after_by {g} {h} (suc n) e = rw (after_by {g = g} {h = h} n (λ k l. e k (omega arith)), e n (omega arith))

pub crc_by : {g h : ℕ → ℕ} (n : ℕ) → ((k : ℕ) → k < n → g k ≡ h k) → crc g n ≡ crc h n
unfolding crc
crc_by {g} {h} n e = ap (λ (c : ℕ). bit_xor c 4294967295) (after_by {g = g} {h = h} n e)
