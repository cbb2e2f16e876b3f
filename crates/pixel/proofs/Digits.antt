-- Laws of `digits`: a number is known by its digits, and a byte is the number of its bits.
use Prim.Native.Nat.{ℕ, zero, suc, ◌+◌, ◌-◌, ◌*◌, ◌/◌, ◌%◌, ◌^◌, ◌<◌}
use mathlib.Core.Path.{◌≡◌, refl, sym, ◌∙◌}
use mathlib.Core.Bool.{Bool}
use mathlib.Core.Logic.{⊎_elim}
use native.Mathlib.Nat.{pow-zero, pow-suc, pow-succ', mul-le-mul_right, suc-mul, div-one, div-div-eq-div-mul, eq-or-lt_of_le, le_of_suc-le-suc}
use native.Mathlib.Omega.{arith}
use lib.Arith.{digits_div, digits_mod}
use lib.Dec.{eqb, eqb→eq}
use Rattle.promises.proofs.Tables.{each_below}
use Rattle.pixel.specs.Dots.{bit, two_bits, digits}

pub same_digits : (r : ℕ) (g h : ℕ → ℕ) (n : ℕ) → ((j : ℕ) → j < n → g j ≡ h j) → digits r g n ≡ digits r h n
same_digits r g h zero e = refl
same_digits r g h (suc n) e = rw (same_digits r g h n (λ j l. e j (omega arith)), e n (omega arith))

-- n digits to base r are below r to the n
pub digits_small : (r : ℕ) (g : ℕ → ℕ) → ((j : ℕ) → g j < r) → (n : ℕ) → digits r g n < r ^ n
digits_small r g h zero = rw (pow-zero r) (omega arith)
digits_small r g h (suc n) =
    rw (pow-suc r n)
    (omega (arith, h n, mul-le-mul_right r (digits_small r g h n), suc-mul (digits r g n) r))

-- and each can be taken out again: digit j of n has the weight r to the n - 1 - j
pub digit_out : (r : ℕ) (g : ℕ → ℕ) → ((j : ℕ) → g j < r) → (n j : ℕ) → j < n → digits r g n / r ^ (n - 1 - j) % r ≡ g j
digit_out r g h zero j l = absurd (omega arith)
digit_out r g h (suc n) j l = ⊎_elim (λ e. last e) (λ m. earlier m (digit_out r g h n j m)) (eq-or-lt_of_le (le_of_suc-le-suc l))
  where
    last : j ≡ n → (digits r g n * r + g n) / r ^ (suc n - 1 - j) % r ≡ g j
    last e =
        let z : suc n - 1 - n ≡ 0 = omega arith in
        rw (e, z, pow-zero r, div-one (digits r g n * r + g n)) (digits_mod (digits r g n) (h n))

    earlier : j < n → digits r g n / r ^ (n - 1 - j) % r ≡ g j → (digits r g n * r + g n) / r ^ (suc n - 1 - j) % r ≡ g j
    earlier m q =
        let z : suc n - 1 - j ≡ suc (n - 1 - j) = omega arith in
        rw (z, pow-succ' r (n - 1 - j), ← div-div-eq-div-mul (digits r g n * r + g n) r (r ^ (n - 1 - j)), digits_div (digits r g n) (h n)) q

-- so the eight bits of a byte come out of a number made of them, and its four pairs of bits
pub bit_out : (g : ℕ → ℕ) → ((j : ℕ) → g j < 2) → (j : ℕ) → j < 8 → bit (digits 2 g 8) j ≡ g j
unfolding bit
bit_out g h j l = digit_out 2 g h 8 j l

pub pair_out : (g : ℕ → ℕ) → ((j : ℕ) → g j < 4) → (j : ℕ) → j < 4 → two_bits (digits 4 g 4) j ≡ g j
unfolding two_bits
pair_out g h j l =
    let e : 2 ^ (6 - 2 * j) ≡ 4 ^ (4 - 1 - j) = eqb→eq (2 ^ (6 - 2 * j)) (4 ^ (4 - 1 - j)) (each_below (λ (i : ℕ). eqb (2 ^ (6 - 2 * i)) (4 ^ (4 - 1 - i))) 4 tt j l) in
    rw e (digit_out 4 g h 4 j l)

-- the eight bits of a byte, and its four pairs of bits, are its digits
abbrev by_bits : ℕ → Bool
by_bits b = eqb (digits 2 (bit b) 8) b

abbrev by_pairs : ℕ → Bool
by_pairs b = eqb (digits 4 (two_bits b) 4) b

pub bits_digits : (b : ℕ) → b < 256 → digits 2 (bit b) 8 ≡ b
unfolding bit
bits_digits b h = eqb→eq (digits 2 (bit b) 8) b (each_below by_bits 256 tt b h)

pub pairs_digits : (b : ℕ) → b < 256 → digits 4 (two_bits b) 4 ≡ b
unfolding two_bits
pairs_digits b h = eqb→eq (digits 4 (two_bits b) 4) b (each_below by_pairs 256 tt b h)

-- so bytes with the same bits, or the same pairs of bits, are one
pub same_bits : (b c : ℕ) → b < 256 → c < 256 → ((j : ℕ) → j < 8 → bit b j ≡ bit c j) → b ≡ c
same_bits b c h i e = sym (bits_digits b h) ∙ same_digits 2 (bit b) (bit c) 8 e ∙ bits_digits c i

pub same_pairs : (b c : ℕ) → b < 256 → c < 256 → ((j : ℕ) → j < 4 → two_bits b j ≡ two_bits c j) → b ≡ c
same_pairs b c h i e = sym (pairs_digits b h) ∙ same_digits 4 (two_bits b) (two_bits c) 4 e ∙ pairs_digits c i
