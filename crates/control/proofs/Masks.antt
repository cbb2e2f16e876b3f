-- What setting and clearing by a mask does to a word.
use Prim.Native.Nat.{ℕ, zero, suc, ◌+◌, ◌-◌, ◌*◌, ◌/◌, ◌%◌, ◌^◌, ◌<◌, min}
use mathlib.Core.Path.{◌≡◌, sym, ap, ap₂, ◌∙◌}
use native.Mathlib.Nat.{add-zero, add-mul, one-mul, mod-lt, mod-eq_of_lt, max-eq_right, min-zero, pow-suc, zero-lt-suc, div-lt_iff_lt-mul}
use native.Mathlib.Omega.{arith}
use lib.Arith.{dbl_pred, digits_div}
use lib.Dec.{lit<}
use lib.Pow.{pow_pos, ones_lt, ones_split, split, shr_lt}
use lib.Bits.{bit_and, bit_or, or_block, and_block, or_step, and_step, or_zero_r, and_mask, and_le_l, or_lt}
use Rattle.settings.proofs.Masks.{one_shl}
use Rattle.control.specs.Control.{with_bit}

or_one : (n : ℕ) → bit_or n 1 ≡ n / 2 * 2 + 1
or_one n = or_step n 1 ∙ ap₂ (λ (x y : ℕ). x * 2 + y) (or_zero_r (n / 2)) (max-eq_right (omega arith))

-- `w | (1 << k)` sets bit k
pub set_mask : (w k : ℕ) → k < 16 → bit_or w (1 * 2 ^ k % 65536) ≡ with_bit w k 1
unfolding with_bit
set_mask w k h =
    ap₂ bit_or (sym (split w k)) (one_shl k h ∙ sym (one-mul (2 ^ k)) ∙ sym (add-zero (1 * 2 ^ k)))
    ∙ or_block k (w / 2 ^ k) 1 (w % 2 ^ k) 0 (mod-lt w (pow_pos k)) (pow_pos k)
    ∙ ap₂ (λ (x y : ℕ). x * 2 ^ k + y) (or_one (w / 2 ^ k)) (or_zero_r (w % 2 ^ k))

-- all ones but the digit k, of j + 1 + k digits
hole : (j k : ℕ) → 2 ^ (suc j + k) - 1 - 2 ^ k ≡ (2 ^ j - 1) * 2 * 2 ^ k + (2 ^ k - 1)
hole j k =
    let e : 2 ^ (suc j + k) - 1 ≡ ((2 ^ j - 1) * 2 + 1) * 2 ^ k + (2 ^ k - 1)
    = ones_split (suc j) k ∙ ap (λ (x : ℕ). x * 2 ^ k + (2 ^ k - 1)) (ap (λ (x : ℕ). x - 1) (pow-suc 2 j) ∙ dbl_pred (pow_pos j)) in
    let f : ((2 ^ j - 1) * 2 + 1) * 2 ^ k ≡ (2 ^ j - 1) * 2 * 2 ^ k + 1 * 2 ^ k = add-mul ((2 ^ j - 1) * 2) 1 (2 ^ k) in
    omega arith

and_hole : (n j : ℕ) → n / 2 < 2 ^ j → bit_and n ((2 ^ j - 1) * 2) ≡ n / 2 * 2 + 0
and_hole n j h =
    and_step n ((2 ^ j - 1) * 2)
    ∙ ap₂ (λ (x y : ℕ). x * 2 + y)
    (ap (bit_and (n / 2)) (omega arith) ∙ and_mask (n / 2) j ∙ mod-eq_of_lt h)
    (ap (min (n % 2)) (omega arith) ∙ min-zero (n % 2))

clear_at : (j w k : ℕ) → w < 2 ^ (suc j + k) → bit_and w (2 ^ (suc j + k) - 1 - 2 ^ k) ≡ with_bit w k 0
unfolding with_bit
clear_at j w k hw =
    ap₂ bit_and (sym (split w k)) (hole j k)
    ∙ and_block k (w / 2 ^ k) ((2 ^ j - 1) * 2) (w % 2 ^ k) (2 ^ k - 1) (mod-lt w (pow_pos k)) (ones_lt k)
    ∙ ap₂ (λ (x y : ℕ). x * 2 ^ k + y)
    (and_hole (w / 2 ^ k) j ((div-lt_iff_lt-mul (zero-lt-suc 1)).1 (rw (← pow-suc) (shr_lt (suc j) k hw))))
    (and_mask (w % 2 ^ k) k ∙ mod-eq_of_lt (mod-lt w (pow_pos k)))

-- `w & !(1 << k)` clears bit k
pub clear_mask : (w k : ℕ) → w < 2 ^ 16 → k < 16 → bit_and w (65535 - 1 * 2 ^ k % 65536) ≡ with_bit w k 0
clear_mask w k hw h =
    let e : 16 ≡ suc (15 - k) + k = omega arith in
    ap (λ (x : ℕ). bit_and w (65535 - x)) (one_shl k h)
    ∙ ap (λ (x : ℕ). bit_and w (2 ^ x - 1 - 2 ^ k)) e
    ∙ clear_at (15 - k) w k (rw (← e) hw)

-- a word stays one of sixteen bits
pub with_bit_small : (w k b : ℕ) → w < 2 ^ 16 → k < 16 → b < 2 → with_bit w k b < 2 ^ 16
with_bit_small w k zero hw h hb = rw (← clear_mask w k hw h) (omega (arith, and_le_l w (65535 - 1 * 2 ^ k % 65536)))
with_bit_small w k (suc zero) hw h hb = rw (← set_mask w k h) (or_lt 16 w (1 * 2 ^ k % 65536) hw (mod-lt (1 * 2 ^ k) (lit< tt)))
with_bit_small w k (suc (suc b)) hw h hb = absurd (omega arith)

-- the bit that was put is there
pub bit_there : (w k b : ℕ) → b < 2 → with_bit w k b / 2 ^ k % 2 ≡ b
unfolding with_bit
bit_there w k b h =
    let e : with_bit w k b / 2 ^ k ≡ w / 2 ^ k / 2 * 2 + b = digits_div (w / 2 ^ k / 2 * 2 + b) (mod-lt w (pow_pos k)) in
    omega arith
