-- Laws of exclusive or: its lowest digit and the rest, and that it is associative.
use Prim.Native.Nat.{ℕ, zero, suc, ◌*◌, ◌+◌, ◌/◌, ◌%◌, ◌<◌}
use mathlib.Core.Path.{◌≡◌, refl, sym, ap, ap₂, ◌∙◌}
use native.Mathlib.Omega.{arith}
use lib.Arith.{bin_ind}
use lib.Bits.{bit_xor, differ, xor_step, xor_comm, xor_self, xor_zero_r, xor_shr, xor_mod}

differ_assoc : (x y z : ℕ) → x < 2 → y < 2 → z < 2 → differ (differ x y) z ≡ differ x (differ y z)
differ_assoc zero y z p q r = refl
differ_assoc (suc zero) zero z p q r = refl
differ_assoc (suc zero) (suc zero) zero p q r = refl
differ_assoc (suc zero) (suc zero) (suc zero) p q r = refl
differ_assoc (suc zero) (suc zero) (suc (suc z)) p q r = absurd (omega arith)
differ_assoc (suc zero) (suc (suc y)) z p q r = absurd (omega arith)
differ_assoc (suc (suc x)) y z p q r = absurd (omega arith)

differ_is : (x y : ℕ) → x < 2 → y < 2 → bit_xor x y ≡ differ x y
differ_is zero zero p q = refl
differ_is zero (suc zero) p q = refl
differ_is (suc zero) zero p q = refl
differ_is (suc zero) (suc zero) p q = refl
differ_is zero (suc (suc y)) p q = absurd (omega arith)
differ_is (suc zero) (suc (suc y)) p q = absurd (omega arith)
differ_is (suc (suc x)) y p q = absurd (omega arith)

-- the lowest digit, and the rest
pub xor_half : (a b : ℕ) → bit_xor a b / 2 ≡ bit_xor (a / 2) (b / 2)
xor_half a b = xor_shr a b 1

pub xor_odd : (a b : ℕ) → bit_xor a b % 2 ≡ differ (a % 2) (b % 2)
xor_odd a b = xor_mod a b 1 ∙ differ_is (a % 2) (b % 2) (omega arith) (omega arith)

pub xor_assoc : (a b c : ℕ) → bit_xor (bit_xor a b) c ≡ bit_xor a (bit_xor b c)
xor_assoc a =
    bin_ind (λ (n : ℕ). (b c : ℕ) → bit_xor (bit_xor n b) c ≡ bit_xor n (bit_xor b c)) (λ b c. refl)
    (λ n ih b c.
    xor_step (bit_xor n b) c
    ∙ ap₂ (λ (x y : ℕ). bit_xor x (c / 2) * 2 + differ y (c % 2)) (xor_half n b) (xor_odd n b)
    ∙ ap₂ (λ (x y : ℕ). x * 2 + y) (ih (b / 2) (c / 2)) (differ_assoc (n % 2) (b % 2) (c % 2) (omega arith) (omega arith) (omega arith))
    ∙ sym (xor_step n (bit_xor b c) ∙ ap₂ (λ (x y : ℕ). bit_xor (n / 2) x * 2 + differ (n % 2) y) (xor_half b c) (xor_odd b c)))
    a

-- the second and the third change places
pub xor_swap : (m n p : ℕ) → bit_xor (bit_xor m n) p ≡ bit_xor (bit_xor m p) n
xor_swap m n p = xor_assoc m n p ∙ ap (bit_xor m) (xor_comm n p) ∙ sym (xor_assoc m p n)

-- what is put to both cancels out
pub xor_cancel : (m n p : ℕ) → bit_xor (bit_xor m p) (bit_xor n p) ≡ bit_xor m n
xor_cancel m n p =
    sym (xor_assoc (bit_xor m p) n p)
    ∙ ap (λ (x : ℕ). bit_xor x p) (xor_swap m p n)
    ∙ xor_assoc (bit_xor m n) p p
    ∙ ap (bit_xor (bit_xor m n)) (xor_self p)
    ∙ xor_zero_r (bit_xor m n)
