-- What a mask and a shift take out of a word.
use Prim.Native.Nat.{ℕ, ◌*◌, ◌-◌, ◌/◌, ◌%◌, ◌^◌, ◌<◌}
use mathlib.Core.Path.{◌≡◌, ap, ◌∙◌}
use native.Mathlib.Nat.{one-mul}
use native.Mathlib.Omega.{arith}
use lib.Dec.{lit<}
use lib.Pow.{shl_exact, pow_pos}
use lib.Bits.{bit_and, and_mask}
use Rattle.settings.specs.Fields.{bits}

-- `1 << k` is 2 ^ k
pub one_shl : (k : ℕ) → k < 16 → 1 * 2 ^ k % 65536 ≡ 2 ^ k
one_shl k h = shl_exact 1 k 16 (lit< tt) (omega arith) ∙ one-mul (2 ^ k)

-- so a mask can be made of it
pub mask_pos : (k : ℕ) → k < 16 → 0 < 1 * 2 ^ k % 65536
mask_pos k h = rw (one_shl k h) (pow_pos k)

-- `(w >> at) & ((1 << n) - 1)` is n bits of w from bit `at` on
pub masked : (w at n : ℕ) → n < 16 → bit_and (w / 2 ^ at) (1 * 2 ^ n % 65536 - 1) ≡ bits w at n
masked w at n h = ap (λ (m : ℕ). bit_and (w / 2 ^ at) (m - 1)) (one_shl n h) ∙ and_mask (w / 2 ^ at) n
