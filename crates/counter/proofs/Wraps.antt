-- Laws of the 16-bit address that comes round.
use Rattle.std.proofs.Common.{◌≡◌, ℕ, ◌+◌, ◌-◌, ◌%◌, ◌^◌, ◌<◌, ap, ◌∙◌, add_assoc, mod-lt, mod-eq_of_lt, arith, lit<}
use native.Mathlib.Nat.{mod-add-mod}
use Rattle.counter.specs.Counter.{wrap}

-- going on twice is going on by the sum
pub wrap_wrap : (a b c : ℕ) → wrap (wrap a b) c ≡ wrap a (b + c)
wrap_wrap a b c = mod-add-mod (a + b) (2 ^ 16) c ∙ rw add_assoc

pub wrap_lt : (a b : ℕ) → wrap a b < 2 ^ 16
wrap_lt a b = mod-lt (a + b) (lit< tt)

-- where the sum has room it is the sum
pub wrap_small : (a b : ℕ) → a + b < 2 ^ 16 → wrap a b ≡ a + b
wrap_small a b h = mod-eq_of_lt h

-- from a run whose B4 is 1, the next is 32 on from the same run with B4 at 0
pub wrap_fall : (r : ℕ) → r % 16 ≡ 0 → (r % 32 ≡ 0 → ⊥) → wrap r 16 ≡ wrap (r - 16) 32
wrap_fall r h n = ap (λ (k : ℕ). k % 2 ^ 16) (let e : r + 16 ≡ r - 16 + 32 = omega arith in e)
