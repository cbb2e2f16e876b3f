-- The first place at which a test holds: so the first wrong byte or pixel is named.
use Rattle.std.specs.Prelude.{ℕ, zero, suc, Bool}
use Rattle.promises.specs.Choose.{choose}

-- the first place below n at which the test holds, and n where it holds at none
unfoldable pub first_where : (ℕ → Bool) → ℕ → ℕ
first_where p zero = 0
first_where p (suc n) = choose (p 0) 0 (suc (first_where (λ (k : ℕ). p (suc k)) n))
