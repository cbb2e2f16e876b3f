-- Counting: at how many of the first places a test holds, and whether it holds at some.
use Rattle.std.specs.Prelude.{ℕ, zero, suc, ◌+◌, Bool, false, ◌||◌}
use Rattle.promises.specs.Choose.{choose}

-- at how many places below n the test holds
unfoldable pub how_many : (ℕ → Bool) → ℕ → ℕ
how_many p zero = 0
how_many p (suc n) = how_many p n + choose (p n) 1 0

-- it holds at some place below n
unfoldable pub somewhere : (ℕ → Bool) → ℕ → Bool
somewhere p zero = false
somewhere p (suc n) = somewhere p n || p n
