-- A side of a rectangle cut at the edges, for columns and lines alike, in unsigned numbers. Nothing that is promised outside depends on it.
use Rattle.std.specs.Prelude.{ℕ, suc, ◌+◌, ◌-◌, min, Bool, ◌&&◌, ltb, leb, ℤ, pos, negsuc}

-- how far z lies before 0: so many are cut at the left or top edge
abbrev pub off_of : ℤ → ℕ
off_of (pos k) = 0
off_of (negsuc k) = suc k

-- the first place from z on that is not before 0
abbrev pub start_of : ℤ → ℕ
start_of (pos k) = k
start_of (negsuc k) = 0

-- how many of n places from z on are among the `edge` places from 0 on
abbrev pub kept_of : ℤ → ℕ → ℕ → ℕ
kept_of z n edge = min (n - off_of z) (edge - start_of z)

-- k is one of the n places from a on
abbrev pub amid : ℕ → ℕ → ℕ → Bool
amid a n k = leb a k && ltb k (a + n)
