-- The bytes that a trial lays in a buffer, and what it tells of a buffer in one number: from where on it is marked, and its sum.
use Rattle.std.specs.Prelude.{ℕ, zero, suc, ◌+◌, ◌*◌, ◌/◌, ◌%◌, List, length, ◌==◌, slice_index}
use Rattle.promises.specs.Choose.{choose}

-- the number of a place's run, where runs have `per` places; 0 everywhere where `per` is 0
abbrev pub run : ℕ → ℕ → ℕ
run per k = choose (per == 0) 0 (k / per)

-- the byte laid at the place k: one that `times` moves on from place to place, and each run of `per` places by one more
abbrev pub laid : ℕ → ℕ → ℕ → ℕ → ℕ
laid first times per k = (first + times * (k % 256) + run per k % 256) % 256

-- the byte that marks the place k: one of its own at each of 256 places
abbrev pub marked : ℕ → ℕ
marked = laid 131 5 0

-- one past the last of the first n places that is not as it was marked; 0 where all are
unfoldable pub unchanged_to : List ℕ → ℕ → ℕ
unchanged_to l zero = 0
unchanged_to l (suc n) = choose (slice_index l n == marked n) (unchanged_to l n) (suc n)

-- the place from which on a buffer is as it was marked
abbrev pub unchanged_from : List ℕ → ℕ
unchanged_from l = unchanged_to l (length l)

-- the sum of the first n bytes, that each byte and its place counts in
unfoldable pub sum_to : List ℕ → ℕ → ℕ
sum_to l zero = 0
sum_to l (suc n) = (sum_to l n * 31 + slice_index l n) % 65521

-- the sum of a buffer
abbrev pub sum_of : List ℕ → ℕ
sum_of l = sum_to l (length l)
