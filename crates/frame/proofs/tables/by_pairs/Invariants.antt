-- `by_pairs`: each dot so far is that of its pair.
use Rattle.std.proofs.Common.{◌≡◌, ℕ, ◌+◌, ◌/◌, ◌%◌, ◌<◌, get_or}
use Rattle.pixel.specs.Dots.{two_bits}
use Rattle.frame.proofs.tables.by_pairs.Given as goal

abbrev pub invariant-loop-n : goal.invariant-loop-n
invariant-loop-n l = (k : ℕ) → k < l.n → get_or l.dot-items k 0 ≡ l.base + two_bits (k / 8) (k % 8 / 2)
