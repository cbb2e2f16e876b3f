-- `by_bits`: each dot so far is that of its bit.
use Rattle.std.proofs.Common.{◌≡◌, ℕ, ◌/◌, ◌%◌, ◌<◌, get_or}
use Rattle.pixel.specs.Dots.{one_bit}
use Rattle.frame.proofs.tables.by_bits.Given as goal

abbrev pub invariant-loop-n : goal.invariant-loop-n
invariant-loop-n l = (k : ℕ) → k < l.n → get_or l.dot-items k 0 ≡ one_bit l.on l.off (k / 8) (k % 8)
