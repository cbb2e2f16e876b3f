-- The number so far is the sum of the bytes before the index.
use Rattle.std.proofs.Common.{◌≡◌, ◌<◌}
use Rattle.trial.specs.Buffers.{sum_to}
use Rattle.trial.proofs.sum.Given as goal

abbrev pub invariant-loop-byte : goal.invariant-loop-byte
invariant-loop-byte l = (l.n < 65521) × (l.n ≡ sum_to l.s l.byte-index)
