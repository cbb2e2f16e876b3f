-- The place so far is that of the bytes before the counter.
use Rattle.std.proofs.Common.{◌≡◌}
use Rattle.trial.specs.Buffers.{unchanged_to}
use Rattle.trial.proofs.unchanged_from.Given as goal

abbrev pub invariant-loop-i : goal.invariant-loop-i
invariant-loop-i l = l.from ≡ unchanged_to l.s l.i
