-- No line before the one in hand has the key.
use Rattle.std.proofs.Common.{◌-◌, length}
use Rattle.lookup.proofs.Seeks.{Passed}
use Rattle.lookup.proofs.seek.Given as goal

abbrev pub invariant-loop-at : goal.invariant-loop-at
invariant-loop-at l = Passed l.s l.key l.at

abbrev pub decreases-loop-at : goal.decreases-loop-at
decreases-loop-at l = length l.s - l.at
