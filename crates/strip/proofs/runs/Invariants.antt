-- `runs`: the runs before this one are stored, and were read.
use Rattle.std.proofs.Common.{◌≡◌, ◌*◌}
use Rattle.strip.proofs.Walks.{Walked}
use Rattle.strip.proofs.runs.Given as goal

abbrev pub invariant-loop-run : goal.invariant-loop-run
invariant-loop-run l = (l.touched ≡ l.run * 16) × Walked l.settings l.image l.fn.strip l.strip l.counter (l.run * 16)
