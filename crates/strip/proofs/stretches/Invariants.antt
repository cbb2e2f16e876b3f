-- `stretches`: the lines before this one are stored, and those of them that begin a stretch were read.
use Rattle.std.proofs.Common.{◌-◌}
use Rattle.strip.proofs.Walks.{Stretched}
use Rattle.strip.proofs.stretches.Given as goal

abbrev pub invariant-loop-n : goal.invariant-loop-n
invariant-loop-n l = Stretched l.settings l.image l.fn.strip l.strip l.address l.touched l.n

abbrev pub decreases-loop-n : goal.decreases-loop-n
decreases-loop-n l = 192 - l.n
