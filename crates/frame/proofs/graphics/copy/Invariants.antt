-- `copy`: the dots so far.
use Rattle.std.proofs.Common.{◌≡◌, ℕ, ◌+◌, ◌*◌, ◌/◌, ◌<◌, get_or}
use Rattle.frame.proofs.graphics.copy.Given as goal

abbrev pub invariant-loop-t : goal.invariant-loop-t
invariant-loop-t g l = (k : ℕ) → k < l.t → get_or l.pixel-items k 0 ≡ get_or l.table (l.b * 8 + k / g.row.STRETCH) 0
