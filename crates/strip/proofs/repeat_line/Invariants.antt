-- `repeat_line`: the runs before this one are like those of the first line.
use Rattle.std.proofs.Common.{◌≡◌, ◌+◌, ◌-◌, ◌%◌, ◌≤◌, get_or}
use Rattle.promises.specs.Written.{Filled}
use Rattle.strip.proofs.repeat_line.Given as goal

abbrev pub invariant-loop-to : goal.invariant-loop-to
invariant-loop-to l =
    (l.to % 16 ≡ 0) × (l.at + l.wide ≤ l.to) × (l.to ≤ l.end) × Filled (λ k. get_or l.fn.strip (l.at + k % l.wide) 0) (l.at + l.wide) l.to l.fn.strip l.strip

abbrev pub decreases-loop-to : goal.decreases-loop-to
decreases-loop-to l = l.end - l.to
