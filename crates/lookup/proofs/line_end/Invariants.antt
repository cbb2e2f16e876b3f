-- What is left of the bytes, and that the line goes on to there.
use Rattle.std.proofs.Common.{◌≡◌, ◌+◌, ◌-◌, ◌≤◌, length}
use Rattle.lookup.specs.Steps.{to_line_end}
use Rattle.lookup.proofs.line_end.Given as goal

abbrev pub invariant-loop-block : goal.invariant-loop-block
invariant-loop-block l = record { within : length l.rest ≤ length l.s; goes_on : to_line_end l.s ≡ length l.s - length l.rest + to_line_end l.rest }

abbrev pub decreases-loop-block : goal.decreases-loop-block
decreases-loop-block l = length l.rest
