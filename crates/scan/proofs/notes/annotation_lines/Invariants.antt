-- `annotation_lines`: the lines so far are passed, and less is left at each turn.
use Rattle.std.proofs.Common.{◌-◌, ◌≤◌, length}
use Rattle.scan.proofs.Annotated.{NotesTo}
use Rattle.scan.proofs.notes.annotation_lines.Given as goal

abbrev pub invariant-loop-size : goal.invariant-loop-size
invariant-loop-size l = record { in_range : l.size ≤ length l.rest; few : l.many ≤ 200; passed : NotesTo l.rest l.many l.size }

abbrev pub decreases-loop-size : goal.decreases-loop-size
decreases-loop-size l = length l.rest - l.size
