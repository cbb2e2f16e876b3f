-- `columns`: the rows before this one have their bytes.
use Rattle.transpose.proofs.Transposings.{Crossing}
use Rattle.transpose.proofs.columns.Given as goal

abbrev pub invariant-loop-row : goal.invariant-loop-row
invariant-loop-row l = Crossing l.lent l.side l.column l.row l.room
