-- `bank`: the columns before this one are crossed.
use Rattle.std.proofs.Common.{◌≡◌, ◌%◌, ◌≤◌}
use Rattle.transpose.specs.Transposing.{Crossed}
use Rattle.transpose.proofs.bank.Given as goal

abbrev pub invariant-loop-column : goal.invariant-loop-column
invariant-loop-column l = (l.column % 64 ≡ 0) × (l.column ≤ l.side) × Crossed l.lent l.side l.column l.room
