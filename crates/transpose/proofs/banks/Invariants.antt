-- `banks`: the banks before this one are crossed.
use Rattle.std.proofs.Common.{◌≡◌, ◌%◌, ◌*◌, ◌≤◌, length}
use Rattle.promises.specs.Written.{Filled}
use Rattle.transpose.specs.Chip.{transposed_byte}
use Rattle.transpose.proofs.banks.Given as goal

abbrev pub invariant-loop-base : goal.invariant-loop-base
invariant-loop-base l = (l.base % (l.side * l.side) ≡ 0) × (l.base ≤ length l.lent) × Filled (transposed_byte l.side l.lent) 0 l.base l.fn.room l.room
