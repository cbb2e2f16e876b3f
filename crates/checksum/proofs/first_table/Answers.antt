-- `checksum::first_table` meets its contract.
use Rattle.std.proofs.Common.{arith}
use Rattle.checksum.proofs.Entries.{first_entry, stored_more}
use Rattle.checksum.proofs.first_table.Goals as goal

pub loop-n-preserved : goal.loop-n-preserved
loop-n-preserved c = stored_more _ _ _ (omega arith) (first_entry _ _ (omega arith) c.eight_bits.ensures) c.loop-n.invariant
