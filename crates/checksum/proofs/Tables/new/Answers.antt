-- `checksum::Tables::new` meets its contract.
use Rattle.std.proofs.Common.{arith, rules}
use Rattle.checksum.proofs.Entries.{next_by, stored_more}
use Rattle.checksum.proofs.Tables.new.Goals as goal

pub loop-n-preserved : goal.loop-n-preserved
loop-n-preserved c =
    (search rules, stored_more _ _ _ (omega (arith, c.loop-n.invariant.0)) (next_by _ _ _ (omega arith) (c.loop-n.invariant.1 _ (omega arith)) (c.loop-n.invariant.1 _ (omega arith))) c.loop-n.invariant.1)
