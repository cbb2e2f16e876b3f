-- `checksum::Tables::entry` meets its contract.
use Rattle.checksum.proofs.Entries.{entry_at}
use Rattle.checksum.proofs.Tables.entry.Goals as goal

pub returns : goal.returns
returns c = entry_at _ _ _ c.requires c.args.self.now.stored
