-- `checksum::Tables::byte` meets its contract.
use Rattle.std.proofs.Common.{◌∙◌, ap}
use Rattle.checksum.specs.Crc.{crc_byte}
use Rattle.checksum.proofs.Entries.{byte_by}
use Rattle.checksum.proofs.Tables.byte.Goals as goal

pub returns : goal.returns
returns c = byte_by _ _ _ c.entry.ensures ∙ ap (crc_byte c.args.c) c.from.ensures
