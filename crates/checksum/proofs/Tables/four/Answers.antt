-- `checksum::Tables::four` meets its contract.
use Rattle.std.proofs.Common.{arith, ◌<◌, bit_xor}
use lib.Bits.{xor_lt}
use Rattle.checksum.proofs.Entries.{four_more}
use Rattle.checksum.proofs.Tables.four.Goals as goal

pub returns : goal.returns
returns c =
    let w = c.from_le_bytes.result in
    let small : bit_xor c.args.c w < 4294967296 = xor_lt 32 c.args.c w (omega arith) (omega arith) in
    four_more _ _ _ c.told-bytes c.fits-bytes c.from_le_bytes.ensures small _ _ _ _ c.entry.ensures c.entry-2.ensures c.entry-3.ensures c.entry-4.ensures
