-- `checksum::crc` meets its contract.
use Rattle.std.proofs.Common.{◌∙◌, ap}
use Rattle.std.specs.List.{fold}
use Rattle.checksum.specs.Crc.{crc_byte}
use Rattle.checksum.proofs.Crcs.{crc_of_list}
use Rattle.checksum.proofs.crc.Goals as goal

pub returns : goal.returns
returns c =
    let fours = c.fours.ensures ∙ ap (fold (λ a four. fold crc_byte a four) 4294967295) c.as_chunks.ensures.front in
    let rest = c.rest.ensures ∙ ap (fold crc_byte c.fours.result) c.as_chunks.ensures.back in
    crc_of_list _ _ _ fours rest
