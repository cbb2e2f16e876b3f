-- `checksum::eight_bits` meets its contract.
use Rattle.std.proofs.Common.{rules, ◌≡◌, ◌∙◌, ℕ, ap, length}
use Rattle.std.proofs.iter.runs.Sources.{ranges}
use Rattle.checksum.specs.Crc.{crc_bit, crc_bits}
use Rattle.checksum.proofs.Crcs.{bits_along}
use Rattle.checksum.proofs.eight_bits.Goals as goal

pub returns : goal.returns
returns c =
    let run = c.fold.ensures.runs in
    let eight : length run.0.items ≡ 8 = search (rules, ranges) in
    run.3 (λ (s k : ℕ). crc_bit s) (λ s k r f h. search rules) ∙ bits_along _ _ ∙ ap (λ (n : ℕ). crc_bits n c.args.start) eight
