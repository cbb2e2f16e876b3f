-- `checksum::adler` meets its contract.
use Rattle.std.proofs.Common.{◌∙◌, ap, arith}
use Rattle.std.proofs.lemmas.List.{take_all}
use Rattle.std.specs.List.{fold}
use Rattle.checksum.specs.Sums.{sums_byte}
use Rattle.checksum.proofs.Adlers.{adler_of_list}
use Rattle.checksum.proofs.adler.Goals as goal

pub returns : goal.returns
returns c =
    let l = c.loop-block in
    adler_of_list c.args.bytes.now 2048 (l.sums.low, l.sums.high) c.after-sums-2.result.low c.after-sums-2.result.high
    (l.invariant ∙ ap (fold (λ s block. fold sums_byte s block) (1, 0)) (take_all _ _ (omega arith) ∙ c.as_chunks.ensures.front))
    (c.after-sums-2.ensures ∙ ap (fold sums_byte (l.sums.low, l.sums.high)) c.as_chunks.ensures.back)
