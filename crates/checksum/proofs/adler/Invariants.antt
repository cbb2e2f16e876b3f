-- The sums are those of the blocks so far.
use Rattle.std.proofs.Common.{◌≡◌, take}
use Rattle.std.specs.List.{fold}
use Rattle.checksum.specs.Sums.{sums_byte}
use Rattle.checksum.proofs.adler.Given as goal

abbrev pub invariant-loop-block : goal.invariant-loop-block
invariant-loop-block l = (l.sums.low, l.sums.high) ≡ fold (λ s block. fold sums_byte s block) (1, 0) (take l.block-index l.blocks)
