-- To the modulus the sums are those of the bytes so far, and they are far from 32 bits.
use Rattle.std.proofs.Common.{◌≡◌, ◌+◌, ◌*◌, ◌%◌, ◌≤◌, take}
use Rattle.std.specs.List.{fold}
use Rattle.checksum.specs.Sums.{sums_byte}
use Rattle.checksum.proofs.Sums.after.Given as goal

abbrev pub invariant-loop-b : goal.invariant-loop-b
invariant-loop-b l =
    (l.low ≤ 65520 + l.b-index * 255)
    × (l.high ≤ 65520 + l.b-index * 587760)
    × ((l.low % 65521, l.high % 65521) ≡ fold sums_byte (l.fn.self.low, l.fn.self.high) (take l.b-index l.block))
