-- `tint`: the dots so far.
use Rattle.std.proofs.Common.{◌≡◌, ℕ, ◌<◌, get_or}
use Rattle.pixel.specs.Dots.{black, one_bit}
use Rattle.frame.proofs.letters.Masks.tint.Given as goal

abbrev pub invariant-loop-t : goal.invariant-loop-t
invariant-loop-t l = (k : ℕ) → k < l.t → get_or l.pixel-items k 0 ≡ one_bit l.ink black l.lit k
