-- `run_at`: the bytes before this one are those of the slice.
use Rattle.std.proofs.Common.{◌≡◌, ℕ, ◌+◌, ◌<◌, get_or}
use Rattle.strip.proofs.run_at.Given as goal

abbrev pub invariant-loop-j : goal.invariant-loop-j
invariant-loop-j l = (k : ℕ) → k < l.j → get_or l.byte-items k 0 ≡ get_or l.bytes (l.from + k) 0
