-- The entries so far are those of the first table.
use Rattle.std.proofs.Common.{◌≡◌, ℕ, ◌<◌, get_or}
use Rattle.checksum.specs.Sliced.{sliced}
use Rattle.checksum.proofs.first_table.Given as goal

abbrev pub invariant-loop-n : goal.invariant-loop-n
invariant-loop-n l = (k : ℕ) → k < l.n → get_or l.entry-items k 0 ≡ sliced k
