-- `byte`: the number of the elements so far.
use Rattle.std.proofs.Common.{◌≡◌, ℕ, ◌+◌, ◌*◌, get_or}
use Rattle.pixel.specs.Dots.{digits}
use Rattle.back.specs.Read.{value}
use Rattle.back.proofs.byte.Given as goal

abbrev pub invariant-loop-j : goal.invariant-loop-j
invariant-loop-j g l = l.v ≡ digits g.row.VALUES (λ (i : ℕ). value g.row.VALUES (get_or l.frame (l.at + i * g.row.DOTS) 0)) l.j
