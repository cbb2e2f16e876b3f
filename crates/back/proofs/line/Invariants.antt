-- `line`: the bytes so far.
use Rattle.std.proofs.Common.{◌≡◌, ℕ, ◌+◌, ◌*◌, ◌<◌, get_or}
use Rattle.back.specs.Read.{read}
use Rattle.back.proofs.line.Given as goal

abbrev pub invariant-loop-c : goal.invariant-loop-c
invariant-loop-c g l =
    (k : ℕ) → k < l.c → get_or l.gathered-items k 0 ≡ read g.row.VALUES g.row.COUNT g.row.DOTS l.frame (l.n * 256 + k * (g.row.COUNT * g.row.DOTS))
