-- `lines`: the bytes of the lines so far.
use Rattle.std.proofs.Common.{ℕ, ◌*◌, ◌/◌}
use Rattle.promises.specs.Written.{Filled}
use Rattle.back.specs.Read.{read}
use Rattle.back.proofs.lines.Given as goal

abbrev pub invariant-loop-n : goal.invariant-loop-n
invariant-loop-n g l =
    Filled (λ (i : ℕ). read g.row.VALUES g.row.COUNT g.row.DOTS l.frame (i * (g.row.COUNT * g.row.DOTS))) 0 (l.n * (256 / (g.row.COUNT * g.row.DOTS))) l.initial.strip l.strip
