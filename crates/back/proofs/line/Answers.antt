-- `line`: the part of the strip with its bytes.
use Rattle.std.proofs.Common.{ap, arith, ◌∙◌}
use Rattle.promises.proofs.Copied.{part}
use Rattle.back.specs.Read.{read}
use Rattle.back.proofs.Shapes.{line_within, cell_start}
use Rattle.back.proofs.line.Goals as goal

pub returns : goal.returns
returns g c =
    part _ _ _ _ c.loop-c.gathered-items (omega arith) (omega arith) (omega (arith, line_within c.requires.0 c.args.n c.requires.1))
    (λ j l. c.loop-c.invariant j (omega arith) ∙ ap (read g.row.VALUES g.row.COUNT g.row.DOTS c.args.frame.now) (cell_start c.requires.0 c.args.n j))
