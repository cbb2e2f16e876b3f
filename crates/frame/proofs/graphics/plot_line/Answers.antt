-- `plot_line`: one byte more.
use Rattle.std.proofs.Common.{arith, refl}
use Rattle.promises.proofs.Fills.{join, by, upto}
use Rattle.frame.proofs.Stretches.{cell, cell_end}
use Rattle.frame.proofs.graphics.plot_line.Goals as goal

pub loop-c-preserved : goal.loop-c-preserved
loop-c-preserved g c =
    upto (cell_end c.requires.0 c.args.n c.loop-c.c)
    (join (omega arith) (omega arith) c.loop-c.invariant
    (by (cell c.requires.0 c.args.table.now c.args.strip.now c.args.n c.loop-c.c _ refl) c.copy.ensures))
