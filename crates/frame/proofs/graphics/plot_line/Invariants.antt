-- `plot_line`: how far the line is drawn.
use Rattle.std.proofs.Common.{◌+◌, ◌*◌}
use Rattle.promises.specs.Written.{Filled}
use Rattle.frame.specs.Steps.{plotted}
use Rattle.frame.proofs.graphics.plot_line.Given as goal

abbrev pub invariant-loop-c : goal.invariant-loop-c
invariant-loop-c g l = Filled (plotted g.row.STRETCH l.table l.strip) (l.n * 256) (l.n * 256 + l.c * (8 * g.row.STRETCH)) l.initial.frame l.frame
