-- `plot_lines`: how many lines are drawn.
use Rattle.std.proofs.Common.{◌*◌}
use Rattle.promises.specs.Written.{Filled}
use Rattle.frame.specs.Steps.{plotted}
use Rattle.frame.proofs.graphics.plot_lines.Given as goal

abbrev pub invariant-loop-n : goal.invariant-loop-n
invariant-loop-n g l = Filled (plotted g.row.STRETCH l.table l.strip) 0 (l.n * 256) l.initial.frame l.frame
