-- `text`: how many lines are drawn.
use Rattle.std.proofs.Common.{◌*◌}
use Rattle.promises.specs.Written.{Filled}
use Rattle.frame.specs.Steps.{typed}
use Rattle.frame.proofs.letters.text.Given as goal

abbrev pub invariant-loop-n : goal.invariant-loop-n
invariant-loop-n l = Filled (typed l.letters.look l.letters.rows l.strip) 0 (l.n * 256) l.initial.frame l.frame
