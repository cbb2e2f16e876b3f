-- `line`: how many bytes of the line are drawn.
use Rattle.std.proofs.Common.{◌+◌, ◌*◌}
use Rattle.promises.specs.Written.{Filled}
use Rattle.frame.specs.Steps.{typed}
use Rattle.frame.proofs.letters.Letters.line.Given as goal

abbrev pub invariant-loop-c : goal.invariant-loop-c
invariant-loop-c l = Filled (typed l.self.look l.self.rows l.strip) (l.n * 256) (l.n * 256 + l.c * 8) l.initial.frame l.frame
