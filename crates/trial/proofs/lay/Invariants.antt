-- The places before the counter are laid, and the others are as they were.
use Rattle.promises.specs.Written.{Filled}
use Rattle.trial.specs.Buffers.{laid}
use Rattle.trial.proofs.lay.Given as goal

abbrev pub invariant-loop-i : goal.invariant-loop-i
invariant-loop-i l = Filled (laid l.first l.times l.per) 0 l.i l.initial.s l.s
