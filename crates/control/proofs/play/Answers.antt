-- `control::play`, by the laws of a list of writes played one after the other.
use Rattle.std.proofs.Common.{sym, ◌∙◌, arith}
use Rattle.control.proofs.Plays.{turn, stop, at_end}
use Rattle.control.proofs.play.Goals as goal

pub returns-then-not-is_control : goal.returns-then-not-is_control
returns-then-not-is_control c = stop _ _ _ _ c.loop-i.invariant.1 c.loop-i-test.true (sym c.is_control.ensures ∙ c.if-not-is_control.true)

pub loop-i-preserved : goal.loop-i-preserved
loop-i-preserved c = (
  omega arith,
  rw c.word_after-now.ensures (turn _ _ _ _ c.loop-i.invariant.1 c.loop-i-test.true (sym c.is_control.ensures ∙ c.if-not-is_control.false)),
)

pub returns : goal.returns
returns c = rw c.from.ensures (at_end _ _ _ _ c.loop-i.invariant.1 c.loop-i-test.false)
