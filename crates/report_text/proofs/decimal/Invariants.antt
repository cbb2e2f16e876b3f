-- The digits from `from` on are found, and the rest grows less.
use Rattle.report_text.proofs.Decimals.{Found}
use Rattle.report_text.proofs.decimal.Given as goal

abbrev pub invariant-loop-rest : goal.invariant-loop-rest
invariant-loop-rest l = Found l.n l.bytes l.from l.rest

abbrev pub decreases-loop-rest : goal.decreases-loop-rest
decreases-loop-rest l = l.rest
