-- Every public operation of `frame`: its contract, as the source has it, takes every input and allows one outcome.
use mathlib.Core.Path.{sym, ◌∙◌}
use base.Logic.{emp, id⊢}
use Rattle.promises.specs.Fixes.{Operation, Fixes, whole, two_tell}
use Rattle.answer.proofs.Answers.{one_answer}
use Rattle.frame.proofs.draw as draw
use Rattle.frame.specs.contracts.draw as draw_contract

abbrev pub draw_op : Operation
draw_op = record { key = draw.Symbol.symbol; T = draw_contract.ended; clauses = λ M 𝓤 𝓛. draw_contract.clauses 𝓛; Says = draw.Reads.Learnt; O = _; seen = λ κs. whole }

pub draw_fixes : Fixes draw_op
draw_fixes = record {
  takes_all = λ w κs a g. id⊢ w.𝓤 (emp w.𝓤);
  tells = λ w κs a g z e. two_tell w.𝓤 _ _;
  one_outcome = λ κs a z z' ws ws' p q. (one_answer p.0 q.0, λ i. (tt, (tt, (tt, ((p.1 ∙ sym q.1) i, tt)))));
}
