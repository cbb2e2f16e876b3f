-- Every public operation of `screen`: its contract, as the source has it, takes every input and allows one outcome.
use mathlib.Core.Path.{sym, ◌∙◌}
use base.Logic.{emp, id⊢}
use Rattle.promises.specs.Fixes.{Operation, Fixes, whole, three_tell}
use Rattle.answer.proofs.Answers.{one_answer}
use Rattle.screen.proofs.show as show
use Rattle.screen.specs.contracts.show as show_contract

abbrev pub show_op : Operation
show_op = record { key = show.Symbol.symbol; T = show_contract.ended; clauses = λ M 𝓤 𝓛. show_contract.clauses 𝓛; Says = show.Reads.Learnt; O = _; seen = λ κs. whole }

pub show_fixes : Fixes show_op
show_fixes = record {
  takes_all = λ w κs a g. id⊢ w.𝓤 (emp w.𝓤);
  tells = λ w κs a g z e. three_tell w.𝓤 _ _ _;
  one_outcome = λ κs a z z' ws ws' p q. (one_answer p.0 q.0, λ i. (tt, (tt, (tt, ((p.1.0 ∙ sym q.1.0) i, ((p.1.1 ∙ sym q.1.1) i, tt))))));
}
