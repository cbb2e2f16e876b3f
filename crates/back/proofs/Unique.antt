-- Every public operation of `back`: its contract, as the source has it, takes every input and allows one outcome.
use mathlib.Core.Path.{sym, ◌∙◌}
use base.Logic.{emp, id⊢}
use Rattle.promises.specs.Fixes.{Operation, Fixes, whole, two_tell}
use Rattle.answer.proofs.Answers.{one_answer}
use Rattle.back.proofs.read_back as read_back
use Rattle.back.specs.contracts.read_back as read_back_contract

abbrev pub read_back_op : Operation
read_back_op = record { key = read_back.Symbol.symbol; T = read_back_contract.ended; clauses = λ M 𝓤 𝓛. read_back_contract.clauses 𝓛; Says = read_back.Reads.Learnt; O = _; seen = λ κs. whole }

pub read_back_fixes : Fixes read_back_op
read_back_fixes = record {
  takes_all = λ w κs a g. id⊢ w.𝓤 (emp w.𝓤);
  tells = λ w κs a g z e. two_tell w.𝓤 _ _;
  one_outcome = λ κs a z z' ws ws' p q. (one_answer p.0 q.0, λ i. (tt, (tt, ((p.1 ∙ sym q.1) i, tt))));
}
