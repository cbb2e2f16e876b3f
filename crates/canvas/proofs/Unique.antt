-- Every public operation of `canvas`: its contract, as the source has it, takes every input and allows one outcome.
use mathlib.Core.Path.{sym, ◌∙◌}
use base.Logic.{emp, id⊢}
use Rattle.promises.specs.Fixes.{Operation, Fixes, whole, three_tell}
use Rattle.answer.proofs.Answers.{one_answer}
use Rattle.canvas.proofs.lay as lay
use Rattle.canvas.specs.contracts.lay as lay_contract

abbrev pub lay_op : Operation
lay_op = record { key = lay.Symbol.symbol; T = lay_contract.ended; clauses = λ M 𝓤 𝓛. lay_contract.clauses 𝓛; Says = lay.Reads.Learnt; O = _; seen = λ κs. whole }

-- the answer is fixed, and so are all the entries and the whole canvas
pub lay_fixes : Fixes lay_op
lay_fixes = record {
  takes_all = λ w κs a g. id⊢ w.𝓤 (emp w.𝓤);
  tells = λ w κs a g z e. three_tell w.𝓤 _ _ _;
  one_outcome = λ κs a z z' ws ws' p q. (one_answer p.0 q.0, λ i. (tt, ((p.1.0 ∙ sym q.1.0) i, (tt, (tt, ((p.1.1 ∙ sym q.1.1) i, tt))))));
}
