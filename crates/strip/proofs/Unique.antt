-- Every public operation of `strip`: its contract, as the source has it, takes every input and allows one outcome.
use Rattle.std.proofs.Common.{ℕ, sym, refl, ◌∙◌, ap₂}
use base.Logic.{emp, id⊢}
use Rattle.promises.specs.Fixes.{Operation, Fixes, whole, one_tells, three_tell}
use Rattle.answer.specs.Told.{Answer}
use Rattle.answer.proofs.Answers.{one_answer, one_says}
use Rattle.strip.proofs.not_fitted as not_fitted
use Rattle.strip.specs.contracts.not_fitted as not_fitted_contract
use Rattle.strip.proofs.fetch as fetch
use Rattle.strip.specs.contracts.fetch as fetch_contract

abbrev pub not_fitted_op : Operation
not_fitted_op = record { key = not_fitted.Symbol.symbol; T = not_fitted_contract.ended; clauses = λ M 𝓤 𝓛. not_fitted_contract.clauses 𝓛; Says = not_fitted.Reads.Learnt; O = _; seen = λ κs. whole }

pub not_fitted_fixes : Fixes not_fitted_op
not_fitted_fixes = record {
  takes_all = λ w κs a g. id⊢ w.𝓤 (emp w.𝓤);
  tells = λ w κs a g z e. one_tells w.𝓤 _;
  one_outcome = λ κs a z z' ws ws' p q. (one_says _ _ _ p q, refl);
}

abbrev pub fetch_op : Operation
fetch_op = record { key = fetch.Symbol.symbol; T = fetch_contract.ended; clauses = λ M 𝓤 𝓛. fetch_contract.clauses 𝓛; Says = fetch.Reads.Learnt; O = _; seen = λ κs. whole }

pub fetch_fixes : Fixes fetch_op
fetch_fixes = record {
  takes_all = λ w κs a g. id⊢ w.𝓤 (emp w.𝓤);
  tells = λ w κs a g z e. three_tell w.𝓤 _ _ _;
  one_outcome = λ κs a z z' ws ws' p q. (ap₂ (λ (a : Answer) (n : ℕ). record { answer = a; touched = n }) (one_answer p.0 q.0) (p.1.0 ∙ sym q.1.0), λ i. (tt, (tt, ((p.1.1 ∙ sym q.1.1) i, tt))));
}
