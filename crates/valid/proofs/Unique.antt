-- Every public operation of `valid`: its contract, as the source has it, takes every input and allows one outcome.
use mathlib.Core.Path.{refl}
use base.Logic.{emp, id⊢}
use Rattle.promises.specs.Fixes.{Operation, Fixes, whole, one_tells}
use Rattle.answer.proofs.Answers.{one_says}
use Rattle.valid.proofs.not_valid as not_valid
use Rattle.valid.specs.contracts.not_valid as not_valid_contract

abbrev pub not_valid_op : Operation
not_valid_op = record { key = not_valid.Symbol.symbol; T = not_valid_contract.ended; clauses = λ M 𝓤 𝓛. not_valid_contract.clauses 𝓛; Says = not_valid.Reads.Learnt; O = _; seen = λ κs. whole }

pub not_valid_fixes : Fixes not_valid_op
not_valid_fixes = record {
  takes_all = λ w κs a g. id⊢ w.𝓤 (emp w.𝓤);
  tells = λ w κs a g z e. one_tells w.𝓤 _;
  one_outcome = λ κs a z z' ws ws' p q. (one_says _ _ _ p q, refl);
}
