-- Every public operation of `lookup`: its contract, as the source has it, takes every input and allows one outcome.
use mathlib.Core.Path.{refl}
use base.Logic.{emp, id⊢}
use Rattle.promises.specs.Fixes.{Operation, Fixes, whole, placed, one_tells}
use Rattle.promises.proofs.Parts.{one_part}
use Rattle.answer.proofs.Answers.{one_answer}
use Rattle.lookup.proofs.holder as holder
use Rattle.lookup.specs.contracts.holder as holder_contract
use Rattle.lookup.proofs.value as value
use Rattle.lookup.specs.contracts.value as value_contract

abbrev pub holder_op : Operation
holder_op = record { key = holder.Symbol.symbol; T = holder_contract.ended; clauses = λ M 𝓤 𝓛. holder_contract.clauses 𝓛; Says = holder.Reads.Learnt; O = _; seen = λ κs. whole }

pub holder_fixes : Fixes holder_op
holder_fixes = record {
  takes_all = λ w κs a g. id⊢ w.𝓤 (emp w.𝓤);
  tells = λ w κs a g z e. one_tells w.𝓤 _;
  one_outcome = λ κs a z z' ws ws' p q. (one_answer p q, refl);
}

abbrev pub value_op : Operation
value_op = record { key = value.Symbol.symbol; T = value_contract.ended; clauses = λ M 𝓤 𝓛. value_contract.clauses 𝓛; Says = value.Reads.Learnt; O = _; seen = λ κs. placed }

pub value_fixes : Fixes value_op
value_fixes = record {
  takes_all = λ w κs a g. id⊢ w.𝓤 (emp w.𝓤);
  tells = λ w κs a g z e. one_tells w.𝓤 _;
  one_outcome = λ κs a z z' ws ws' p q. (one_part p q, refl);
}
