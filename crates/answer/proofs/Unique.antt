-- Every public operation of `answer`: its contract, as the source has it, takes every input and allows one outcome.
use mathlib.Core.Path.{refl, sym, ◌∙◌}
use base.Logic.{emp, id⊢}
use Rattle.promises.specs.Fixes.{Operation, Fixes, whole, one_tells}
use Rattle.answer.proofs.Answers.{one_answer, one_says}
use Rattle.answer.proofs.number as number
use Rattle.answer.specs.contracts.number as number_contract
use Rattle.answer.proofs.place as place
use Rattle.answer.specs.contracts.place as place_contract
use Rattle.answer.proofs.value as value
use Rattle.answer.specs.contracts.value as value_contract
use Rattle.answer.proofs.refuse as refuse
use Rattle.answer.specs.contracts.refuse as refuse_contract
use Rattle.answer.proofs.check as check
use Rattle.answer.specs.contracts.check as check_contract

abbrev pub number_op : Operation
number_op = record { key = number.Symbol.symbol; T = number_contract.ended; clauses = λ M 𝓤 𝓛. number_contract.clauses 𝓛; Says = number.Reads.Learnt; O = _; seen = λ κs. whole }

pub number_fixes : Fixes number_op
number_fixes = record {
  takes_all = λ w κs a g. id⊢ w.𝓤 (emp w.𝓤);
  tells = λ w κs a g z e. one_tells w.𝓤 _;
  one_outcome = λ κs a z z' ws ws' p q. (p ∙ sym q, refl);
}

abbrev pub place_op : Operation
place_op = record { key = place.Symbol.symbol; T = place_contract.ended; clauses = λ M 𝓤 𝓛. place_contract.clauses 𝓛; Says = place.Reads.Learnt; O = _; seen = λ κs. whole }

pub place_fixes : Fixes place_op
place_fixes = record {
  takes_all = λ w κs a g. id⊢ w.𝓤 (emp w.𝓤);
  tells = λ w κs a g z e. one_tells w.𝓤 _;
  one_outcome = λ κs a z z' ws ws' p q. (p ∙ sym q, refl);
}

abbrev pub value_op : Operation
value_op = record { key = value.Symbol.symbol; T = value_contract.ended; clauses = λ M 𝓤 𝓛. value_contract.clauses 𝓛; Says = value.Reads.Learnt; O = _; seen = λ κs. whole }

pub value_fixes : Fixes value_op
value_fixes = record {
  takes_all = λ w κs a g. id⊢ w.𝓤 (emp w.𝓤);
  tells = λ w κs a g z e. one_tells w.𝓤 _;
  one_outcome = λ κs a z z' ws ws' p q. (p ∙ sym q, refl);
}

abbrev pub refuse_op : Operation
refuse_op = record { key = refuse.Symbol.symbol; T = refuse_contract.ended; clauses = λ M 𝓤 𝓛. refuse_contract.clauses 𝓛; Says = refuse.Reads.Learnt; O = _; seen = λ κs. whole }

pub refuse_fixes : Fixes refuse_op
refuse_fixes = record {
  takes_all = λ w κs a g. id⊢ w.𝓤 (emp w.𝓤);
  tells = λ w κs a g z e. one_tells w.𝓤 _;
  one_outcome = λ κs a z z' ws ws' p q. (one_says _ _ _ p q, refl);
}

abbrev pub check_op : Operation
check_op = record { key = check.Symbol.symbol; T = check_contract.ended; clauses = λ M 𝓤 𝓛. check_contract.clauses 𝓛; Says = check.Reads.Learnt; O = _; seen = λ κs. whole }

pub check_fixes : Fixes check_op
check_fixes = record {
  takes_all = λ w κs a g. id⊢ w.𝓤 (emp w.𝓤);
  tells = λ w κs a g z e. one_tells w.𝓤 _;
  one_outcome = λ κs a z z' ws ws' p q. (one_answer p q, refl);
}
