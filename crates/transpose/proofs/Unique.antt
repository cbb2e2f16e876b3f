-- Every public operation of `transpose`: its contract, as the source has it, takes every input and allows one outcome.
use mathlib.Core.Path.{sym, ◌∙◌}
use base.Logic.{emp, id⊢}
use Rattle.promises.specs.Fixes.{Operation, Fixes, whole, two_tell}
use Rattle.answer.proofs.Answers.{one_answer}
use Rattle.transpose.proofs.to_image as to_image
use Rattle.transpose.specs.contracts.to_image as to_image_contract
use Rattle.transpose.proofs.to_chip as to_chip
use Rattle.transpose.specs.contracts.to_chip as to_chip_contract

abbrev pub to_image_op : Operation
to_image_op = record { key = to_image.Symbol.symbol; T = to_image_contract.ended; clauses = λ M 𝓤 𝓛. to_image_contract.clauses 𝓛; Says = to_image.Reads.Learnt; O = _; seen = λ κs. whole }

pub to_image_fixes : Fixes to_image_op
to_image_fixes = record {
  takes_all = λ w κs a g. id⊢ w.𝓤 (emp w.𝓤);
  tells = λ w κs a g z e. two_tell w.𝓤 _ _;
  one_outcome = λ κs a z z' ws ws' p q. (one_answer p.0 q.0, λ i. (tt, (tt, ((p.1 ∙ sym q.1) i, tt))));
}

abbrev pub to_chip_op : Operation
to_chip_op = record { key = to_chip.Symbol.symbol; T = to_chip_contract.ended; clauses = λ M 𝓤 𝓛. to_chip_contract.clauses 𝓛; Says = to_chip.Reads.Learnt; O = _; seen = λ κs. whole }

pub to_chip_fixes : Fixes to_chip_op
to_chip_fixes = record {
  takes_all = λ w κs a g. id⊢ w.𝓤 (emp w.𝓤);
  tells = λ w κs a g z e. two_tell w.𝓤 _ _;
  one_outcome = λ κs a z z' ws ws' p q. (one_answer p.0 q.0, λ i. (tt, (tt, ((p.1 ∙ sym q.1) i, tt))));
}
