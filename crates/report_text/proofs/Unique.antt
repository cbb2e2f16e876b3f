-- Every public operation of `report_text`: its contract, as the source has it, takes every input and allows one outcome.
use mathlib.Core.Path.{refl, sym, ◌∙◌}
use base.Logic.{emp, id⊢}
use Rattle.promises.specs.Fixes.{Operation, Fixes, whole, one_tells}
use Rattle.report_text.proofs.report as report
use Rattle.report_text.specs.contracts.report as report_contract
use Rattle.report_text.proofs.report_after as report_after
use Rattle.report_text.specs.contracts.report_after as report_after_contract

abbrev pub report_op : Operation
report_op = record { key = report.Symbol.symbol; T = report_contract.ended; clauses = λ M 𝓤 𝓛. report_contract.clauses 𝓛; Says = report.Reads.Learnt; O = _; seen = λ κs. whole }

pub report_fixes : Fixes report_op
report_fixes = record {
  takes_all = λ w κs a g. id⊢ w.𝓤 (emp w.𝓤);
  tells = λ w κs a g z e. one_tells w.𝓤 _;
  one_outcome = λ κs a z z' ws ws' p q. (p ∙ sym q, refl);
}

abbrev pub report_after_op : Operation
report_after_op = record { key = report_after.Symbol.symbol; T = report_after_contract.ended; clauses = λ M 𝓤 𝓛. report_after_contract.clauses 𝓛; Says = report_after.Reads.Learnt; O = _; seen = λ κs. whole }

pub report_after_fixes : Fixes report_after_op
report_after_fixes = record {
  takes_all = λ w κs a g. id⊢ w.𝓤 (emp w.𝓤);
  tells = λ w κs a g z e. one_tells w.𝓤 _;
  one_outcome = λ κs a z z' ws ws' p q. (p ∙ sym q, refl);
}
