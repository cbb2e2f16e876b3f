-- Every public operation of `intake`: its contract, as the source has it, takes every input and allows one outcome.
use mathlib.Core.Path.{refl, sym, ◌∙◌}
use base.Logic.{emp, id⊢}
use Rattle.promises.specs.Fixes.{Operation, Fixes, whole, one_tells}
use Rattle.answer.proofs.Answers.{one_answer}
use Rattle.intake.proofs.settings_of as settings_of
use Rattle.intake.specs.contracts.settings_of as settings_of_contract

abbrev pub settings_of_op : Operation
settings_of_op = record { key = settings_of.Symbol.symbol; T = settings_of_contract.ended; clauses = λ M 𝓤 𝓛. settings_of_contract.clauses 𝓛; Says = settings_of.Reads.Learnt; O = _; seen = λ κs. whole }

pub settings_of_fixes : Fixes settings_of_op
settings_of_fixes = record {
  takes_all = λ w κs a g. id⊢ w.𝓤 (emp w.𝓤);
  tells = λ w κs a g z e. one_tells w.𝓤 _;
  one_outcome = λ κs a z z' ws ws' p q. (
    λ i. record {
      answer = one_answer {a = z.answer} {b = z'.answer} p.told q.told i;
      settings = (p.settings ∙ sym q.settings) i;
      annotations = (p.annotations ∙ sym q.annotations) i;
    },
    refl,
  );
}
