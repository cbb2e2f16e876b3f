-- Every public operation of `scan`: its contract, as the source has it, takes every input and allows one outcome.
use mathlib.Core.Path.{refl, sym, ◌∙◌}
use base.Logic.{emp, id⊢}
use Rattle.promises.specs.Fixes.{Operation, Fixes, whole, one_tells, two_tell}
use Rattle.scan.proofs.survey as survey
use Rattle.scan.specs.contracts.survey as survey_contract
use Rattle.scan.proofs.annotation as annotation
use Rattle.scan.specs.contracts.annotation as annotation_contract

abbrev pub survey_op : Operation
survey_op = record { key = survey.Symbol.symbol; T = survey_contract.ended; clauses = λ M 𝓤 𝓛. survey_contract.clauses 𝓛; Says = survey.Reads.Learnt; O = _; seen = λ κs. whole }

pub survey_fixes : Fixes survey_op
survey_fixes = record {
  takes_all = λ w κs a g. id⊢ w.𝓤 (emp w.𝓤);
  tells = λ w κs a g z e. one_tells w.𝓤 _;
  one_outcome = λ κs a z z' ws ws' p q. (p ∙ sym q, refl);
}

abbrev pub annotation_op : Operation
annotation_op = record { key = annotation.Symbol.symbol; T = annotation_contract.ended; clauses = λ M 𝓤 𝓛. annotation_contract.clauses 𝓛; Says = annotation.Reads.Learnt; O = _; seen = λ κs. whole }

pub annotation_fixes : Fixes annotation_op
annotation_fixes = record {
  takes_all = λ w κs a g. id⊢ w.𝓤 (emp w.𝓤);
  tells = λ w κs a g z e. two_tell w.𝓤 _ _;
  one_outcome = λ κs a z z' ws ws' p q. (
    λ i. record {
      from = (p.0 ∙ sym q.0) i;
      size = (p.1 ∙ sym q.1) i;
    },
    refl,
  );
}
