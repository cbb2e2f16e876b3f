-- Every public function of `trial`: its contract takes every input and allows one outcome.
use Rattle.std.proofs.Common.{sym, refl, ◌∙◌}
use base.Logic.{emp, id⊢}
use Rattle.promises.specs.Fixes.{Operation, Fixes, whole, placed, one_tells, three_tell}
use Rattle.promises.proofs.Parts.{one_part}
use Rattle.trial.proofs.look_of as look_of
use Rattle.trial.specs.contracts.look_of as look_of_contract
use Rattle.trial.proofs.settings_of as settings_of
use Rattle.trial.specs.contracts.settings_of as settings_of_contract
use Rattle.trial.proofs.cut as cut
use Rattle.trial.specs.contracts.cut as cut_contract
use Rattle.trial.proofs.byte_at as byte_at
use Rattle.trial.specs.contracts.byte_at as byte_at_contract
use Rattle.trial.proofs.put as put
use Rattle.trial.specs.contracts.put as put_contract
use Rattle.trial.proofs.lay as lay
use Rattle.trial.specs.contracts.lay as lay_contract
use Rattle.trial.proofs.mark as mark
use Rattle.trial.specs.contracts.mark as mark_contract
use Rattle.trial.proofs.unchanged_from as unchanged_from
use Rattle.trial.specs.contracts.unchanged_from as unchanged_from_contract
use Rattle.trial.proofs.sum as sum
use Rattle.trial.specs.contracts.sum as sum_contract

abbrev pub look_of_op : Operation
look_of_op = record { key = look_of.Symbol.symbol; T = look_of_contract.ended; clauses = λ M 𝓤 𝓛. look_of_contract.clauses 𝓛; Says = look_of.Reads.Learnt; O = _; seen = λ κs. whole }

pub look_of_fixes : Fixes look_of_op
look_of_fixes = record {
  takes_all = λ w κs a g. id⊢ w.𝓤 (emp w.𝓤);
  tells = λ w κs a g z e. one_tells w.𝓤 _;
  one_outcome = λ κs a z z' ws ws' p q. (λ i. record { pins = (p ∙ sym q) i }, refl);
}

abbrev pub settings_of_op : Operation
settings_of_op = record { key = settings_of.Symbol.symbol; T = settings_of_contract.ended; clauses = λ M 𝓤 𝓛. settings_of_contract.clauses 𝓛; Says = settings_of.Reads.Learnt; O = _; seen = λ κs. whole }

pub settings_of_fixes : Fixes settings_of_op
settings_of_fixes = record {
  takes_all = λ w κs a g. id⊢ w.𝓤 (emp w.𝓤);
  tells = λ w κs a g z e. three_tell w.𝓤 _ _ _;
  one_outcome = λ κs a z z' ws ws' p q. (
    λ i. record {
      word = (p.0 ∙ sym q.0) i;
      look = record { pins = (p.1.0 ∙ sym q.1.0) i };
      rule = (p.1.1 ∙ sym q.1.1) i;
    },
    refl,
  );
}

abbrev pub cut_op : Operation
cut_op = record { key = cut.Symbol.symbol; T = cut_contract.ended; clauses = λ M 𝓤 𝓛. cut_contract.clauses 𝓛; Says = cut.Reads.Learnt; O = _; seen = λ κs. placed }

pub cut_fixes : Fixes cut_op
cut_fixes = record {
  takes_all = λ w κs a g. id⊢ w.𝓤 (emp w.𝓤);
  tells = λ w κs a g z e. one_tells w.𝓤 _;
  one_outcome = λ κs a z z' ws ws' p q. (one_part p q, refl);
}

abbrev pub byte_at_op : Operation
byte_at_op = record { key = byte_at.Symbol.symbol; T = byte_at_contract.ended; clauses = λ M 𝓤 𝓛. byte_at_contract.clauses 𝓛; Says = byte_at.Reads.Learnt; O = _; seen = λ κs. whole }

pub byte_at_fixes : Fixes byte_at_op
byte_at_fixes = record {
  takes_all = λ w κs a g. id⊢ w.𝓤 (emp w.𝓤);
  tells = λ w κs a g z e. one_tells w.𝓤 _;
  one_outcome = λ κs a z z' ws ws' p q. (p ∙ sym q, refl);
}

abbrev pub put_op : Operation
put_op = record { key = put.Symbol.symbol; T = put_contract.ended; clauses = λ M 𝓤 𝓛. put_contract.clauses 𝓛; Says = put.Reads.Learnt; O = _; seen = λ κs. whole }

pub put_fixes : Fixes put_op
put_fixes = record {
  takes_all = λ w κs a g. id⊢ w.𝓤 (emp w.𝓤);
  tells = λ w κs a g z e. one_tells w.𝓤 _;
  one_outcome = λ κs a z z' ws ws' p q. (refl, λ i. ((p ∙ sym q) i, (tt, (tt, tt))));
}

abbrev pub lay_op : Operation
lay_op = record { key = lay.Symbol.symbol; T = lay_contract.ended; clauses = λ M 𝓤 𝓛. lay_contract.clauses 𝓛; Says = lay.Reads.Learnt; O = _; seen = λ κs. whole }

pub lay_fixes : Fixes lay_op
lay_fixes = record {
  takes_all = λ w κs a g. id⊢ w.𝓤 (emp w.𝓤);
  tells = λ w κs a g z e. one_tells w.𝓤 _;
  one_outcome = λ κs a z z' ws ws' p q. (refl, λ i. ((p ∙ sym q) i, (tt, (tt, (tt, tt)))));
}

abbrev pub mark_op : Operation
mark_op = record { key = mark.Symbol.symbol; T = mark_contract.ended; clauses = λ M 𝓤 𝓛. mark_contract.clauses 𝓛; Says = mark.Reads.Learnt; O = _; seen = λ κs. whole }

pub mark_fixes : Fixes mark_op
mark_fixes = record {
  takes_all = λ w κs a g. id⊢ w.𝓤 (emp w.𝓤);
  tells = λ w κs a g z e. one_tells w.𝓤 _;
  one_outcome = λ κs a z z' ws ws' p q. (refl, λ i. ((p ∙ sym q) i, tt));
}

abbrev pub unchanged_from_op : Operation
unchanged_from_op = record { key = unchanged_from.Symbol.symbol; T = unchanged_from_contract.ended; clauses = λ M 𝓤 𝓛. unchanged_from_contract.clauses 𝓛; Says = unchanged_from.Reads.Learnt; O = _; seen = λ κs. whole }

pub unchanged_from_fixes : Fixes unchanged_from_op
unchanged_from_fixes = record {
  takes_all = λ w κs a g. id⊢ w.𝓤 (emp w.𝓤);
  tells = λ w κs a g z e. one_tells w.𝓤 _;
  one_outcome = λ κs a z z' ws ws' p q. (p ∙ sym q, refl);
}

abbrev pub sum_op : Operation
sum_op = record { key = sum.Symbol.symbol; T = sum_contract.ended; clauses = λ M 𝓤 𝓛. sum_contract.clauses 𝓛; Says = sum.Reads.Learnt; O = _; seen = λ κs. whole }

pub sum_fixes : Fixes sum_op
sum_fixes = record {
  takes_all = λ w κs a g. id⊢ w.𝓤 (emp w.𝓤);
  tells = λ w κs a g z e. one_tells w.𝓤 _;
  one_outcome = λ κs a z z' ws ws' p q. (p ∙ sym q, refl);
}
