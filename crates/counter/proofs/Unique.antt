-- Every public operation of `counter`: its contract, as the source has it, takes every input and allows one outcome.
use Rattle.std.proofs.Common.{sym, refl, ◌∙◌}
use base.Logic.{emp, id⊢}
use Rattle.promises.specs.Fixes.{Operation, Fixes, whole, one_tells}
use Rattle.counter.proofs.line_lasts as line_lasts
use Rattle.counter.specs.contracts.line_lasts as line_lasts_contract
use Rattle.counter.proofs.one_stretch as one_stretch
use Rattle.counter.specs.contracts.one_stretch as one_stretch_contract
use Rattle.counter.proofs.line_step as line_step
use Rattle.counter.specs.contracts.line_step as line_step_contract
use Rattle.counter.proofs.row_lasts as row_lasts
use Rattle.counter.specs.contracts.row_lasts as row_lasts_contract
use Rattle.counter.proofs.start as start
use Rattle.counter.specs.contracts.start as start_contract
use Rattle.counter.proofs.Counter.carry as carry
use Rattle.counter.specs.contracts.Counter.carry as carry_contract
use Rattle.counter.proofs.Counter.advance as advance
use Rattle.counter.specs.contracts.Counter.advance as advance_contract
use Rattle.counter.proofs.Counter.clear as clear
use Rattle.counter.specs.contracts.Counter.clear as clear_contract

abbrev pub line_lasts_op : Operation
line_lasts_op = record { key = line_lasts.Symbol.symbol; T = line_lasts_contract.ended; clauses = λ M 𝓤 𝓛. line_lasts_contract.clauses 𝓛; Says = line_lasts.Reads.Learnt; O = _; seen = λ κs. whole }

pub line_lasts_fixes : Fixes line_lasts_op
line_lasts_fixes = record {
  takes_all = λ w κs a g. id⊢ w.𝓤 (emp w.𝓤);
  tells = λ w κs a g z e. one_tells w.𝓤 _;
  one_outcome = λ κs a z z' ws ws' p q. (p ∙ sym q, refl);
}

abbrev pub one_stretch_op : Operation
one_stretch_op = record { key = one_stretch.Symbol.symbol; T = one_stretch_contract.ended; clauses = λ M 𝓤 𝓛. one_stretch_contract.clauses 𝓛; Says = one_stretch.Reads.Learnt; O = _; seen = λ κs. whole }

pub one_stretch_fixes : Fixes one_stretch_op
one_stretch_fixes = record {
  takes_all = λ w κs a g. id⊢ w.𝓤 (emp w.𝓤);
  tells = λ w κs a g z e. one_tells w.𝓤 _;
  one_outcome = λ κs a z z' ws ws' p q. (p ∙ sym q, refl);
}

abbrev pub line_step_op : Operation
line_step_op = record { key = line_step.Symbol.symbol; T = line_step_contract.ended; clauses = λ M 𝓤 𝓛. line_step_contract.clauses 𝓛; Says = line_step.Reads.Learnt; O = _; seen = λ κs. whole }

pub line_step_fixes : Fixes line_step_op
line_step_fixes = record {
  takes_all = λ w κs a g. id⊢ w.𝓤 (emp w.𝓤);
  tells = λ w κs a g z e. one_tells w.𝓤 _;
  one_outcome = λ κs a z z' ws ws' p q. (p ∙ sym q, refl);
}

abbrev pub row_lasts_op : Operation
row_lasts_op = record { key = row_lasts.Symbol.symbol; T = row_lasts_contract.ended; clauses = λ M 𝓤 𝓛. row_lasts_contract.clauses 𝓛; Says = row_lasts.Reads.Learnt; O = _; seen = λ κs. whole }

pub row_lasts_fixes : Fixes row_lasts_op
row_lasts_fixes = record {
  takes_all = λ w κs a g. id⊢ w.𝓤 (emp w.𝓤);
  tells = λ w κs a g z e. one_tells w.𝓤 _;
  one_outcome = λ κs a z z' ws ws' p q. (p ∙ sym q, refl);
}

abbrev pub start_op : Operation
start_op = record { key = start.Symbol.symbol; T = start_contract.ended; clauses = λ M 𝓤 𝓛. start_contract.clauses 𝓛; Says = start.Reads.Learnt; O = _; seen = λ κs. whole }

pub start_fixes : Fixes start_op
start_fixes = record {
  takes_all = λ w κs a g. id⊢ w.𝓤 (emp w.𝓤);
  tells = λ w κs a g z e. one_tells w.𝓤 _;
  one_outcome = λ κs a z z' ws ws' p q. (p ∙ sym q, refl);
}

abbrev pub carry_op : Operation
carry_op = record { key = carry.Symbol.symbol; T = carry_contract.ended; clauses = λ M 𝓤 𝓛. carry_contract.clauses 𝓛; Says = carry.Reads.Learnt; O = _; seen = λ κs. whole }

pub carry_fixes : Fixes carry_op
carry_fixes = record {
  takes_all = λ w κs a g. id⊢ w.𝓤 (emp w.𝓤);
  tells = λ w κs a g z e. one_tells w.𝓤 _;
  one_outcome = λ κs a z z' ws ws' p q. (p ∙ sym q, refl);
}

abbrev pub advance_op : Operation
advance_op = record { key = advance.Symbol.symbol; T = advance_contract.ended; clauses = λ M 𝓤 𝓛. advance_contract.clauses 𝓛; Says = advance.Reads.Learnt; O = _; seen = λ κs. whole }

pub advance_fixes : Fixes advance_op
advance_fixes = record {
  takes_all = λ w κs a g. id⊢ w.𝓤 (emp w.𝓤);
  tells = λ w κs a g z e. one_tells w.𝓤 _;
  one_outcome = λ κs a z z' ws ws' p q. (p ∙ sym q, refl);
}

abbrev pub clear_op : Operation
clear_op = record { key = clear.Symbol.symbol; T = clear_contract.ended; clauses = λ M 𝓤 𝓛. clear_contract.clauses 𝓛; Says = clear.Reads.Learnt; O = _; seen = λ κs. whole }

pub clear_fixes : Fixes clear_op
clear_fixes = record {
  takes_all = λ w κs a g. id⊢ w.𝓤 (emp w.𝓤);
  tells = λ w κs a g z e. one_tells w.𝓤 _;
  one_outcome = λ κs a z z' ws ws' p q. (p ∙ sym q, refl);
}
