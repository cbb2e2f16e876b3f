-- Every public operation of `buffer`: its contract, as the source has it, takes every input and allows one outcome.
use mathlib.Core.Path.{refl, sym, ◌∙◌}
use base.Logic.{emp, id⊢}
use Rattle.promises.specs.Fixes.{Operation, Fixes, whole, one_tells}
use Rattle.buffer.proofs.store as store
use Rattle.buffer.specs.contracts.store as store_contract

abbrev pub store_op : Operation
store_op = record { key = store.Symbol.symbol; T = store_contract.ended; clauses = λ M 𝓤 𝓛. store_contract.clauses 𝓛; Says = store.Reads.Learnt; O = _; seen = λ κs. whole }

pub store_fixes : Fixes store_op
store_fixes = record {
  takes_all = λ w κs a g. id⊢ w.𝓤 (emp w.𝓤);
  tells = λ w κs a g z e. one_tells w.𝓤 _;
  one_outcome = λ κs a z z' ws ws' p q. (refl, λ i. (tt, (tt, ((p ∙ sym q) i, tt))));
}
