-- Every public operation of `control`: its contract, as the source has it, takes every input and allows one outcome.
use mathlib.Core.Path.{refl}
use base.Logic.{emp, id⊢}
use Rattle.promises.specs.Fixes.{Operation, Fixes, whole, one_tells}
use Rattle.answer.proofs.Answers.{one_answer}
use Rattle.control.proofs.play as play
use Rattle.control.specs.contracts.play as play_contract

abbrev pub play_op : Operation
play_op = record { key = play.Symbol.symbol; T = play_contract.ended; clauses = λ M 𝓤 𝓛. play_contract.clauses 𝓛; Says = play.Reads.Learnt; O = _; seen = λ κs. whole }

pub play_fixes : Fixes play_op
play_fixes = record {
  takes_all = λ w κs a g. id⊢ w.𝓤 (emp w.𝓤);
  tells = λ w κs a g z e. one_tells w.𝓤 _;
  one_outcome = λ κs a z z' ws ws' p q. (one_answer p q, refl);
}
