-- Every public operation of `checksum`: its contract, as the source has it, takes every input and allows one outcome.
use mathlib.Core.Path.{refl, sym, ◌∙◌}
use base.Logic.{emp, id⊢}
use Rattle.promises.specs.Fixes.{Operation, Fixes, whole, one_tells}
use Rattle.checksum.proofs.crc as crc
use Rattle.checksum.specs.contracts.crc as crc_contract
use Rattle.checksum.proofs.adler as adler
use Rattle.checksum.specs.contracts.adler as adler_contract

abbrev pub crc_op : Operation
crc_op = record { key = crc.Symbol.symbol; T = crc_contract.ended; clauses = λ M 𝓤 𝓛. crc_contract.clauses 𝓛; Says = crc.Reads.Learnt; O = _; seen = λ κs. whole }

pub crc_fixes : Fixes crc_op
crc_fixes = record {
  takes_all = λ w κs a g. id⊢ w.𝓤 (emp w.𝓤);
  tells = λ w κs a g z e. one_tells w.𝓤 _;
  one_outcome = λ κs a z z' ws ws' p q. (p ∙ sym q, refl);
}

abbrev pub adler_op : Operation
adler_op = record { key = adler.Symbol.symbol; T = adler_contract.ended; clauses = λ M 𝓤 𝓛. adler_contract.clauses 𝓛; Says = adler.Reads.Learnt; O = _; seen = λ κs. whole }

pub adler_fixes : Fixes adler_op
adler_fixes = record {
  takes_all = λ w κs a g. id⊢ w.𝓤 (emp w.𝓤);
  tells = λ w κs a g z e. one_tells w.𝓤 _;
  one_outcome = λ κs a z z' ws ws' p q. (p ∙ sym q, refl);
}
