-- Every public operation of `sheet`: its contract, as the source has it, takes every input and allows one outcome.
use mathlib.Core.Path.{refl, sym, ◌∙◌}
use base.Logic.{emp, id⊢}
use Rattle.promises.specs.Fixes.{Operation, Fixes, whole, placed, one_tells}
use Rattle.promises.proofs.Parts.{one_part}
use Rattle.answer.proofs.Answers.{one_answer}
use Rattle.sheet.proofs.read as read
use Rattle.sheet.specs.contracts.read as read_contract
use Rattle.sheet.proofs.deed as deed
use Rattle.sheet.specs.contracts.deed as deed_contract
use Rattle.sheet.proofs.annotation as annotation
use Rattle.sheet.specs.contracts.annotation as annotation_contract
use Rattle.sheet.proofs.tail as tail
use Rattle.sheet.specs.contracts.tail as tail_contract

abbrev pub read_op : Operation
read_op = record { key = read.Symbol.symbol; T = read_contract.ended; clauses = λ M 𝓤 𝓛. read_contract.clauses 𝓛; Says = read.Reads.Learnt; O = _; seen = λ κs. whole }

pub read_fixes : Fixes read_op
read_fixes = record {
  takes_all = λ w κs a g. id⊢ w.𝓤 (emp w.𝓤);
  tells = λ w κs a g z e. one_tells w.𝓤 _;
  one_outcome = λ κs a z z' ws ws' p q. (
    λ i. record {
      answer = one_answer {a = z.answer} {b = z'.answer} p.told q.told i;
      pins = (p.pins ∙ sym q.pins) i;
      rule = (p.rule ∙ sym q.rule) i;
      writes = (p.writes ∙ sym q.writes) i;
      write_count = (p.count ∙ sym q.count) i;
      annotations = (p.annotations ∙ sym q.annotations) i;
    },
    refl,
  );
}

abbrev pub deed_op : Operation
deed_op = record { key = deed.Symbol.symbol; T = deed_contract.ended; clauses = λ M 𝓤 𝓛. deed_contract.clauses 𝓛; Says = deed.Reads.Learnt; O = _; seen = λ κs. placed }

pub deed_fixes : Fixes deed_op
deed_fixes = record {
  takes_all = λ w κs a g. id⊢ w.𝓤 (emp w.𝓤);
  tells = λ w κs a g z e. one_tells w.𝓤 _;
  one_outcome = λ κs a z z' ws ws' p q. (one_part p q, refl);
}

abbrev pub annotation_op : Operation
annotation_op = record { key = annotation.Symbol.symbol; T = annotation_contract.ended; clauses = λ M 𝓤 𝓛. annotation_contract.clauses 𝓛; Says = annotation.Reads.Learnt; O = _; seen = λ κs. placed }

pub annotation_fixes : Fixes annotation_op
annotation_fixes = record {
  takes_all = λ w κs a g. id⊢ w.𝓤 (emp w.𝓤);
  tells = λ w κs a g z e. one_tells w.𝓤 _;
  one_outcome = λ κs a z z' ws ws' p q. (one_part p q, refl);
}

abbrev pub tail_op : Operation
tail_op = record { key = tail.Symbol.symbol; T = tail_contract.ended; clauses = λ M 𝓤 𝓛. tail_contract.clauses 𝓛; Says = tail.Reads.Learnt; O = _; seen = λ κs. placed }

pub tail_fixes : Fixes tail_op
tail_fixes = record {
  takes_all = λ w κs a g. id⊢ w.𝓤 (emp w.𝓤);
  tells = λ w κs a g z e. one_tells w.𝓤 _;
  one_outcome = λ κs a z z' ws ws' p q. (one_part p q, refl);
}
