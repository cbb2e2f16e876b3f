-- What `read` promises of a sheet.
use Rattle.std.specs.Prelude.{ℕ, ◌≡◌, List, length}
use Rattle.answer.specs.Told.{told_of}
use Rattle.grammar.specs.Given.{told_in, fields_in, rule_given, padded}
use Rattle.sheet.specs.declared.Sheet.{Sheet}

-- the answer, and the fields of the sheet, which are empty of a refused one; without its line the rule is 1, and the writes are followed by 0
pub record HeldIn (s : List ℕ) (r : Sheet) : Type 0 where
  pub told : told_of r.answer ≡ told_in s
  pub pins : r.pins ≡ (fields_in s).pins
  pub rule : r.rule ≡ rule_given (fields_in s).rule
  pub writes : r.writes ≡ padded 64 (fields_in s).writes
  pub count : r.write_count ≡ length (fields_in s).writes
  pub annotations : r.annotations ≡ length (fields_in s).annotations
