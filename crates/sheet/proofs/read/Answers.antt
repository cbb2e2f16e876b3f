-- `read`: reading a sheet: what one pass finds, in the contract's words.
use Rattle.std.proofs.Common.{length, ap}
use Rattle.grammar.specs.Sheet.{Fields}
use Rattle.grammar.specs.Read.{read_sheet}
use Rattle.grammar.specs.Given.{rule_given, padded}
use Rattle.scan.proofs.Outlined.{whole_given, broken_given}
use Rattle.sheet.proofs.read.Goals as goal

pub returns-in-Ok : goal.returns-in-Ok
returns-in-Ok c =
    let g = whole_given (read_sheet c.args.sheet.now) c.in-Ok.found c.in-Ok.ensures in
    record {
      told = g.told_done;
      pins = g.pins;
      rule = g.rule;
      writes = g.writes;
      count = g.count;
      annotations = g.annotations;
    }

pub returns-in-Err : goal.returns-in-Err
returns-in-Err c =
    let g = broken_given (read_sheet c.args.sheet.now) c.in-Err.place c.in-Err.ensures in
    record {
      told = g.told_broken;
      pins = ap (λ (f : Fields). f.pins) g.no_fields_lem;
      rule = ap (λ (f : Fields). rule_given f.rule) g.no_fields_lem;
      writes = ap (λ (f : Fields). padded 64 f.writes) g.no_fields_lem;
      count = ap (λ (f : Fields). length f.writes) g.no_fields_lem;
      annotations = ap (λ (f : Fields). length f.annotations) g.no_fields_lem;
    }
