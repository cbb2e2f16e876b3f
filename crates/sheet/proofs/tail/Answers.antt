-- `tail`: all annotation lines as a part.
use Rattle.std.proofs.Common.{◌-◌, ◌≤◌, Bool, length, refl, sym, ap, ◌∙◌, arith}
use Rattle.promises.specs.Choose.{choose}
use Rattle.promises.proofs.Parts.{part_move}
use Rattle.grammar.specs.Sheet.{Fields, front, lines}
use Rattle.grammar.specs.Read.{read_sheet}
use Rattle.grammar.specs.Given.{fields_in, tail_from}
use Rattle.grammar.proofs.Parts.{tail_at, tail_size}
use Rattle.scan.proofs.Outlined.{whole_given, broken_given}
use Rattle.sheet.proofs.tail.Goals as goal

-- the annotation lines are the end of the sheet
inside : (c : goal.In-Ok) → c.in-Ok.found.tail ≤ length c.args.sheet.now
inside c =
    let s = c.args.sheet.now in
    let g = whole_given (read_sheet s) c.in-Ok.found c.in-Ok.ensures in
    omega (arith, tail_size s g.is_got_lem, tail_at s g.is_got_lem, g.tail)

pub returns-in_default : goal.returns-in_default
returns-in_default c =
    let s = c.args.sheet.now in
    let g = broken_given (read_sheet s) _ c.in_default.ensures in
    part_move 0 0 (tail_from s) (length (lines (fields_in s).annotations)) (ap (λ (t : Bool). choose t (length (front (fields_in s))) 0) g.not_got) (sym (ap (λ (f : Fields). length (lines f.annotations)) g.no_fields_lem)) (record { bytes = refl; block = refl; offset = omega arith })

pub slice_bounds-result-count : goal.slice_bounds-result-count
slice_bounds-result-count c = omega (arith, inside c)

pub slice_bounds-result-start : goal.slice_bounds-result-start
slice_bounds-result-start c = omega (arith, inside c)

pub returns : goal.returns
returns c =
    let s = c.args.sheet.now in
    let t = c.in-Ok.found.tail in
    let g = whole_given (read_sheet s) c.in-Ok.found c.in-Ok.ensures in
    part_move t (length s - t) (tail_from s) (length (lines (fields_in s).annotations)) (tail_at s g.is_got_lem ∙ sym g.tail) (omega (arith, tail_size s g.is_got_lem, tail_at s g.is_got_lem, g.tail)) (record { bytes = refl; block = refl; offset = refl })
