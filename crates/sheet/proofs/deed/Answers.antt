-- `deed`: the deed as a part.
use Rattle.std.proofs.Common.{ℕ, ◌≡◌, ◌+◌, ◌-◌, ◌≤◌, Bool, List, Ok, length, refl, sym, ap, ◌∙◌, arith}
use Rattle.promises.specs.Choose.{choose}
use Rattle.promises.proofs.Parts.{part_move}
use Rattle.grammar.specs.Sheet.{Fields}
use Rattle.grammar.specs.Read.{read_sheet}
use Rattle.grammar.specs.Given.{fields_in, deed_from}
use Rattle.grammar.proofs.Parts.{deed_at, deed_within}
use Rattle.scan.specs.Steps.{outline_of}
use Rattle.scan.specs.declared.Outline.{Outline}
use Rattle.scan.proofs.Outlined.{whole_given, broken_given}
use Rattle.sheet.proofs.deed.Goals as goal

-- the deed lies within the sheet
inside : (s : List ℕ) (r : Outline) → Ok r ≡ outline_of (read_sheet s) → 5 + r.deed ≤ length s
inside s r e =
    let g = whole_given (read_sheet s) r e in
    omega (arith, deed_within s g.is_got_lem, g.deed)

pub returns-in_default : goal.returns-in_default
returns-in_default c =
    let s = c.args.sheet.now in
    let g = broken_given (read_sheet s) _ c.in_default.ensures in
    part_move 0 0 (deed_from s) (length (fields_in s).deed) (ap (λ (t : Bool). choose t 5 0) g.not_got) (sym (ap (λ (f : Fields). length f.deed) g.no_fields_lem)) (record { bytes = refl; block = refl; offset = omega arith })

pub overflow_add-end : goal.overflow_add-end
overflow_add-end c = omega (arith, inside c.args.sheet.now c.in-Ok.found c.in-Ok.ensures)

pub slice_bounds-result-end-2 : goal.slice_bounds-result-end-2
slice_bounds-result-end-2 c = omega (arith, inside c.args.sheet.now c.in-Ok.found c.in-Ok.ensures)

pub returns : goal.returns
returns c =
    let s = c.args.sheet.now in
    let g = whole_given (read_sheet s) c.in-Ok.found c.in-Ok.ensures in
    part_move 5 (5 + c.in-Ok.found.deed - 5) (deed_from s) (length (fields_in s).deed) (deed_at s g.is_got_lem) (sym g.deed ∙ omega arith) (record { bytes = refl; block = refl; offset = refl })
