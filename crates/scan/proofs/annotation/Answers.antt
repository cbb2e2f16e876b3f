-- `annotation`: the line lies in a whole sheet, and past the last there is none.
use Rattle.std.proofs.Common.{◌≡◌, ◌+◌, ◌<◌, ◌∙◌, Ok, length, refl, sym, ap, subst, arith}
use Rattle.std.specs.Result.{IsOk}
use Rattle.grammar.specs.Sheet.{Fields, line}
use Rattle.grammar.specs.Read.{read_sheet}
use Rattle.grammar.specs.Given.{fields_in}
use Rattle.grammar.proofs.Parts.{line_in, line_from, none_from, line_within, tail_at}
use Rattle.scan.specs.declared.Found.{Found}
use Rattle.scan.proofs.Annotated.{line_read}
use Rattle.scan.proofs.Outlined.{WholeGiven, whole_given, broken_given}
use Rattle.scan.proofs.annotation.Goals as goal

-- the sheet is whole, and the line lies in it
given : (c : goal.Then-n-found) → WholeGiven (read_sheet c.args.s.now) c.in-Ok.found
given c = whole_given (read_sheet c.args.s.now) c.in-Ok.found c.in-Ok.ensures

in_range : (c : goal.Then-n-found) → c.args.n < length (fields_in c.args.s.now).annotations
in_range c = omega (arith, (given c).annotations)

pub annotation_start-from-requires : goal.annotation_start-from-requires
annotation_start-from-requires c =
    let g = given c in
    record { s_value = g.is_got_lem; from_value = (g.tail ∙ sym (tail_at c.args.s.now g.is_got_lem), in_range c) }

pub slice_bounds-annotation_line-count : goal.slice_bounds-annotation_line-count
slice_bounds-annotation_line-count c = omega (arith, line_within c.args.s.now c.args.n, c.annotation_start-from.ensures)

pub slice_bounds-annotation_line-start : goal.slice_bounds-annotation_line-start
slice_bounds-annotation_line-start c = omega (arith, line_within c.args.s.now c.args.n, c.annotation_start-from.ensures)

pub unwrap-line-requires : goal.unwrap-line-requires
unwrap-line-requires c =
    let s = c.args.s.now in
    let n = c.args.n in
    let g = whole_given (read_sheet s) c.in-Ok.found c.in-Ok.ensures in
    let k : n < length (fields_in s).annotations = omega (arith, g.annotations) in
    let e = line_read s n c.annotation_start-from.result (line_in s n g.is_got_lem k) (c.annotation_start-from.ensures ∙ line_from s n k) c.annotation_line.result c.annotation_line.ensures.value in
    subst IsOk (sym e) refl

pub returns-in-Ok-clause-size_value : goal.returns-in-Ok-clause-size_value
returns-in-Ok-clause-size_value c =
    let s = c.args.s.now in
    let n = c.args.n in
    let g = whole_given (read_sheet s) c.in-Ok.found c.in-Ok.ensures in
    let k : n < length (fields_in s).annotations = omega (arith, g.annotations) in
    let h = line_in s n g.is_got_lem k in
    let e = line_read s n c.annotation_start-from.result h (c.annotation_start-from.ensures ∙ line_from s n k) c.annotation_line.result c.annotation_line.ensures.value in
    let w : Ok c.unwrap-line.result ≡ Ok (record { value = tt {0}; size = length (line h.value) + 1 }) = sym c.unwrap-line.ensures ∙ e in
    let q : c.unwrap-line.result ≡ record { value = tt {0}; size = length (line h.value) + 1 } = cc in
    omega (arith, ap (λ (x : Found (Unit {0})). x.size) q, ap length h.named)

pub returns-in_default-clause-from_value : goal.returns-in_default-clause-from_value
returns-in_default-clause-from_value c =
    let s = c.args.s.now in
    sym (none_from s c.args.n (omega (arith, (whole_given (read_sheet s) c.in-Ok.found c.in-Ok.ensures).annotations))).0

pub returns-in_default-clause-size_value : goal.returns-in_default-clause-size_value
returns-in_default-clause-size_value c =
    let s = c.args.s.now in
    sym (none_from s c.args.n (omega (arith, (whole_given (read_sheet s) c.in-Ok.found c.in-Ok.ensures).annotations))).1

pub returns-in_default-2-clause-from_value : goal.returns-in_default-2-clause-from_value
returns-in_default-2-clause-from_value c =
    let s = c.args.s.now in
    sym (none_from s c.args.n (omega (arith, ap (λ (f : Fields). length f.annotations) (broken_given (read_sheet s) _ c.in_default.ensures).no_fields_lem))).0

pub returns-in_default-2-clause-size_value : goal.returns-in_default-2-clause-size_value
returns-in_default-2-clause-size_value c =
    let s = c.args.s.now in
    sym (none_from s c.args.n (omega (arith, ap (λ (f : Fields). length f.annotations) (broken_given (read_sheet s) _ c.in_default.ensures).no_fields_lem))).1
