-- `annotation_start`: each turn passes a line of the sheet.
use Rattle.std.proofs.Common.{◌≡◌, ◌+◌, ◌∙◌, Ok, length, refl, sym, ap, subst, arith}
use Rattle.std.specs.Result.{IsOk}
use Rattle.scan.specs.declared.Found.{Found}
use Rattle.grammar.specs.Sheet.{line}
use Rattle.grammar.proofs.Parts.{LineIn, line_in}
use Rattle.scan.proofs.Annotated.{line_read}
use Rattle.scan.proofs.notes.annotation_start.Goals as goal

-- the line that this turn passes
here : (c : goal.In-loop) → LineIn c.args.s.now c.loop.counter
here c = line_in c.args.s.now c.loop.counter c.requires.s_value (omega (arith, c.requires.from_value.1))

pub slice_bounds-annotation_line-count : goal.slice_bounds-annotation_line-count
slice_bounds-annotation_line-count c = omega (arith, (here c).within, c.loop.invariant.1)

pub slice_bounds-annotation_line-start : goal.slice_bounds-annotation_line-start
slice_bounds-annotation_line-start c = omega (arith, (here c).within, c.loop.invariant.1)

pub unwrap-line-requires : goal.unwrap-line-requires
unwrap-line-requires c =
    let l = c.loop in
    let e = line_read c.args.s.now l.counter l.at (line_in c.args.s.now l.counter c.requires.s_value (omega (arith, c.requires.from_value.1))) l.invariant.1 c.annotation_line.result c.annotation_line.ensures.value in
    subst IsOk (sym e) refl

pub loop-preserved : goal.loop-preserved
loop-preserved c =
    let l = c.loop in
    let h = line_in c.args.s.now l.counter c.requires.s_value (omega (arith, c.requires.from_value.1)) in
    let e = line_read c.args.s.now l.counter l.at h l.invariant.1 c.annotation_line.result c.annotation_line.ensures.value in
    let w : Ok c.unwrap-line.result ≡ Ok (record { value = tt {0}; size = length (line h.value) + 1 }) = sym c.unwrap-line.ensures ∙ e in
    let n : c.unwrap-line.result ≡ record { value = tt {0}; size = length (line h.value) + 1 } = cc in
    (omega arith, omega (arith, ap (λ (x : Found (Unit {0})). x.size) n, l.invariant.1, h.next))
