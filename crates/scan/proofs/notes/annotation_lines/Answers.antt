-- `annotation_lines`: each turn passes one line more.
use Rattle.std.proofs.Common.{◌≡◌, ◌≤◌, ◌∙◌, Ok, Err, length, drop, arith, rules}
use Rattle.grammar.specs.Read.{read_annotation}
use Rattle.scan.specs.Steps.{whole}
use Rattle.scan.proofs.Readings.{Passes, passes, sticks, ends_within}
use Rattle.scan.proofs.Annotated.{notes_none, moves, notes_more, notes_stick, notes_full, notes_all}
use Rattle.scan.proofs.notes.annotation_lines.Goals as goal

-- the line that is read
line_read : (c : goal.In_ok-line) → Passes whole (read_annotation (drop c.loop-size.size c.args.rest.now)) c.loop-size.size c.in_ok-line.line
line_read c =
    let line = c.in_ok-line.line in
    let e : Ok line ≡ c.behind.result = search rules in
    passes whole read_annotation c.loop-size.size c.args.rest.now c.annotation_line.result c.annotation_line.ensures.value line (e ∙ c.behind.ensures)

ends : (c : goal.In_ok-line) → c.in_ok-line.line.size ≤ length c.args.rest.now
ends c =
    let line = c.in_ok-line.line in
    let e : Ok line ≡ c.behind.result = search rules in
    ends_within c.loop-size.size c.args.rest.now c.annotation_line.result line (omega arith) c.annotation_line.ensures.size_in_bounds (e ∙ c.behind.ensures)

pub loop-size-init : goal.loop-size-init
loop-size-init c = record { in_range = omega arith; few = omega arith; passed = notes_none c.args.rest.now }

pub returns-then-many-eq200-clause-value : goal.returns-then-many-eq200-clause-value
returns-then-many-eq200-clause-value c =
    let l = c.loop-size in
    notes_full c.args.rest.now l.many l.size l.invariant.passed (omega arith) (omega arith)

pub returns-in_err-line-clause-value : goal.returns-in_err-line-clause-value
returns-in_err-line-clause-value c =
    let l = c.loop-size in
    let s = c.args.rest.now in
    let place = c.in_err-line.field-0.0 in
    let q : c.from_residual.result ≡ Err place = search rules in
    let e : Err place ≡ c.behind.result = search rules in
    q ∙ notes_stick s l.many l.size l.invariant.passed (omega arith) (omega arith) place (sticks whole read_annotation l.size s c.annotation_line.result c.annotation_line.ensures.value place (e ∙ c.behind.ensures))

pub loop-size-smaller : goal.loop-size-smaller
loop-size-smaller c = omega (arith, ends c, moves c.args.rest.now c.loop-size.size c.in_ok-line.line (line_read c))

pub loop-size-preserved : goal.loop-size-preserved
loop-size-preserved c =
    let l = c.loop-size in
    record {
      in_range = ends c;
      few = omega arith;
      passed = notes_more c.args.rest.now l.many l.size l.invariant.passed (omega arith) (omega arith) c.in_ok-line.line (line_read c);
    }

pub returns-clause-value : goal.returns-clause-value
returns-clause-value c =
    let l = c.loop-size in
    notes_all c.args.rest.now l.many l.size l.invariant.passed (omega arith)
