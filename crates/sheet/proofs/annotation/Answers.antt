-- `annotation`: an annotation line as a part.
use Rattle.std.proofs.Common.{◌≡◌, ◌+◌, ◌-◌, length, refl, sym, arith}
use Rattle.promises.proofs.Parts.{part_move}
use Rattle.grammar.specs.Given.{fields_in, annotation_from, line_at}
use Rattle.grammar.proofs.Parts.{line_within}
use Rattle.sheet.proofs.annotation.Goals as goal

pub overflow_add-end : goal.overflow_add-end
overflow_add-end c =
    let e = c.annotation-found.ensures in
    omega (arith, line_within c.args.sheet.now c.args.n, e.from_value, e.size_value)

pub slice_bounds-result-end : goal.slice_bounds-result-end
slice_bounds-result-end c =
    let e = c.annotation-found.ensures in
    omega (arith, line_within c.args.sheet.now c.args.n, e.from_value, e.size_value)

pub returns : goal.returns
returns c =
    let a = c.args in
    let r = c.annotation-found in
    let n : length (line_at (fields_in a.sheet.now).annotations a.n) ≡ r.result.from + r.result.size - r.result.from = omega (arith, r.ensures.size_value) in
    part_move r.result.from (r.result.from + r.result.size - r.result.from) (annotation_from a.sheet.now a.n) (length (line_at (fields_in a.sheet.now).annotations a.n)) (sym r.ensures.from_value) n (record { bytes = refl; block = refl; offset = refl })
