-- `write_lines`: each turn reads one line more, and its address is written.
use Rattle.std.proofs.Common.{ℕ, List, ◌≡◌, ◌∙◌, Ok, Err, refl, arith, rules}
use Rattle.std.proofs.lemmas.List.{length-set, length-take-le, length-replicate}
use lib.ListN.{replicate}
use Rattle.grammar.specs.Read.{read_at}
use Rattle.scan.specs.Steps.{itself}
use Rattle.scan.proofs.Readings.{passes, sticks, ends_within}
use Rattle.scan.proofs.Written.{filled_none, filled_more, filled_stuck, filled_all}
use Rattle.scan.proofs.numbers.write_lines.Goals as goal

pub loop-write-init : goal.loop-write-init
loop-write-init c =
    let zeros : List ℕ = replicate 64 0 in
    record { in_range = omega arith; long = length-take-le c.args.count zeros (omega (arith, length-replicate {A = ℕ} 64 0)); filled = filled_none read_at c.args.count c.args.rest.now 64 (omega arith) }

pub returns-in_err-line-clause-value : goal.returns-in_err-line-clause-value
returns-in_err-line-clause-value c =
    let l = c.loop-write in
    let s = c.args.rest.now in
    let place = c.in_err-line.field-0.0 in
    let q : c.from_residual.result ≡ Err place = search rules in
    let e : Err place ≡ c.behind.result = search rules in
    q ∙ filled_stuck read_at c.args.count s l.write-items l.write-index l.size l.invariant.filled (omega arith) place (sticks itself read_at l.size s c.hex_line.result c.hex_line.ensures.value place (e ∙ c.behind.ensures))

pub loop-write-preserved : goal.loop-write-preserved
loop-write-preserved c =
    let l = c.loop-write in
    let s = c.args.rest.now in
    let line = c.in_ok-line.line in
    let e : Ok line ≡ c.behind.result = search rules in
    record {
      in_range = ends_within l.size s c.hex_line.result line l.invariant.in_range c.hex_line.ensures.size_in_bounds (e ∙ c.behind.ensures);
      long = length-set l.write-items l.write-index line.value ∙ l.invariant.long;
      filled = filled_more read_at c.args.count s l.write-items l.write-index l.size l.invariant.filled (omega arith) line (passes itself read_at l.size s c.hex_line.result c.hex_line.ensures.value line (e ∙ c.behind.ensures));
    }

pub returns-clause-value : goal.returns-clause-value
returns-clause-value c =
    let l = c.loop-write in
    filled_all read_at c.args.count c.args.rest.now l.write-items l.write-index l.size l.invariant.filled (omega arith) (omega arith) (omega arith) _ refl
