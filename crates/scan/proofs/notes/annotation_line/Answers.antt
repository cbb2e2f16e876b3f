-- `annotation_line`: the key, whether it is free, and the value after it.
use Rattle.std.proofs.Common.{◌≡◌, ◌∙◌, true, false, Ok, Err, length, take, rules}
use Rattle.text.specs.Combine.{read_closed}
use Rattle.grammar.specs.Sheet.{value_byte}
use Rattle.scan.specs.Steps.{free_key}
use Rattle.scan.proofs.Readings.{passes, sticks}
use Rattle.scan.proofs.Annotated.{key_taken, value_sticks, value_passes}
use Rattle.scan.proofs.notes.annotation_line.Goals as goal

pub returns-then-not-is_free-clause-value : goal.returns-then-not-is_free-clause-value
returns-then-not-is_free-clause-value c =
    let r = c.in_ok-key.key in
    let f : free_key (take r.size c.args.rest.now) ≡ false = search rules in
    key_taken c.args.rest.now r c.in_ok-key.ensures.value f

pub returns-in_err-value-clause-value : goal.returns-in_err-value-clause-value
returns-in_err-value-clause-value c =
    let s = c.args.rest.now in
    let r = c.in_ok-key.key in
    let f : free_key (take r.size s) ≡ true = search rules in
    let place = c.in_err-value.field-0.0 in
    let q : c.from_residual-in_err-value.result ≡ Err place = search rules in
    let e : Err place ≡ c.behind.result = search rules in
    q ∙ value_sticks s r c.in_ok-key.ensures.value f place (sticks length (read_closed value_byte 0 120 10) r.size s c.closed_run-2.result c.closed_run-2.ensures.value place (e ∙ c.behind.ensures))

pub returns-clause-value : goal.returns-clause-value
returns-clause-value c =
    let s = c.args.rest.now in
    let r = c.in_ok-key.key in
    let f : free_key (take r.size s) ≡ true = search rules in
    let v = c.in_ok-value.value in
    let e : Ok v ≡ c.behind.result = search rules in
    value_passes s r c.in_ok-key.ensures.value f v (passes length (read_closed value_byte 0 120 10) r.size s c.closed_run-2.result c.closed_run-2.ensures.value v (e ∙ c.behind.ensures))
