-- `hex_value`: each digit is below 16, so four fit.
use Rattle.std.proofs.Common.{◌<◌, ◌+◌, ◌*◌, get_or, drop, arith, subst, sym, ap, ◌∙◌}
use Rattle.text.specs.Hex.{hex_from}
use Rattle.text.proofs.Hexes.{all_at, hex_byte_lem, value_more, bound_more, bound_four}
use Rattle.text.specs.Hex.{hex_byte}
use Rattle.scan.proofs.numbers.hex_value.Goals as goal

-- the digit that is read is below 16
digit_lt : (c : goal.After-digit_of) → c.digit_of.result < 16
digit_lt c =
    let w = c.args.digits.now in
    let i = c.loop-b.b-index in
    subst (λ x. x < 16) (sym c.digit_of.ensures) (hex_byte_lem (get_or w i 0) (all_at hex_byte w i c.requires.all (omega arith))).0

pub overflow_mul-v : goal.overflow_mul-v
overflow_mul-v c = omega (arith, bound_four c.loop-b.v c.loop-b.b-index (omega arith) c.loop-b.invariant.small)

pub overflow_add-v : goal.overflow_add-v
overflow_add-v c = omega (arith, digit_lt c, bound_four c.loop-b.v c.loop-b.b-index (omega arith) c.loop-b.invariant.small)

pub loop-b-preserved : goal.loop-b-preserved
loop-b-preserved c =
    let l = c.loop-b in
    let w = c.args.digits.now in
    record {
      small = bound_more l.v c.digit_of.result l.b-index l.invariant.small (digit_lt c);
      goes_on = ap (λ d. hex_from (16 * l.v + d) (drop (l.b-index + 1) w)) c.digit_of.ensures ∙ sym (value_more w l.b-index l.v (omega arith)) ∙ l.invariant.goes_on;
    }
