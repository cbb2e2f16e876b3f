-- `hex_line`: the digits after the key, and the number that they make.
use Rattle.std.proofs.Common.{◌+◌, ◌-◌, length, arith}
use Rattle.scan.proofs.Fields.{hex_digits, hex_read, hex_small}
use Rattle.scan.proofs.numbers.hex_line.Goals as goal

pub hex_value-requires-clause-all : goal.hex_value-requires-clause-all
hex_value-requires-clause-all c =
    let a = c.args in
    hex_digits a.key.now a.many a.rest.now c.in_ok-line.line c.in_ok-line.ensures.value (length a.key.now + a.many - length a.key.now) (omega arith)

pub returns-clause-value : goal.returns-clause-value
returns-clause-value c =
    let a = c.args in
    hex_read a.key.now a.many a.rest.now c.in_ok-line.line c.in_ok-line.ensures.value (length a.key.now + a.many - length a.key.now) (omega arith) c.hex_value.result c.hex_value.ensures

pub returns-clause-number_in_bounds : goal.returns-clause-number_in_bounds
returns-clause-number_in_bounds c =
    let a = c.args in
    hex_small a.key.now a.many a.rest.now c.in_ok-line.line c.in_ok-line.ensures.value (length a.key.now + a.many - length a.key.now) (omega arith) c.hex_value.result c.hex_value.ensures
