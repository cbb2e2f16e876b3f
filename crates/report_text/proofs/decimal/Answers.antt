-- `report_text::decimal` meets its contract: digit by digit, the last one first.
use Rattle.std.proofs.Common.{arith}
use lib.ListN.{length-set}
use Rattle.report_text.proofs.Decimals.{none_found, one_more, last_one}
use Rattle.report_text.proofs.decimal.Goals as goal

pub loop-rest-init : goal.loop-rest-init
loop-rest-init c = none_found c.args.n c.ranges.n.fits

pub overflow_sub-from : goal.overflow_sub-from
overflow_sub-from c = omega (arith, c.loop-rest.invariant.some)

pub bounds-bytes-from : goal.bounds-bytes-from
bounds-bytes-from c = omega (arith, c.loop-rest.invariant.some, c.loop-rest.invariant.within)

pub loop-rest-preserved : goal.loop-rest-preserved
loop-rest-preserved c = one_more _ c.loop-rest-test.true c.loop-rest.invariant

pub overflow_sub-from-2 : goal.overflow_sub-from-2
overflow_sub-from-2 c = omega (arith, c.loop-rest.invariant.some)

pub bounds-bytes-from-2 : goal.bounds-bytes-from-2
bounds-bytes-from-2 c = omega (arith, c.loop-rest.invariant.some, c.loop-rest.invariant.within)

pub returns : goal.returns
returns c = (last_one _ c.loop-rest-test.false c.loop-rest.invariant, omega (arith, c.loop-rest.invariant.within), simp length-set c.loop-rest.invariant.long)
