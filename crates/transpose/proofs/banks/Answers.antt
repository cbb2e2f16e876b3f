-- `banks`: a bank that begins lies within what is lent, and brings what its places were to get. After the last no other begins.
use Rattle.std.proofs.Common.{arith, ◌*◌}
use Rattle.promises.proofs.Fills.{upto}
use Rattle.transpose.proofs.Transposings.{bank_within, bank_next, bank_more}
use Rattle.transpose.proofs.banks.Goals as goal

pub slice_bounds-bank-end : goal.slice_bounds-bank-end
slice_bounds-bank-end c =
    let fits = bank_within (c.args.side * c.args.side) c.loop-base.base c.loop-base.invariant.0 c.requires.banks.0 c.loop-base-test.true in
    omega (arith, fits)

pub loop-base-preserved : goal.loop-base-preserved
loop-base-preserved c =
    let l = c.loop-base in
    let b = c.args.side * c.args.side in
    let begins = l.invariant.0 in
    let whole = c.requires.banks.0 in
    let more = bank_more l.base _ _ c.args.lent.now _ l.room c.bank.new.room c.requires.bounds.2 begins whole c.loop-base-test.true (omega arith) (omega arith) (omega arith) (omega arith) c.bank.ensures l.invariant.2 in
    (bank_next b l.base begins, bank_within b l.base begins whole c.loop-base-test.true, more)

pub returns-2 : goal.returns-2
returns-2 c =
    let l = c.loop-base in
    let begins = l.invariant.0 in
    let whole = c.requires.banks.0 in
    let fits = bank_within (c.args.side * c.args.side) l.base begins whole c.loop-base-test.true in
    upto (omega arith) (bank_more l.base _ _ c.args.lent.now _ l.room c.bank.new.room c.requires.bounds.2 begins whole c.loop-base-test.true (omega arith) (omega arith) (omega arith) (omega arith) c.bank.ensures l.invariant.2)
