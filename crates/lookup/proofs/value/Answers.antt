-- `lookup::value` meets its contract: what is held lies in its sheet, and is returned as a part of it.
use Rattle.std.proofs.Common.{◌+◌, ◌-◌, ◌≡◌, true, false, refl, sym, arith, rules}
use Rattle.lookup.specs.Lookup.{no_piece}
use Rattle.lookup.proofs.Holders.{inside, promised}
use Rattle.lookup.proofs.value.Goals as goal

pub overflow_add-result : goal.overflow_add-result
overflow_add-result c = omega (arith, inside c.args.«record» c.args.cover c.args.key.now c.in-Ok.piece (sym c.in-Ok.ensures.1) true c.if-piece.true)

pub slice_bounds-result-end : goal.slice_bounds-result-end
slice_bounds-result-end c = inside c.args.«record» c.args.cover c.args.key.now c.in-Ok.piece (sym c.in-Ok.ensures.1) true c.if-piece.true

pub overflow_add-result-in-Ok-2 : goal.overflow_add-result-in-Ok-2
overflow_add-result-in-Ok-2 c = omega (arith, inside c.args.«record» c.args.cover c.args.key.now c.in-Ok.piece (sym c.in-Ok.ensures.1) false c.if-piece.false)

pub slice_bounds-result-end-in-Ok-2 : goal.slice_bounds-result-end-in-Ok-2
slice_bounds-result-end-in-Ok-2 c = inside c.args.«record» c.args.cover c.args.key.now c.in-Ok.piece (sym c.in-Ok.ensures.1) false c.if-piece.false

pub returns-in-Ok : goal.returns-in-Ok
returns-in-Ok c =
    let p = c.in-Ok.piece in
    let z : p.from + p.size - p.from ≡ p.size = omega arith in
    promised c.args.«record» c.args.cover c.args.key.now p (sym c.in-Ok.ensures.1) true c.if-piece.true (p.from + p.size - p.from) _ z (record { bytes = refl; block = refl; offset = refl })

pub returns-in-Ok-2 : goal.returns-in-Ok-2
returns-in-Ok-2 c =
    let p = c.in-Ok.piece in
    let z : p.from + p.size - p.from ≡ p.size = omega arith in
    promised c.args.«record» c.args.cover c.args.key.now p (sym c.in-Ok.ensures.1) false c.if-piece.false (p.from + p.size - p.from) _ z (record { bytes = refl; block = refl; offset = refl })

pub returns-in-Err : goal.returns-in-Err
returns-in-Err c = promised c.args.«record» c.args.cover c.args.key.now no_piece (sym c.in-Err.ensures.1) false refl 0 _ refl (record { bytes = search rules; block = search rules; offset = search rules })
