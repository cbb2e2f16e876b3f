-- `transpose::transposed`: past the answer k and the length suit each other and the room is long enough.
use Rattle.std.proofs.Common.{ℕ, length, subst, refl, arith}
use Rattle.promises.specs.Written.{Filled}
use Rattle.promises.proofs.Fills.{filled_written}
use Rattle.answer.proofs.Answers.{not_done}
use Rattle.transpose.specs.Chip.{transposed_byte}
use Rattle.transpose.proofs.Shapes.{shape, side_is, whole_banks}
use Rattle.transpose.proofs.Answers.{done_suits, room_told, room_kept}
use Rattle.transpose.proofs.transposed.Goals as goal

pub returns-in_err-done-clause-bytes : goal.returns-in_err-done-clause-bytes
returns-in_err-done-clause-bytes c = room_kept c.args.k c.args.lent.now c.args.room.now c.in_err-done.ensures (not_done _)

pub overflow_shl-side : goal.overflow_shl-side
overflow_shl-side c =
    let s = done_suits c.args.k c.args.lent.now c.args.room.now c.in_ok-done.ensures refl in
    omega (arith, (shape c.args.k (length c.args.lent.now) s.0).0)

pub banks-requires-clause-bounds : goal.banks-requires-clause-bounds
banks-requires-clause-bounds c =
    let n = length c.args.lent.now in
    let s = done_suits c.args.k c.args.lent.now c.args.room.now c.in_ok-done.ensures refl in
    (whole_banks c.args.k n (length c.args.room.now) _ s.0 s.1 (side_is c.args.k n s.0)).0

pub banks-requires-clause-banks : goal.banks-requires-clause-banks
banks-requires-clause-banks c =
    let n = length c.args.lent.now in
    let s = done_suits c.args.k c.args.lent.now c.args.room.now c.in_ok-done.ensures refl in
    (whole_banks c.args.k n (length c.args.room.now) _ s.0 s.1 (side_is c.args.k n s.0)).1

pub returns-clause-bytes : goal.returns-clause-bytes
returns-clause-bytes c =
    let n = length c.args.lent.now in
    let s = done_suits c.args.k c.args.lent.now c.args.room.now c.in_ok-done.ensures refl in
    let f = subst (λ (m : ℕ). Filled (transposed_byte m c.args.lent.now) 0 n c.args.room.now c.banks.new.room) (side_is c.args.k n s.0) c.banks.ensures in
    room_told c.args.k c.args.lent.now c.args.room.now c.in_ok-done.ensures refl (filled_written s.1 f)
