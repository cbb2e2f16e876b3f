-- Laws of what transposing answers and leaves.
use Prim.Native.Nat.{ℕ, ◌^◌, ◌≤◌}
use mathlib.Core.Path.{◌≡◌, refl, sym, ◌∙◌}
use mathlib.Core.Bool.{true}
use mathlib.Core.List.{List, [], ◌∷◌}
use borrow.Author.Tests.{ltb-false, not-false}
use lib.ListN.{length}
use Rattle.promises.specs.Told.{Told, done}
use Rattle.promises.specs.Written.{written}
use Rattle.promises.proofs.Orders.{done_when, passing}
use Rattle.promises.proofs.Fills.{leaves_done, leaves_refused}
use Rattle.transpose.specs.Chip.{chip_fits, chip_order, chip_told, chip_after, transposed_byte}

-- an accepted call: k and the length suit each other, and the room is long enough
pub accepted : (k lent room : ℕ) → (chip_told k lent room).number ≡ 0 → (chip_fits k lent ≡ true) × (lent ≤ room)
unfolding chip_told
accepted k lent room e =
    let n = passing (13 ∷ 14 ∷ []) (chip_order k lent room) ((done_when (done 0) refl (chip_order k lent room) tt).0 e) in
    (not-false _ n.0, ltb-false _ _ n.1.0)

module _ (k : ℕ) (lent room : List ℕ) where
  -- the room after an accepted call, and after a refused one
  pub room_done : (chip_told k (length lent) (length room)).number ≡ 0 → chip_after k lent room ≡ written (transposed_byte (2 ^ k) lent) (length lent) room
  unfolding chip_after
  room_done e = leaves_done (chip_told k (length lent) (length room)) _ room e

  pub room_refused : ((chip_told k (length lent) (length room)).number ≡ 0 → ⊥) → chip_after k lent room ≡ room
  unfolding chip_after
  room_refused h = leaves_refused (chip_told k (length lent) (length room)) _ room h

  -- the same by what is told: what fits where it is done, and the room
  module _ {t : Told} (as_told : t ≡ chip_told k (length lent) (length room)) where
    pub done_suits : t.number ≡ 0 → (chip_fits k (length lent) ≡ true) × (length lent ≤ length room)
    done_suits z = accepted k (length lent) (length room) (rw as_told at z)

    pub room_kept : (t.number ≡ 0 → ⊥) → room ≡ chip_after k lent room
    room_kept h = sym (room_refused (λ z. h (rw as_told z)))

    pub room_told : {new : List ℕ} → t.number ≡ 0 → new ≡ written (transposed_byte (2 ^ k) lent) (length lent) room → new ≡ chip_after k lent room
    room_told z e = e ∙ sym (room_done (rw as_told at z))
