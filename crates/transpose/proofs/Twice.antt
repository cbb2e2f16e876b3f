-- The bytes after one transposing and after two: each byte by its address, and doing it twice gives the bytes back.
use Prim.Native.Nat.{ℕ, ◌*◌, ◌/◌, ◌^◌, ◌<◌, ◌≤◌}
use mathlib.Core.Path.{◌≡◌, refl, sym, ap, ◌∙◌}
use mathlib.Core.Bool.{true}
use mathlib.Core.List.{List}
use native.Mathlib.Omega.{arith}
use borrow.Author.Tests.{le-ltb}
use lib.ListN.{length, get_or, take}
use lib.Seq.{length-take-le, get_or-take, ext_get_or}
use Rattle.promises.specs.Told.{done}
use Rattle.promises.proofs.Orders.{done_when}
use Rattle.promises.proofs.Fills.{written_fills, length_written}
use Rattle.transpose.specs.Chip.{chip_fits, chip_order, chip_told, chip_after, chip_place, transposed_byte}
use Rattle.transpose.proofs.Places.{whole_times, own_inverse, stays_in}
use Rattle.transpose.proofs.Shapes.{shape}
use Rattle.transpose.proofs.Answers.{accepted, room_done}

-- no place is lost or used twice: the map keeps within what is lent, and is its own inverse
pub keeps : (k n : ℕ) → chip_fits k n ≡ true → (a : ℕ) → a < n → chip_place k a < n
keeps k n h a l =
    let f = shape k n h in
    let b = 2 ^ k * 2 ^ k in
    let e = whole_times n b f.4 in
    rw (sym e) at (stays_in (2 ^ k) f.2 (n / b) (rw e at l))

pub inverse : (k n : ℕ) → chip_fits k n ≡ true → (a : ℕ) → chip_place k (chip_place k a) ≡ a
inverse k n h a = own_inverse (2 ^ k) (shape k n h).2 a

module _ (k : ℕ) (lent room : List ℕ) (d : (chip_told k (length lent) (length room)).number ≡ 0) where
  -- each byte by where it came from
  pub byte_from : (a : ℕ) → a < length lent → get_or (chip_after k lent room) a 0 ≡ get_or lent (chip_place k a) 0
  byte_from a l = rw (room_done k lent room d) ((written_fills (transposed_byte (2 ^ k) lent) (length lent) room (accepted k (length lent) (length room) d).1).is a (omega arith) l)

  -- and by where it went
  pub byte_to : (a : ℕ) → a < length lent → get_or (chip_after k lent room) (chip_place k a) 0 ≡ get_or lent a 0
  byte_to a l =
      let f = (accepted k (length lent) (length room) d).0 in
      byte_from (chip_place k a) (keeps k (length lent) f a l) ∙ ap (λ (p : ℕ). get_or lent p 0) (inverse k (length lent) f a)

  after_length : length (chip_after k lent room) ≡ length room
  after_length = rw (room_done k lent room d) (length_written (transposed_byte (2 ^ k) lent) (length lent) room)

-- what was transposed has the length of what was lent, so transposing it once more is done where there is room
pub transposed_long : (k : ℕ) (lent room : List ℕ) → (chip_told k (length lent) (length room)).number ≡ 0 → length (take (length lent) (chip_after k lent room)) ≡ length lent
transposed_long k lent room d = length-take-le (length lent) (chip_after k lent room) (omega (arith, (accepted k (length lent) (length room) d).1, after_length k lent room d))

pub done_again : (k : ℕ) (lent room : List ℕ) → (chip_told k (length lent) (length room)).number ≡ 0
    → (lent' room' : List ℕ) → lent' ≡ take (length lent) (chip_after k lent room) → length lent ≤ length room' → (chip_told k (length lent') (length room')).number ≡ 0
unfolding chip_told
done_again k lent room d lent' room' e long =
    let same : length lent' ≡ length lent = ap (λ (x : List ℕ). length x) e ∙ transposed_long k lent room d in
    (done_when (done 0) refl (chip_order k (length lent') (length room')) tt).1
    (rw (same, (accepted k (length lent) (length room) d).0), (le-ltb (length room') (length lent') (omega arith), tt))

-- what was transposed, transposed once more, is what was lent
pub twice : (k : ℕ) (lent room : List ℕ) → (chip_told k (length lent) (length room)).number ≡ 0
    → (lent' room' : List ℕ) → lent' ≡ take (length lent) (chip_after k lent room) → (chip_told k (length lent') (length room')).number ≡ 0
    → take (length lent) (chip_after k lent' room') ≡ lent
twice k lent room d lent' room' e d' =
    let n = length lent in
    let out = chip_after k lent room in
    let out' = chip_after k lent' room' in
    let f = accepted k n (length room) d in
    let long : length lent' ≡ n = ap length e ∙ transposed_long k lent room d in
    let long' : length (take n out') ≡ n = length-take-le n out' (omega (arith, long, (accepted k (length lent') (length room') d').1, after_length k lent' room' d')) in
    ext_get_or 0 (take n out') lent long' (λ a l.
    let below : a < n = omega (arith, l, long') in
    get_or-take n out' a 0 below
    ∙ byte_from k lent' room' d' a (omega (arith, below, long))
    ∙ ap (λ (x : List ℕ). get_or x (chip_place k a) 0) e
    ∙ get_or-take n out (chip_place k a) 0 (keeps k n f.0 a below)
    ∙ byte_to k lent room d a below)
