-- CR 4. "Give both directions, bank by bank into a second buffer [..]. Show that no place is lost or used twice and that doing it twice
-- gives the image back, once over k."
use Prim.Native.Nat.{ℕ, ◌<◌, ◌≤◌}
use mathlib.Core.Path.{◌≡◌, sym, ap, ◌∙◌}
use mathlib.Core.Bool.{true}
use mathlib.Core.List.{List}
use contract.Lifetimes.{Lfts}
use lib.ListN.{length, get_or, take}
use Rattle.promises.specs.Told.{Told}
use Rattle.answer.specs.Told.{Answer, told_of}
use Rattle.transpose.specs.Chip.{chip_fits, chip_told, chip_after, chip_place}
use Rattle.transpose.proofs.Twice.{keeps, inverse, byte_from, byte_to, done_again, twice}
use Rattle.claims.proofs.Calls.{Lent, Room, ToImage, ToChip}

-- no place is lost: each place of what is lent is that of an address in it, which is where the map leads from the place
pub none_lost : (k n : ℕ) → chip_fits k n ≡ true → (p : ℕ) → p < n → (chip_place k p < n) × (chip_place k (chip_place k p) ≡ p)
none_lost k n h p l = (keeps k n h p l, inverse k n h p)

-- and none is used twice
pub none_twice : (k n : ℕ) → chip_fits k n ≡ true → (a b : ℕ) → chip_place k a ≡ chip_place k b → a ≡ b
none_twice k n h a b e = sym (inverse k n h a) ∙ ap (chip_place k) e ∙ inverse k n h b

-- "the byte of address a in its bank lies at (a mod 2^k) × 2^k + floor(a / 2^k)": done, the image has at each address the byte that lies at its place
pub image_byte : (κs : Lfts 2) (k : ℕ) (chip : Lent) (image : Room) (z : Answer) (out : List ℕ) → ToImage κs k chip image z out → (told_of z).number ≡ 0
    → (a : ℕ) → a < length chip.now → get_or out a 0 ≡ get_or chip.now (chip_place k a) 0
image_byte κs k chip image z out p d a l = ap (λ (x : List ℕ). get_or x a 0) p.1 ∙ byte_from k chip.now image.now (ap (λ (t : Told). t.number) (sym p.0) ∙ d) a l

-- and the chip has at the place of each address the image's byte
pub chip_byte : (κs : Lfts 2) (k : ℕ) (image : Lent) (chip : Room) (z : Answer) (out : List ℕ) → ToChip κs k image chip z out → (told_of z).number ≡ 0
    → (a : ℕ) → a < length image.now → get_or out (chip_place k a) 0 ≡ get_or image.now a 0
chip_byte κs k image chip z out p d a l = ap (λ (x : List ℕ). get_or x (chip_place k a) 0) p.1 ∙ byte_to k image.now chip.now (ap (λ (t : Told). t.number) (sym p.0) ∙ d) a l

-- doing it twice: two calls, the second of what the first has written and with room enough. The second is then done too
module _ (k : ℕ) (lent : Lent) (room : Room) (lent' : Lent) (room' : Room) (z z' : Answer) (out out' : List ℕ) where
  again : (told_of z ≡ chip_told k (length lent.now) (length room.now)) × (out ≡ chip_after k lent.now room.now)
      → (told_of z' ≡ chip_told k (length lent'.now) (length room'.now)) × (out' ≡ chip_after k lent'.now room'.now)
      → (told_of z).number ≡ 0 → lent'.now ≡ take (length lent.now) out → length lent.now ≤ length room'.now
      → ((told_of z').number ≡ 0) × (take (length lent.now) out' ≡ lent.now)
  again p q d e long =
      let first = ap (λ (t : Told). t.number) (sym p.0) ∙ d in
      let taken = e ∙ ap (take (length lent.now)) p.1 in
      let second = done_again k lent.now room.now first lent'.now room'.now taken long in
      (ap (λ (t : Told). t.number) q.0 ∙ second, ap (take (length lent.now)) q.1 ∙ twice k lent.now room.now first lent'.now room'.now taken second)

  -- chips to an image and back
  pub chip_again : (κs κs' : Lfts 2) → ToImage κs k lent room z out → ToChip κs' k lent' room' z' out'
      → (told_of z).number ≡ 0 → lent'.now ≡ take (length lent.now) out → length lent.now ≤ length room'.now → ((told_of z').number ≡ 0) × (take (length lent.now) out' ≡ lent.now)
  chip_again κs κs' p q = again p q

  -- an image to the chips and back
  pub image_again : (κs κs' : Lfts 2) → ToChip κs k lent room z out → ToImage κs' k lent' room' z' out'
      → (told_of z).number ≡ 0 → lent'.now ≡ take (length lent.now) out → length lent.now ≤ length room'.now → ((told_of z').number ≡ 0) × (take (length lent.now) out' ≡ lent.now)
  image_again κs κs' p q = again p q

  -- the same direction twice
  pub to_image_twice : (κs κs' : Lfts 2) → ToImage κs k lent room z out → ToImage κs' k lent' room' z' out'
      → (told_of z).number ≡ 0 → lent'.now ≡ take (length lent.now) out → length lent.now ≤ length room'.now → ((told_of z').number ≡ 0) × (take (length lent.now) out' ≡ lent.now)
  to_image_twice κs κs' p q = again p q

  pub to_chip_twice : (κs κs' : Lfts 2) → ToChip κs k lent room z out → ToChip κs' k lent' room' z' out'
      → (told_of z).number ≡ 0 → lent'.now ≡ take (length lent.now) out → length lent.now ≤ length room'.now → ((told_of z').number ≡ 0) × (take (length lent.now) out' ≡ lent.now)
  to_chip_twice κs κs' p q = again p q
