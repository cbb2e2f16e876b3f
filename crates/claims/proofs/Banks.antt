-- CR 7, banks that were never fitted: on a board of one bank no accepted call shows a place of memory as if it were two.
use Prim.Native.Nat.{ℕ, ◌*◌, ◌%◌, ◌<◌}
use mathlib.Core.Path.{◌≡◌, refl, sym, ◌∙◌}
use mathlib.Core.List.{List}
use native.Mathlib.Omega.{arith}
use contract.Lifetimes.{Lfts}
use lib.ListN.{length}
use Rattle.answer.specs.Told.{Answer}
use Rattle.settings.specs.declared.Settings.{Settings}
use Rattle.settings.specs.declared.Rule.TheVariants.{One}
use Rattle.settings.specs.Fields.{settings_of, bits}
use Rattle.settings.specs.Modes.{width}
use Rattle.settings.specs.Banks.{bank_bit, bank_size, missing}
use Rattle.settings.specs.Refusals.{strip_length}
use Rattle.strip.specs.Fetch.{fetch_address, fetch_place, first_missing}
use Rattle.strip.proofs.Places.{place_below, place_decoded, place_modulo, first_bank}
use Rattle.strip.proofs.Banks.{found, at_line_start}
use Rattle.strip.proofs.Fetches.{Fits, accepted}
use Rattle.screen.proofs.Shows.{fetched}
use Rattle.claims.proofs.Calls.{Lent, Room, Fetches, Shows}
use Rattle.claims.proofs.Demand2.{Done}

-- the bits of an address that a board decodes: its bank's and those below
abbrev pub decoded : Settings → ℕ → ℕ
decoded s a = a % (2 * bank_size s)

-- what holds of every fetch from an image of this length
pub record WellPlaced (s : Settings) (size : ℕ) : Type 0 where
  -- its place is one of the image
  pub in_image : (k : ℕ) → k < strip_length s.look → fetch_place s k < size
  -- two fetches of one place differ in no bit that the board decodes
  pub not_twice : (j k : ℕ) → j < strip_length s.look → k < strip_length s.look → fetch_place s j ≡ fetch_place s k → decoded s (fetch_address s j) ≡ decoded s (fetch_address s k)
  -- on a board of one bank all are from the first
  pub one_bank : size ≡ bank_size s → (k : ℕ) → k < strip_length s.look → bits (fetch_address s k) (bank_bit s) 1 ≡ 0
  -- the place is what document 01's rule gave, so what was issued under it and is still accepted stays as it is
  pub as_before : (k : ℕ) → k < strip_length s.look → fetch_place s k ≡ fetch_address s k % size

fits_well : (s : Settings) (size n : ℕ) → Fits s size n → WellPlaced s size
fits_well s size n f = record {
  in_image = λ k h. place_below s size f.image_suits (fetch_address s k) (f.banks k h);
  not_twice = λ j k h l e. sym (place_decoded s (fetch_address s j)) ∙ e ∙ place_decoded s (fetch_address s k);
  one_bank = λ e k h. first_bank s (fetch_address s k) (rw e at (f.banks k h));
  as_before = λ k h. place_modulo s size f.image_suits (fetch_address s k) (f.banks k h);
}

-- Fetching, where it is done,
pub fetched_well : (κs : Lfts 2) (s : Settings) (image : Lent) (strip : Room) (z : Answer) (out : List ℕ) → Fetches κs s image strip z out → Done z → WellPlaced s (length image.now)
fetched_well κs s image strip z out p d = fits_well s (length image.now) (length strip.now) (accepted s image.now strip.now (rw p.call.0 at d))

-- and both at once.
pub shown_well : (κs : Lfts 4) (s : Settings) (image font : Lent) (strip frame : Room) (z : Answer) (bytes pixels : List ℕ) → Shows κs s image font strip frame z bytes pixels → Done z → WellPlaced s (length image.now)
shown_well κs s image font strip frame z bytes pixels p d =
    fits_well s (length image.now) (length strip.now) (accepted s image.now strip.now (fetched s image.now font.now strip.now frame.now (rw p.0 at d)))

-- The strip index that 17 tells is always that of a line's first byte.
pub seventeen_begins_a_line : (s : Settings) (size : ℕ) → first_missing s size % width s.look ≡ 0
seventeen_begins_a_line = at_line_start

-- For instance: RG6 with SAM mode 6 from $0E00, on a board with the one bank of 4,096. $1000 lies 512 bytes on.
pub across : first_missing (settings_of 0x003E 0x2E One) 4096 ≡ 512
unfolding missing width
across = sym (found (settings_of 0x003E 0x2E One) 4096 refl refl (omega arith))
