-- Which byte of the strip draws a pixel, and which pixels a byte draws.
use Prim.Native.Nat.{ℕ, ◌+◌, ◌*◌, ◌/◌, ◌%◌, ◌<◌}
use mathlib.Core.Path.{◌≡◌, ap}
use mathlib.Core.Bool.{true, false}
use mathlib.Core.List.{List}
use mathlib.Core.Logic.{⊎_elim}
use native.Mathlib.Omega.{arith}
use lib.ListN.{get_or}
use Rattle.settings.specs.declared.Look.{Look}
use Rattle.settings.specs.Fields.{graphics}
use Rattle.settings.specs.Modes.{width}
use Rattle.settings.proofs.Widths.{width_cases}
use Rattle.settings.specs.Refusals.{frame_length}
use Rattle.pixel.specs.Dots.{black, one_bit}
use Rattle.pixel.specs.Graphics.{graphic}
use Rattle.pixel.specs.Text.{lit, ink}
use Rattle.pixel.specs.Picture.{pixel, breadth, owner, dot, picture}

module _ (l : Look) where
  -- a frame has 256 / W pixels for each byte of the strip, in its order
  pub owner_div : (k : ℕ) → owner l k ≡ k / breadth l
  unfolding owner
  owner_div k = ⊎_elim (λ w. rw w (omega arith)) (λ w. rw w (omega arith)) (width_cases l)

  pub dot_mod : (k : ℕ) → dot l k ≡ k % breadth l
  unfolding dot
  dot_mod k = ⊎_elim (λ w. rw w (omega arith)) (λ w. rw w (omega arith)) (width_cases l)

  -- a pixel is drawn by one of the 192 × W bytes
  pub owner_below : (k : ℕ) → k < frame_length → owner l k < 192 * width l
  unfolding owner
  owner_below k = ⊎_elim (λ w. rw w (λ h. omega arith)) (λ w. rw w (λ h. omega arith)) (width_cases l)

  pub dot_below : (k : ℕ) → dot l k < breadth l
  unfolding dot
  dot_below k = ⊎_elim (λ w. rw w (omega arith)) (λ w. rw w (omega arith)) (width_cases l)

  -- and dot t of byte i is drawn at i × (256 / W) + t
  pub drawn_by : (i t : ℕ) → t < breadth l → owner l (i * breadth l + t) ≡ i
  unfolding owner
  drawn_by i t = ⊎_elim (λ w. rw w (λ h. omega arith)) (λ w. rw w (λ h. omega arith)) (width_cases l)

  pub drawn_as : (i t : ℕ) → t < breadth l → dot l (i * breadth l + t) ≡ t
  unfolding dot
  drawn_as i t = ⊎_elim (λ w. rw w (λ h. omega arith)) (λ w. rw w (λ h. omega arith)) (width_cases l)

  pub drawn_within : (i t : ℕ) → i < 192 * width l → t < breadth l → i * breadth l + t < frame_length
  drawn_within i t = ⊎_elim (λ w. rw w (λ h m. omega arith)) (λ w. rw w (λ h m. omega arith)) (width_cases l)

  pub drawn_at : (k : ℕ) → owner l k * breadth l + dot l k ≡ k
  unfolding owner dot
  drawn_at k = ⊎_elim (λ w. rw w (omega arith)) (λ w. rw w (omega arith)) (width_cases l)

-- a pixel depends on the look, the font, its line and the strip's byte that draws it, and on nothing else
pub depends : (l : Look) (font S R : List ℕ) (k : ℕ) → get_or S (owner l k) 0 ≡ get_or R (owner l k) 0 → picture l font S k ≡ picture l font R k
unfolding picture
depends l font S R k e = ap (λ (b : ℕ). pixel l font b (k / 256) (dot l k)) e

-- in graphics it does not depend on the font, nor on the line
pub in_graphics : (l : Look) (font S : List ℕ) (k : ℕ) → graphics l ≡ true → picture l font S k ≡ graphic l (get_or S (owner l k) 0) (dot l k)
unfolding picture pixel
in_graphics l font S k g = simp g

-- and in text it is a lit dot's ink, or black
pub in_text : (l : Look) (font S : List ℕ) (k : ℕ) → graphics l ≡ false
    → picture l font S k ≡ one_bit (ink l (get_or S (owner l k) 0)) black (lit l font (get_or S (owner l k) 0) (k / 256 % 12)) (dot l k)
unfolding picture pixel
in_text l font S k g = simp g
