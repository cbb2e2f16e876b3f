-- Laws of what laying tells and leaves: a canvas of its stated size, a rectangle in the frame, what an accepted call has, and what a call leaves.
use Prim.Native.Nat.{ℕ, zero, suc, ◌+◌, ◌-◌, ◌*◌, ◌≤◌, ◌<◌}
use mathlib.Core.Path.{◌≡◌, refl, sym, ◌∙◌}
use mathlib.Core.Bool.{true, false, not, ◌&&◌, ◌||◌}
use mathlib.Core.List.{List, [], ◌∷◌, map}
use native.Mathlib.Omega.{arith}
use native.Mathlib.Nat.{mul-le-mul_left, mul-le-mul_right, le_of_suc-le-suc, not-suc-le-zero, le_antisymm}
use borrow.Author.Tests.{ltb-true, ltb-false, leb-true, eqb-true, not-true, not-false, lt-ltb, le-ltb}
use lib.Dec.{eqb, ltb, leb}
use lib.ListN.{length, get_or}
use Rattle.promises.specs.Told.{Told, done}
use Rattle.promises.specs.Order.{Check, NoneHolds}
use Rattle.promises.proofs.Choices.{by_test, both_pass, neither}
use Rattle.promises.proofs.Fills.{leaves_done, leaves_refused}
use Rattle.promises.proofs.Firsts.{first_le, nowhere}
use Rattle.promises.proofs.Orders.{done_when, passing}
use Rattle.settings.specs.Refusals.{frame_length}
use Rattle.plans.specs.declared.Placement.{Placement}
use Rattle.plans.specs.Canvas.{entered, laid, outside, outside_at, first_outside, canvas_fits, lay_order, order_told, lay_told, entries_after, canvas_after}

-- a number that is not 0
not_zero : (n : ℕ) → eqb n 0 ≡ false → 0 < n
not_zero zero e = let z : ◌≡◌ {A = ℕ} 0 1 = cc in absurd (omega arith)
not_zero (suc n) e = omega arith

-- a canvas that has its stated size
pub record Sized (width height room : ℕ) : Type 0 where
  pub is : room ≡ width * height
  pub wide : 0 < width
  pub high : 0 < height
  pub small : room ≤ 65536

pub sized : (width height room : ℕ) → canvas_fits width height room ≡ true → Sized width height room
unfolding canvas_fits
sized width height room e =
    let a = both_pass (eqb room (width * height)) (not (eqb width 0) && (not (eqb height 0) && leb room 65536)) e in
    let b = both_pass (not (eqb width 0)) (not (eqb height 0) && leb room 65536) a.1 in
    let c = both_pass (not (eqb height 0)) (leb room 65536) b.1 in
    record { is = eqb-true room (width * height) a.0; wide = not_zero width (not-true _ b.0); high = not_zero height (not-true _ c.0); small = leb-true room 65536 c.1 }

-- its sides are no longer than it is large
pub short : {width height room : ℕ} → Sized width height room → (width ≤ 65536) × (height ≤ 65536)
short {width} {height} s = (omega (arith, mul-le-mul_left width s.high, s.is, s.small), omega (arith, mul-le-mul_right height s.wide, s.is, s.small))

pub too_wide : (width height room : ℕ) → 65536 < width → false ≡ canvas_fits width height room
too_wide width height room h = by_test (canvas_fits width height room) (λ e. absurd (omega (arith, (short (sized width height room e)).0))) sym

pub too_high : (width height room : ℕ) → 65536 < height → false ≡ canvas_fits width height room
too_high width height room h = by_test (canvas_fits width height room) (λ e. absurd (omega (arith, (short (sized width height room e)).1))) sym

-- a rectangle in the frame
pub record Inside (p : Placement) : Type 0 where
  pub broad : 0 < p.across
  pub tall : 0 < p.down
  pub right : p.left + p.across ≤ 256
  pub below : p.top + p.down ≤ 192

pub inside : (p : Placement) → outside p ≡ false → Inside p
unfolding outside
inside p e =
    let a = neither (eqb p.across 0 || eqb p.down 0) (ltb 256 (p.left + p.across) || ltb 192 (p.top + p.down)) e in
    let b = neither (eqb p.across 0) (eqb p.down 0) a.0 in
    let c = neither (ltb 256 (p.left + p.across)) (ltb 192 (p.top + p.down)) a.1 in
    record { broad = not_zero _ b.0; tall = not_zero _ b.1; right = ltb-false _ _ c.0; below = ltb-false _ _ c.1 }

-- one that begins outside is outside
pub far_right : (p : Placement) → 256 < p.left → true ≡ outside p
far_right p h = by_test (outside p) sym (λ e. absurd (omega (arith, (inside p e).right)))

pub far_below : (p : Placement) → 192 < p.top → true ≡ outside p
far_below p h = by_test (outside p) sym (λ e. absurd (omega (arith, (inside p e).below)))

-- and one that begins inside is tested by what is left of the frame, which fits where a sum might not
left_of : (m l n : ℕ) → l ≤ m → ltb (m - l) n ≡ ltb m (l + n)
left_of m l n h = by_test (ltb m (l + n)) (λ e. lt-ltb (m - l) n (omega (arith, ltb-true m (l + n) e)) ∙ sym e) (λ e. le-ltb (m - l) n (omega (arith, ltb-false m (l + n) e)) ∙ sym e)

pub outside_test : (p : Placement) → p.left ≤ 256 → p.top ≤ 192
    → (eqb p.across 0 || eqb p.down 0) || (ltb (256 - p.left) p.across || ltb (192 - p.top) p.down) ≡ outside p
unfolding outside
outside_test p h k = rw (left_of 256 p.left p.across h, left_of 192 p.top p.down k)

-- a placement of the list is tested as the list says
pub tested : (ps : List Placement) (i : ℕ) (d : Placement) → i < length ps → outside_at ps i ≡ outside (get_or ps i d)
tested [] i d h = absurd (not-suc-le-zero h)
tested (p ∷ ps) zero d h = refl
tested (p ∷ ps) (suc i) d h = tested ps i d (le_of_suc-le-suc h)

-- an accepted call: the frame is whole, the canvas has its stated size, there are at most 32 placements, and none is outside
module _ (frame : List ℕ) (ps : List Placement) (width height : ℕ) (canvas : List ℕ) (accepts : (lay_told frame ps width height canvas).number ≡ 0) where
  abbrev order : List Check
  order = lay_order (length frame) width height (length canvas) (length ps) (first_outside ps)

  none : NoneHolds order
  unfolding order_told
  none = (done_when (done 0) refl order tt).0 accepts

  pub framed : frame_length ≤ length frame
  framed = ltb-false _ _ (passing (8 ∷ []) order none).0

  pub fits : canvas_fits width height (length canvas) ≡ true
  fits = not-false _ (passing (18 ∷ []) order none).0

  pub few : length ps ≤ 32
  few = ltb-false _ _ (passing (19 ∷ []) order none).0

  pub all_inside : (i : ℕ) → i < length ps → outside_at ps i ≡ false
  all_inside = nowhere (outside_at ps) (length ps) (le_antisymm (first_le (outside_at ps) (length ps)) (ltb-false _ _ (passing (20 ∷ []) order none).0))

-- what is left after an accepted call, and after a refused one
module _ (frame : List ℕ) (ps : List Placement) (width height : ℕ) (canvas : List ℕ) where
  abbrev tells : Told
  tells = lay_told frame ps width height canvas

  pub entries_done : tells.number ≡ 0 → entries_after frame ps width height canvas ≡ map (entered width height) ps
  unfolding entries_after
  entries_done e = leaves_done tells _ _ e

  pub entries_refused : (tells.number ≡ 0 → ⊥) → entries_after frame ps width height canvas ≡ ps
  unfolding entries_after
  entries_refused h = leaves_refused tells _ ps h

  pub canvas_done : tells.number ≡ 0 → canvas_after frame ps width height canvas ≡ laid frame width ps canvas
  unfolding canvas_after
  canvas_done e = leaves_done tells _ _ e

  pub canvas_refused : (tells.number ≡ 0 → ⊥) → canvas_after frame ps width height canvas ≡ canvas
  unfolding canvas_after
  canvas_refused h = leaves_refused tells _ canvas h
