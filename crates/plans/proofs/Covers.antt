-- Laws of what is seen on the canvas: the last placement that covers a pixel, what lay there where none does, and that only what lands on the canvas is felt.
use Prim.Native.Nat.{ℕ, ◌+◌, ◌*◌, ◌/◌, ◌%◌, ◌≤◌, ◌<◌}
use mathlib.Core.Path.{◌≡◌, refl, sym, ap, ap₂, ◌∙◌}
use mathlib.Core.Bool.{Bool, true, false}
use mathlib.Core.List.{List, [], ◌∷◌, ◌++◌, map}
use mathlib.Core.Logic.{⊎_elim}
use native.Mathlib.Nat.{mod-lt, div-lt_iff_lt-mul, mul_comm}
use native.Mathlib.Omega.{arith}
use lib.Dec.{eqb}
use lib.IntN.{pos, nat_abs, ◌-ℤ◌}
use lib.ListN.{length, get_or, get_or-eq_default}
use Rattle.promises.specs.Choose.{choose}
use Rattle.promises.specs.Told.{Told}
use Rattle.promises.specs.Count.{how_many}
use Rattle.promises.proofs.Tables.{Each}
use Rattle.promises.specs.Written.{leaves}
use Rattle.promises.proofs.Choices.{of_both, by_test, both_pass}
use Rattle.promises.proofs.Counts.{by_rows}
use Rattle.promises.proofs.Fills.{lt_or_ge, written_by, leaves_long}
use Rattle.plans.specs.declared.Placement.{Placement}
use Rattle.plans.specs.Canvas.{within, lands, area, pixels_on, with_counts, entered, covers, pixel_at, pixel_of, seen, laid, canvas_fits, lay_told, entries_after, canvas_after}
use Rattle.plans.proofs.Refusals.{sized}
use Rattle.plans.proofs.Layers.{laid_long, laid_at}
use Rattle.plans.proofs.Sides.{covered_count, covered_lands}
use Rattle.plans.proofs.Pixels.{sum_is_area, on_is, covers_is, none_amid}

-- a placement's pixels on the canvas are as many as the canvas has pixels that it covers
pub covered_pixels : (width height : ℕ) (p : Placement) → how_many (λ (k : ℕ). covers p (k % width) (k / width)) (width * height) ≡ pixels_on width height p
covered_pixels width height p =
    by_rows (λ (c : ℕ). within (pos c -ℤ p.x) p.across) (λ (r : ℕ). within (pos r -ℤ p.y) p.down) width height
    ∙ ap₂ ◌*◌ (covered_count p.x p.across width) (covered_count p.y p.down height) ∙ sym (on_is width height p)

-- one that has none covers no pixel
pub covers_none : (width height : ℕ) (p : Placement) → pixels_on width height p ≡ 0 → (c r : ℕ) → c < width → r < height → covers p c r ≡ false
covers_none width height p e c r h l = covers_is p width height c r h l ∙ none_amid _ _ _ _ c r (sym (on_is width height p) ∙ e)

-- ---- at column c, line r
module _ (frame : List ℕ) (c r : ℕ) where
  join : (xs ys : List Placement) (under : ℕ) → seen frame (xs ++ ys) c r under ≡ seen frame ys c r (seen frame xs c r under)
  unfolding seen
  join [] ys under = refl
  join (x ∷ xs) ys under = join xs ys (choose (covers x c r) (pixel_of frame x c r) under)

  -- what no placement covers stays
  pub stays : (ps : List Placement) (under : ℕ) → Each (λ (p : Placement). covers p c r ≡ false) ps → seen frame ps c r under ≡ under
  unfolding seen
  stays [] under e = refl
  stays (p ∷ ps) under e = ap (λ (b : Bool). seen frame ps c r (choose b (pixel_of frame p c r) under)) e.0 ∙ stays ps under e.1

  -- the last placement that covers it is seen
  pub last : (xs : List Placement) (p : Placement) (ys : List Placement) (under : ℕ) → covers p c r ≡ true → Each (λ (q : Placement). covers q c r ≡ false) ys
      → seen frame (xs ++ (p ∷ ys)) c r under ≡ pixel_of frame p c r
  unfolding seen
  last xs p ys under e f =
      join xs (p ∷ ys) under ∙ ap (λ (b : Bool). seen frame ys c r (choose b (pixel_of frame p c r) (seen frame xs c r under))) e ∙ stays ys (pixel_of frame p c r) f

  -- one that does not cover it may be left out
  pub without : (xs : List Placement) (p : Placement) (ys : List Placement) (under : ℕ) → covers p c r ≡ false → seen frame (xs ++ (p ∷ ys)) c r under ≡ seen frame (xs ++ ys) c r under
  unfolding seen
  without xs p ys under e =
      join xs (p ∷ ys) under ∙ ap (λ (b : Bool). seen frame ys c r (choose b (pixel_of frame p c r) (seen frame xs c r under))) e ∙ sym (join xs ys under)

-- two frames are alike in what of a placement lands on the canvas
abbrev pub LandAlike : ℕ → ℕ → List ℕ → List ℕ → Placement → Type 0
LandAlike width height frame frame' p = (u v : ℕ) → u < p.across → v < p.down → lands width height p u v ≡ true → pixel_at frame p u v ≡ pixel_at frame' p u v

module _ (width height : ℕ) (frame frame' : List ℕ) (c r : ℕ) (h : c < width) (l : r < height) where
  pixel_alike : (p : Placement) → LandAlike width height frame frame' p → covers p c r ≡ true → pixel_of frame p c r ≡ pixel_of frame' p c r
  pixel_alike p alike e =
      let b = both_pass (within (pos c -ℤ p.x) p.across) (within (pos r -ℤ p.y) p.down) e in
      let u = covered_lands p.x p.across width c h b.0 in
      let v = covered_lands p.y p.down height r l b.1 in
      alike (nat_abs (pos c -ℤ p.x)) (nat_abs (pos r -ℤ p.y)) u.0 v.0 (rw (u.1, v.1))

  pub seen_alike : (ps : List Placement) (under : ℕ) → Each (LandAlike width height frame frame') ps → seen frame ps c r under ≡ seen frame' ps c r under
  unfolding seen
  seen_alike [] under e = refl
  seen_alike (p ∷ ps) under e =
      seen_alike ps (choose (covers p c r) (pixel_of frame p c r) under) e.1
      ∙ ap (seen frame' ps c r) (by_test (covers p c r) (λ t. simp t (pixel_alike p e.0 t)) (λ t. simp t))

-- ---- on the whole canvas, of its stated size
module _ (width height : ℕ) (canvas : List ℕ) (fits : canvas_fits width height (length canvas) ≡ true) where
  -- pixel k lies at a column and a line of the canvas
  placed : (k : ℕ) → k < length canvas → (k % width < width) × (k / width < height)
  placed k h = let s = sized width height (length canvas) fits in (mod-lt k s.wide, (div-lt_iff_lt-mul s.wide).1 (omega (arith, s.is, mul_comm width height)))

  -- only the pixels of the frame that land on it are felt
  pub laid_alike : (frame frame' : List ℕ) (ps : List Placement) → Each (LandAlike width height frame frame') ps → laid frame width ps canvas ≡ laid frame' width ps canvas
  laid_alike frame frame' ps e = written_by (length canvas) canvas (λ k h. let b = placed k h in seen_alike width height frame frame' (k % width) (k / width) b.0 b.1 ps (get_or canvas k 0) e)

  -- and a placement that is wholly off it not at all
  pub laid_without : (frame : List ℕ) (xs : List Placement) (p : Placement) (ys : List Placement) → pixels_on width height p ≡ 0 → laid frame width (xs ++ (p ∷ ys)) canvas ≡ laid frame width (xs ++ ys) canvas
  laid_without frame xs p ys e =
      written_by (length canvas) canvas (λ k h. let b = placed k h in without frame (k % width) (k / width) xs p ys (get_or canvas k 0) (covers_none width height p e (k % width) (k / width) b.0 b.1))

-- ---- what a call spares, whatever it tells
bare : (width height : ℕ) (ps : List Placement) → map (λ (p : Placement). with_counts p 0 0) (map (entered width height) ps) ≡ map (λ (p : Placement). with_counts p 0 0) ps
unfolding entered
bare width height [] = refl
bare width height (p ∷ ps) = ap (λ (l : List Placement). with_counts p 0 0 ∷ l) (bare width height ps)

module _ (frame : List ℕ) (ps : List Placement) (width height : ℕ) (canvas : List ℕ) where
  abbrev tells : Told
  tells = lay_told frame ps width height canvas

  -- of an entry all but its counts
  pub fields_stay : map (λ (p : Placement). with_counts p 0 0) (entries_after frame ps width height canvas) ≡ map (λ (p : Placement). with_counts p 0 0) ps
  unfolding entries_after leaves
  fields_stay = of_both (λ (l : List Placement). map (λ (p : Placement). with_counts p 0 0) l ≡ map (λ (p : Placement). with_counts p 0 0) ps) (eqb tells.number 0) (bare width height ps) refl

  -- the canvas's length, and each pixel that no placement covers
  pub canvas_long : length (canvas_after frame ps width height canvas) ≡ length canvas
  unfolding canvas_after
  canvas_long = leaves_long tells (laid frame width ps canvas) canvas (laid_long frame width ps canvas)

  pub uncovered_stays : (k : ℕ) → Each (λ (p : Placement). covers p (k % width) (k / width) ≡ false) ps → get_or (canvas_after frame ps width height canvas) k 0 ≡ get_or canvas k 0
  unfolding canvas_after leaves
  uncovered_stays k e = of_both (λ (l : List ℕ). get_or l k 0 ≡ get_or canvas k 0) (eqb tells.number 0) (⊎_elim inside past (lt_or_ge k (length canvas))) refl
    where
      inside : k < length canvas → get_or (laid frame width ps canvas) k 0 ≡ get_or canvas k 0
      inside h = laid_at frame width ps canvas k h ∙ stays frame (k % width) (k / width) ps (get_or canvas k 0) e

      past : length canvas ≤ k → get_or (laid frame width ps canvas) k 0 ≡ get_or canvas k 0
      past h = get_or-eq_default (laid frame width ps canvas) 0 (omega (arith, laid_long frame width ps canvas)) ∙ sym (get_or-eq_default canvas 0 h)

-- ---- what each entry receives
pub each_entry : (P : Placement → Type 0) (width height : ℕ) → ((p : Placement) → P (entered width height p)) → (ps : List Placement) → Each P (map (entered width height) ps)
each_entry P width height f [] = tt
each_entry P width height f (p ∷ ps) = (f p, each_entry P width height f ps)

pub entry_sum : (width height : ℕ) (p : Placement) → (entered width height p).on + (entered width height p).cut ≡ area (entered width height p)
unfolding entered
entry_sum width height p = sum_is_area width height p

pub entry_on : (width height : ℕ) (p : Placement) → (entered width height p).on ≡ how_many (λ (k : ℕ). covers (entered width height p) (k % width) (k / width)) (width * height)
unfolding entered
entry_on width height p = sym (covered_pixels width height p)
