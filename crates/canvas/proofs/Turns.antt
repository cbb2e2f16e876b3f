-- Placements laid one after the other: the canvas and the entries after the first i, and after all.
use Prim.Native.Nat.{ℕ, zero, suc, ◌+◌, ◌≤◌, ◌<◌}
use mathlib.Core.Path.{◌≡◌, refl, sym, ap, ◌∙◌}
use mathlib.Core.List.{List, [], ◌∷◌, map}
use native.Mathlib.Nat.{le_of_suc-le-suc, not-suc-le-zero}
use native.Mathlib.Numerals.{add-one}
use lib.ListN.{length, get_or, set}
use Rattle.plans.specs.declared.Placement.{Placement}
use Rattle.plans.specs.Canvas.{laid, entered, lay_told}
use Rattle.plans.proofs.Refusals.{tested, framed, fits, all_inside}
use Rattle.plans.proofs.Layers.{laid_long, laid_none, laid_more as laid_first}
use Rattle.canvas.specs.Patch.{Ready}

-- the first i elements of a list changed by f, the others as they were
module _ {A : Type 0} (f : A → A) where
  abbrev pub upto : ℕ → List A → List A
  upto zero ys = ys
  upto (suc i) [] = []
  upto (suc i) (y ∷ ys) = f y ∷ upto i ys

  pub upto_length : (i : ℕ) (ys : List A) → length (upto i ys) ≡ length ys
  upto_length zero ys = refl
  upto_length (suc i) [] = refl
  upto_length (suc i) (y ∷ ys) = ap suc (upto_length i ys)

  pub upto_at : (i : ℕ) (ys : List A) (d : A) → get_or (upto i ys) i d ≡ get_or ys i d
  upto_at zero ys d = refl
  upto_at (suc i) [] d = refl
  upto_at (suc i) (y ∷ ys) d = upto_at i ys d

  upto_suc : (i : ℕ) (ys : List A) (d : A) → i < length ys → set (upto i ys) i (f (get_or ys i d)) ≡ upto (suc i) ys
  upto_suc i [] d h = absurd (not-suc-le-zero h)
  upto_suc zero (y ∷ ys) d h = refl
  upto_suc (suc i) (y ∷ ys) d h = ap (λ (l : List A). f y ∷ l) (upto_suc i ys d (le_of_suc-le-suc h))

  pub upto_more : (i : ℕ) (ys : List A) (d : A) → i < length ys → set (upto i ys) i (f (get_or ys i d)) ≡ upto (i + 1) ys
  upto_more i ys d h = rw add-one (upto_suc i ys d h)

  pub upto_all : (i : ℕ) (ys : List A) → length ys ≤ i → upto i ys ≡ map f ys
  upto_all zero [] h = refl
  upto_all zero (y ∷ ys) h = absurd (not-suc-le-zero h)
  upto_all (suc i) [] h = refl
  upto_all (suc i) (y ∷ ys) h = ap (λ (l : List A). f y ∷ l) (upto_all i ys (le_of_suc-le-suc h))

module _ (frame : List ℕ) (width : ℕ) where
  -- the canvas after the first i placements
  abbrev pub after : ℕ → List Placement → List ℕ → List ℕ
  after zero ys c = c
  after (suc i) [] c = c
  after (suc i) (y ∷ ys) c = after i ys (laid frame width (y ∷ []) c)

  pub after_length : (i : ℕ) (ys : List Placement) (c : List ℕ) → length (after i ys c) ≡ length c
  after_length zero ys c = refl
  after_length (suc i) [] c = refl
  after_length (suc i) (y ∷ ys) c = after_length i ys (laid frame width (y ∷ []) c) ∙ laid_long frame width (y ∷ []) c

  after_suc : (i : ℕ) (ys : List Placement) (d : Placement) (c : List ℕ) → i < length ys → laid frame width (get_or ys i d ∷ []) (after i ys c) ≡ after (suc i) ys c
  after_suc i [] d c h = absurd (not-suc-le-zero h)
  after_suc zero (y ∷ ys) d c h = refl
  after_suc (suc i) (y ∷ ys) d c h = after_suc i ys d (laid frame width (y ∷ []) c) (le_of_suc-le-suc h)

  pub after_more : (i : ℕ) (ys : List Placement) (d : Placement) (c : List ℕ) → i < length ys → laid frame width (get_or ys i d ∷ []) (after i ys c) ≡ after (i + 1) ys c
  after_more i ys d c h = rw add-one (after_suc i ys d c h)

  pub after_all : (i : ℕ) (ys : List Placement) (c : List ℕ) → length ys ≤ i → after i ys c ≡ laid frame width ys c
  after_all zero [] c h = laid_none frame width c
  after_all zero (y ∷ ys) c h = absurd (not-suc-le-zero h)
  after_all (suc i) [] c h = laid_none frame width c
  after_all (suc i) (y ∷ ys) c h = after_all i ys (laid frame width (y ∷ []) c) (le_of_suc-le-suc h) ∙ laid_first frame width y ys c

-- an accepted call
module _ (frame : List ℕ) (ys : List Placement) (width height : ℕ) (cs : List ℕ) (accepts : (lay_told frame ys width height cs).number ≡ 0) where
  -- a placement has what laying it asks
  pub ready : (i : ℕ) (d : Placement) → i < length ys → Ready (length frame) (get_or ys i d) width height (length cs)
  ready i d l =
      record { framed = framed frame ys width height cs accepts; inside = sym (tested ys i d l) ∙ all_inside frame ys width height cs accepts i l; sized = fits frame ys width height cs accepts }

  -- the placement in turn is as it was lent, and with the turn one more is entered and laid
  module _ (i : ℕ) (d : Placement) {ps : List Placement} {now : List ℕ} (h : i < length ys) (e : ps ≡ upto (entered width height) i ys) (f : now ≡ after frame width i ys cs) where
    entry : get_or ps i d ≡ get_or ys i d
    entry = ap (λ (l : List Placement). get_or l i d) e ∙ upto_at (entered width height) i ys d

    pub ready_now : Ready (length frame) (get_or ps i d) width height (length now)
    ready_now = rw (entry, f, after_length frame width i ys cs) (ready i d h)

    pub entered_more : {p : Placement} → p ≡ entered width height (get_or ps i d) → set ps i p ≡ upto (entered width height) (i + 1) ys
    entered_more {p} g = ap (λ (l : List Placement). set l i p) e ∙ ap (set (upto (entered width height) i ys) i) (g ∙ ap (entered width height) entry) ∙ upto_more (entered width height) i ys d h

    pub laid_more : {new : List ℕ} → new ≡ laid frame width (get_or ps i d ∷ []) now → new ≡ after frame width (i + 1) ys cs
    laid_more g = g ∙ ap (λ (p : Placement). laid frame width (p ∷ []) now) entry ∙ ap (laid frame width (get_or ys i d ∷ [])) f ∙ after_more frame width i ys d cs h
