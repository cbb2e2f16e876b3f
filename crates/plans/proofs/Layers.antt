-- Placements laid over each other: what is seen at each place of the canvas, and one placement first, then the others over it.
use Prim.Native.Nat.{ℕ, ◌/◌, ◌%◌, ◌<◌, zero-le}
use mathlib.Core.Path.{◌≡◌, sym, ap, ◌∙◌}
use mathlib.Core.List.{List, [], ◌∷◌}
use native.Mathlib.Omega.{arith}
use native.Mathlib.Nat.{le_refl}
use lib.ListN.{length, get_or}
use lib.Seq.{ext_get_or}
use Rattle.promises.proofs.Fills.{length_written, written_fills}
use Rattle.plans.specs.declared.Placement.{Placement}
use Rattle.plans.specs.Canvas.{seen, laid}

module _ (frame : List ℕ) (width : ℕ) where
  -- the canvas keeps its length, and what is seen at each place
  pub laid_long : (ps : List Placement) (c : List ℕ) → length (laid frame width ps c) ≡ length c
  laid_long ps c = length_written _ (length c) c

  pub laid_at : (ps : List Placement) (c : List ℕ) (k : ℕ) → k < length c → get_or (laid frame width ps c) k 0 ≡ seen frame ps (k % width) (k / width) (get_or c k 0)
  laid_at ps c k h = (written_fills (λ (j : ℕ). seen frame ps (j % width) (j / width) (get_or c j 0)) (length c) c (le_refl (length c))).is k zero-le h

  -- no placement changes nothing
  pub laid_none : (c : List ℕ) → c ≡ laid frame width [] c
  unfolding seen
  laid_none c = ext_get_or 0 c (laid frame width [] c) (sym (laid_long [] c)) (λ k h. sym (laid_at [] c k h))

  -- one placement first, then the others over it
  pub laid_more : (p : Placement) (ps : List Placement) (c : List ℕ) → laid frame width ps (laid frame width (p ∷ []) c) ≡ laid frame width (p ∷ ps) c
  unfolding seen
  laid_more p ps c =
      ext_get_or 0 (laid frame width ps (laid frame width (p ∷ []) c)) (laid frame width (p ∷ ps) c) (laid_long ps (laid frame width (p ∷ []) c) ∙ laid_long (p ∷ []) c ∙ sym (laid_long (p ∷ ps) c))
      (λ k h.
      let l : k < length c = omega (arith, laid_long ps (laid frame width (p ∷ []) c), laid_long (p ∷ []) c) in
      laid_at ps (laid frame width (p ∷ []) c) k (omega (arith, laid_long (p ∷ []) c)) ∙ ap (seen frame ps (k % width) (k / width)) (laid_at (p ∷ []) c k l) ∙ sym (laid_at (p ∷ ps) c k l))
