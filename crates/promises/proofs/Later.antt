-- An order of refusals in two parts: what it says where the first part refuses, and where that passes.
use Prim.Native.Nat.{◌<◌}
use mathlib.Core.Path.{◌≡◌, refl, sym, ap, ◌∙◌}
use mathlib.Core.Bool.{Bool, true, false}
use mathlib.Core.List.{List, [], ◌∷◌, ◌++◌}
use native.Mathlib.Omega.{arith}
use borrow.Author.Tests.{eqb-true, eqb-false}
use lib.Dec.{T, eqb, ltb, ltb→lt}
use Rattle.promises.specs.Choose.{choose}
use Rattle.promises.specs.Told.{Told}
use Rattle.promises.specs.Order.{Check, first_of, are_refusals}
use Rattle.promises.proofs.Choices.{by_test}
use Rattle.promises.proofs.Orders.{both}

refuses_by : (b : Bool) (t x y : Told) → ((choose b t x).number ≡ 0 → ⊥) → ((x.number ≡ 0 → ⊥) → y ≡ x) → choose b t y ≡ choose b t x
refuses_by true t x y h e = refl
refuses_by false t x y h e = e h

passes_by : (b : Bool) (t x y z : Told) → 0 < t.number → (choose b t x).number ≡ 0 → (x.number ≡ 0 → y ≡ z) → choose b t y ≡ z
passes_by true t x y z l h e = absurd (omega arith)
passes_by false t x y z l h e = e h

module _ (o : Told) (done : o.number ≡ 0) where
  -- where a condition of the first part holds, what stands behind it does not matter
  pub first_refuses : (cs ds : List Check) → ((first_of cs o).number ≡ 0 → ⊥) → first_of (cs ++ ds) o ≡ first_of cs o
  first_refuses [] ds h = absurd (h done)
  first_refuses (c ∷ cs) ds h = refuses_by c.when c.says (first_of cs o) (first_of (cs ++ ds) o) h (first_refuses cs ds)

  -- where none does, the second part says what is told
  pub first_passes : (cs ds : List Check) → T (are_refusals cs) → (first_of cs o).number ≡ 0 → first_of (cs ++ ds) o ≡ first_of ds o
  first_passes [] ds r h = refl
  first_passes (c ∷ cs) ds r h =
      let s = both (ltb 0 c.says.number) (are_refusals cs) r in
      passes_by c.when c.says (first_of cs o) (first_of (cs ++ ds) o) (first_of ds o) (ltb→lt 0 c.says.number s.0) h (first_passes cs ds s.1)

  -- and where the whole is done, the first part is
  pub first_done : (cs ds : List Check) → (first_of (cs ++ ds) o).number ≡ 0 → (first_of cs o).number ≡ 0
  first_done cs ds e =
      by_test (eqb (first_of cs o).number 0) (λ t. eqb-true _ _ t)
      (λ f. let h : (first_of cs o).number ≡ 0 → ⊥ = eqb-false _ _ f in absurd (h (ap (λ (t : Told). t.number) (sym (first_refuses cs ds h)) ∙ e)))
