-- Laws of `how_many` and `somewhere`: only the places below the bound are asked; counts are joined, and over rows and columns multiplied.
use Prim.Native.Nat.{ℕ, zero, suc, ◌+◌, ◌*◌, ◌/◌, ◌%◌, ◌<◌}
use mathlib.Core.Path.{◌≡◌, refl, sym, ap, ap₂, ◌∙◌}
use mathlib.Core.Bool.{Bool, true, false, not, ◌&&◌, ◌||◌}
use mathlib.Core.Logic.{⊎_elim}
use native.Mathlib.Nat.{le_of_suc-le-suc, eq-or-lt_of_le, add-zero, add-suc, mul-zero, mul-suc, mul_comm}
use native.Mathlib.Omega.{arith}
use lib.Arith.{digits_div, digits_mod}
use Rattle.promises.specs.Choose.{choose}
use Rattle.promises.specs.Count.{how_many, somewhere}
use Rattle.promises.proofs.Choices.{and_false}

-- tests that agree below n hold equally often
pub same_many : (p q : ℕ → Bool) (n : ℕ) → ((k : ℕ) → k < n → p k ≡ q k) → how_many p n ≡ how_many q n
unfolding how_many
same_many p q zero e = refl
same_many p q (suc n) e = rw (same_many p q n (λ k l. e k (omega arith)), e n (omega arith))

-- a test and its opposite hold at all places together
pub or_not : (p : ℕ → Bool) (n : ℕ) → how_many p n + how_many (λ (k : ℕ). not (p k)) n ≡ n
unfolding how_many
or_not p zero = refl
or_not p (suc n) = omega (arith, or_not p n, one_of (p n))
  where
    one_of : (b : Bool) → choose b 1 0 + choose (not b) 1 0 ≡ 1
    one_of true = refl
    one_of false = refl

-- the places below m, and n more
pub many_more : (p : ℕ → Bool) (m n : ℕ) → how_many p (m + n) ≡ how_many p m + how_many (λ (k : ℕ). p (m + k)) n
unfolding how_many
many_more p m zero = ap (how_many p) (add-zero m) ∙ sym (add-zero (how_many p m))
many_more p m (suc n) = rw (add-suc m n) (omega (arith, many_more p m n))

-- places in rows of a, d of them: a test of the place in the row and one of the row hold together as often as the product says
module _ (s t : ℕ → Bool) (a : ℕ) where
  none : (n : ℕ) → how_many (λ (k : ℕ). false) n ≡ 0
  unfolding how_many
  none zero = refl
  none (suc n) = rw (none n)

  in_row : (b : Bool) → how_many (λ (u : ℕ). s u && b) a ≡ choose b (how_many s a) 0
  in_row true = same_many (λ (u : ℕ). s u && true) s a (λ u h. and_true (s u))
    where
      and_true : (x : Bool) → x && true ≡ x
      and_true true = refl
      and_true false = refl
  in_row false = same_many (λ (u : ℕ). s u && false) (λ (u : ℕ). false) a (λ u h. and_false (s u)) ∙ none a

  row_by : (m c : ℕ) (b : Bool) → m * c + choose b m 0 ≡ m * (c + choose b 1 0)
  row_by m c true = omega (arith, mul-suc m c)
  row_by m c false = add-zero (m * c) ∙ ap (λ (x : ℕ). m * x) (sym (add-zero c))

  abbrev both : ℕ → Bool
  both k = s (k % a) && t (k / a)

  row_is : (d u : ℕ) → u < a → both (a * d + u) ≡ s u && t d
  row_is d u h = rw (mul_comm a d, digits_mod d h, digits_div d h)

  pub by_rows : (d : ℕ) → how_many both (a * d) ≡ how_many s a * how_many t d
  unfolding how_many
  by_rows zero = ap (how_many both) (mul-zero a) ∙ sym (mul-zero (how_many s a))
  by_rows (suc d) =
      ap (how_many both) (mul-suc a d) ∙ many_more both (a * d) a
      ∙ ap₂ ◌+◌ (by_rows d) (same_many (λ (u : ℕ). both (a * d + u)) (λ (u : ℕ). s u && t d) a (row_is d) ∙ in_row (t d))
      ∙ row_by (how_many s a) (how_many t d) (t d)

-- a test that fails everywhere holds nowhere
pub fails : (p : ℕ → Bool) (n : ℕ) → ((k : ℕ) → k < n → p k ≡ false) → somewhere p n ≡ false
unfolding somewhere
fails p zero e = refl
fails p (suc n) e = ap₂ ◌||◌ (fails p n (λ k l. e k (omega arith))) (e n (omega arith))

-- and one that holds at a place holds somewhere
or_true : (a : Bool) → a || true ≡ true
or_true true = refl
or_true false = refl

pub holds : (p : ℕ → Bool) (n k : ℕ) → k < n → p k ≡ true → somewhere p n ≡ true
unfolding somewhere
holds p zero k h e = absurd (omega arith)
holds p (suc n) k h e =
    ⊎_elim
    (λ (q : k ≡ n). rw (← q, e) (or_true (somewhere p k)))
    (λ (l : k < n). rw (holds p n k l e))
    (eq-or-lt_of_le (le_of_suc-le-suc h))
