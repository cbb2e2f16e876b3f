-- Keys that an annotation may have: every run of key bytes that is not too long begins one.
use Prim.Native.Nat.{ℕ, ◌≤◌, zero-le, suc-le-suc}
use native.Mathlib.Omega.{arith}
use mathlib.Core.Path.{◌≡◌, refl, sym, subst}
use mathlib.Core.Logic.{⊎_elim}
use mathlib.Core.List.{List, [], ◌∷◌, ◌++◌, append-nil}
use mathlib.Core.Bool.{Bool, true, false, ◌||◌}
use borrow.Author.Tests.{eqb-true, eq-eqb, not-false}
use lib.Dec.{eqb}
use lib.ListN.{length, length-append}
use Rattle.promises.proofs.Choices.{either}
use Rattle.text.specs.Combine.{All, closed}
use Rattle.text.proofs.Tests.{clash, and_split}
use Rattle.grammar.specs.Sheet.{key_byte, deed_word, pins_word, writes_word, at_word, same, free}

pub same_eq : (k l : List ℕ) → same k l ≡ true → k ≡ l
same_eq [] [] h = refl
same_eq [] (c ∷ l) h = absurd (clash h refl)
same_eq (b ∷ k) [] h = absurd (clash h refl)
same_eq (b ∷ k) (c ∷ l) h =
    let s = and_split (eqb b c) (same k l) h in
    let x : b ≡ c = eqb-true b c s.0 in
    let y : k ≡ l = same_eq k l s.1 in
    cc

pub same_refl : (k : List ℕ) → same k k ≡ true
same_refl [] = refl
same_refl (b ∷ k) = rw (eq-eqb b b refl) (same_refl k)

abbrev Filled : List ℕ → Type 0
Filled u = (x : List ℕ) × (closed key_byte 1 16 61).Valid (u ++ x) × (free (u ++ x) ≡ true)

hyphen : (w : List ℕ) → All key_byte (w ++ (45 ∷ [])) → length w ≤ 15 → free (w ++ (45 ∷ [])) ≡ true → Filled w
hyphen w h k f = (45 ∷ [], (h, omega (arith, length-append w (45 ∷ [])), omega (arith, length-append w (45 ∷ []))), f)

taken : (u : List ℕ) → free u ≡ false → Filled u
taken u f =
    ⊎_elim (λ (h : same u deed_word ≡ true). at deed_word h (hyphen deed_word (refl, (refl, (refl, (refl, (refl, tt))))) (omega arith) refl))
    (λ (h : (same u pins_word || (same u writes_word || same u at_word)) ≡ true).
    ⊎_elim (λ (h : same u pins_word ≡ true). at pins_word h (hyphen pins_word (refl, (refl, (refl, (refl, (refl, tt))))) (omega arith) refl))
    (λ (h : (same u writes_word || same u at_word) ≡ true).
    ⊎_elim (λ (h : same u writes_word ≡ true). at writes_word h (hyphen writes_word (refl, (refl, (refl, (refl, (refl, (refl, (refl, tt))))))) (omega arith) refl))
    (λ (h : same u at_word ≡ true). at at_word h (hyphen at_word (refl, (refl, (refl, tt))) (omega arith) refl))
    (either (same u writes_word) _ h))
    (either (same u pins_word) _ h))
    (either (same u deed_word) _ (not-false _ f))
  where
    at : (w : List ℕ) → same u w ≡ true → Filled w → Filled u
    at w h f = subst Filled (sym (same_eq u w h)) f

as_is : (u : List ℕ) → (closed key_byte 1 16 61).Valid u → free u ≡ true → Filled u
as_is u h f = ([], subst (λ (l : List ℕ). (closed key_byte 1 16 61).Valid l) (sym (append-nil u)) h, subst (λ (l : List ℕ). free l ≡ true) (sym (append-nil u)) f)

pub fill : (u : List ℕ) → All key_byte u → length u ≤ 16 → Filled u
fill [] h k = hyphen [] (refl, tt) zero-le refl
fill (b ∷ u) h k = go (free (b ∷ u)) refl
  where
    go : (t : Bool) → free (b ∷ u) ≡ t → Filled (b ∷ u)
    go true f = as_is (b ∷ u) (h, suc-le-suc zero-le, k) f
    go false f = taken (b ∷ u) f
