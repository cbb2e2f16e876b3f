-- A fixed word is read rightly.
use Prim.Native.Nat.{ℕ}
use native.Mathlib.Decide.{ℕ_discrete}
use mathlib.Core.Path.{◌≡◌, refl, sym, subst}
use mathlib.Core.List.{List, [], ◌∷◌}
use lib.Dec.{leb, leb-suc-zero, leb-suc-suc}
use lib.ListN.{length}
use borrow.Author.Tests.{eq-eqb, ne_eqb}
use Rattle.text.specs.Code.{Code, Reading, stuck, Any, Right, Prefix, Some}
use Rattle.text.specs.Combine.{both, and_then, led, second, read_led, bump, fixed, common, read_fixed}
use Rattle.text.proofs.Lists.{nil_cons}
use Rattle.text.proofs.Steps.{After, step_right, stop_right, end_right}
use Rattle.text.proofs.Sequences.{both_right, both_prefix}
use Rattle.text.proofs.Renamed.{Same, same_right, same_prefix}
use Rattle.text.proofs.Tests.{bump_choose}

pub fixed_prefix : (k : List ℕ) → Prefix (fixed k)
fixed_prefix k v v' x x' h h' e = refl

fixed_some : (k : ℕ) (ks : List ℕ) → Some (fixed (k ∷ ks))
fixed_some k ks v h e = nil_cons (sym e)

fixed_after : (k : ℕ) (ks : List ℕ) → After (fixed (k ∷ ks)) k (fixed ks) (λ u. u)
fixed_after k ks = record { valid = λ w h. tt; text = λ w h. refl; back = λ v l h e. (tt, tt, (cc)) }

read_fixed_cons : (b : ℕ) (ks s : List ℕ) → read_fixed (b ∷ ks) (b ∷ s) ≡ bump (λ u. u) (read_fixed ks s)
read_fixed_cons b ks s =
    rw (eq-eqb b b refl, leb-suc-suc) (sym (bump_choose (λ (u : Unit {0}). u) (leb (length ks) (common ks s)) tt (length ks) (common ks s)))

read_fixed_off : (k b : ℕ) (ks s : List ℕ) → (b ≡ k → ⊥) → read_fixed (k ∷ ks) (b ∷ s) ≡ stuck 0
read_fixed_off k b ks s h = rw (ne_eqb b k h, leb-suc-zero)

pub fixed_right : (k s : List ℕ) → Right Any (fixed k) s (read_fixed k s)
fixed_right [] s = record { valid = tt; size = refl; whole = refl; rest = tt }
fixed_right (k ∷ ks) [] = rw leb-suc-zero (end_right Any (fixed (k ∷ ks)) (fixed_some k ks) tt tt)
fixed_right (k ∷ ks) (b ∷ s) = go (ℕ_discrete b k) (fixed_right ks s)
  where
    go : Dec (b ≡ k) → Right Any (fixed ks) s (read_fixed ks s) → Right Any (fixed (k ∷ ks)) (b ∷ s) (read_fixed (k ∷ ks) (b ∷ s))
    go (yes e) r =
        subst (λ (c : ℕ). Right Any (fixed (k ∷ ks)) (c ∷ s) (read_fixed (k ∷ ks) (c ∷ s))) (sym e)
        (rw (read_fixed_cons k ks s) (step_right Any (fixed (k ∷ ks)) (fixed_some k ks) k (fixed ks) (λ u. u) (fixed_after k ks) s (read_fixed ks s) r))
    go (no h) r =
        rw (read_fixed_off k b ks s h) (stop_right Any (fixed (k ∷ ks)) (fixed_some k ks) tt tt b (λ v l hv e. h (cc)) s)

-- ---- a fixed word before a code
module _ {X : Type 0} (k : List ℕ) (C : Code X) where
  led_same : Same (both (fixed k) (λ _. C)) (led k C) second
  led_same = record { valid = λ p h. h.1; text = λ p h. refl; back = λ v h. ((tt, v), (tt, h), refl) }

  pub led_right : (v₀ : X) → C.Valid v₀ → (f : List ℕ → Reading X) → ((s : List ℕ) → Right Any C s (f s)) → (s : List ℕ) → Right Any (led k C) s (read_led k f s)
  led_right v₀ h₀ f right s =
      same_right (both (fixed k) (λ _. C)) (led k C) second led_same Any s (and_then s (read_fixed k s) (λ _ r. f r))
      (both_right (fixed k) (λ _. C) Any (fixed_prefix k) (λ _ _. (v₀, h₀)) s (read_fixed k s) (λ _ r. f r) (fixed_right k s) (λ _ _ r. right r))

  pub led_prefix : Prefix C → Prefix (led k C)
  led_prefix pre = same_prefix (both (fixed k) (λ _. C)) (led k C) second led_same (both_prefix (fixed k) (λ _. C) (fixed_prefix k) (λ _. pre))
