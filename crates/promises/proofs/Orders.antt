-- The law of an order of refusals: each number exactly when its condition holds and none earlier does, and done exactly when none does.
use Prim.Native.Nat.{ℕ, ◌<◌}
use mathlib.Core.Path.{◌≡◌, refl, ap, ◌∙◌}
use mathlib.Core.Bool.{Bool, true, false, not, ◌&&◌, ◌||◌}
use mathlib.Core.List.{List, [], ◌∷◌, map}
use mathlib.Core.Logic.{◌⊎◌, inl, inr, ⊎_elim, ◌↔◌}
use native.Mathlib.Omega.{arith}
use borrow.Author.Tests.{eq-eqb, ne_eqb, eqb-false}
use lib.Dec.{T, eqb, ltb, ltb→lt}
use Rattle.promises.specs.Choose.{choose}
use Rattle.promises.specs.Told.{Told}
use Rattle.promises.specs.Order.{Check, after, first_of, NoneHolds, HoldsFirst, are_refusals}
use Rattle.promises.proofs.Choices.{of_both}

-- both halves of a test that passes
pub both : (a b : Bool) → T (a && b) → T a × T b
both true true t = (tt, tt)
both true false t = absurd t
both false b t = absurd t

module _ (other : Told) (done : other.number ≡ 0) where
  given_by : (n : ℕ) → 0 < n → (b : Bool) (t : Told) (cs : List Check) → (((first_of cs other).number ≡ n) ↔ HoldsFirst n cs)
      → ((choose b t (first_of cs other)).number ≡ n) ↔ (((t.number ≡ n) × (b ≡ true)) ⊎ ((b ≡ false) × HoldsFirst n cs))
  given_by n h true t cs e = (λ p. inl (p, refl), ⊎_elim (λ p. p.0) (λ q. let z : ◌≡◌ {A = ℕ} 0 1 = cc in absurd (omega arith)))
  given_by n h false t cs e = (λ p. inr (refl, e.0 p), ⊎_elim (λ q. let z : ◌≡◌ {A = ℕ} 0 1 = cc in absurd (omega arith)) (λ q. e.1 q.1))

  -- a refusal's number, exactly when its condition holds and none before it does
  pub given_when : (n : ℕ) → 0 < n → (cs : List Check) → ((first_of cs other).number ≡ n) ↔ HoldsFirst n cs
  given_when n h [] = (λ e. omega arith, λ f. absurd f)
  given_when n h (c ∷ cs) = given_by n h c.when c.says cs (given_when n h cs)

  done_by : (b : Bool) (t : Told) (cs : List Check) → 0 < t.number → (((first_of cs other).number ≡ 0) ↔ NoneHolds cs)
      → ((choose b t (first_of cs other)).number ≡ 0) ↔ ((b ≡ false) × NoneHolds cs)
  done_by true t cs h e = (λ p. absurd (omega arith), λ q. let z : ◌≡◌ {A = ℕ} 0 1 = cc in absurd (omega arith))
  done_by false t cs h e = (λ p. (refl, e.0 p), λ q. e.1 q.1)

  -- done, exactly when no condition holds
  pub done_when : (cs : List Check) → T (are_refusals cs) → ((first_of cs other).number ≡ 0) ↔ NoneHolds cs
  done_when [] r = (λ e. tt, λ u. done)
  done_when (c ∷ cs) r =
      let s = both (ltb 0 c.says.number) (are_refusals cs) r in
      done_by c.when c.says cs (ltb→lt 0 c.says.number s.0) (done_when cs s.1)

  done_by_test : (b : Bool) (t : Told) (cs : List Check) → 0 < t.number → ((first_of cs other).number ≡ 0 → first_of cs other ≡ other)
      → (choose b t (first_of cs other)).number ≡ 0 → choose b t (first_of cs other) ≡ other
  done_by_test true t cs h e p = absurd (omega arith)
  done_by_test false t cs h e p = e p

  -- and then it says what is told of done
  pub done_says : (cs : List Check) → T (are_refusals cs) → (first_of cs other).number ≡ 0 → first_of cs other ≡ other
  done_says [] r e = refl
  done_says (c ∷ cs) r e =
      let s = both (ltb 0 c.says.number) (are_refusals cs) r in
      done_by_test c.when c.says cs (ltb→lt 0 c.says.number s.0) (done_says cs s.1) e

-- ---- facts by number
-- the checks of an order that have one of these numbers, in its order
abbrev pub among : List ℕ → ℕ → Bool
among [] n = false
among (m ∷ ms) n = eqb m n || among ms n

abbrev pub only : List ℕ → List Check → List Check
only ns [] = []
only ns (c ∷ cs) = choose (among ns c.says.number) (c ∷ only ns cs) (only ns cs)

-- an order with the check c in the place of each that has its number
abbrev pub instead : Check → List Check → List Check
instead c [] = []
instead c (b ∷ bs) = choose (eqb c.says.number b.says.number) c b ∷ instead c bs

-- where no condition holds, none does of those that have one of these numbers: `(passing (7 ∷ []) order none).0` is what 7 asks
passing_by : (b : Bool) (c : Check) (cs : List Check) → c.when ≡ false → NoneHolds cs → NoneHolds (choose b (c ∷ cs) cs)
passing_by true c cs e n = (e, n)
passing_by false c cs e n = n

pub passing : (ns : List ℕ) (cs : List Check) → NoneHolds cs → NoneHolds (only ns cs)
passing ns [] n = tt
passing ns (c ∷ cs) n = passing_by (among ns c.says.number) c (only ns cs) n.0 (passing ns cs n.1)

-- a number that no check of an order has is never given
abbrev pub lacks : ℕ → List Check → Bool
lacks n cs = not (among (map (λ (c : Check). c.says.number) cs) n)

never_by : (m n : ℕ) (a : Bool) → T (not (eqb m n || a)) → (m ≡ n → ⊥) × T (not a)
never_by m n a t = by_either (eqb m n) a (λ e. eqb-false m n e) t
  where
    by_either : (b a : Bool) → (b ≡ false → m ≡ n → ⊥) → T (not (b || a)) → (m ≡ n → ⊥) × T (not a)
    by_either true a f t = absurd t
    by_either false a f t = (f refl, t)

pub never : (n : ℕ) (cs : List Check) → T (lacks n cs) → HoldsFirst n cs → ⊥
never n [] t h = h
never n (c ∷ cs) t h =
    let s = never_by c.says.number n (among (map (λ (c : Check). c.says.number) cs) n) t in
    ⊎_elim (λ x. s.0 x.0) (λ x. never n cs s.1 x.1) h

-- none holds either with a check that does not hold in the place of those with its number
pub instead_passes : (c : Check) (cs : List Check) → c.when ≡ false → NoneHolds cs → NoneHolds (instead c cs)
instead_passes c [] e n = tt
instead_passes c (b ∷ bs) e n = (of_both (λ (x : Check). x.when ≡ false) (eqb c.says.number b.says.number) e n.0, instead_passes c bs e n.1)

-- ---- checks one after the other, as the code makes them
abbrev pub after_each : List Check → Told → Told
after_each [] t = t
after_each (c ∷ cs) t = after_each cs (after c t)

-- one more, after those before it
pub next : (c : Check) {t u v : Told} → v ≡ after c u → u ≡ t → v ≡ after c t
next c p q = p ∙ ap (after c) q

-- a refusal that was given stays
after_refusal : (c : Check) (t : Told) → 0 < t.number → after c t ≡ t
unfolding after
after_refusal c t h = simp (ne_eqb t.number 0 (λ z. omega arith))

settled : (cs : List Check) (t : Told) → 0 < t.number → after_each cs t ≡ t
settled [] t h = refl
settled (c ∷ cs) t h = ap (after_each cs) (after_refusal c t h) ∙ settled cs t h

module _ (other : Told) (done : other.number ≡ 0) where
  first_after : (a b : Bool) (t : Told) (cs : List Check) → a ≡ true → 0 < t.number → after_each cs other ≡ first_of cs other
      → after_each cs (choose (a && b) t other) ≡ choose b t (first_of cs other)
  first_after true true t cs z h e = settled cs t h
  first_after true false t cs z h e = e
  first_after false b t cs z h e = let q : ◌≡◌ {A = ℕ} 0 1 = cc in absurd (omega arith)

  -- they tell what the order says
  pub in_order : (cs : List Check) → T (are_refusals cs) → after_each cs other ≡ first_of cs other
  unfolding after
  in_order [] r = refl
  in_order (c ∷ cs) r =
      let s = both (ltb 0 c.says.number) (are_refusals cs) r in
      first_after (eqb other.number 0) c.when c.says cs (eq-eqb other.number 0 done) (ltb→lt 0 c.says.number s.0) (in_order cs s.1)
