-- A closed run of a class is read rightly, where the closing byte is not of the class.
use Prim.Native.Nat.{ℕ, zero, suc, ◌-◌, ◌≤◌, ◌<◌, zero-le, suc-le-suc}
use native.Mathlib.Omega.{arith}
use native.Mathlib.Nat.{le_of_suc-le-suc, le_refl}
use native.Mathlib.Decide.{ℕ_discrete, dec_le}
use mathlib.Core.Path.{◌≡◌, refl, sym, ◌∙◌, ap}
use mathlib.Core.Logic.{⊎_elim}
use mathlib.Core.List.{List, [], ◌∷◌, ◌++◌}
use mathlib.Core.Bool.{Bool, true, false, ◌&&◌}
use lib.Dec.{leb, ltb, eqb, leb-zero, leb-suc-suc}
use lib.ListN.{length, take, replicate, length-replicate, get_or}
use borrow.Author.Tests.{eq-eqb, ne_eqb, le-leb, lt-leb}
use Rattle.promises.specs.Choose.{choose}
use Rattle.promises.proofs.Choices.{and_false}
use Rattle.text.specs.Code.{got, stuck, Any, Refused, Right, Prefix, Some}
use Rattle.text.specs.Combine.{bump, All, closed, span, read_closed_at, read_closed}
use Rattle.text.proofs.Lists.{le_or_lt, nil_cons}
use Rattle.text.proofs.Steps.{After, step_right, stop_right, end_right}
use Rattle.text.proofs.Tests.{clash, bump_choose}

leb_less : (lo n : ℕ) → leb lo (suc n) ≡ leb (lo - 1) n
leb_less lo n =
    ⊎_elim
    (λ (h : lo ≤ suc n). le-leb lo (suc n) h ∙ sym (le-leb (lo - 1) n (omega arith)))
    (λ (h : suc n < lo). lt-leb lo (suc n) h ∙ sym (lt-leb (lo - 1) n (omega arith)))
    (le_or_lt lo (suc n))

-- a class that has a byte has runs of every length
pub all_replicate : (p : ℕ → Bool) (z : ℕ) → p z ≡ true → (n : ℕ) → All p (replicate n z)
all_replicate p z h zero = tt
all_replicate p z h (suc n) = (h, all_replicate p z h n)

module _ (p : ℕ → Bool) (e : ℕ) (off-e : p e ≡ false) where
  closed_some : (lo hi : ℕ) → Some (closed p lo hi e)
  closed_some lo hi [] h q = nil_cons (sym q)
  closed_some lo hi (c ∷ u) h q = nil_cons (sym q)

  closed_after : (lo h b : ℕ) → p b ≡ true → After (closed p lo (suc h) e) b (closed p (lo - 1) h e) (λ u. b ∷ u)
  closed_after lo h b pb =
      record { valid = λ w k. ((pb, k.0), omega arith, suc-le-suc k.2); text = λ w k. refl; back = back }
    where
      back : (v l : List ℕ) → (closed p lo (suc h) e).Valid v → v ++ (e ∷ []) ≡ b ∷ l → (w : List ℕ) × (closed p (lo - 1) h e).Valid w × (w ++ (e ∷ []) ≡ l)
      back [] l k q = absurd (clash pb (ap p (let r : b ≡ e = cc in r) ∙ off-e))
      back (c ∷ u) l k q = (u, (k.0.1, omega arith, le_of_suc-le-suc k.2), (cc))

  at_end : (z : ℕ) → p z ≡ true → (lo hi : ℕ) → lo ≤ hi → Right Any (closed p lo hi e) [] (read_closed_at lo e [] 0)
  at_end z pz lo hi lh =
      rw and_false (end_right Any (closed p lo hi e) (closed_some lo hi) (replicate lo z) (all_replicate p z pz lo, rw length-replicate (le_refl lo), rw length-replicate lh))

  -- where the run of the class is over at once
  at_once : (z : ℕ) → p z ≡ true → (lo hi b : ℕ) (s : List ℕ) → lo ≤ hi → (0 < hi → p b ≡ true → ⊥) → Right Any (closed p lo hi e) (b ∷ s) (read_closed_at lo e (b ∷ s) 0)
  at_once z pz lo hi b s lh off = rw (leb-suc-suc, leb-zero) (go (dec_le lo 0) (ℕ_discrete b e))
    where
      no_run : (c : ℕ) (u l : List ℕ) → (closed p lo hi e).Valid (c ∷ u) → (c ∷ u) ++ (e ∷ []) ≡ b ∷ l → ⊥
      no_run c u l k q = off (omega arith) (let r : c ≡ b = cc in rw r at k.0.0)

      stop : ((lo ≤ 0) → b ≡ e → ⊥) → Refused Any (closed p lo hi e) (b ∷ s) 0
      stop h = stop_right Any (closed p lo hi e) (closed_some lo hi) (replicate lo z) (all_replicate p z pz lo, rw length-replicate (le_refl lo), rw length-replicate lh) b none s
        where
          none : (v l : List ℕ) → (closed p lo hi e).Valid v → v ++ (e ∷ []) ≡ b ∷ l → ⊥
          none [] l k q = h k.1 (cc)
          none (c ∷ u) l k q = no_run c u l k q

      go : Dec (lo ≤ 0) → Dec (b ≡ e) → Right Any (closed p lo hi e) (b ∷ s) (choose (leb lo 0 && (true && eqb b e)) (got [] 1) (stuck 0))
      go (yes h) (yes k) = rw (le-leb lo 0 h, eq-eqb b e k) (record { valid = (tt, h, zero-le); size = refl; whole = ap (λ (c : ℕ). c ∷ s) k; rest = tt })
      go (yes h) (no k) = rw (le-leb lo 0 h, ne_eqb b e k) (stop (λ _ q. k q))
      go (no h) k = rw (lt-leb lo 0 (omega arith)) (stop (λ q _. h q))

  read_closed_cons : (lo h b : ℕ) (s : List ℕ) → p b ≡ true → read_closed p lo (suc h) e (b ∷ s) ≡ bump (λ (u : List ℕ). b ∷ u) (read_closed p (lo - 1) h e s)
  read_closed_cons lo h b s pb =
      let n = span p h s in
      rw (pb, leb_less, leb-suc-suc) (sym (bump_choose (λ (u : List ℕ). b ∷ u) (leb (lo - 1) n && (ltb n (length s) && eqb (get_or s n 0) e)) (take n s) (suc n) n))

  pub closed_right : (z : ℕ) → p z ≡ true → (lo hi : ℕ) → lo ≤ hi → (s : List ℕ) → Right Any (closed p lo hi e) s (read_closed p lo hi e s)
  closed_right z pz lo zero lh [] = at_end z pz lo 0 lh
  closed_right z pz lo (suc h) lh [] = at_end z pz lo (suc h) lh
  closed_right z pz lo zero lh (b ∷ s) = at_once z pz lo 0 b s lh (λ l _. omega arith)
  closed_right z pz lo (suc h) lh (b ∷ s) = go (p b) refl (closed_right z pz (lo - 1) h (omega arith) s)
    where
      go : (t : Bool) → p b ≡ t → Right Any (closed p (lo - 1) h e) s (read_closed p (lo - 1) h e s) → Right Any (closed p lo (suc h) e) (b ∷ s) (read_closed p lo (suc h) e (b ∷ s))
      go true pb r = rw (read_closed_cons lo h b s pb) (step_right Any (closed p lo (suc h) e) (closed_some lo (suc h)) b (closed p (lo - 1) h e) (λ u. b ∷ u) (closed_after lo h b pb) s (read_closed p (lo - 1) h e s) r)
      go false pb r = rw pb (at_once z pz lo (suc h) b s lh (λ _ q. clash q pb))

  pub closed_prefix : (lo hi : ℕ) → Prefix (closed p lo hi e)
  closed_prefix lo hi [] [] x x' h h' q = refl
  closed_prefix lo hi [] (c ∷ u) x x' h h' q = absurd (clash h'.0.0 (ap p (let r : c ≡ e = cc in r) ∙ off-e))
  closed_prefix lo hi (c ∷ u) [] x x' h h' q = absurd (clash h.0.0 (ap p (let r : c ≡ e = cc in r) ∙ off-e))
  closed_prefix lo hi (c ∷ u) (d ∷ w) x x' h h' q =
      let a : c ≡ d = cc in
      let t : u ≡ w = closed_prefix (lo - 1) (hi - 1) u w x x' (h.0.1, omega arith, omega arith) (h'.0.1, omega arith, omega arith) (cc) in
      cc
