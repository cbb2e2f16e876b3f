-- Laws of `Filled`, `written` and `leaves`: how a run of stores begins, grows and joins, and that it leaves one list only.
use Prim.Native.Nat.{ℕ, zero, suc, ◌+◌, ◌≤◌, ◌<◌}
use mathlib.Core.Path.{◌≡◌, refl, sym, ◌∙◌}
use mathlib.Core.List.{List}
use mathlib.Core.Logic.{◌⊎◌, inl, inr, ⊎_elim}
use native.Mathlib.Omega.{arith}
use native.Mathlib.Numerals.{add-one}
use native.Mathlib.Decide.{dec_lt}
use borrow.Author.Tests.{eq-eqb, ne_eqb}
use lib.Dec.{eqb}
use lib.ListN.{length, get_or, set, length-set}
use lib.Seq.{get_or-set_same, get_or-set_other, ext_get_or}
use borrow.Author.Count.{below_more}
use Rattle.promises.specs.Told.{Told}
use Rattle.promises.specs.Written.{written, leaves, Filled}
use Rattle.promises.proofs.Choices.{of_both}

by_dec : (k n : ℕ) → Dec (k < n) → (k < n) ⊎ (n ≤ k)
by_dec k n (yes p) = inl p
by_dec k n (no f) = inr (omega arith)

pub lt_or_ge : (k n : ℕ) → (k < n) ⊎ (n ≤ k)
lt_or_ge k n = by_dec k n (dec_lt k n)

-- an empty run
pub none : (g : ℕ → ℕ) (a : ℕ) (x : List ℕ) → Filled g a a x x
none g a x = record { long = refl; is = λ k h l. absurd (omega arith); before = λ k h. refl; after = λ k h. refl }

-- one store more
pub more : {g : ℕ → ℕ} {a n : ℕ} {x y : List ℕ} (v : ℕ) → Filled g a n x y → a ≤ n → n < length y → v ≡ g n → Filled g a (n + 1) x (set y n v)
more {g} {a} {n} {x} {y} v f h l e =
    record {
      long = length-set y n v ∙ f.long;
      is = λ k ha hk. below_more (λ (j : ℕ). a ≤ j → get_or (set y n v) j 0 ≡ g j) n
          (λ j hj haj. get_or-set_other y n j v 0 (λ q. omega arith) ∙ f.is j haj hj)
          (λ _. get_or-set_same y n v 0 l ∙ e) k hk ha;
      before = λ k hk. get_or-set_other y n k v 0 (λ q. omega arith) ∙ f.before k hk;
      after = λ k hk. get_or-set_other y n k v 0 (λ q. omega arith) ∙ f.after k (omega arith);
    }

-- a run that goes on where another ended
pub join : {g : ℕ → ℕ} {a m n : ℕ} {x y z : List ℕ} → a ≤ m → m ≤ n → Filled g a m x y → Filled g m n y z → Filled g a n x z
join {g} {a} {m} {n} {x} {y} {z} am mn f h =
    record {
      long = h.long ∙ f.long;
      is = λ k ha hn. ⊎_elim (λ l. h.before k l ∙ f.is k ha l) (λ l. h.is k l hn) (lt_or_ge k m);
      before = λ k hk. h.before k (omega arith) ∙ f.before k hk;
      after = λ k hk. h.after k hk ∙ f.after k (omega arith);
    }

-- the values may be given by any function that is equal at these places
pub by : {g h : ℕ → ℕ} {a n : ℕ} {x y : List ℕ} → ((k : ℕ) → a ≤ k → k < n → g k ≡ h k) → Filled g a n x y → Filled h a n x y
by e f = record { long = f.long; is = λ k ha hn. f.is k ha hn ∙ e k ha hn; before = f.before; after = f.after }

-- the run's end may be any number that is equal
pub upto : {g : ℕ → ℕ} {a m n : ℕ} {x y : List ℕ} → m ≡ n → Filled g a m x y → Filled g a n x y
upto e f = rw e at f

-- one store more, in a run that counts from its start
pub step : {g : ℕ → ℕ} {a : ℕ} {x y : List ℕ} (t v : ℕ) → Filled g a (a + t) x y → a + t < length y → v ≡ g (a + t) → Filled g a (a + (t + 1)) x (set y (a + t) v)
step t v f l e = upto (omega arith) (more v f (omega arith) l e)

-- one run more, where runs are stored one after the other from the front
pub next : {g h : ℕ → ℕ} {m n : ℕ} {x y z : List ℕ} → m ≤ n → Filled g 0 m x y → Filled h m n y z → ((k : ℕ) → m ≤ k → k < n → h k ≡ g k) → Filled g 0 n x z
next l f h e = join (omega arith) l f (by e h)

-- two lists that are filled alike are one
pub one : {g : ℕ → ℕ} {a n : ℕ} {x y z : List ℕ} → Filled g a n x y → Filled g a n x z → y ≡ z
one {g} {a} {n} {x} {y} {z} f h =
    ext_get_or 0 y z (f.long ∙ sym h.long)
    (λ k _.
    ⊎_elim (λ l. f.before k l ∙ sym (h.before k l))
    (λ l. ⊎_elim (λ m. f.is k l m ∙ sym (h.is k l m)) (λ m. f.after k m ∙ sym (h.after k m)) (lt_or_ge k n))
    (lt_or_ge k a))

pub length_written : (g : ℕ → ℕ) (n : ℕ) (old : List ℕ) → length (written g n old) ≡ length old
unfolding written
length_written g zero old = refl
length_written g (suc n) old = simp (length-set, length_written g n old)

-- what is written is filled from the front
pub written_fills : (g : ℕ → ℕ) (n : ℕ) (old : List ℕ) → n ≤ length old → Filled g 0 n old (written g n old)
unfolding written
written_fills g zero old h = none g 0 old
written_fills g (suc n) old h =
    upto (add-one n) (more (g n) (written_fills g n old (omega arith)) (omega arith) (omega (arith, length_written g n old)) refl)

-- what is filled from the front is what is written: the law that joins the two
pub filled_written : {g : ℕ → ℕ} {n : ℕ} {old new : List ℕ} → n ≤ length old → Filled g 0 n old new → new ≡ written g n old
filled_written {g} {n} {old} h f = one f (written_fills g n old h)

-- only what g says of the places that are written counts
pub written_by : {g h : ℕ → ℕ} (n : ℕ) (old : List ℕ) → ((k : ℕ) → k < n → g k ≡ h k) → written g n old ≡ written h n old
unfolding written
written_by zero old e = refl
written_by {g} {h} (suc n) old e = rw (written_by {g = g} {h = h} n old (λ k l. e k (omega arith)), e n (omega arith))

-- what a call leaves where it is done, where it is refused, and that it keeps a length
module _ {A : Type 0} (t : Told) (new old : List A) where
  pub leaves_done : t.number ≡ 0 → leaves t new old ≡ new
  unfolding leaves
  leaves_done e = simp (eq-eqb _ _ e)

  pub leaves_refused : (t.number ≡ 0 → ⊥) → leaves t new old ≡ old
  unfolding leaves
  leaves_refused h = simp (ne_eqb _ _ h)

  pub leaves_long : length new ≡ length old → length (leaves t new old) ≡ length old
  unfolding leaves
  leaves_long e = of_both (λ (x : List A). length x ≡ length old) (eqb t.number 0) e refl
