-- Laws of `first_where`: it is the place where the test holds and no earlier one does.
use Prim.Native.Nat.{ℕ, zero, suc, ◌≤◌, ◌<◌, zero-le}
use mathlib.Core.Path.{◌≡◌, refl, ap}
use mathlib.Core.Bool.{Bool, true, false}
use native.Mathlib.Nat.{le_of_suc-le-suc}
use native.Mathlib.Omega.{arith}
use Rattle.promises.specs.Choose.{choose}
use Rattle.promises.specs.First.{first_where}

-- only the places below n are asked
pub same_first : (p q : ℕ → Bool) (n : ℕ) → ((k : ℕ) → k < n → p k ≡ q k) → first_where p n ≡ first_where q n
unfolding first_where
same_first p q zero e = refl
same_first p q (suc n) e =
    rw (e 0 (omega arith), same_first (λ (k : ℕ). p (suc k)) (λ (k : ℕ). q (suc k)) n (λ k l. e (suc k) (omega arith)))

-- it is n at most
le_by : (b : Bool) (m n : ℕ) → m ≤ n → choose b 0 (suc m) ≤ suc n
le_by true m n h = zero-le
le_by false m n h = omega arith

pub first_le : (p : ℕ → Bool) (n : ℕ) → first_where p n ≤ n
unfolding first_where
first_le p zero = zero-le
first_le p (suc n) = le_by (p 0) (first_where (λ (k : ℕ). p (suc k)) n) n (first_le (λ (k : ℕ). p (suc k)) n)

-- n, where the test holds nowhere
pub first_none : (p : ℕ → Bool) (n : ℕ) → ((j : ℕ) → j < n → p j ≡ false) → first_where p n ≡ n
unfolding first_where
first_none p zero h = refl
first_none p (suc n) h = simp (h 0 (omega arith)) (ap suc (first_none (λ (k : ℕ). p (suc k)) n (λ j l. h (suc j) (omega arith))))

-- k, where the test holds there and nowhere before
pub first_at : (p : ℕ → Bool) (k n : ℕ) → ((j : ℕ) → j < k → p j ≡ false) → p k ≡ true → k < n → first_where p n ≡ k
unfolding first_where
first_at p k zero h e l = absurd (omega arith)
first_at p zero (suc n) h e l = simp e
first_at p (suc k) (suc n) h e l =
    simp (h 0 (omega arith)) (ap suc (first_at (λ (i : ℕ). p (suc i)) k n (λ j m. h (suc j) (omega arith)) e (le_of_suc-le-suc l)))

-- and the test holds at no place before it
before_by : (p : ℕ → Bool) (b : Bool) (m j : ℕ) → p 0 ≡ b → ((i : ℕ) → i < m → p (suc i) ≡ false) → j < choose b 0 (suc m) → p j ≡ false
before_by p true m j e h l = absurd (omega arith)
before_by p false m zero e h l = e
before_by p false m (suc j) e h l = h j (le_of_suc-le-suc l)

pub first_before : (p : ℕ → Bool) (n j : ℕ) → j < first_where p n → p j ≡ false
unfolding first_where
first_before p zero j l = absurd (omega arith)
first_before p (suc n) j l = before_by p (p 0) (first_where (λ (k : ℕ). p (suc k)) n) j refl (first_before (λ (k : ℕ). p (suc k)) n) l

-- below n the test holds at it
holds_by : (p : ℕ → Bool) (b : Bool) (m n : ℕ) → p 0 ≡ b → (m < n → p (suc m) ≡ true) → choose b 0 (suc m) < suc n → p (choose b 0 (suc m)) ≡ true
holds_by p true m n e h l = e
holds_by p false m n e h l = h (le_of_suc-le-suc l)

pub first_holds : (p : ℕ → Bool) (n : ℕ) → first_where p n < n → p (first_where p n) ≡ true
unfolding first_where
first_holds p zero l = absurd (omega arith)
first_holds p (suc n) l = holds_by p (p 0) (first_where (λ (k : ℕ). p (suc k)) n) n refl (first_holds (λ (k : ℕ). p (suc k)) n) l

-- so it is n exactly where the test holds nowhere
pub nowhere : (p : ℕ → Bool) (n : ℕ) → first_where p n ≡ n → (j : ℕ) → j < n → p j ≡ false
nowhere p n e j l = first_before p n j (rw e l)
