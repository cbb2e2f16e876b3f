-- A table's rule, said once: what is tested of every number below a bound, or of every list of so many bits, holds of each, and what holds of every entry holds of the one that is read.
use Prim.Native.Nat.{ℕ, zero, suc, ◌<◌}
use mathlib.Core.Path.{◌≡◌}
use mathlib.Core.Bool.{Bool, true, ◌&&◌}
use mathlib.Core.List.{List, [], ◌∷◌}
use mathlib.Core.Logic.{⊎_elim}
use native.Mathlib.Omega.{arith}
use native.Mathlib.Nat.{le_of_suc-le-suc, not-suc-le-zero, eq-or-lt_of_le}
use lib.Dec.{T}
use lib.ListN.{get_or, length}
use Rattle.promises.proofs.Orders.{both}

-- the test passes at every number below n
abbrev pub every_below : (ℕ → Bool) → ℕ → Bool
every_below p zero = true
every_below p (suc n) = p n && every_below p n

pub each_below : (p : ℕ → Bool) (n : ℕ) → T (every_below p n) → (k : ℕ) → k < n → T (p k)
each_below p zero t k h = absurd (not-suc-le-zero h)
each_below p (suc n) t k h =
    let s = both (p n) (every_below p n) t in
    ⊎_elim (λ e. rw e s.0) (λ l. each_below p n s.1 k l) (eq-or-lt_of_le (le_of_suc-le-suc h))

-- the list is n bits
abbrev pub Bits : ℕ → List ℕ → Type 0
Bits zero [] = Unit {0}
Bits zero (b ∷ l) = ⊥
Bits (suc n) [] = ⊥
Bits (suc n) (b ∷ l) = (b < 2) × Bits n l

-- the test passes at every list of n bits
abbrev pub every_bits : ℕ → (List ℕ → Bool) → Bool
every_bits zero p = p []
every_bits (suc n) p = every_bits n (λ l. p (0 ∷ l)) && every_bits n (λ l. p (1 ∷ l))

pub each_bits : (n : ℕ) (p : List ℕ → Bool) → T (every_bits n p) → (l : List ℕ) → Bits n l → T (p l)
each_bits zero p t [] h = t
each_bits zero p t (b ∷ l) h = absurd h
each_bits (suc n) p t [] h = absurd h
each_bits (suc n) p t (b ∷ l) h =
    let s = both (every_bits n (λ k. p (0 ∷ k))) (every_bits n (λ k. p (1 ∷ k))) t in
    ⊎_elim
    (λ e. rw e (each_bits n (λ k. p (1 ∷ k)) s.1 l h.1))
    (λ z. let e : b ≡ 0 = omega arith in rw e (each_bits n (λ k. p (0 ∷ k)) s.0 l h.1))
    (eq-or-lt_of_le (le_of_suc-le-suc h.0))

-- P holds of every entry
abbrev pub Each : {A : Type 0} → (A → Type 0) → List A → Type 0
Each P [] = Unit {0}
Each P (x ∷ xs) = P x × Each P xs

pub each : {A : Type 0} (P : A → Type 0) (xs : List A) (d : A) → Each P xs → (k : ℕ) → k < length xs → P (get_or xs k d)
each P [] d e k h = absurd (not-suc-le-zero h)
each P (x ∷ xs) d e zero h = e.0
each P (x ∷ xs) d e (suc k) h = each P xs d e.1 k (le_of_suc-le-suc h)
