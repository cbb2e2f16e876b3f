-- Laws of lists and of order that the readings rest on.
use Prim.Native.Nat.{ℕ, ◌+◌, ◌≤◌, ◌<◌}
use native.Mathlib.Omega.{arith}
use native.Mathlib.Nat.{le_of_suc-le-suc}
use native.Mathlib.Decide.{dec_le}
use mathlib.Core.Path.{◌≡◌, refl}
use mathlib.Core.Logic.{◌⊎◌, inl, inr}
use mathlib.Core.List.{List, [], ◌∷◌, ◌++◌}
use lib.ListN.{length, drop, length-drop}

-- two ways to split one list: the shorter first part begins the longer
pub split_le : (a b c d : List ℕ) → a ++ b ≡ c ++ d → length a ≤ length c → (x : List ℕ) × (c ≡ a ++ x) × (b ≡ x ++ d)
split_le [] b c d e h = (c, refl, e)
split_le (y ∷ a) b [] d e h = absurd (omega arith)
split_le (y ∷ a) b (z ∷ c) d e h =
    let t : a ++ b ≡ c ++ d = cc in
    let hd : y ≡ z = cc in
    let r = split_le a b c d t (le_of_suc-le-suc h) in
    (r.0, (cc r.1), r.2)

pub cancel : (a b c : List ℕ) → a ++ b ≡ a ++ c → b ≡ c
cancel [] b c e = e
cancel (x ∷ a) b c e = cancel a b c (cc)

pub le_or_lt : (m n : ℕ) → (m ≤ n) ⊎ (n < m)
le_or_lt m n = go (dec_le m n)
  where
    go : Dec (m ≤ n) → (m ≤ n) ⊎ (n < m)
    go (yes h) = inl h
    go (no h) = inr (omega arith)

-- m bytes of what follows the first n bytes of a list end within the list
pub within_drop : (n m : ℕ) (s : List ℕ) → n ≤ length s → m ≤ length (drop n s) → n + m ≤ length s
within_drop n m s h k = omega (arith, length-drop n s)

-- the empty list is not one with a first byte
pub nil_cons : {b : ℕ} {l : List ℕ} → ◌≡◌ {A = List ℕ} [] (b ∷ l) → ⊥
nil_cons e = let z : ◌≡◌ {A = ℕ} 0 1 = cc in omega arith

pub empty_first : (t r : List ℕ) → [] ≡ t ++ r → t ≡ []
empty_first [] r e = refl
empty_first (c ∷ t) r e = absurd (nil_cons e)

-- where a list that begins with b is split in two and the first part is not empty, that part begins with b
pub first_byte : (t r : List ℕ) (b : ℕ) (s : List ℕ) → (t ≡ [] → ⊥) → b ∷ s ≡ t ++ r → (l : List ℕ) × (t ≡ b ∷ l) × (s ≡ l ++ r)
first_byte [] r b s h e = absurd (h refl)
first_byte (c ∷ l) r b s h e = (l, (cc), (cc))
