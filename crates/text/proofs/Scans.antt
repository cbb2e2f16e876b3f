-- Steps of loops over bytes: what one byte more says of a span of a class, and of the bytes of a word.
use Prim.Native.Nat.{ℕ, zero, suc, ◌+◌, ◌-◌, ◌≤◌, ◌<◌}
use native.Mathlib.Omega.{arith}
use mathlib.Core.Path.{◌≡◌, refl, ◌∙◌, ap}
use mathlib.Core.List.{List, [], ◌∷◌}
use mathlib.Core.Bool.{Bool, true, false}
use borrow.Author.Tests.{eq-eqb, ne_eqb}
use lib.Dec.{eqb}
use lib.ListN.{length, drop, get_or, drop_of_length-le}
use lib.Seq.{drop-cons}
use Rattle.promises.specs.Choose.{choose}
use Rattle.text.specs.Combine.{span, common}

-- what is left from n on, and from at + n on, one byte at a time
pub from_cons : (s : List ℕ) (n : ℕ) → n < length s → drop n s ≡ get_or s n 0 ∷ drop (n + 1) s
from_cons s n h = drop-cons s n 0 h ∙ ap (λ (j : ℕ). get_or s n 0 ∷ drop j s) (let q : suc n ≡ n + 1 = omega arith in q)

pub left_cons : (s : List ℕ) (at n : ℕ) → at + n < length s → drop (at + n) s ≡ get_or s (at + n) 0 ∷ drop (at + (n + 1)) s
left_cons s at n h = drop-cons s (at + n) 0 h ∙ ap (λ (j : ℕ). get_or s (at + n) 0 ∷ drop j s) (let q : suc (at + n) ≡ at + (n + 1) = omega arith in q)

module _ (p : ℕ → Bool) (m n at : ℕ) (s : List ℕ) where
  pub span_over : m ≤ n → (l : List ℕ) → span p (m - n) l ≡ 0
  span_over h l = ap (λ (k : ℕ). span p k l) (let q : m - n ≡ 0 = omega arith in q)

  pub span_end : length s ≤ at + n → span p (m - n) (drop (at + n) s) ≡ 0
  span_end h = rw (drop_of_length-le s h) (nothing (m - n))
    where
      nothing : (k : ℕ) → span p k [] ≡ 0
      nothing zero = refl
      nothing (suc k) = refl

  one : n < m → at + n < length s → span p (m - n) (drop (at + n) s) ≡ choose (p (get_or s (at + n) 0)) (suc (span p (m - (n + 1)) (drop (at + (n + 1)) s))) 0
  one h k = ap (λ (l : List ℕ). span p (m - n) l) (left_cons s at n k) ∙ ap (λ (j : ℕ). span p j (get_or s (at + n) 0 ∷ drop (at + (n + 1)) s)) (let q : m - n ≡ suc (m - (n + 1)) = omega arith in q)

  pub span_off : n < m → at + n < length s → p (get_or s (at + n) 0) ≡ false → span p (m - n) (drop (at + n) s) ≡ 0
  span_off h k e = one h k ∙ rw e

  pub span_more : n < m → at + n < length s → p (get_or s (at + n) 0) ≡ true → span p (m - n) (drop (at + n) s) ≡ suc (span p (m - (n + 1)) (drop (at + (n + 1)) s))
  span_more h k e = one h k ∙ rw e

pub span_start : (p : ℕ → Bool) (m at : ℕ) (s : List ℕ) → span p m (drop at s) ≡ 0 + span p (m - 0) (drop (at + 0) s)
span_start p m at s =
    ap (λ (k : ℕ). span p k (drop at s)) (let q : m ≡ m - 0 = omega arith in q)
    ∙ ap (λ (k : ℕ). span p (m - 0) (drop k s)) (let q : at ≡ at + 0 = omega arith in q)
    ∙ (let x = span p (m - 0) (drop (at + 0) s) in let q : x ≡ 0 + x = omega arith in q)

-- ---- fixed bytes
module _ (k s : List ℕ) (n at : ℕ) where
  pub common_over : length k ≤ n → common (drop n k) (drop (at + n) s) ≡ 0
  common_over h = rw (drop_of_length-le k h)

  pub common_end : n < length k → length s ≤ at + n → common (drop n k) (drop (at + n) s) ≡ 0
  common_end h e = rw (from_cons k n h, drop_of_length-le s e)

  two_heads : n < length k → at + n < length s → common (drop n k) (drop (at + n) s) ≡ choose (eqb (get_or s (at + n) 0) (get_or k n 0)) (suc (common (drop (n + 1) k) (drop (at + (n + 1)) s))) 0
  two_heads h e = ap (λ (l : List ℕ). common l (drop (at + n) s)) (from_cons k n h) ∙ ap (λ (l : List ℕ). common (get_or k n 0 ∷ drop (n + 1) k) l) (left_cons s at n e)

  pub common_off : n < length k → at + n < length s → (get_or s (at + n) 0 ≡ get_or k n 0 → ⊥) → common (drop n k) (drop (at + n) s) ≡ 0
  common_off h e d = two_heads h e ∙ rw (ne_eqb _ _ d)

  pub common_more : n < length k → at + n < length s → get_or s (at + n) 0 ≡ get_or k n 0 → common (drop n k) (drop (at + n) s) ≡ suc (common (drop (n + 1) k) (drop (at + (n + 1)) s))
  common_more h e d = two_heads h e ∙ rw (eq-eqb _ _ d)

pub common_start : (k s : List ℕ) (at : ℕ) → common k (drop at s) ≡ 0 + common (drop 0 k) (drop (at + 0) s)
common_start k s at =
    ap (λ (j : ℕ). common k (drop j s)) (let q : at ≡ at + 0 = omega arith in q)
    ∙ (let x = common k (drop (at + 0) s) in let q : x ≡ 0 + x = omega arith in q)
