-- What stands at the start of some bytes, as a prefix that passes a test: the bytes of a class, and those of a word.
use Rattle.std.proofs.Common.{ℕ, zero, suc, ◌+◌, ◌≤◌, ◌≡◌, min, List, [], ◌∷◌, Bool, true, false, cond, eqb, length, take, refl, ap, ◌∙◌, arith}
use Rattle.std.specs.List.{prefix_len, zip}
use Rattle.promises.specs.Choose.{choose}
use Rattle.text.specs.Combine.{span, common}

pub span_prefix : (p : ℕ → Bool) (m : ℕ) (s : List ℕ) → prefix_len p (take m s) ≡ span p m s
span_prefix p zero s = refl
span_prefix p (suc m) [] = refl
span_prefix p (suc m) (b ∷ s) = go (p b) (span_prefix p m s)
  where
    go : (t : Bool) → prefix_len p (take m s) ≡ span p m s → cond t (1 + prefix_len p (take m s)) 0 ≡ choose t (suc (span p m s)) 0
    go true e = omega (arith, e)
    go false e = refl

-- the front of no more than so many bytes, however long the rest is
pub front : (m : ℕ) (s : List ℕ) → take (min (length s) m) s ≡ take m s
front zero s = let e : min (length s) 0 ≡ 0 = omega arith in ap (λ (n : ℕ). take n s) e
front (suc m) [] = let e : min 0 (suc m) ≡ 0 = omega arith in ap (λ (n : ℕ). take {A = ℕ} n []) e
front (suc m) (b ∷ s) =
    let e : min (suc (length s)) (suc m) ≡ suc (min (length s) m) = omega arith in
    ap (λ (n : ℕ). take n (b ∷ s)) e ∙ ap (λ (x : List ℕ). b ∷ x) (front m s)

pub span_within : (p : ℕ → Bool) (m : ℕ) (s : List ℕ) → span p m s ≤ length s
span_within p zero s = omega arith
span_within p (suc m) [] = omega arith
span_within p (suc m) (b ∷ s) = go (p b) (span_within p m s)
  where
    go : (t : Bool) → span p m s ≤ length s → choose t (suc (span p m s)) 0 ≤ suc (length s)
    go true h = omega arith
    go false h = omega arith

abbrev pub alike : ℕ × ℕ → Bool
alike p = eqb p.0 p.1

pub common_prefix : (k s : List ℕ) → prefix_len alike (zip s k) ≡ common k s
common_prefix [] [] = refl
common_prefix [] (b ∷ s) = refl
common_prefix (c ∷ k) [] = refl
common_prefix (c ∷ k) (b ∷ s) = go (eqb b c) (common_prefix k s)
  where
    go : (t : Bool) → prefix_len alike (zip s k) ≡ common k s → cond t (1 + prefix_len alike (zip s k)) 0 ≡ choose t (suc (common k s)) 0
    go true e = omega (arith, e)
    go false e = refl

both_within : (k s : List ℕ) → (common k s ≤ length k) × (common k s ≤ length s)
both_within [] s = (omega arith, omega arith)
both_within (c ∷ k) [] = (omega arith, omega arith)
both_within (c ∷ k) (b ∷ s) = go (eqb b c) (both_within k s)
  where
    go : (t : Bool) → (common k s ≤ length k) × (common k s ≤ length s) → (choose t (suc (common k s)) 0 ≤ suc (length k)) × (choose t (suc (common k s)) 0 ≤ suc (length s))
    go true h = (omega (arith, h.0), omega (arith, h.1))
    go false h = (omega arith, omega arith)

pub common_most : (k s : List ℕ) → common k s ≤ length k
common_most k s = (both_within k s).0

pub common_within : (k s : List ℕ) → common k s ≤ length s
common_within k s = (both_within k s).1
