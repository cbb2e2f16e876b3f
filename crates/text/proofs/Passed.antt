-- Steps of loops over the texts of one code: what is read of the whole is what is passed and what is read of the rest.
use Prim.Native.Nat.{ℕ, zero, suc, ◌+◌, ◌-◌, ◌≤◌, ◌<◌}
use native.Mathlib.Omega.{arith}
use mathlib.Core.Path.{◌≡◌, refl, sym, ◌∙◌, ap}
use mathlib.Core.List.{List, [], ◌∷◌, ◌++◌, append_assoc}
use lib.ListN.{length, drop, length-append, drop_of_length-le}
use lib.Seq.{drop-cons, drop-drop}
use Rattle.text.specs.Code.{Reading, got, stuck}
use Rattle.text.specs.Combine.{mapped, and_then, pushed, read_times, read_up_to}
use Rattle.text.proofs.Rests.{passed, shifted}

-- the values vs and p bytes are passed before what is read
abbrev pub ahead : {X : Type 0} → List X → ℕ → Reading (List X) → Reading (List X)
ahead vs p o = passed (λ l. vs ++ l) p o

-- of what is read as o, k values and p bytes are passed, and the rest is read as r
pub record Passed {X : Type 0} (o : Reading (List X)) (k p : ℕ) (r : Reading (List X)) : Type 0 where
  pub values : List X
  pub many : length values ≡ k
  pub whole : o ≡ ahead values p r

module _ {X : Type 0} where
  pub ahead_none : (o : Reading (List X)) → o ≡ ahead [] 0 o
  ahead_none (got l n) = ap (got l) (omega arith)
  ahead_none (stuck n) = ap stuck (omega arith)

  pub ahead_more : (vs : List X) (p : ℕ) (us : List X) (q : ℕ) (o : Reading (List X)) → ahead vs p (ahead us q o) ≡ ahead (vs ++ us) (p + q) o
  ahead_more vs p us q (got l n) = ap (λ (x : List X). got x (p + (q + n))) (sym (append_assoc vs us l)) ∙ ap (got ((vs ++ us) ++ l)) (omega arith)
  ahead_more vs p us q (stuck n) = ap stuck (omega arith)

  abbrev pub passed_none : (o r : Reading (List X)) (p : ℕ) → o ≡ r → p ≡ 0 → Passed o 0 p r
  passed_none o r p w e = record { values = []; many = refl; whole = w ∙ ahead_none r ∙ ap (λ (j : ℕ). ahead [] j r) (sym e) }

  -- one more value of n bytes is passed
  abbrev pub passed_more : (o : Reading (List X)) (k p : ℕ) (r : Reading (List X)) (h : Passed o k p r) (v : X) (n : ℕ) (r' : Reading (List X)) (q : ℕ) → q ≡ p + n → r ≡ ahead (v ∷ []) n r' → Passed o (k + 1) q r'
  passed_more o k p r h v n r' q w e =
      record {
        values = h.values ++ (v ∷ []);
        many = length-append h.values (v ∷ []) ∙ ap (λ (j : ℕ). j + 1) h.many;
        whole = h.whole ∙ ap (ahead h.values p) e ∙ ahead_more h.values p (v ∷ []) n r' ∙ ap (λ (j : ℕ). ahead (h.values ++ (v ∷ [])) j r') (sym w);
      }

  module _ (f : List ℕ → Reading X) (s : List ℕ) (at m : ℕ) where
    -- exactly m
    pub times_end : m ≡ 0 → read_times f m (drop at s) ≡ got [] 0
    times_end e = ap (λ (j : ℕ). read_times f j (drop at s)) e

    pub times_stuck : (n : ℕ) → 0 < m → f (drop at s) ≡ stuck n → read_times f m (drop at s) ≡ stuck n
    times_stuck n h e = ap (λ (j : ℕ). read_times f j (drop at s)) (let q : m ≡ suc (m - 1) = omega arith in q) ∙ rw e

    pub times_more : (v : X) (n : ℕ) → 0 < m → f (drop at s) ≡ got v n → read_times f m (drop at s) ≡ ahead (v ∷ []) n (read_times f (m - 1) (drop (at + n) s))
    times_more v n h e =
        ap (λ (j : ℕ). read_times f j (drop at s)) (let q : m ≡ suc (m - 1) = omega arith in q)
        ∙ ap (λ (o : Reading X). mapped pushed (and_then (drop at s) o (λ _ r. read_times f (m - 1) r))) e
        ∙ shifted pushed v n (read_times f (m - 1) (drop n (drop at s)))
        ∙ ap (λ (l : List ℕ). ahead (v ∷ []) n (read_times f (m - 1) l)) (drop-drop n at s)

    -- up to m
    nothing : (j : ℕ) → read_up_to f j [] ≡ got [] 0
    nothing zero = refl
    nothing (suc j) = refl

    pub up_to_end : length s ≤ at → read_up_to f m (drop at s) ≡ got [] 0
    up_to_end h = ap (read_up_to f m) (drop_of_length-le s h) ∙ nothing m

    pub up_to_full : m ≡ 0 → at < length s → read_up_to f m (drop at s) ≡ stuck 0
    up_to_full e h = ap (λ (j : ℕ). read_up_to f j (drop at s)) e ∙ ap (read_up_to f 0) (drop-cons s at 0 h)

    up_to_some : 0 < m → at < length s → read_up_to f m (drop at s) ≡ mapped pushed (and_then (drop at s) (f (drop at s)) (λ _ r. read_up_to f (m - 1) r))
    up_to_some h k =
        ap (λ (j : ℕ). read_up_to f j (drop at s)) (let q : m ≡ suc (m - 1) = omega arith in q)
        ∙ ap (read_up_to f (suc (m - 1))) (drop-cons s at 0 k)
        ∙ ap (λ (l : List ℕ). mapped pushed (and_then l (f l) (λ _ r. read_up_to f (m - 1) r))) (sym (drop-cons s at 0 k))

    pub up_to_stuck : (n : ℕ) → 0 < m → at < length s → f (drop at s) ≡ stuck n → read_up_to f m (drop at s) ≡ stuck n
    up_to_stuck n h k e = up_to_some h k ∙ ap (λ (o : Reading X). mapped pushed (and_then (drop at s) o (λ _ r. read_up_to f (m - 1) r))) e

    pub up_to_more : (v : X) (n : ℕ) → 0 < m → at < length s → f (drop at s) ≡ got v n → read_up_to f m (drop at s) ≡ ahead (v ∷ []) n (read_up_to f (m - 1) (drop (at + n) s))
    up_to_more v n h k e =
        up_to_some h k ∙ ap (λ (o : Reading X). mapped pushed (and_then (drop at s) o (λ _ r. read_up_to f (m - 1) r))) e
        ∙ shifted pushed v n (read_up_to f (m - 1) (drop n (drop at s)))
        ∙ ap (λ (l : List ℕ). ahead (v ∷ []) n (read_up_to f (m - 1) l)) (drop-drop n at s)
