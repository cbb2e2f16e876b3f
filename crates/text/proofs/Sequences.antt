-- A sequence: one right reading after another is right.
use Prim.Native.Nat.{ℕ, ◌+◌, ◌-◌, ◌≤◌, ◌<◌}
use native.Mathlib.Omega.{arith}
use mathlib.Core.Path.{◌≡◌, sym, ◌∙◌, ap, subst}
use mathlib.Core.Logic.{⊎_elim}
use mathlib.Core.List.{List, ◌++◌, append_assoc}
use lib.ListN.{length, take, drop, length-append, length-drop, take-append-drop}
use lib.Seq.{take-add, drop-drop, length-take-le, take-append_seam}
use Rattle.text.specs.Code.{Code, Begins, Reading, got, stuck, Any, Accepted, Refused, Right, Prefix, Exact}
use Rattle.text.specs.Combine.{both, shift, and_then}
use Rattle.text.proofs.Lists.{split_le, cancel, le_or_lt, within_drop}

module _ {X Y : Type 0} (A : Code X) (B : X → Code Y) (R : List ℕ → Type 0) (pre : Prefix A) where
  -- a stuck first part: the whole sticks there
  stuck_first : ((v : X) → A.Valid v → (w : Y) × (B v).Valid w) → (s : List ℕ) (n : ℕ) → Refused Any A s n → Refused R (both A B) s n
  stuck_first fill s n h =
      record { longest = record { within = h.longest.within; begun = begun; most = most }; never = never }
    where
      begun : Begins (both A B) (take n s)
      begun =
          let b = h.longest.begun in
          let w = fill b.0 b.2 in
          ((b.0, w.0), b.1 ++ (B b.0).text w.0, (b.2, w.1), rw (← append_assoc, b.3))

      most : (m : ℕ) → m ≤ length s → Begins (both A B) (take m s) → m ≤ n
      most m hm b =
          ⊎_elim
          (λ (le : m ≤ length (A.text b.0.0)).
          let r = split_le (take m s) b.1 (A.text b.0.0) ((B b.0.0).text b.0.1) b.3 (rw (length-take-le m s hm) le) in
          h.longest.most m hm (b.0.0, r.0, b.2.0, sym r.1))
          (λ (lt : length (A.text b.0.0) < m).
          let r = split_le (A.text b.0.0) ((B b.0.0).text b.0.1) (take m s) b.1 (sym b.3) (rw (length-take-le m s hm) (omega arith)) in
          absurd (h.never b.0.0 (r.0 ++ drop m s) tt b.2.0 (rw (← append_assoc, ← r.1, take-append-drop))))
          (le_or_lt m (length (A.text b.0.0)))

      never : (v : X × Y) (r : List ℕ) → R r → (both A B).Valid v → s ≡ (both A B).text v ++ r → ⊥
      never v r _ hv e = h.never v.0 ((B v.0).text v.1 ++ r) tt hv.0 (e ∙ append_assoc (A.text v.0) ((B v.0).text v.1) r)

  -- a split of the whole whose first part is the text of another valid value is a split of what follows the first part
  pub carry : (v v' : X) → v ≡ v' → (F : List ℕ → List ℕ) (x : List ℕ) (w : Y) → (B v').Valid w → A.text v ++ x ≡ A.text v' ++ F ((B v').text w) → (B v).Valid w × (x ≡ F ((B v).text w))
  carry v v' q F x w =
      subst (λ (z : X). (B z).Valid w → A.text v ++ x ≡ A.text z ++ F ((B z).text w) → (B v).Valid w × (x ≡ F ((B v).text w))) q (λ hw e. (hw, cancel (A.text v) x (F ((B v).text w)) e))

  -- a first part that is read, and then a second that sticks
  stuck_second : (s : List ℕ) (v : X) (n m : ℕ) → Accepted Any A s v n → Refused R (B v) (drop n s) m → Refused R (both A B) s (n + m)
  stuck_second s v n m g h =
      record { longest = record { within = within_drop n m s n≤ h.longest.within; begun = begun; most = most }; never = never }
    where
      first : take n s ≡ A.text v
      first = rw g.size (ap (take (length (A.text v))) g.whole ∙ take-append_seam _ _)

      n≤ : n ≤ length s
      n≤ = omega (arith, g.size, ap length g.whole, length-append (A.text v) (drop n s))

      begun : Begins (both A B) (take (n + m) s)
      begun =
          let b = h.longest.begun in
          ((v, b.0), b.1, (g.valid, b.2), rw (take-add, first, append_assoc, b.3))

      most : (k : ℕ) → k ≤ length s → Begins (both A B) (take k s) → k ≤ n + m
      most k hk b = ⊎_elim (λ (le : k ≤ n). omega arith) (λ (lt : n < k). further lt) (le_or_lt k n)
        where
          further : n < k → k ≤ n + m
          further lt =
              let j : ℕ = k - n in
              let kj : k ≡ n + j = omega arith in
              let e : A.text v ++ (take j (drop n s) ++ b.1) ≡ A.text b.0.0 ++ (B b.0.0).text b.0.1 =
              rw (← append_assoc, ← first, ← take-add, ← kj) b.3 in
              let q = carry v b.0.0 (pre v b.0.0 _ _ g.valid b.2.0 e) (λ (l : List ℕ). l) (take j (drop n s) ++ b.1) b.0.1 b.2.1 e in
              let jm : j ≤ m = h.longest.most j (omega (arith, length-drop n s)) (b.0.1, b.1, q.0, q.1) in
              omega arith

      never : (p : X × Y) (r : List ℕ) → R r → (both A B).Valid p → s ≡ (both A B).text p ++ r → ⊥
      never p r hr hv e =
          let e' : A.text v ++ drop n s ≡ A.text p.0 ++ ((B p.0).text p.1 ++ r) = sym g.whole ∙ e ∙ append_assoc (A.text p.0) ((B p.0).text p.1) r in
          let q = carry v p.0 (pre v p.0 _ _ g.valid hv.0 e') (λ (l : List ℕ). l ++ r) (drop n s) p.1 hv.1 e' in
          h.never p.1 r hr q.0 q.1

  got_both : (s : List ℕ) (v : X) (n : ℕ) (w : Y) (m : ℕ) → Accepted Any A s v n → Accepted R (B v) (drop n s) w m → Accepted R (both A B) s (v, w) (n + m)
  got_both s v n w m g h =
      record {
        valid = (g.valid, h.valid);
        size = rw (length-append, ← g.size, ← h.size);
        whole = g.whole ∙ rw (append_assoc, ← drop-drop) (ap (λ (l : List ℕ). A.text v ++ l) h.whole);
        rest = rw (← drop-drop) h.rest;
      }

  -- one right reading after another is a right reading of both
  pub both_right : ((v : X) → A.Valid v → (w : Y) × (B v).Valid w) → (s : List ℕ) (o : Reading X) (f : X → List ℕ → Reading Y)
      → Right Any A s o → ((v : X) → A.Valid v → (r : List ℕ) → Right R (B v) r (f v r)) → Right R (both A B) s (and_then s o f)
  both_right fill s (stuck n) f h k = stuck_first fill s n h
  both_right fill s (got v n) f h k = go (f v (drop n s)) (k v h.valid (drop n s))
    where
      go : (o : Reading Y) → Right R (B v) (drop n s) o → Right R (both A B) s (shift v n o)
      go (got w m) r = got_both s v n w m h r
      go (stuck m) r = stuck_second s v n m h r

pub both_prefix : {X Y : Type 0} (A : Code X) (B : X → Code Y) → Prefix A → ((v : X) → Prefix (B v)) → Prefix (both A B)
both_prefix {X} {Y} A B pa pb p p' x x' h h' e =
    let e' : A.text p.0 ++ ((B p.0).text p.1 ++ x) ≡ A.text p'.0 ++ ((B p'.0).text p'.1 ++ x') = rw (← append_assoc, ← append_assoc) e in
    let q : p.0 ≡ p'.0 = pa p.0 p'.0 _ _ h.0 h'.0 e' in
    let c = carry A B Any pa p.0 p'.0 q (λ (l : List ℕ). l ++ x') ((B p.0).text p.1 ++ x) p'.1 h'.1 e' in
    let r : p.1 ≡ p'.1 = pb p.0 p.1 p'.1 x x' h.1 c.0 c.1 in
    λ i. (q i, r i)

-- and where the first can be told whatever follows, and the second from its text, both can be told from theirs
pub both_exact : {X Y : Type 0} (A : Code X) (B : X → Code Y) → Prefix A → ((v : X) → Exact (B v)) → Exact (both A B)
both_exact A B pa eb p p' h h' e =
    let q : p.0 ≡ p'.0 = pa p.0 p'.0 _ _ h.0 h'.0 e in
    let c = carry A B Any pa p.0 p'.0 q (λ (l : List ℕ). l) ((B p.0).text p.1) p'.1 h'.1 e in
    let r : p.1 ≡ p'.1 = eb p.0 p.1 p'.1 h.1 c.0 c.1 in
    λ i. (q i, r i)
