-- A closed run that must also pass a test is read rightly, where every run that is not too long begins one that passes.
use Prim.Native.Nat.{ℕ, suc, ◌-◌, ◌≤◌, ◌<◌}
use native.Mathlib.Omega.{arith}
use mathlib.Core.Path.{◌≡◌, refl, sym, ◌∙◌, ap, subst}
use mathlib.Core.Logic.{⊎_elim}
use mathlib.Core.List.{List, [], ◌∷◌, ◌++◌, append_assoc, append-nil}
use mathlib.Core.Bool.{Bool, true, false}
use lib.ListN.{length, take, drop, length-append, take-append-drop}
use lib.Seq.{length-take-le, take-append_seam}
use Rattle.promises.specs.Choose.{choose}
use Rattle.text.specs.Code.{Code, Begins, Reading, got, stuck, Any, Accepted, Refused, Right, Prefix}
use Rattle.text.specs.Combine.{All, closed, only, read_only}
use Rattle.text.proofs.Lists.{split_le, le_or_lt, empty_first}
use Rattle.text.proofs.Tests.{clash}
use Rattle.text.proofs.Runs.{closed_prefix}

pub only_prefix : (ok : List ℕ → Bool) (C : Code (List ℕ)) → Prefix C → Prefix (only ok C)
only_prefix ok C pre v v' x x' h h' e = pre v v' x x' h.0 h'.0 e

all_left : (p : ℕ → Bool) (a b : List ℕ) → All p (a ++ b) → All p a
all_left p [] b h = tt
all_left p (c ∷ a) b h = (h.0, all_left p a b h.1)

-- a beginning of one byte that is not empty is that byte
one_byte : (e : ℕ) (x t : List ℕ) → 0 < length x → e ∷ [] ≡ x ++ t → x ≡ e ∷ []
one_byte e [] t h q = absurd (omega arith)
one_byte e (c ∷ x) t h q =
    let a : c ≡ e = cc in
    let b : x ≡ [] = empty_first x t (let r : [] ≡ x ++ t = cc in r) in
    cc

module _ (p : ℕ → Bool) (lo hi e : ℕ) (off : p e ≡ false) (ok : List ℕ → Bool)
    (fill : (u : List ℕ) → All p u → length u ≤ hi → (x : List ℕ) × (closed p lo hi e).Valid (u ++ x) × (ok (u ++ x) ≡ true)) where
  filled : (u : List ℕ) → All p u → length u ≤ hi → Begins (only ok (closed p lo hi e)) u
  filled u h k = let f = fill u h k in (u ++ f.0, f.0 ++ (e ∷ []), (f.1, f.2), sym (append_assoc u f.0 (e ∷ [])))

  stuck_only : (s : List ℕ) (n : ℕ) → Refused Any (closed p lo hi e) s n → Refused Any (only ok (closed p lo hi e)) s n
  stuck_only s n h =
      record {
        longest = record { within = h.longest.within; begun = begun h.longest.begun; most = λ m hm b. h.longest.most m hm (b.0, b.1, b.2.0, b.3) };
        never = λ v r hr hv q. h.never v r hr hv.0 q;
      }
    where
      whole : (v x t : List ℕ) → take n s ≡ v ++ x → length v < length (take n s) → e ∷ [] ≡ x ++ t → s ≡ (v ++ (e ∷ [])) ++ drop n s
      whole v x t a l q =
          let o : x ≡ e ∷ [] = one_byte e x t (omega (arith, ap length a, length-append v x)) q in
          sym (take-append-drop n s) ∙ ap (λ (y : List ℕ). y ++ drop n s) (a ∙ ap (λ (y : List ℕ). v ++ y) o)

      begun : Begins (closed p lo hi e) (take n s) → Begins (only ok (closed p lo hi e)) (take n s)
      begun b =
          ⊎_elim
          (λ (l : length (take n s) ≤ length b.0).
          let r = split_le (take n s) b.1 b.0 (e ∷ []) b.3 l in
          filled (take n s) (all_left p (take n s) r.0 (subst (All p) r.1 b.2.0)) (omega (arith, b.2.2)))
          (λ (l : length b.0 < length (take n s)).
          let r = split_le b.0 (e ∷ []) (take n s) b.1 (sym b.3) (omega arith) in
          absurd (h.never b.0 (drop n s) tt b.2 (whole b.0 r.0 b.1 r.1 l r.2)))
          (le_or_lt (length (take n s)) (length b.0))

  got_not : (s u : List ℕ) (n : ℕ) → ok u ≡ false → Accepted Any (closed p lo hi e) s u n → Refused Any (only ok (closed p lo hi e)) s (n - 1)
  got_not s u n bad g =
      record {
        longest = record { within = omega (arith, ap length g.whole, length-append (u ++ (e ∷ [])) (drop n s), long); begun = rw first (filled u g.valid.0 g.valid.2); most = most };
        never = λ v r hr hv q. other v (drop n s) r hv (sym g.whole ∙ q);
      }
    where
      long : n ≡ suc (length u)
      long = g.size ∙ length-append u (e ∷ []) ∙ omega arith

      k≡ : n - 1 ≡ length u
      k≡ = omega (arith, long)

      first : take (n - 1) s ≡ u
      first = rw k≡ (ap (take (length u)) (g.whole ∙ append_assoc u (e ∷ []) (drop n s)) ∙ take-append_seam u ((e ∷ []) ++ drop n s))

      other : (v x r : List ℕ) → (only ok (closed p lo hi e)).Valid v → (u ++ (e ∷ [])) ++ x ≡ (v ++ (e ∷ [])) ++ r → ⊥
      other v x r hv q = clash hv.1 (sym (ap ok (closed_prefix p e off lo hi u v x r g.valid hv.0 q)) ∙ bad)

      most : (m : ℕ) → m ≤ length s → Begins (only ok (closed p lo hi e)) (take m s) → m ≤ n - 1
      most m hm b = ⊎_elim (λ (l : m ≤ n - 1). l) (λ (l : n - 1 < m). absurd (past l)) (le_or_lt m (n - 1))
        where
          past : n - 1 < m → ⊥
          past l =
              let r = split_le (u ++ (e ∷ [])) (drop n s) (take m s) (drop m s) (sym g.whole ∙ sym (take-append-drop m s)) (omega (arith, length-take-le m s hm, g.size, long)) in
              other b.0 (r.0 ++ b.1) [] b.2 (sym (append_assoc (u ++ (e ∷ [])) r.0 b.1) ∙ ap (λ (y : List ℕ). y ++ b.1) (sym r.1) ∙ b.3 ∙ sym (append-nil (b.0 ++ (e ∷ []))))

  pub only_right : (s : List ℕ) (o : Reading (List ℕ)) → Right Any (closed p lo hi e) s o → Right Any (only ok (closed p lo hi e)) s (read_only ok o)
  only_right s (stuck n) h = stuck_only s n h
  only_right s (got u n) g = go (ok u) refl
    where
      go : (t : Bool) → ok u ≡ t → Right Any (only ok (closed p lo hi e)) s (choose t (got u n) (stuck (n - 1)))
      go true k = record { valid = (g.valid, k); size = g.size; whole = g.whole; rest = tt }
      go false k = got_not s u n k g
