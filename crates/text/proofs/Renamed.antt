-- A code with the same texts under other values is read as rightly, also where only those are the same that the bytes may begin with.
use Prim.Native.Nat.{ℕ, zero, suc, ◌≤◌, zero-le}
use native.Mathlib.Omega.{arith}
use mathlib.Core.Path.{◌≡◌, refl, sym, ◌∙◌, ap}
use mathlib.Core.Logic.{◌⊎◌, inl, inr}
use mathlib.Core.List.{List, [], ◌∷◌, ◌++◌}
use lib.ListN.{length, take}
use Rattle.text.specs.Code.{Code, Reading, got, stuck, Right, Prefix}
use Rattle.text.specs.Combine.{mapped}

-- ---- of the bytes s: the text t begins with another byte than they, or they are none
pub record Off (t s : List ℕ) : Type 0 where
  pub byte : ℕ
  pub rest : List ℕ
  pub is : t ≡ byte ∷ rest
  pub other : (l : List ℕ) → s ≡ byte ∷ l → ⊥

off_most : (s t x : List ℕ) (m : ℕ) → Off t s → m ≤ length s → take m s ++ x ≡ t → m ≡ 0
off_most s t x zero o h e = refl
off_most [] t x (suc m) o h e = absurd (omega arith)
off_most (b ∷ s) t x (suc m) o h e =
    let q : b ∷ (take m s ++ x) ≡ o.byte ∷ o.rest = e ∙ o.is in
    let z : b ≡ o.byte = cc in
    absurd (o.other s (ap (λ (c : ℕ). c ∷ s) z))

off_never : (s t r : List ℕ) → Off t s → s ≡ t ++ r → ⊥
off_never s t r o e = o.other (o.rest ++ r) (e ∙ ap (λ (l : List ℕ). l ++ r) o.is)

-- t is the text of a valid value
abbrev pub Has : {X : Type 0} → Code X → List ℕ → Type 0
Has {X} C t = (v : X) × C.Valid v × (C.text v ≡ t)

-- a code D with the texts of C under other values, and others only that s does not begin with
pub record SameAt {X Y : Type 0} (s : List ℕ) (C : Code X) (D : Code Y) (f : X → Y) : Type 0 where
  pub valid : (v : X) → C.Valid v → D.Valid (f v)
  pub text : (v : X) → C.Valid v → D.text (f v) ≡ C.text v
  pub back : (w : Y) → D.Valid w → Has C (D.text w) ⊎ Off (D.text w) s

module _ {X Y : Type 0} (s : List ℕ) (C : Code X) (D : Code Y) (f : X → Y) (same : SameAt s C D f) (R : List ℕ → Type 0) where
  pub same_at_right : (o : Reading X) → Right R C s o → Right R D s (mapped f o)
  same_at_right (got v n) g =
      record {
        valid = same.valid v g.valid;
        size = rw (same.text v g.valid) g.size;
        whole = rw (same.text v g.valid) g.whole;
        rest = g.rest;
      }
  same_at_right (stuck n) h =
      record {
        longest = record {
          within = h.longest.within;
          begun = let b = h.longest.begun in (f b.0, b.1, same.valid b.0 b.2, b.3 ∙ sym (same.text b.0 b.2));
          most = λ m hm b. most m hm b.1 (D.text b.0) b.3 (same.back b.0 b.2);
        };
        never = λ w r hr hw e. never r hr (D.text w) e (same.back w hw);
      }
    where
      most : (m : ℕ) → m ≤ length s → (x t : List ℕ) → take m s ++ x ≡ t → Has C t ⊎ Off t s → m ≤ n
      most m hm x t e (inl k) = h.longest.most m hm (k.0, x, k.1, e ∙ sym k.2)
      most m hm x t e (inr o) = rw (off_most s t x m o hm e) zero-le

      never : (r : List ℕ) → R r → (t : List ℕ) → s ≡ t ++ r → Has C t ⊎ Off t s → ⊥
      never r hr t e (inl k) = h.never k.0 r hr k.1 (e ∙ ap (λ (l : List ℕ). l ++ r) (sym k.2))
      never r hr t e (inr o) = off_never s t r o e

-- ---- a code with the same texts under other values
pub record Same {X Y : Type 0} (C : Code X) (D : Code Y) (f : X → Y) : Type 0 where
  pub valid : (v : X) → C.Valid v → D.Valid (f v)
  pub text : (v : X) → C.Valid v → D.text (f v) ≡ C.text v
  pub back : (w : Y) → D.Valid w → (v : X) × C.Valid v × (f v ≡ w)

module _ {X Y : Type 0} (C : Code X) (D : Code Y) (f : X → Y) (same : Same C D f) where
  back_text : (w : Y) → D.Valid w → Has C (D.text w)
  back_text w h =
      let b = same.back w h in
      (b.0, b.1, sym (same.text b.0 b.1) ∙ ap (λ (y : Y). D.text y) b.2)

  pub same_right : (R : List ℕ → Type 0) (s : List ℕ) (o : Reading X) → Right R C s o → Right R D s (mapped f o)
  same_right R s = same_at_right s C D f (record { valid = same.valid; text = same.text; back = λ w h. inl (back_text w h) }) R

  pub same_prefix : Prefix C → Prefix D
  same_prefix pre w w' x x' h h' e =
      let b = same.back w h in
      let b' = same.back w' h' in
      let k : C.text b.0 ++ x ≡ C.text b'.0 ++ x' =
      rw (← same.text b.0 b.1, ← same.text b'.0 b'.1, b.2, b'.2) e in
      sym b.2 ∙ ap f (pre b.0 b'.0 x x' b.1 b'.1 k) ∙ b'.2
