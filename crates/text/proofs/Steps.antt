-- Right readings byte by byte: a byte that is passed, a byte at which no text goes on, and the end.
use Prim.Native.Nat.{ℕ, zero, suc, ◌≤◌, zero-le, suc-le-suc}
use native.Mathlib.Nat.{le_of_suc-le-suc}
use mathlib.Core.Path.{◌≡◌, refl, sym, ◌∙◌, ap}
use mathlib.Core.List.{List, [], ◌∷◌, ◌++◌}
use lib.ListN.{length, take}
use Rattle.text.specs.Code.{Code, Begins, Reading, got, stuck, Refused, Right, Some}
use Rattle.text.specs.Combine.{bump}
use Rattle.text.proofs.Lists.{empty_first, first_byte}

-- what C says once the byte b is passed: the texts of C that begin with b are the texts of D after it
pub record After {X Y : Type 0} (C : Code X) (b : ℕ) (D : Code Y) (g : Y → X) : Type 0 where
  pub valid : (w : Y) → D.Valid w → C.Valid (g w)
  pub text : (w : Y) → D.Valid w → C.text (g w) ≡ b ∷ D.text w
  pub back : (v : X) (l : List ℕ) → C.Valid v → C.text v ≡ b ∷ l → (w : Y) × D.Valid w × (D.text w ≡ l)

module _ {X Y : Type 0} (R : List ℕ → Type 0) (C : Code X) (some : Some C) where
  pub step_right : (b : ℕ) (D : Code Y) (g : Y → X) → After C b D g → (s : List ℕ) (o : Reading Y) → Right R D s o → Right R C (b ∷ s) (bump g o)
  step_right b D g after s (got w n) h =
      record {
        valid = after.valid w h.valid;
        size = rw (after.text w h.valid) (ap suc h.size);
        whole = rw (after.text w h.valid) (ap (λ (l : List ℕ). b ∷ l) h.whole);
        rest = h.rest;
      }
  step_right b D g after s (stuck n) h =
      record { longest = record { within = suc-le-suc h.longest.within; begun = begun; most = most }; never = never }
    where
      begun : Begins C (b ∷ take n s)
      begun =
          let k = h.longest.begun in
          (g k.0, k.1, after.valid k.0 k.2, rw (after.text k.0 k.2) (ap (λ (l : List ℕ). b ∷ l) k.3))

      most : (m : ℕ) → m ≤ suc (length s) → Begins C (take m (b ∷ s)) → m ≤ suc n
      most zero hm k = zero-le
      most (suc m) hm k =
          let w = after.back k.0 (take m s ++ k.1) k.2 (sym k.3) in
          suc-le-suc (h.longest.most m (le_of_suc-le-suc hm) (w.0, k.1, w.1, sym w.2))

      never : (v : X) (r : List ℕ) → R r → C.Valid v → b ∷ s ≡ C.text v ++ r → ⊥
      never v r hr hv e =
          let f = first_byte (C.text v) r b s (some v hv) e in
          let w = after.back v f.0 hv f.1 in
          h.never w.0 r hr w.1 (f.2 ∙ ap (λ (l : List ℕ). l ++ r) (sym w.2))

module _ {X : Type 0} (R : List ℕ → Type 0) (C : Code X) (some : Some C) (v₀ : X) (h₀ : C.Valid v₀) where
  -- no text begins with b
  pub stop_right : (b : ℕ) → ((v : X) (l : List ℕ) → C.Valid v → C.text v ≡ b ∷ l → ⊥) → (s : List ℕ) → Refused R C (b ∷ s) 0
  stop_right b no' s =
      record {
        longest = record { within = zero-le; begun = (v₀, C.text v₀, h₀, refl); most = most };
        never = λ v r hr hv e. let f = first_byte (C.text v) r b s (some v hv) e in no' v f.0 hv f.1;
      }
    where
      most : (m : ℕ) → m ≤ suc (length s) → Begins C (take m (b ∷ s)) → m ≤ 0
      most zero hm k = zero-le
      most (suc m) hm k = absurd (no' k.0 (take m s ++ k.1) k.2 (sym k.3))

  pub end_right : Refused R C [] 0
  end_right =
      record {
        longest = record { within = zero-le; begun = (v₀, C.text v₀, h₀, refl); most = λ m hm k. hm };
        never = λ v r hr hv e. some v hv (empty_first (C.text v) r e);
      }
