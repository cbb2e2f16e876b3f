-- What a right reading says of its size, and that it reads back every valid text.
use Prim.Native.Nat.{ℕ, ◌≤◌}
use native.Mathlib.Omega.{arith}
use mathlib.Core.Path.{◌≡◌, refl, sym, ◌∙◌, ap}
use mathlib.Core.List.{List, [], ◌∷◌, ◌++◌, append-nil}
use lib.ListN.{length, take, drop, length-append}
use lib.Seq.{take-append_seam}
use Rattle.text.specs.Code.{Code, Reading, got, stuck, Any, None, Accepted, Right, Prefix, Exact, Some}

module _ {X : Type 0} (R : List ℕ → Type 0) (C : Code X) (s : List ℕ) where
  -- the text that is read lies within the bytes, at their start
  pub got_within : (v : X) (n : ℕ) → Accepted R C s v n → n ≤ length s
  got_within v n g = omega (arith, g.size, ap length g.whole, length-append (C.text v) (drop n s))

  pub got_taken : (v : X) (n : ℕ) → Accepted R C s v n → take n s ≡ C.text v
  got_taken v n g = ap (λ (k : ℕ). take k s) g.size ∙ ap (take (length (C.text v))) g.whole ∙ take-append_seam (C.text v) (drop n s)

  -- a text that is not empty has a byte
  pub got_some : Some C → (v : X) (n : ℕ) → Accepted R C s v n → 1 ≤ n
  got_some some v n g = positive n (C.text v) g.size (some v g.valid)
    where
      positive : (n : ℕ) (t : List ℕ) → n ≡ length t → (t ≡ [] → ⊥) → 1 ≤ n
      positive n [] e h = absurd (h refl)
      positive n (b ∷ t) e h = omega arith

-- a valid text is read back, whatever follows
pub back_any : {X : Type 0} (C : Code X) → Prefix C → (v : X) (x : List ℕ) → C.Valid v → (o : Reading X) → Right Any C (C.text v ++ x) o → o ≡ got v (length (C.text v))
back_any C pre v x h (stuck n) r = absurd (r.never v x tt h refl)
back_any {X} C pre v x h (got w n) r =
    let e : v ≡ w = pre v w x (drop n (C.text v ++ x)) h r.valid r.whole in
    ap (got w) r.size ∙ ap (λ (z : X). got z (length (C.text z))) (sym e)

-- and where nothing may follow
pub back_none : {X : Type 0} (C : Code X) → Exact C → (v : X) → C.Valid v → (o : Reading X) → Right None C (C.text v) o → o ≡ got v (length (C.text v))
back_none C exact v h (stuck n) r = absurd (r.never v [] refl h (sym (append-nil (C.text v))))
back_none {X} C exact v h (got w n) r =
    let e : v ≡ w = exact v w h r.valid (r.whole ∙ ap (λ (l : List ℕ). C.text w ++ l) r.rest ∙ append-nil (C.text w)) in
    ap (got w) r.size ∙ ap (λ (z : X). got z (length (C.text z))) (sym e)
