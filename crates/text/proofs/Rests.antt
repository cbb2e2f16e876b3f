-- A pass over a sequence of codes: what is read of the whole is what is passed and what is read of the rest, and each code is one step further.
use Prim.Native.Nat.{ℕ, ◌+◌}
use native.Mathlib.Omega.{arith}
use mathlib.Core.Path.{◌≡◌, refl, ◌∙◌, ap}
use mathlib.Core.List.{List}
use lib.ListN.{drop}
use lib.Seq.{drop-drop}
use Rattle.text.specs.Code.{Reading, got, stuck}
use Rattle.text.specs.Combine.{mapped, shift, and_then}

-- `at` bytes are passed before what is read, and w makes the whole of it
abbrev pub passed : {Y Z : Type 0} → (Y → Z) → ℕ → Reading Y → Reading Z
passed w at (got v n) = got (w v) (at + n)
passed w at (stuck n) = stuck (at + n)

-- of bytes that the whole reading g reads, the first `at` are passed, f reads the rest, and `makes` makes the whole of what f finds
pub record Rest {Y Z : Type 0} (g : List ℕ → Reading Z) (f : List ℕ → Reading Y) : Type 0 where
  pub bytes : List ℕ
  pub at : ℕ
  pub makes : Y → Z
  pub whole : g bytes ≡ passed makes at (f (drop at bytes))

abbrev pub unread : {Y Z : Type 0} {g : List ℕ → Reading Z} {f : List ℕ → Reading Y} → Rest g f → List ℕ
unread r = drop r.at r.bytes

-- where it is known how the rest is read, so is the whole
pub rest_read : {Y Z : Type 0} {g : List ℕ → Reading Z} (f : List ℕ → Reading Y) (r : Rest g f) {o : Reading Y} → f (unread r) ≡ o → g r.bytes ≡ passed r.makes r.at o
rest_read f r h = r.whole ∙ ap (passed r.makes r.at) h

-- ---- the first code of a sequence, read as A, and those after it as B; w makes the value of theirs
pub shifted : {X Y Z : Type 0} (w : X × Y → Z) (v : X) (n : ℕ) (o : Reading Y) → mapped w (shift v n o) ≡ passed (λ y. w (v, y)) n o
shifted w v n (got y m) = refl
shifted w v n (stuck m) = refl

module _ {X Y Z : Type 0} (w : X × Y → Z) (A : List ℕ → Reading X) (B : X → List ℕ → Reading Y) (s : List ℕ) where
  pub first_sticks : {n : ℕ} → A s ≡ stuck n → mapped w (and_then s (A s) B) ≡ stuck n
  first_sticks h = ap (λ (o : Reading X). mapped w (and_then s o B)) h

  pub first_whole : {v : X} {n : ℕ} → A s ≡ got v n → mapped w (and_then s (A s) B) ≡ passed (λ y. w (v, y)) n (B v (drop n s))
  first_whole {v} {n} h = ap (λ (o : Reading X). mapped w (and_then s o B)) h ∙ shifted w v n (B v (drop n s))

  abbrev pub first_passes : {v : X} {n : ℕ} → A s ≡ got v n → Rest (λ s. mapped w (and_then s (A s) B)) (B v)
  first_passes {v} {n} h = record { bytes = s; at = n; makes = λ y. w (v, y); whole = first_whole h }

-- ---- one code more
module _ {X Y Z : Type 0} (A : List ℕ → Reading X) (B : X → List ℕ → Reading Y) {g : List ℕ → Reading Z} (r : Rest g (λ s. and_then s (A s) B)) where
  begun : {o : Reading X} → A (unread r) ≡ o → g r.bytes ≡ passed r.makes r.at (and_then (unread r) o B)
  begun h = rest_read (λ s. and_then s (A s) B) r (ap (λ (o : Reading X). and_then (unread r) o B) h)

  pub next_sticks : {n : ℕ} → A (unread r) ≡ stuck n → g r.bytes ≡ stuck (r.at + n)
  next_sticks h = begun h

  pub next_whole : {v : X} {n : ℕ} → A (unread r) ≡ got v n → g r.bytes ≡ passed (λ y. r.makes (v, y)) (r.at + n) (B v (drop (r.at + n) r.bytes))
  next_whole {v} {n} h =
      begun h ∙ joined r.at (B v (drop n (unread r)))
      ∙ ap (λ (s : List ℕ). passed (λ y. r.makes (v, y)) (r.at + n) (B v s)) (drop-drop n r.at r.bytes)
    where
      joined : (at : ℕ) (o : Reading Y) → passed r.makes at (shift v n o) ≡ passed (λ y. r.makes (v, y)) (at + n) o
      joined at (got y m) = ap (got (r.makes (v, y))) (omega arith)
      joined at (stuck m) = ap stuck (omega arith)

  abbrev pub next_passes : {v : X} {n : ℕ} → A (unread r) ≡ got v n → Rest g (B v)
  next_passes {v} {n} h = record { bytes = r.bytes; at = r.at + n; makes = λ y. r.makes (v, y); whole = next_whole h }
