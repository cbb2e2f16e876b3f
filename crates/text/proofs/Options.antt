-- An option before a code is read rightly, where the first byte tells whether it is there.
use Prim.Native.Nat.{ℕ, suc, ◌+◌}
use native.Mathlib.Omega.{arith}
use native.Mathlib.Decide.{ℕ_discrete}
use mathlib.Core.Path.{◌≡◌, refl, sym, ◌∙◌, ap}
use mathlib.Core.Logic.{◌⊎◌, inl, inr}
use mathlib.Core.List.{List, [], ◌∷◌, ◌++◌}
use mathlib.Core.Option.{Option, none, some}
use mathlib.Core.Bool.{Bool, true, false}
use lib.Dec.{eqb}
use lib.ListN.{drop}
use borrow.Author.Tests.{eq-eqb, ne_eqb}
use Rattle.promises.specs.Choose.{choose}
use Rattle.text.specs.Code.{Code, Reading, got, stuck, Any, Right, Prefix}
use Rattle.text.specs.Combine.{mapped, both, shift, and_then, common, optional, read_optional}
use Rattle.text.proofs.Lists.{nil_cons}
use Rattle.text.proofs.Sequences.{both_right, both_prefix}
use Rattle.text.proofs.Renamed.{Off, Has, SameAt, same_at_right}

-- every text begins with the byte a
abbrev pub Starts : {X : Type 0} → Code X → ℕ → Type 0
Starts {X} C a = (v : X) → C.Valid v → (l : List ℕ) × (C.text v ≡ a ∷ l)

-- an option of A, whose texts begin with a, before B, whose texts begin with another byte
module _ {X Y : Type 0} (A : Code X) (B : Code Y) (a b : ℕ) (first : Starts A a) (next : Starts B b) (apart : b ≡ a → ⊥) where
  abbrev Both : Code (Option X × Y)
  Both = both (optional A) (λ _. B)

  abbrev given : X × Y → Option X × Y
  given p = (some p.0, p.1)

  abbrev omitted : Y → Option X × Y
  omitted w = (none, w)

  -- where the bytes begin with a, the option is there
  given_same : (c : ℕ) (s : List ℕ) → c ≡ a → SameAt (c ∷ s) (both A (λ _. B)) Both given
  given_same c s e = record { valid = λ p h. h; text = λ p h. refl; back = back }
    where
      back : (p : Option X × Y) → Both.Valid p → Has (both A (λ _. B)) (Both.text p) ⊎ Off (Both.text p) (c ∷ s)
      back (some v, w) h = inl ((v, w), h, refl)
      back (none, w) h = let k = next w h.1 in inr (record { byte = b; rest = k.0; is = k.1; other = λ l q. apart (let z : b ≡ c = cc in z ∙ e) })

  -- and where they do not, it is not
  omitted_same : (s : List ℕ) → ((l : List ℕ) → s ≡ a ∷ l → ⊥) → SameAt s B Both omitted
  omitted_same s off = record { valid = λ w h. (tt, h); text = λ w h. refl; back = back }
    where
      back : (p : Option X × Y) → Both.Valid p → Has B (Both.text p) ⊎ Off (Both.text p) s
      back (none, w) h = inl (w, h.1, refl)
      back (some v, w) h = let k = first v h.0 in inr (record { byte = a; rest = k.0 ++ B.text w; is = ap (λ (l : List ℕ). l ++ B.text w) k.1; other = off })

  module _ (R : List ℕ → Type 0) (f : List ℕ → Reading X) (g : List ℕ → Reading Y) where
    given_read : (s : List ℕ) (o : Reading X) → and_then s (mapped some o) (λ _. g) ≡ mapped given (and_then s o (λ _. g))
    given_read s (stuck n) = refl
    given_read s (got v n) = go (g (drop n s))
      where
        go : (o : Reading Y) → shift (some v) n o ≡ mapped given (shift v n o)
        go (got w m) = refl
        go (stuck m) = refl

    omitted_read : (o : Reading Y) → shift none 0 o ≡ mapped omitted o
    omitted_read (got w m) = ap (got (none, w)) (let q : 0 + m ≡ m = omega arith in q)
    omitted_read (stuck m) = ap stuck (let q : 0 + m ≡ m = omega arith in q)

    pub optional_right : Prefix A → (w₀ : Y) → B.Valid w₀ → ((s : List ℕ) → Right Any A s (f s)) → ((s : List ℕ) → Right R B s (g s))
        → (s : List ℕ) → Right R Both s (and_then s (read_optional a f s) (λ _. g))
    optional_right pre w₀ h₀ rf rg [] = rw (omitted_read (g [])) (same_at_right [] B Both omitted (omitted_same [] (λ l q. nil_cons q)) R (g []) (rg []))
    optional_right pre w₀ h₀ rf rg (c ∷ s) = go (ℕ_discrete c a)
      where
        go : Dec (c ≡ a) → Right R Both (c ∷ s) (and_then (c ∷ s) (read_optional a f (c ∷ s)) (λ _. g))
        go (yes e) =
            rw (eq-eqb c a e, given_read (c ∷ s) (f (c ∷ s)))
            (same_at_right (c ∷ s) (both A (λ _. B)) Both given (given_same c s e) R (and_then (c ∷ s) (f (c ∷ s)) (λ _. g))
            (both_right A (λ _. B) R pre (λ _ _. (w₀, h₀)) (c ∷ s) (f (c ∷ s)) (λ _. g) (rf (c ∷ s)) (λ _ _. rg)))
        go (no k) =
            rw (ne_eqb c a k, omitted_read (g (c ∷ s)))
            (same_at_right (c ∷ s) B Both omitted (omitted_same (c ∷ s) (λ l q. k (let z : c ≡ a = cc in z))) R (g (c ∷ s)) (rg (c ∷ s)))

  -- the byte tells them apart
  mixed : (v : X) (w w' : Y) (x x' : List ℕ) → A.Valid v → B.Valid w' → (A.text v ++ B.text w) ++ x ≡ B.text w' ++ x' → ⊥
  mixed v w w' x x' hv hw e =
      let k = first v hv in
      let j = next w' hw in
      let q : (a ∷ (k.0 ++ B.text w)) ++ x ≡ (b ∷ j.0) ++ x' = ap (λ (l : List ℕ). (l ++ B.text w) ++ x) (sym k.1) ∙ e ∙ ap (λ (l : List ℕ). l ++ x') j.1 in
      apart (let z : b ≡ a = cc in z)

  pub optional_prefix : Prefix A → Prefix B → Prefix Both
  optional_prefix pa pb (some v, w) (some v', w') x x' h h' e = ap given (both_prefix A (λ _. B) pa (λ _. pb) (v, w) (v', w') x x' h h' e)
  optional_prefix pa pb (none, w) (none, w') x x' h h' e = ap omitted (pb w w' x x' h.1 h'.1 e)
  optional_prefix pa pb (some v, w) (none, w') x x' h h' e = absurd (mixed v w w' x x' h.0 h'.1 e)
  optional_prefix pa pb (none, w) (some v, w') x x' h h' e = absurd (mixed v w' w x' x h'.0 h.1 (sym e))

-- ---- what is read, by how many bytes of a word that begins with a stand there
module _ {X : Type 0} (a : ℕ) (k : List ℕ) (f : List ℕ → Reading X) where
  pub optional_none : (s : List ℕ) → common (a ∷ k) s ≡ 0 → read_optional a f s ≡ got none 0
  optional_none [] h = refl
  optional_none (b ∷ s) h = go (eqb b a) h
    where
      go : (t : Bool) → choose t (suc (common k s)) 0 ≡ 0 → choose t (mapped some (f (b ∷ s))) (got none 0) ≡ got none 0
      go true h = absurd (omega arith)
      go false h = refl

  pub optional_some : (s : List ℕ) → (common (a ∷ k) s ≡ 0 → ⊥) → read_optional a f s ≡ mapped some (f s)
  optional_some [] h = absurd (h refl)
  optional_some (b ∷ s) h = go (eqb b a) h
    where
      go : (t : Bool) → (choose t (suc (common k s)) 0 ≡ 0 → ⊥) → choose t (mapped some (f (b ∷ s))) (got none 0) ≡ mapped some (f (b ∷ s))
      go true h = refl
      go false h = absurd (h refl)
