-- Several of one code are read rightly: exactly n, and up to n to the end.
use Prim.Native.Nat.{ℕ, zero, suc, ◌-◌, ◌≤◌, zero-le, suc-le-suc}
use native.Mathlib.Omega.{arith}
use native.Mathlib.Nat.{le_of_suc-le-suc}
use mathlib.Core.Path.{◌≡◌, refl, sym, ◌∙◌, ap}
use mathlib.Core.List.{List, [], ◌∷◌, ◌++◌, append-nil}
use lib.ListN.{length, take, replicate, length-replicate}
use Rattle.text.specs.Code.{Code, Begins, Reading, got, stuck, Any, None, Refused, Right, Prefix, Some}
use Rattle.text.specs.Combine.{mapped, both, and_then, AllValid, texts, pushed, times, read_times, up_to, read_up_to}
use Rattle.text.proofs.Lists.{cancel, nil_cons, empty_first}
use Rattle.text.proofs.Sequences.{both_right, both_prefix}
use Rattle.text.proofs.Renamed.{Same, same_right, same_prefix}

module _ {X : Type 0} (C : Code X) (f : List ℕ → Reading X) (reads : (s : List ℕ) → Right Any C s (f s)) (pre : Prefix C) (v₀ : X) (h₀ : C.Valid v₀) where
  all_same : (n : ℕ) → AllValid C (replicate n v₀)
  all_same zero = tt
  all_same (suc n) = (h₀, all_same n)

  some_times : (n : ℕ) → (l : List X) × (times n C).Valid l
  some_times n = (replicate n v₀, (all_same n, length-replicate n v₀))

  times_same : (n : ℕ) → Same (both C (λ _. times n C)) (times (suc n) C) pushed
  times_same n = record { valid = λ v h. ((h.0, h.1.0), ap suc h.1.1); text = λ v h. refl; back = back }
    where
      back : (l : List X) → (times (suc n) C).Valid l → (p : X × List X) × (both C (λ _. times n C)).Valid p × (pushed p ≡ l)
      back [] h = absurd (omega (arith, h.1))
      back (v ∷ l) h = ((v, l), (h.0.0, (h.0.1, omega (arith, h.1))), refl)

  pub times_right : (n : ℕ) (s : List ℕ) → Right Any (times n C) s (read_times f n s)
  times_right zero s = record { valid = (tt, refl); size = refl; whole = refl; rest = tt }
  times_right (suc n) s =
      same_right (both C (λ _. times n C)) (times (suc n) C) pushed (times_same n) Any s (and_then s (f s) (λ _ r. read_times f n r))
      (both_right C (λ _. times n C) Any pre (λ v h. some_times n) s (f s) (λ _ r. read_times f n r) (reads s) (λ v h r. times_right n r))

  pub times_prefix : (n : ℕ) → Prefix (times n C)
  times_prefix zero [] [] x x' h h' e = refl
  times_prefix zero [] (w ∷ l) x x' h h' e = absurd (omega (arith, h'.1))
  times_prefix zero (v ∷ l) l' x x' h h' e = absurd (omega (arith, h.1))
  times_prefix (suc n) l l' x x' h h' e = same_prefix (both C (λ _. times n C)) (times (suc n) C) pushed (times_same n) (both_prefix C (λ _. times n C) pre (λ v. times_prefix n)) l l' x x' h h' e

  -- at most n, to the end
  module _ (some : Some C) where
    -- a text that is not empty has a first
    pop : (n : ℕ) (l : List X) (b : ℕ) (x : List ℕ) → (up_to (suc n) C).Valid l → texts C l ≡ b ∷ x → (p : X × List X) × (both C (λ _. up_to n C)).Valid p × (b ∷ x ≡ (both C (λ _. up_to n C)).text p)
    pop n [] b x h e = absurd (nil_cons e)
    pop n (v ∷ l) b x h e = ((v, l), (h.0.0, (h.0.1, le_of_suc-le-suc h.1)), sym e)

    none : (l : List X) (b : ℕ) (x : List ℕ) → (up_to 0 C).Valid l → texts C l ≡ b ∷ x → ⊥
    none [] b x h e = nil_cons e
    none (v ∷ l) b x h e = omega (arith, h.1)

    all_of : (l : List X) (r s : List ℕ) → r ≡ [] → s ≡ texts C l ++ r → texts C l ≡ s
    all_of l r s h e = sym (e ∙ rw (h, append-nil))

    up_to_none : (b : ℕ) (s : List ℕ) → Refused None (up_to 0 C) (b ∷ s) 0
    up_to_none b s =
        record {
          longest = record { within = zero-le; begun = ([], [], (tt, zero-le), refl); most = most };
          never = λ l r hr hl e. none l b s hl (all_of l r (b ∷ s) hr e);
        }
      where
        most : (m : ℕ) → m ≤ suc (length s) → Begins (up_to 0 C) (take m (b ∷ s)) → m ≤ 0
        most zero hm k = zero-le
        most (suc m) hm k = absurd (none k.0 b (take m s ++ k.1) k.2 (sym k.3))

    -- with a byte to read, another one is there
    up_to_more : (n b : ℕ) (s : List ℕ) (o : Reading (X × List X)) → Right None (both C (λ _. up_to n C)) (b ∷ s) o → Right None (up_to (suc n) C) (b ∷ s) (mapped pushed o)
    up_to_more n b s (got p k) g = record { valid = ((g.valid.0, g.valid.1.0), suc-le-suc g.valid.1.1); size = g.size; whole = g.whole; rest = g.rest }
    up_to_more n b s (stuck k) g =
        record {
          longest = record { within = g.longest.within; begun = begun; most = most };
          never = λ l r hr hl e. let q = pop n l b s hl (all_of l r (b ∷ s) hr e) in g.never q.0 [] refl q.1 (q.2 ∙ sym (append-nil _));
        }
      where
        begun : Begins (up_to (suc n) C) (take k (b ∷ s))
        begun = let q = g.longest.begun in (pushed q.0, q.1, ((q.2.0, q.2.1.0), suc-le-suc q.2.1.1), q.3)

        most : (m : ℕ) → m ≤ suc (length s) → Begins (up_to (suc n) C) (take m (b ∷ s)) → m ≤ k
        most zero hm q = zero-le
        most (suc m) hm q = let w = pop n q.0 b (take m s ++ q.1) q.2 (sym q.3) in g.longest.most (suc m) hm (w.0, q.1, w.1, w.2)

    pub up_to_right : (n : ℕ) (s : List ℕ) → Right None (up_to n C) s (read_up_to f n s)
    up_to_right zero [] = record { valid = (tt, zero-le); size = refl; whole = refl; rest = refl }
    up_to_right zero (b ∷ s) = up_to_none b s
    up_to_right (suc n) [] = record { valid = (tt, zero-le); size = refl; whole = refl; rest = refl }
    up_to_right (suc n) (b ∷ s) =
        up_to_more n b s (and_then (b ∷ s) (f (b ∷ s)) (λ _ r. read_up_to f n r))
        (both_right C (λ _. up_to n C) None pre (λ v h. ([], (tt, zero-le))) (b ∷ s) (f (b ∷ s)) (λ _ r. read_up_to f n r) (reads (b ∷ s)) (λ v h r. up_to_right n r))

    -- two lists of valid values with one text are one
    pub up_to_one : (n n' : ℕ) (l l' : List X) → (up_to n C).Valid l → (up_to n' C).Valid l' → texts C l ≡ texts C l' → l ≡ l'
    up_to_one n n' [] [] h h' e = refl
    up_to_one n n' [] (w ∷ l') h h' e = absurd (some w h'.0.0 (empty_first (C.text w) (texts C l') e))
    up_to_one n n' (v ∷ l) [] h h' e = absurd (some v h.0.0 (empty_first (C.text v) (texts C l) (sym e)))
    up_to_one n n' (v ∷ l) (w ∷ l') h h' e =
        let q : v ≡ w = pre v w (texts C l) (texts C l') h.0.0 h'.0.0 e in
        let t : texts C l ≡ texts C l' = cancel (C.text v) (texts C l) (texts C l') (e ∙ ap (λ (z : X). C.text z ++ texts C l') (sym q)) in
        let r : l ≡ l' = up_to_one (n - 1) (n' - 1) l l' (h.0.1, omega (arith, h.1)) (h'.0.1, omega (arith, h'.1)) t in
        cc
