-- The number of writes, 0 to 64 in decimal without leading zero, is read rightly.
use Prim.Native.Nat.{ℕ, ◌+◌, ◌-◌, ◌*◌, ◌/◌, ◌%◌, ◌≤◌, ◌<◌, zero-le}
use native.Mathlib.Omega.{arith}
use native.Mathlib.Decide.{ℕ_discrete}
use mathlib.Core.Path.{◌≡◌, refl, sym, ap}
use mathlib.Core.Logic.{⊎_elim}
use mathlib.Core.List.{List, [], ◌∷◌, ◌++◌}
use mathlib.Core.Bool.{Bool, true, false}
use borrow.Author.Tests.{eq-eqb, ne_eqb, leb-true, le-leb, lt-ltb, le-ltb}
use lib.Dec.{leb, ltb}
use Rattle.promises.specs.Choose.{choose}
use Rattle.text.specs.Code.{Code, stuck, Any, Right, Prefix, Some}
use Rattle.text.specs.Combine.{bump}
use Rattle.text.proofs.Lists.{le_or_lt, nil_cons}
use Rattle.text.proofs.Steps.{After, step_right, stop_right, end_right}
use Rattle.text.proofs.Tests.{clash, and_split, and_both, between_of, between_le}
use Rattle.grammar.specs.Sheet.{nl, count_digits, count_code}
use Rattle.grammar.specs.Read.{digit, more, closing, read_second, read_number}

-- the first digit's value, and what follows the first digit
lead : ℕ → ℕ
lead n = choose (ltb n 10) n (n / 10)

abbrev after1 : ℕ → List ℕ
after1 n = choose (ltb n 10) [] ((48 + n % 10) ∷ [])

-- small or not
data Size (n : ℕ) : Type 0 where
  small : n < 10 → ltb n 10 ≡ true → Size n
  large : 10 ≤ n → ltb n 10 ≡ false → Size n

size : (n : ℕ) → Size n
size n = ⊎_elim (λ (h : 10 ≤ n). large h (le-ltb n 10 h)) (λ (h : n < 10). small h (lt-ltb n 10 h)) (le_or_lt 10 n)

abbrev seconds : ℕ → Code ℕ
seconds d = record { Valid = λ n. (n ≤ 64) × (lead n ≡ d); text = λ n. after1 n ++ nl }

abbrev thirds : ℕ → Code ℕ
thirds v = record { Valid = λ n. n ≡ v; text = λ _. nl }

count_code_some : Some count_code
count_code_some n h e = go (size n)
  where
    go : Size n → ⊥
    go (small k t) = nil_cons (sym (rw t at e))
    go (large k t) = nil_cons (sym (rw t at e))

count_code_after : (b : ℕ) → 48 ≤ b → After count_code b (seconds (b - 48)) (λ n. n)
unfolding lead
count_code_after b hb = record { valid = λ n h. h.0; text = text; back = back }
  where
    text : (n : ℕ) → (seconds (b - 48)).Valid n → count_digits n ++ nl ≡ b ∷ (after1 n ++ nl)
    text n h = go (size n)
      where
        go : Size n → count_digits n ++ nl ≡ b ∷ (after1 n ++ nl)
        go (small k t) = rw t (ap (λ (c : ℕ). c ∷ nl) (omega (arith, rw t at h.1)))
        go (large k t) = rw t (ap (λ (c : ℕ). c ∷ (48 + n % 10) ∷ nl) (omega (arith, rw t at h.1)))

    back : (n : ℕ) (l : List ℕ) → n ≤ 64 → count_digits n ++ nl ≡ b ∷ l → (w : ℕ) × (seconds (b - 48)).Valid w × (after1 w ++ nl ≡ l)
    back n l h e = go (size n)
      where
        go : Size n → (w : ℕ) × (seconds (b - 48)).Valid w × (after1 w ++ nl ≡ l)
        go (small k t) = let e' : (48 + n) ∷ nl ≡ b ∷ l = rw t at e in let q : 48 + n ≡ b = cc in (n, (h, rw t (omega arith)), rw t (cc))
        go (large k t) = let e' : (48 + n / 10) ∷ (48 + n % 10) ∷ nl ≡ b ∷ l = rw t at e in let q : 48 + n / 10 ≡ b = cc in (n, (h, rw t (omega arith)), rw t (cc))

seconds_some : (d : ℕ) → Some (seconds d)
seconds_some d n h e = go (size n)
  where
    go : Size n → ⊥
    go (small k t) = nil_cons (sym (rw t at e))
    go (large k t) = nil_cons (sym (rw t at e))

first_valid : (d : ℕ) → d ≤ 9 → (seconds d).Valid d
unfolding lead
first_valid d h = (omega arith, rw (lt-ltb d 10 (omega arith)))

thirds_right : (v : ℕ) (s : List ℕ) → Right Any (thirds v) s (closing v s)
thirds_right v [] = end_right Any (thirds v) (λ n h e. nil_cons (sym e)) v refl
thirds_right v (c ∷ s) = go (ℕ_discrete c 10)
  where
    go : Dec (c ≡ 10) → Right Any (thirds v) (c ∷ s) (closing v (c ∷ s))
    go (yes e) = rw (eq-eqb c 10 e) (record { valid = refl; size = refl; whole = ap (λ (x : ℕ). x ∷ s) e; rest = tt })
    go (no k) = rw (ne_eqb c 10 k) (stop_right Any (thirds v) (λ n h e. nil_cons (sym e)) v refl c (λ n l h e. k (let q : c ≡ 10 = cc in q)) s)

more_of : (d c : ℕ) → 48 ≤ c → c ≤ 57 → 1 ≤ d → 10 * d + (c - 48) ≤ 64 → more d c ≡ true
more_of d c h k l m = and_both (digit c) _ (between_of 48 57 c h k) (and_both (leb 1 d) _ (le-leb 1 d l) (le-leb _ 64 m))

pub more_le : (d c : ℕ) → more d c ≡ true → (48 ≤ c) × (c ≤ 57) × (1 ≤ d) × (10 * d + (c - 48) ≤ 64)
more_le d c h =
    let a = and_split (digit c) _ h in
    let b = and_split (leb 1 d) _ a.1 in
    let r = between_le 48 57 c a.0 in
    (r.0, r.1, leb-true 1 d b.0, leb-true _ 64 b.1)

seconds_after : (d c : ℕ) → more d c ≡ true → After (seconds d) c (thirds (10 * d + (c - 48))) (λ n. n)
unfolding lead
seconds_after d c m = record { valid = valid; text = text; back = back }
  where
    f : (48 ≤ c) × (c ≤ 57) × (1 ≤ d) × (10 * d + (c - 48) ≤ 64)
    f = more_le d c m

    valid : (n : ℕ) → n ≡ 10 * d + (c - 48) → (seconds d).Valid n
    valid n e = (omega (arith, f), rw (le-ltb n 10 (omega (arith, f))) (omega (arith, f)))

    text : (n : ℕ) → n ≡ 10 * d + (c - 48) → after1 n ++ nl ≡ c ∷ nl
    text n e = rw (le-ltb n 10 (omega (arith, f))) (ap (λ (x : ℕ). x ∷ nl) (omega (arith, f)))

    back : (n : ℕ) (l : List ℕ) → (seconds d).Valid n → after1 n ++ nl ≡ c ∷ l → (w : ℕ) × (w ≡ 10 * d + (c - 48)) × (nl ≡ l)
    back n l h e = go (size n)
      where
        go : Size n → (w : ℕ) × (w ≡ 10 * d + (c - 48)) × (nl ≡ l)
        go (small k t) = let e' : nl ≡ c ∷ l = rw t at e in let q : 10 ≡ c = cc in absurd (omega (arith, f))
        go (large k t) = let e' : (48 + n % 10) ∷ nl ≡ c ∷ l = rw t at e in let q : 48 + n % 10 ≡ c = cc in (n, omega (arith, f, rw t at h.1), (cc))

seconds_right : (d : ℕ) → d ≤ 9 → (s : List ℕ) → Right Any (seconds d) s (read_second d s)
unfolding lead
seconds_right d hd [] = end_right Any (seconds d) (seconds_some d) d (first_valid d hd)
seconds_right d hd (c ∷ s) = go (more d c) refl
  where
    last : more d c ≡ false → Dec (c ≡ 10) → Right Any (seconds d) (c ∷ s) (closing d (c ∷ s))
    last m (yes e) = rw (eq-eqb c 10 e) (record { valid = first_valid d hd; size = rw (lt-ltb d 10 (omega arith)); whole = rw (lt-ltb d 10 (omega arith)) (ap (λ (x : ℕ). x ∷ s) e); rest = tt })
    last m (no k) = rw (ne_eqb c 10 k) (stop_right Any (seconds d) (seconds_some d) d (first_valid d hd) c none s)
      where
        none : (n : ℕ) (l : List ℕ) → (seconds d).Valid n → after1 n ++ nl ≡ c ∷ l → ⊥
        none n l h e = no_size (size n)
          where
            no_size : Size n → ⊥
            no_size (small i t) = let e' : nl ≡ c ∷ l = rw t at e in k (let q : c ≡ 10 = cc in q)
            no_size (large i t) =
                let e' : (48 + n % 10) ∷ nl ≡ c ∷ l = rw t at e in
                let q : 48 + n % 10 ≡ c = cc in
                let j : n / 10 ≡ d = rw t at h.1 in
                clash (more_of d c (omega arith) (omega arith) (omega arith) (omega (arith, h.0))) m

    go : (t : Bool) → more d c ≡ t → Right Any (seconds d) (c ∷ s) (choose t (bump (λ v. v) (closing (10 * d + (c - 48)) s)) (closing d (c ∷ s)))
    go true m = step_right Any (seconds d) (seconds_some d) c (thirds (10 * d + (c - 48))) (λ n. n) (seconds_after d c m) s (closing (10 * d + (c - 48)) s) (thirds_right (10 * d + (c - 48)) s)
    go false m = last m (ℕ_discrete c 10)

pub count_code_right : (s : List ℕ) → Right Any count_code s (read_number s)
count_code_right [] = end_right Any count_code count_code_some 0 zero-le
count_code_right (b ∷ s) = go (digit b) refl
  where
    go : (t : Bool) → digit b ≡ t → Right Any count_code (b ∷ s) (choose t (bump (λ v. v) (read_second (b - 48) s)) (stuck 0))
    go true h =
        let r = between_le 48 57 b h in
        step_right Any count_code count_code_some b (seconds (b - 48)) (λ n. n) (count_code_after b r.0) s (read_second (b - 48) s) (seconds_right (b - 48) (omega arith) s)
    go false h = stop_right Any count_code count_code_some 0 zero-le b none s
      where
        none : (n : ℕ) (l : List ℕ) → n ≤ 64 → count_digits n ++ nl ≡ b ∷ l → ⊥
        none n l k e = no_size (size n)
          where
            no_size : Size n → ⊥
            no_size (small i t) = let e' : (48 + n) ∷ nl ≡ b ∷ l = rw t at e in let q : 48 + n ≡ b = cc in clash (between_of 48 57 b (omega arith) (omega arith)) h
            no_size (large i t) = let e' : (48 + n / 10) ∷ (48 + n % 10) ∷ nl ≡ b ∷ l = rw t at e in let q : 48 + n / 10 ≡ b = cc in clash (between_of 48 57 b (omega arith) (omega arith)) h

pub count_code_prefix : Prefix count_code
count_code_prefix n n' x x' h h' e = go (size n) (size n')
  where
    go : Size n → Size n' → n ≡ n'
    go (small k t) (small k' t') = let e' : (48 + n) ∷ 10 ∷ x ≡ (48 + n') ∷ 10 ∷ x' = rw (t, t') at e in let q : 48 + n ≡ 48 + n' = cc in omega arith
    go (small k t) (large k' t') = let e' : (48 + n) ∷ 10 ∷ x ≡ (48 + n' / 10) ∷ (48 + n' % 10) ∷ 10 ∷ x' = rw (t, t') at e in let q : 10 ≡ 48 + n' % 10 = cc in absurd (omega arith)
    go (large k t) (small k' t') = let e' : (48 + n / 10) ∷ (48 + n % 10) ∷ 10 ∷ x ≡ (48 + n') ∷ 10 ∷ x' = rw (t, t') at e in let q : 48 + n % 10 ≡ 10 = cc in absurd (omega arith)
    go (large k t) (large k' t') =
        let e' : (48 + n / 10) ∷ (48 + n % 10) ∷ 10 ∷ x ≡ (48 + n' / 10) ∷ (48 + n' % 10) ∷ 10 ∷ x' = rw (t, t') at e in
        let q : 48 + n / 10 ≡ 48 + n' / 10 = cc in
        let q' : 48 + n % 10 ≡ 48 + n' % 10 = cc in
        omega arith
