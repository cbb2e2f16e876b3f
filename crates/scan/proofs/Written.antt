-- Write addresses in an array that is filled from its start.
use Prim.Native.Nat.{ℕ, zero, suc, ◌+◌, ◌-◌, ◌≤◌, ◌<◌}
use native.Mathlib.Omega.{arith}
use mathlib.Core.Path.{◌≡◌, refl, sym, ◌∙◌, ap}
use mathlib.Core.List.{List, [], ◌∷◌, ◌++◌, append_assoc, append-nil}
use lib.ListN.{length, set, take, drop, replicate, length-append}
use lib.Seq.{set_at}
use Rattle.std.proofs.Common.{Ok, Err}
use Rattle.text.specs.Code.{Reading, got}
use Rattle.text.specs.Combine.{read_times}
use Rattle.text.proofs.Passed.{Passed, ahead, passed_none, passed_more, times_end, times_more, times_stuck}
use Rattle.grammar.specs.Given.{padded}
use Rattle.scan.specs.Steps.{read_as, itself}
use Rattle.scan.specs.declared.Found.{Found}
use Rattle.scan.proofs.Readings.{Passes, Sticks}

-- i addresses and p bytes of what is read as o are passed, the rest is read as r, and of n places out holds the addresses
pub record Filled (n : ℕ) (out : List ℕ) (i p : ℕ) (o r : Reading (List ℕ)) : Type 0 where
  pub passed : Passed o i p r
  pub holds : out ≡ padded n passed.values

take-replicate : (n m : ℕ) → n ≤ m → take {A = ℕ} n (replicate m 0) ≡ replicate n 0
take-replicate zero m h = refl
take-replicate (suc n) zero h = absurd (omega arith)
take-replicate (suc n) (suc m) h = ap (λ (l : List ℕ). 0 ∷ l) (take-replicate n m (omega arith))

drop-replicate : (n m : ℕ) → n ≤ m → drop {A = ℕ} n (replicate m 0) ≡ replicate (m - n) 0
drop-replicate zero m h = ap (λ (j : ℕ). replicate j 0) (let q : m ≡ m - 0 = omega arith in q)
drop-replicate (suc n) zero h = absurd (omega arith)
drop-replicate (suc n) (suc m) h = drop-replicate n m (omega arith) ∙ ap (λ (j : ℕ). replicate j 0) (let q : m - n ≡ suc m - suc n = omega arith in q)

replicate-append : (n m : ℕ) → ◌++◌ {A = ℕ} (replicate n 0) (replicate m 0) ≡ replicate (n + m) 0
replicate-append zero m = ap (λ (j : ℕ). replicate j 0) (let q : m ≡ 0 + m = omega arith in q)
replicate-append (suc n) m = ap (λ (l : List ℕ). 0 ∷ l) (replicate-append n m) ∙ ap (λ (j : ℕ). replicate j 0) (let q : suc (n + m) ≡ suc n + m = omega arith in q)

padded_more : (n : ℕ) (l : List ℕ) (v : ℕ) → length l < n → set (padded n l) (length l) v ≡ padded n (l ++ (v ∷ []))
padded_more n l v h =
    ap (λ (j : ℕ). set (l ++ replicate j 0) (length l) v) (let q : n - length l ≡ suc (n - (length l + 1)) = omega arith in q)
    ∙ set_at l 0 (replicate (n - (length l + 1)) 0) v (length l) refl
    ∙ sym (append_assoc l (v ∷ []) (replicate (n - (length l + 1)) 0))
    ∙ ap (λ (j : ℕ). (l ++ (v ∷ [])) ++ replicate (n - j) 0) (sym (length-append l (v ∷ [])))

-- the n places in an array of m
pub padded_within : (n m : ℕ) (l : List ℕ) → length l ≤ n → n ≤ m → padded n l ++ drop n (replicate m 0) ≡ padded m l
padded_within n m l h k =
    ap (λ (x : List ℕ). padded n l ++ x) (drop-replicate n m k) ∙ append_assoc l (replicate (n - length l) 0) (replicate (m - n) 0)
    ∙ ap (λ (x : List ℕ). l ++ x) (replicate-append (n - length l) (m - n) ∙ ap (λ (j : ℕ). replicate j 0) (let q : n - length l + (m - n) ≡ m - length l = omega arith in q))

-- ---- n readings by f in a row, of the bytes s
module _ (f : List ℕ → Reading ℕ) (n : ℕ) (s : List ℕ) where
  abbrev pub FilledTo : List ℕ → ℕ → ℕ → Type 0
  FilledTo out i p = Filled n out i p (read_times f n s) (read_times f (n - i) (drop p s))

  pub filled_none : (m : ℕ) → n ≤ m → FilledTo (take n (replicate m 0)) 0 0
  filled_none m h =
      record {
        passed = passed_none (read_times f n s) (read_times f (n - 0) (drop 0 s)) 0 (ap (λ (j : ℕ). read_times f j s) (let q : n ≡ n - 0 = omega arith in q)) refl;
        holds = take-replicate n m h ∙ ap (λ (j : ℕ). replicate j 0) (let q : n ≡ n - 0 = omega arith in q);
      }

  module _ (out : List ℕ) (i p : ℕ) (h : FilledTo out i p) where
    pub filled_more : i < n → (r : Found ℕ) → Passes itself (f (drop p s)) p r → FilledTo (set out i r.value) (i + 1) r.size
    filled_more k r g =
        record {
          passed = passed_more (read_times f n s) i p (read_times f (n - i) (drop p s)) h.passed r.value g.size (read_times f (n - (i + 1)) (drop r.size s)) r.size g.goes
              (times_more f s p (n - i) r.value g.size (omega arith) (g.here ∙ ap (λ (x : ℕ). got x g.size) (sym g.found))
              ∙ ap (λ (j : ℕ). ahead (r.value ∷ []) g.size (read_times f j (drop (p + g.size) s))) (let q : n - i - 1 ≡ n - (i + 1) = omega arith in q)
              ∙ ap (λ (j : ℕ). ahead (r.value ∷ []) g.size (read_times f (n - (i + 1)) (drop j s))) (sym g.goes));
          holds =
              ap (λ (x : List ℕ). set x i r.value) h.holds
              ∙ ap (λ (j : ℕ). set (padded n h.passed.values) j r.value) (sym h.passed.many)
              ∙ padded_more n h.passed.values r.value (omega (arith, h.passed.many));
        }

    pub filled_stuck : i < n → (place : ℕ) → Sticks (f (drop p s)) p place → Err place ≡ read_as (padded 64) (read_times f n s)
    filled_stuck k place g =
        ap Err g.goes
        ∙ sym (ap (read_as (padded 64)) (h.passed.whole ∙ ap (ahead h.passed.values p) (times_stuck f s p (n - i) g.size (omega arith) g.here)))

    pub filled_all : n ≤ 64 → i ≤ n → n ≤ i → (w : List ℕ) → w ≡ out ++ drop n (replicate 64 0) → Ok (record { value = w; size = p }) ≡ read_as (padded 64) (read_times f n s)
    filled_all u up k w e =
        let l = h.passed.values in
        let whole = h.passed.whole ∙ ap (ahead l p) (times_end f s p (n - i) (omega arith)) in
        ap (λ (x : List ℕ). Ok (record { value = x; size = p })) (e ∙ ap (λ (x : List ℕ). x ++ drop n (replicate 64 0)) h.holds ∙ padded_within n 64 l (omega (arith, h.passed.many, up)) u)
        ∙ ap (λ (j : ℕ). Ok (record { value = padded 64 l; size = j })) (let q : p ≡ p + 0 = omega arith in q)
        ∙ ap (λ (x : List ℕ). Ok (record { value = padded 64 x; size = p + 0 })) (sym (append-nil l))
        ∙ sym (ap (read_as (padded 64)) whole)
