-- An annotation's line by its bytes: where it ends, which key it has, and what one byte more says in the loops that look for both.
use Prim.Native.Nat.{ℕ, zero, suc, ◌+◌, ◌-◌, ◌≤◌}
use native.Mathlib.Nat.{le_of_suc-le-suc}
use native.Mathlib.Omega.{arith}
use mathlib.Core.Path.{◌≡◌, refl, sym, ◌∙◌, ap}
use mathlib.Core.List.{List, [], ◌∷◌, ◌++◌, append_assoc}
use mathlib.Core.Bool.{Bool, true, false, not, ◌&&◌, ◌||◌}
use mathlib.Core.Logic.{⊎_elim}
use borrow.Author.Tests.{eq-eqb, ne_eqb, eqb-true, eqb-false, not-true}
use lib.Dec.{eqb, leb, ltb}
use lib.ListN.{length, take, drop, length-append, length-drop}
use lib.Seq.{take_all}
use Rattle.std.proofs.Common.{Some, None, cond, nat_lt, ◌==◌}
use Rattle.std.specs.List.{list_any, position, position_or_len, prefix_len, zip}
use Rattle.std.specs.Option.{unwrap_or}
use Rattle.std.proofs.lemmas.Bool.Decides.{nat_tests}
use Rattle.promises.specs.Choose.{choose}
use Rattle.promises.proofs.Choices.{either, both_pass, of_both}
use Rattle.text.specs.Combine.{All}
use Rattle.text.specs.Hex.{between}
use Rattle.text.proofs.Tests.{clash, between_le}
use Rattle.grammar.specs.Sheet.{key_byte, value_byte, eq, nl, same, Annotation, ValidAnnotation, line}
use Rattle.lookup.specs.Steps.{to_line_end, keyed_by, alike, equals_first}

-- ---- what an annotation is made of
-- a byte of a key is neither `=` nor a line end
key_byte_lem : (b : ℕ) → key_byte b ≡ true → (eqb b 61 ≡ false) × (eqb b 10 ≡ false)
key_byte_lem b h =
    ⊎_elim (λ (l : between 97 122 b ≡ true). let w = between_le 97 122 b l in (ne_eqb b 61 (λ e. omega (arith, w.0, e)), ne_eqb b 10 (λ e. omega (arith, w.0, e))))
    (λ (l : eqb b 45 ≡ true). let w = eqb-true b 45 l in (ne_eqb b 61 (λ e. omega (arith, w, e)), ne_eqb b 10 (λ e. omega (arith, w, e))))
    (either (between 97 122 b) (eqb b 45) h)

-- a byte of a value is no line end
value_byte_lem : (b : ℕ) → value_byte b ≡ true → eqb b 10 ≡ false
value_byte_lem b h = not-true (eqb b 10) (both_pass (leb b 255) (not (eqb b 10)) h).1

-- a line ends behind its value
value_end : (v x : List ℕ) → All value_byte v → to_line_end (v ++ (10 ∷ x)) ≡ length v
value_end [] x a = refl
value_end (b ∷ v) x a = rw (value_byte_lem b a.0) (ap suc (value_end v x a.1))

key_end : (k v x : List ℕ) → All key_byte k → All value_byte v → to_line_end (k ++ (61 ∷ (v ++ (10 ∷ x)))) ≡ length (k ++ (61 ∷ v))
key_end [] v x a b = ap suc (value_end v x b)
key_end (c ∷ k) v x a b = rw (key_byte_lem c a.0).1 (ap suc (key_end k v x a.1 b))

-- its key stands before the first `=`
key_is : (l k x : List ℕ) → All key_byte l → keyed_by k (l ++ (61 ∷ x)) ≡ same l k
key_is [] [] x a = refl
key_is [] (c ∷ k) x a = refl
key_is (b ∷ l) [] x a = (key_byte_lem b a.0).0
key_is (b ∷ l) (c ∷ k) x a = rw (key_byte_lem b a.0).0 (ap (λ (t : Bool). eqb b c && t) (key_is l k x a.1))

pub line_size : (a : Annotation) → length (line a) ≡ length a.key + 1 + length a.value
line_size a = length-append a.key (eq ++ a.value) ∙ omega arith

-- where an annotation's line ends and which key it has, whatever follows it
module _ (a : Annotation) (v : ValidAnnotation a) (x : List ℕ) where
  pub line_ends : to_line_end (line a ++ (nl ++ x)) ≡ length (line a)
  line_ends = ap to_line_end (append_assoc a.key (eq ++ a.value) (nl ++ x)) ∙ key_end a.key a.value x v.key_bytes v.value_bytes

  pub line_keyed : (k : List ℕ) → keyed_by k (line a ++ (nl ++ x)) ≡ same a.key k
  line_keyed k = ap (keyed_by k) (append_assoc a.key (eq ++ a.value) (nl ++ x)) ∙ key_is a.key k (a.value ++ (nl ++ x)) v.key_bytes

-- where none is among the first n, the line goes on behind them
goes_by : (b : ℕ) (n : ℕ) (s : List ℕ) (t : Bool) → eqb b 10 ≡ t → t || list_any (λ b. b == 10) (take n s) ≡ false
    → (list_any (λ b. b == 10) (take n s) ≡ false → to_line_end s ≡ n + to_line_end (drop n s)) → to_line_end (b ∷ s) ≡ suc n + to_line_end (drop n s)
goes_by b n s true e h f = absurd (clash refl h)
goes_by b n s false e h f = rw e (omega (arith, f h))

pub goes_on : (n : ℕ) (s : List ℕ) → n ≤ length s → list_any (λ b. b == 10) (take n s) ≡ false → to_line_end s ≡ n + to_line_end (drop n s)
goes_on zero s l h = omega arith
goes_on (suc n) [] l h = absurd (omega arith)
goes_on (suc n) (b ∷ s) l h = goes_by b n s (eqb b 10) refl h (goes_on n s (le_of_suc-le-suc l))

-- the first line end is the first byte that is one
one_more : (b : ℕ) (s : List ℕ) (t : Bool) → eqb b 10 ≡ t → position_or_len (λ b. b == 10) s ≡ to_line_end s → position_or_len (λ b. b == 10) (b ∷ s) ≡ to_line_end (b ∷ s)
one_more b s true e h = simp e
one_more b s false e h = simp e (omega (arith, h))

pub end_position : (s : List ℕ) → position_or_len (λ b. b == 10) s ≡ to_line_end s
end_position [] = refl
end_position (b ∷ s) = one_more b s (eqb b 10) refl (end_position s)

end_within : (s : List ℕ) → to_line_end s ≤ length s
end_within [] = omega arith
end_within (b ∷ s) = of_both (λ (n : ℕ). n ≤ suc (length s)) (eqb b 10) (omega arith) (omega (arith, end_within s))

-- a place that is found, or the length in its stead
or_len : (i n : ℕ) → i ≤ n → unwrap_or (cond (nat_lt i n) (Some i) None) n ≡ i
or_len i n h = grind (arith, nat_tests)

pub end_found : (s : List ℕ) → unwrap_or (position (λ b. b == 10) s) (length s) ≡ to_line_end s
end_found s = or_len (position_or_len (λ b. b == 10) s) (length s) (rw (end_position s) (end_within s)) ∙ end_position s

-- a line has the key where they go alike to the key's end, and an `=` follows there
abbrev pub equals_behind : ℕ → List ℕ → Bool
equals_behind n s = equals_first (drop n s)

none : (n : ℕ) → eqb 0 (suc n) ≡ false
none n = ne_eqb 0 (suc n) (λ e. omega (arith, e))

each : (n m : ℕ) (t : Bool) → eqb n m ≡ t → eqb (suc n) (suc m) ≡ t
each n m true e = eq-eqb (suc n) (suc m) (ap suc (eqb-true n m e))
each n m false e = ne_eqb (suc n) (suc m) (λ q. eqb-false n m e (omega (arith, q)))

pub key_alike : (k s : List ℕ) → eqb (alike k s) (length k) && equals_behind (alike k s) s ≡ keyed_by k s
key_alike [] [] = refl
key_alike [] (b ∷ s) = refl
key_alike (c ∷ k) [] = ap (λ (t : Bool). t && equals_behind 0 []) (none (length k))
key_alike (c ∷ k) (b ∷ s) = go (eqb b 61) (eqb b c) (key_alike k s)
  where
    at : Bool → ℕ
    at t = choose t (suc (alike k s)) 0

    go : (x u : Bool) → eqb (alike k s) (length k) && equals_behind (alike k s) s ≡ keyed_by k s
        → eqb (at (not x && u)) (suc (length k)) && equals_behind (at (not x && u)) (b ∷ s) ≡ not x && (u && keyed_by k s)
    go true u h = ap (λ (t : Bool). t && equals_behind 0 (b ∷ s)) (none (length k))
    go false true h = ap (λ (t : Bool). t && equals_behind (alike k s) s) (each (alike k s) (length k) (eqb (alike k s) (length k)) refl) ∙ h
    go false false h = ap (λ (t : Bool). t && equals_behind 0 (b ∷ s)) (none (length k))

-- so where the two go alike to the key's end, what follows there decides, and else the line has another key
module _ (k s : List ℕ) (n : ℕ) (e : n ≡ alike k s) where
  there : (t : Bool) → eqb n (length k) ≡ t → t && equals_behind n s ≡ keyed_by k s
  there t h = sym (ap (λ (x : Bool). x && equals_behind n s) h) ∙ ap (λ (m : ℕ). eqb m (length k) && equals_behind m s) e ∙ key_alike k s

  -- what the code's slice holds
  left : take (length s - n) (drop n s) ≡ drop n s
  left = take_all (length s - n) (drop n s) (omega (arith, length-drop n s))

  pub key_there : (t : Bool) → n ≡ length k → t ≡ equals_first (take (length s - n) (drop n s)) → t ≡ keyed_by k s
  key_there t h f = f ∙ ap equals_first left ∙ there true (eq-eqb n (length k) h)

  pub key_other : (n ≡ length k → ⊥) → eqb n (length k) ≡ keyed_by k s
  key_other h = let m = ne_eqb n (length k) h in m ∙ there false m

-- the pairs that the chain goes through
abbrev pub goes_alike : ℕ × ℕ → Bool
goes_alike p = not (eqb p.0 61) && eqb p.0 p.1

pub alike_prefix : (k s : List ℕ) → prefix_len goes_alike (zip s k) ≡ alike k s
alike_prefix [] [] = refl
alike_prefix [] (b ∷ s) = refl
alike_prefix (c ∷ k) [] = refl
alike_prefix (c ∷ k) (b ∷ s) = go (not (eqb b 61) && eqb b c) (alike_prefix k s)
  where
    go : (t : Bool) → prefix_len goes_alike (zip s k) ≡ alike k s → cond t (1 + prefix_len goes_alike (zip s k)) 0 ≡ choose t (suc (alike k s)) 0
    go true e = omega (arith, e)
    go false e = refl

pub alike_within : (k s : List ℕ) → alike k s ≤ length s
alike_within [] s = omega arith
alike_within (c ∷ k) [] = omega arith
alike_within (c ∷ k) (b ∷ s) = of_both (λ (n : ℕ). n ≤ suc (length s)) (not (eqb b 61) && eqb b c) (omega (arith, alike_within k s)) (omega arith)
