-- An annotation line, from what the functions answer of its key and its value, and the lines one after the other.
use Prim.Native.Nat.{ℕ, ◌+◌, ◌-◌, ◌≤◌, ◌<◌}
use native.Mathlib.Omega.{arith}
use mathlib.Core.Path.{◌≡◌, refl, sym, ◌∙◌, ap, subst}
use mathlib.Core.List.{List, [], ◌∷◌, ◌++◌}
use mathlib.Core.Bool.{Bool, true, false, ◌&&◌}
use lib.Dec.{eqb}
use lib.ListN.{length, take, drop, length-append}
use Rattle.std.proofs.Common.{Ok, Err, Result}
use Rattle.promises.proofs.Choices.{and_false}
use Rattle.text.specs.Code.{Reading, got, stuck, Any, Accepted, Right}
use Rattle.text.specs.Combine.{closed, read_closed, read_only, read_up_to}
use Rattle.text.proofs.Runs.{closed_right}
use Rattle.text.proofs.Back.{got_taken, got_some}
use Rattle.text.proofs.Rests.{passed, first_whole, first_sticks}
use Rattle.text.proofs.Passed.{Passed, ahead, passed_none, passed_more, up_to_end, up_to_full, up_to_stuck, up_to_more}
use Rattle.grammar.specs.Sheet.{key_byte, value_byte, deed_word, pins_word, writes_word, at_word, eq, same, free, annotation_line, line, lines}
use Rattle.grammar.specs.Read.{to_annotation, read_annotation, read_annotations}
use Rattle.grammar.specs.Given.{fields_in, tail_from}
use Rattle.grammar.proofs.Grammar.{annotation_right, annotation_some}
use Rattle.grammar.proofs.Parts.{LineIn}
use Rattle.scan.specs.Steps.{read_as, whole, free_key}
use Rattle.scan.specs.declared.Found.{Found}
use Rattle.scan.proofs.Readings.{ok_got, Passes, Sticks, there}

none_same : (l : List ℕ) → (same [] (l ++ eq) ≡ false) × (same (l ++ eq) [] ≡ false)
none_same [] = (refl, refl)
none_same (c ∷ l) = (refl, refl)

same_with_eq : (k l : List ℕ) → same (k ++ eq) (l ++ eq) ≡ same k l
same_with_eq [] [] = refl
same_with_eq [] (c ∷ l) = ap (λ (t : Bool). eqb 61 c && t) (none_same l).0 ∙ and_false (eqb 61 c)
same_with_eq (b ∷ k) [] = ap (λ (t : Bool). eqb b 61 && t) (none_same k).1 ∙ and_false (eqb b 61)
same_with_eq (b ∷ k) (c ∷ l) = ap (λ (t : Bool). eqb b c && t) (same_with_eq k l)

free_with_eq : (k : List ℕ) → free_key (k ++ eq) ≡ free k
free_with_eq k = rw (same_with_eq k deed_word, same_with_eq k pins_word, same_with_eq k writes_word, same_with_eq k at_word)

abbrev read_free : List ℕ → Reading (List ℕ)
read_free l = read_only free (read_closed key_byte 1 16 61 l)

abbrev read_value : List ℕ → List ℕ → Reading (List ℕ)
read_value _ l = read_closed value_byte 0 120 10 l

-- ---- the key r of a line, which stands there with its `=`
module _ (l : List ℕ) (r : Found ℕ) (e : Ok r ≡ read_as length (read_closed key_byte 1 16 61 l)) where
  record KeyRead : Type 0 where
    pub key : List ℕ
    pub here : read_closed key_byte 1 16 61 l ≡ got key r.size
    pub counted : r.value ≡ r.size - 1
    pub free_here : free_key (take r.size l) ≡ free key

  key_read : KeyRead
  key_read = go (ok_got length (read_closed key_byte 1 16 61 l) r e)
    where
      go : ((u : List ℕ) × (read_closed key_byte 1 16 61 l ≡ got u r.size) × (r.value ≡ length u)) → KeyRead
      go (u, q, w) =
          let C = closed key_byte 1 16 61 in
          let g : Accepted Any C l u r.size = subst (Right Any C l) q (closed_right key_byte 61 refl 45 refl 1 16 (omega arith) l) in
          record { key = u; here = q; counted = w ∙ omega (arith, g.size, length-append u eq); free_here = ap free_key (got_taken Any C l u r.size g) ∙ free_with_eq u }

  pub key_taken : free_key (take r.size l) ≡ false → Err r.value ≡ read_as whole (read_annotation l)
  key_taken f =
      let k = key_read in
      let q : read_free l ≡ stuck (r.size - 1) = rw (k.here, sym k.free_here ∙ f) in
      ap Err k.counted ∙ sym (ap (read_as whole) (first_sticks to_annotation read_free read_value l q))

  module _ (f : free_key (take r.size l) ≡ true) where
    after_key : read_annotation l ≡ passed (λ y. to_annotation (key_read.key, y)) r.size (read_closed value_byte 0 120 10 (drop r.size l))
    after_key =
        let k = key_read in
        let q : read_free l ≡ got k.key r.size = rw (k.here, sym k.free_here ∙ f) in
        first_whole to_annotation read_free read_value l q

    pub value_sticks : (place : ℕ) → Sticks (read_closed value_byte 0 120 10 (drop r.size l)) r.size place → Err place ≡ read_as whole (read_annotation l)
    value_sticks place g =
        ap Err g.goes ∙ sym (ap (read_as whole) (after_key ∙ ap (passed (λ y. to_annotation (key_read.key, y)) r.size) g.here))

    pub value_passes : (v : Found ℕ) → Passes length (read_closed value_byte 0 120 10 (drop r.size l)) r.size v → Ok (record { value = tt {0}; size = v.size }) ≡ read_as whole (read_annotation l)
    value_passes v g =
        ap (λ (j : ℕ). Ok (record { value = tt {0}; size = j })) g.goes
        ∙ sym (ap (read_as whole) (after_key ∙ ap (passed (λ y. to_annotation (key_read.key, y)) r.size) g.here))

-- ---- the lines, of which k and p bytes are passed
module _ (s : List ℕ) where
  abbrev pub NotesTo : ℕ → ℕ → Type 0
  NotesTo k p = Passed (read_annotations s) k p (read_up_to read_annotation (200 - k) (drop p s))

  pub notes_none : NotesTo 0 0
  notes_none = passed_none (read_annotations s) (read_annotations s) 0 refl refl

  -- a line that is read has a byte
  pub moves : (p : ℕ) (r : Found (Unit {0})) → Passes whole (read_annotation (drop p s)) p r → p < r.size
  moves p r g =
      let n : 1 ≤ g.size = got_some Any annotation_line (drop p s) annotation_some g.value g.size (subst (Right Any annotation_line (drop p s)) g.here (annotation_right (drop p s))) in
      omega (arith, n, g.goes)

  module _ (k p : ℕ) (h : NotesTo k p) where
    pub notes_more : k < 200 → p < length s → (r : Found (Unit {0})) → Passes whole (read_annotation (drop p s)) p r → NotesTo (k + 1) r.size
    notes_more u w r g =
        passed_more (read_annotations s) k p (read_up_to read_annotation (200 - k) (drop p s)) h g.value g.size (read_up_to read_annotation (200 - (k + 1)) (drop r.size s)) r.size g.goes
        (up_to_more read_annotation s p (200 - k) g.value g.size (omega arith) w g.here
        ∙ ap (λ (j : ℕ). ahead (g.value ∷ []) g.size (read_up_to read_annotation j (drop (p + g.size) s))) (let q : 200 - k - 1 ≡ 200 - (k + 1) = omega arith in q)
        ∙ ap (λ (j : ℕ). ahead (g.value ∷ []) g.size (read_up_to read_annotation (200 - (k + 1)) (drop j s))) (sym g.goes))

    pub notes_stick : k < 200 → p < length s → (place : ℕ) → Sticks (read_annotation (drop p s)) p place → Err place ≡ read_as length (read_annotations s)
    notes_stick u w place g =
        ap Err g.goes
        ∙ sym (ap (read_as length) (h.whole ∙ ap (ahead h.values p) (up_to_stuck read_annotation s p (200 - k) g.size (omega arith) w g.here)))

    pub notes_full : 200 ≤ k → p < length s → Err p ≡ read_as length (read_annotations s)
    notes_full u w =
        ap Err (let q : p ≡ p + 0 = omega arith in q)
        ∙ sym (ap (read_as length) (h.whole ∙ ap (ahead h.values p) (up_to_full read_annotation s p (200 - k) (omega arith) w)))

    pub notes_all : length s ≤ p → Ok (record { value = k; size = p }) ≡ read_as length (read_annotations s)
    notes_all w =
        (λ i. Ok (record { value = (let q : k ≡ length (h.values ++ []) = omega (arith, h.many, length-append h.values []) in q) i; size = (let q : p ≡ p + 0 = omega arith in q) i }))
        ∙ sym (ap (read_as length) (h.whole ∙ ap (ahead h.values p) (up_to_end read_annotation s p (200 - k) w)))

-- ---- line i of a whole sheet
module _ (s : List ℕ) (i at : ℕ) (h : LineIn s i) (here : at ≡ tail_from s + length (lines (take i (fields_in s).annotations))) (q : Result (Found (Unit {0})) ℕ) (e : q ≡ read_as whole (read_annotation (take (length s - at) (drop at s)))) where
  pub line_read : q ≡ Ok (record { value = tt {0}; size = length (line h.value) + 1 })
  line_read = there whole read_annotation at s q e ∙ ap (λ (j : ℕ). read_as whole (read_annotation (drop j s))) here ∙ ap (read_as whole) h.read
