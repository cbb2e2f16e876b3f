-- The first value under a key in one sheet: which annotation has it, where it lies, and that it stands there.
use Prim.Native.Nat.{ℕ, ◌+◌, ◌≤◌, ◌<◌}
use native.Mathlib.Omega.{arith}
use mathlib.Core.Path.{◌≡◌, refl, sym, ◌∙◌, ap, subst}
use mathlib.Core.List.{List, [], ◌∷◌, ◌++◌, append_assoc}
use mathlib.Core.Bool.{Bool, true, false}
use mathlib.Core.Logic.{◌↔◌}
use borrow.Author.Tests.{lt-ltb, le-ltb, ltb-true, ltb-false}
use lib.Dec.{ltb}
use lib.ListN.{length, take, drop, length-append}
use lib.Seq.{drop-append_seam, drop-drop, take_at}
use Rattle.std.proofs.Common.{Some, None}
use Rattle.promises.specs.Choose.{choose}
use Rattle.promises.proofs.Choices.{by_test}
use Rattle.promises.proofs.Firsts.{first_le, first_at, first_none, first_before, first_holds, nowhere}
use Rattle.text.proofs.Tests.{clash}
use Rattle.grammar.specs.Sheet.{eq, nl, same, Annotation, ValidAnnotation, line, lines}
use Rattle.grammar.specs.Given.{accepted, fields_in, tail_from, annotation_from, annotation_at}
use Rattle.grammar.proofs.Keys.{same_eq, same_refl}
use Rattle.grammar.proofs.Parts.{some_accepted, line_from, line_in}
use Rattle.scan.specs.declared.Span.{Span}
use Rattle.lookup.specs.Lookup.{first_with, has_key, value_in, value_from}
use Rattle.lookup.specs.Steps.{found_in}

-- there is no value past the last
past_last : (l : List Annotation) → (annotation_at l (length l)).value ≡ []
past_last [] = refl
past_last (a ∷ l) = past_last l

-- where the key is held, what is found is its place
abbrev span : ℕ → ℕ → Span
span from size = record { from = from; size = size }

some_by : (t : Bool) {from size from' size' : ℕ} → t ≡ true → from ≡ from' → size ≡ size' → Some (span from size) ≡ choose t (Some (span from' size')) None
some_by true e a b = λ j. Some (span (a j) (b j))
some_by false e a b = absurd (clash e refl)

module _ (s k : List ℕ) where
  abbrev notes : List Annotation
  notes = (fields_in s).annotations

  -- annotation n has the key, or not
  abbrev pub Has : Bool → ℕ → Type 0
  Has b n = same (annotation_at notes n).key k ≡ b

  has_not : (n : ℕ) → ((annotation_at notes n).key ≡ k → ⊥) → Has false n
  has_not n differ = by_test (same (annotation_at notes n).key k) (λ (h : Has true n). absurd (differ (same_eq (annotation_at notes n).key k h))) (λ (h : Has false n). h)

  has_it : (n : ℕ) → (annotation_at notes n).key ≡ k → Has true n
  has_it n e = ap (λ (x : List ℕ). same x k) e ∙ same_refl k

  -- annotation i is the first with the key
  pub record First (i : ℕ) : Type 0 where
    pub below : i < length notes
    pub none : (j : ℕ) → j < i → Has false j
    pub has : Has true i

  pub first_of : (i : ℕ) → i < length notes → ((j : ℕ) → j < i → (annotation_at notes j).key ≡ k → ⊥) → (annotation_at notes i).key ≡ k → First i
  first_of i l none e = record { below = l; none = λ j m. has_not j (none j m); has = has_it i e }

  -- it is the one that is taken
  module _ (i : ℕ) (f : First i) where
    first_is : first_with s k ≡ i
    first_is = first_at (λ n. same (annotation_at notes n).key k) i (length notes) f.none f.has f.below

    pub key_held : has_key s k ≡ true
    key_held = ap (λ (n : ℕ). ltb n (length notes)) first_is ∙ lt-ltb i (length notes) f.below

    pub value_from_lem : value_from s k ≡ annotation_from s i + (length k + 1)
    value_from_lem =
        ap (λ (b : Bool). choose b (annotation_from s (first_with s k) + length (k ++ eq)) 0) key_held
        ∙ ap (λ (n : ℕ). annotation_from s n + length (k ++ eq)) first_is
        ∙ ap (λ (n : ℕ). annotation_from s i + n) (length-append k eq)

    pub value_is : value_in s k ≡ (annotation_at notes i).value
    value_is = ap (λ (n : ℕ). (annotation_at notes n).value) first_is

    pub found_here : (from size : ℕ) → from ≡ annotation_from s i + (length k + 1) → size ≡ length (annotation_at notes i).value
        → Some (record { from = from; size = size }) ≡ found_in s k
    found_here from size e z =
        let a = e ∙ sym value_from_lem in
        let b = z ∙ sym (ap length value_is) in
        some_by (has_key s k) key_held a b

  -- where none has it, nothing is taken
  none_held : ((j : ℕ) → j < length notes → Has false j) → has_key s k ≡ false
  none_held none =
      let e = first_none (λ n. same (annotation_at notes n).key k) (length notes) none in
      ap (λ (n : ℕ). ltb n (length notes)) e ∙ le-ltb (length notes) (length notes) (omega arith)

  none_first : has_key s k ≡ false → first_with s k ≡ length notes
  none_first h = omega (arith, first_le (λ n. same (annotation_at notes n).key k) (length notes), ltb-false (first_with s k) (length notes) h)

  no_value : has_key s k ≡ false → (value_from s k ≡ 0) × (value_in s k ≡ [])
  no_value h =
      (ap (λ (b : Bool). choose b (annotation_from s (first_with s k) + length (k ++ eq)) 0) h, ap (λ (n : ℕ). (annotation_at notes n).value) (none_first h) ∙ past_last notes)

  pub found_nowhere : ((j : ℕ) → j < length notes → Has false j) → None ≡ found_in s k
  found_nowhere none = rw (none_held none)

  -- where one has it, it is the first that has, and its sheet is accepted
  module _ (h : has_key s k ≡ true) where
    the_first : First (first_with s k)
    the_first =
        let below = ltb-true (first_with s k) (length notes) h in
        record { below = below; none = first_before (λ n. same (annotation_at notes n).key k) (length notes); has = first_holds (λ n. same (annotation_at notes n).key k) (length notes) below }

    pub key_accepted : accepted s ≡ true
    key_accepted = some_accepted s (omega (arith, the_first.below))

  -- a sheet lacks the key exactly if it is the key of none of its annotations, and has it exactly if it is the key of one
  pub lacks_exactly : (has_key s k ≡ false) ↔ ((i : ℕ) → i < length notes → (annotation_at notes i).key ≡ k → ⊥)
  lacks_exactly = (
    λ h i l e. clash (has_it i e) (nowhere (λ n. same (annotation_at notes n).key k) (length notes) (none_first h) i l),
    λ none. none_held (λ j l. has_not j (none j l)),
  )

  pub has_exactly : (has_key s k ≡ true) ↔ ((i : ℕ) × (i < length notes) × ((annotation_at notes i).key ≡ k))
  has_exactly = (
    λ h. let f = the_first h in (first_with s k, f.below, same_eq (annotation_at notes (first_with s k)).key k f.has),
    λ w. by_test (has_key s k) (λ (h : has_key s k ≡ true). h) (λ (h : has_key s k ≡ false). absurd (lacks_exactly.0 h w.0 w.1 w.2)),
  )

  -- the value lies in the sheet, and stands there
  pub record Stands : Type 0 where
    pub within : value_from s k + length (value_in s k) ≤ length s
    pub bytes : take (length (value_in s k)) (drop (value_from s k) s) ≡ value_in s k

  pub stands : Stands
  stands = by_test (has_key s k) some none
    where
      some : has_key s k ≡ true → Stands
      some h =
          let i = first_with s k in
          let f = the_first h in
          let v = line_in s i (key_accepted h) f.below in
          let a = annotation_at notes i in
          let key : a.key ≡ k = same_eq a.key k f.has in
          let at = tail_from s + length (lines (take i notes)) in
          let from : value_from s k ≡ at + length (a.key ++ eq) = value_from_lem i f ∙ omega (arith, line_from s i f.below, ap length key, length-append a.key eq) in
          let here : drop at s ≡ (a.key ++ eq) ++ (a.value ++ (nl ++ v.rest)) =
          v.here ∙ ap (λ (x : Annotation). line x ++ (nl ++ v.rest)) (sym v.is) ∙ append_assoc a.key (eq ++ a.value) (nl ++ v.rest) ∙ sym (append_assoc a.key eq (a.value ++ (nl ++ v.rest))) in
          let there : drop (value_from s k) s ≡ a.value ++ (nl ++ v.rest) =
          ap (λ (j : ℕ). drop j s) from ∙ sym (drop-drop (length (a.key ++ eq)) at s) ∙ ap (drop (length (a.key ++ eq))) here ∙ drop-append_seam (a.key ++ eq) (a.value ++ (nl ++ v.rest)) in
          record {
            within = omega (arith, v.within, from, ap (λ (x : Annotation). length (line x)) v.is, length-append a.key (eq ++ a.value), length-append a.key eq);
            bytes = ap (take (length a.value)) there ∙ take_at a.value (nl ++ v.rest) (length a.value) refl;
          }

      none : has_key s k ≡ false → Stands
      none h =
          let z = no_value h in
          record { within = omega (arith, z.0, ap length z.1); bytes = ap (λ (x : List ℕ). take (length x) (drop (value_from s k) s)) z.1 ∙ sym z.1 }

-- what can be the key of an annotation
abbrev pub FitKey : List ℕ → Type 0
FitKey k = ValidAnnotation (record { key = k; value = [] })

-- what a sheet has is such a key
pub key_fits : (s k : List ℕ) → has_key s k ≡ true → FitKey k
key_fits s k h =
    let f = the_first s k h in
    let v = line_in s (first_with s k) (key_accepted s k h) f.below in
    let e : v.value.key ≡ k = ap (λ (x : Annotation). x.key) (sym v.is) ∙ same_eq (annotation_at (fields_in s).annotations (first_with s k)).key k f.has in
    subst FitKey e (record { key_bytes = v.valid.key_bytes; key_some = v.valid.key_some; key_most = v.valid.key_most; key_free = v.valid.key_free; value_bytes = tt; value_most = omega arith })
