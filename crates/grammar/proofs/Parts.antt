-- Where the parts of a sheet lie: the deed, the annotation lines together, and each by its number.
use Prim.Native.Nat.{ℕ, zero, suc, ◌+◌, ◌≤◌, ◌<◌}
use native.Mathlib.Omega.{arith}
use native.Mathlib.Nat.{le_of_suc-le-suc}
use native.Mathlib.Numerals.{add-one}
use mathlib.Core.Path.{◌≡◌, refl, sym, ◌∙◌, ap, subst}
use mathlib.Core.List.{List, [], ◌∷◌, ◌++◌, append_assoc}
use mathlib.Core.Bool.{true, not}
use mathlib.Core.Logic.{⊎_elim}
use borrow.Author.Tests.{lt-ltb, le-ltb}
use lib.ListN.{length, take, drop, length-append, length-drop}
use lib.Seq.{drop-append_seam, drop-drop, take_at}
use Rattle.promises.specs.Choose.{choose}
use Rattle.promises.specs.Told.{told, done}
use Rattle.promises.specs.Order.{first_of}
use Rattle.text.specs.Code.{Reading, got, stuck}
use Rattle.text.specs.Combine.{optional, AllValid, texts}
use Rattle.text.proofs.Tests.{clash}
use Rattle.text.proofs.Lists.{le_or_lt}
use Rattle.text.proofs.Back.{back_any}
use Rattle.grammar.specs.Sheet.{deed_word, eq, nl, pins_line, rule_line, writes_line, at_line, Annotation, line, annotation_line, Fields, ValidSheet, front, lines, render}
use Rattle.grammar.specs.Read.{read_annotation, read_sheet}
use Rattle.grammar.specs.Given.{is_got, told_read, no_fields, fields_read, accepted, told_in, fields_in, sheet_order, deed_from, tail_from, annotation_from, annotation_at, line_at}
use Rattle.grammar.proofs.Grammar.{accepted_fields, annotation_right, annotation_prefix}

-- ---- an accepted sheet is the bytes of its fields
pub accepted_render : (s : List ℕ) → accepted s ≡ true → ValidSheet (fields_in s) × (s ≡ render (fields_in s))
accepted_render s h = go (read_sheet s) refl
  where
    go : (o : Reading Fields) → read_sheet s ≡ o → ValidSheet (fields_in s) × (s ≡ render (fields_in s))
    go (got f n) e =
        let a = accepted_fields s f n e in
        let q : f ≡ fields_in s = sym (ap fields_read e) in
        (subst ValidSheet q a.0, a.1 ∙ ap render q)
    go (stuck n) e = absurd (clash h (ap is_got e))

-- what is told of a sheet is what its order says
told_by : (r : Reading Fields) → told_read r ≡ choose (not (is_got r)) (told 11 (told_read r).place 0) (done 0)
told_by (got f n) = refl
told_by (stuck n) = refl

pub sheet_told : (s : List ℕ) → told_in s ≡ first_of (sheet_order s) (done 0)
sheet_told s = told_by (read_sheet s)

-- a refused sheet has no fields
none_by : (r : Reading Fields) → ((told_read r).number ≡ 0 → ⊥) → fields_read r ≡ no_fields
none_by (got f n) h = absurd (h refl)
none_by (stuck n) h = refl

pub refused_fields : (s : List ℕ) → ((told_in s).number ≡ 0 → ⊥) → fields_in s ≡ no_fields
refused_fields s h = none_by (read_sheet s) h

-- a sheet with an annotation is accepted
pub some_accepted : (s : List ℕ) → 0 < length (fields_in s).annotations → accepted s ≡ true
some_accepted s h = go (read_sheet s) refl
  where
    go : (o : Reading Fields) → read_sheet s ≡ o → accepted s ≡ true
    go (got f n) e = ap is_got e
    go (stuck n) e = absurd (omega (arith, h, ap (λ (o : Reading Fields). length (fields_read o).annotations) e))

module _ (s : List ℕ) (h : accepted s ≡ true) where
  pub few_lines : length (fields_in s).annotations ≤ 200
  few_lines = (accepted_render s h).0.annotations_valid.1

  pub tail_at : tail_from s ≡ length (front (fields_in s))
  tail_at = rw h

  -- the annotation lines are the end of the sheet
  pub tail_rest : drop (tail_from s) s ≡ lines (fields_in s).annotations
  tail_rest =
      ap (λ (k : ℕ). drop k s) tail_at ∙ ap (drop (length (front (fields_in s)))) (accepted_render s h).1
      ∙ drop-append_seam (front (fields_in s)) (lines (fields_in s).annotations)

  pub tail_size : tail_from s + length (lines (fields_in s).annotations) ≡ length s
  tail_size =
      ap (λ (k : ℕ). k + length (lines (fields_in s).annotations)) tail_at
      ∙ sym (ap length (accepted_render s h).1 ∙ length-append (front (fields_in s)) (lines (fields_in s).annotations))

  -- the deed stands after `deed=`
  deed_split : (t : List ℕ) × (s ≡ (deed_word ++ eq) ++ ((fields_in s).deed ++ t))
  deed_split =
      let f = fields_in s in
      let rest = pins_line.text f.pins ++ ((optional rule_line).text f.rule ++ (writes_line.text (length f.writes) ++ texts at_line f.writes)) in (
        nl ++ (rest ++ lines f.annotations),
        (accepted_render s h).1
            ∙ append_assoc ((deed_word ++ eq) ++ (f.deed ++ nl)) rest (lines f.annotations)
            ∙ append_assoc (deed_word ++ eq) (f.deed ++ nl) (rest ++ lines f.annotations)
            ∙ ap (λ (l : List ℕ). (deed_word ++ eq) ++ l) (append_assoc f.deed nl (rest ++ lines f.annotations)),
      )

  pub deed_within : 5 + length (fields_in s).deed ≤ length s
  deed_within =
      let q = deed_split in
      omega (arith, ap length q.1, length-append (deed_word ++ eq) ((fields_in s).deed ++ q.0), length-append (fields_in s).deed q.0)

  pub deed_at : deed_from s ≡ 5
  deed_at = rw h

  pub deed_bytes : take (length (fields_in s).deed) (drop (deed_from s) s) ≡ (fields_in s).deed
  deed_bytes =
      let q = deed_split in
      ap (λ (k : ℕ). take (length (fields_in s).deed) (drop k s)) deed_at
      ∙ ap (λ (l : List ℕ). take (length (fields_in s).deed) (drop 5 l)) q.1
      ∙ take_at (fields_in s).deed q.0 (length (fields_in s).deed) refl

-- ---- the annotation lines one by one: line i of a list, before what follows it
record AtLine (l : List Annotation) (i : ℕ) : Type 0 where
  value : Annotation
  is : annotation_at l i ≡ value
  valid : annotation_line.Valid value
  rest : List ℕ
  here : drop (length (lines (take i l))) (lines l) ≡ annotation_line.text value ++ rest
  next : length (lines (take (suc i) l)) ≡ length (lines (take i l)) + length (annotation_line.text value)
  named : line_at l i ≡ line value

at_line_lem : (l : List Annotation) (i : ℕ) → AllValid annotation_line l → i < length l → AtLine l i
at_line_lem [] i h k = absurd (omega arith)
at_line_lem (a ∷ l) zero h k = record { value = a; is = refl; valid = h.0; rest = lines l; here = refl; next = length-append (annotation_line.text a) [] ∙ omega arith; named = refl }
at_line_lem (a ∷ l) (suc i) h k =
    let r = at_line_lem l i h.1 (le_of_suc-le-suc k) in
    let t = annotation_line.text a in
    record {
      value = r.value;
      is = r.is;
      valid = r.valid;
      rest = r.rest;
      here =
          ap (λ (j : ℕ). drop j (t ++ lines l)) (length-append t (lines (take i l)))
          ∙ sym (drop-drop (length (lines (take i l))) (length t) (t ++ lines l))
          ∙ ap (drop (length (lines (take i l)))) (drop-append_seam t (lines l)) ∙ r.here;
      next = omega (arith, length-append t (lines (take (suc i) l)), length-append t (lines (take i l)), r.next);
      named = r.named;
    }

-- line i of an accepted sheet: it is read where the lines before it end
pub record LineIn (s : List ℕ) (i : ℕ) : Type 0 where
  pub value : Annotation
  pub is : annotation_at (fields_in s).annotations i ≡ value
  pub valid : annotation_line.Valid value
  pub rest : List ℕ
  pub here : drop (tail_from s + length (lines (take i (fields_in s).annotations))) s ≡ line value ++ (nl ++ rest)
  pub read : read_annotation (drop (tail_from s + length (lines (take i (fields_in s).annotations))) s) ≡ got value (length (line value) + 1)
  pub next : tail_from s + length (lines (take i (fields_in s).annotations)) + (length (line value) + 1) ≡ tail_from s + length (lines (take (i + 1) (fields_in s).annotations))
  pub named : line_at (fields_in s).annotations i ≡ line value
  pub within : tail_from s + length (lines (take i (fields_in s).annotations)) + (length (line value) + 1) ≤ length s
  pub holds : take (length (line value)) (drop (tail_from s + length (lines (take i (fields_in s).annotations))) s) ≡ line value

pub line_in : (s : List ℕ) (i : ℕ) → accepted s ≡ true → i < length (fields_in s).annotations → LineIn s i
line_in s i h k =
    let l = (fields_in s).annotations in
    let r = at_line_lem l i (accepted_render s h).0.annotations_valid.0 k in
    let a = tail_from s + length (lines (take i l)) in
    let t = annotation_line.text r.value in
    let size : length t ≡ length (line r.value) + 1 = length-append (line r.value) nl in
    let there : drop a s ≡ t ++ r.rest = sym (drop-drop (length (lines (take i l))) (tail_from s) s) ∙ ap (drop (length (lines (take i l)))) (tail_rest s h) ∙ r.here in
    let got-it : read_annotation (drop a s) ≡ got r.value (length t) =
    ap read_annotation there ∙ back_any annotation_line annotation_prefix r.value r.rest r.valid (read_annotation (t ++ r.rest)) (annotation_right (t ++ r.rest)) in
    let here = there ∙ append_assoc (line r.value) nl r.rest in
    record {
      value = r.value;
      is = r.is;
      valid = r.valid;
      rest = r.rest;
      here = here;
      read = got-it ∙ ap (got r.value) size;
      next = omega (arith, size, r.next, ap (λ (j : ℕ). length (lines (take j l))) (add-one i));
      named = r.named;
      within = omega (arith, size, length-drop a s, ap length there, length-append t r.rest);
      holds = ap (take (length (line r.value))) here ∙ take_at (line r.value) (nl ++ r.rest) (length (line r.value)) refl;
    }

-- ---- annotation n
no_line : (l : List Annotation) (n : ℕ) → length l ≤ n → line_at l n ≡ []
no_line [] n h = refl
no_line (a ∷ l) zero h = absurd (omega arith)
no_line (a ∷ l) (suc n) h = no_line l n (le_of_suc-le-suc h)

pub line_from : (s : List ℕ) (n : ℕ) → n < length (fields_in s).annotations → annotation_from s n ≡ tail_from s + length (lines (take n (fields_in s).annotations))
line_from s n h = rw (lt-ltb n (length (fields_in s).annotations) h)

-- past the last there is none, and the part is the empty one at the start
pub none_from : (s : List ℕ) (n : ℕ) → length (fields_in s).annotations ≤ n → (annotation_from s n ≡ 0) × (length (line_at (fields_in s).annotations n) ≡ 0)
none_from s n h = (rw (le-ltb n (length (fields_in s).annotations) h), ap length (no_line (fields_in s).annotations n h))

-- annotation n lies within the sheet
pub line_within : (s : List ℕ) (n : ℕ) → annotation_from s n + length (line_at (fields_in s).annotations n) ≤ length s
line_within s n = ⊎_elim past within (le_or_lt (length (fields_in s).annotations) n)
  where
    past : length (fields_in s).annotations ≤ n → annotation_from s n + length (line_at (fields_in s).annotations n) ≤ length s
    past h = let z = none_from s n h in omega (arith, z.0, z.1)

    within : n < length (fields_in s).annotations → annotation_from s n + length (line_at (fields_in s).annotations n) ≤ length s
    within h =
        let v = line_in s n (some_accepted s (omega arith)) h in
        omega (arith, line_from s n h, ap length v.named, v.within)
