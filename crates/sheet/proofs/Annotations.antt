-- What the contracts of `sheet` say of one sheet together: its annotation lines by number, their joining, their count, the deed, and the place.
use Prim.Native.Nat.{ℕ, zero, suc, ◌+◌, ◌≤◌, ◌<◌, suc-le-suc}
use native.Mathlib.Omega.{arith}
use mathlib.Core.Path.{◌≡◌, refl, sym, ◌∙◌, ap, subst}
use mathlib.Core.List.{List, [], ◌∷◌, ◌++◌}
use mathlib.Core.Bool.{true}
use mathlib.Core.Logic.{⊎_elim, ◌↔◌}
use lib.ListN.{length, take, drop, length-append}
use lib.Seq.{take_all}
use contract.Lifetimes.{Lfts}
use denote.Ref.{Bor}
use Rattle.promises.specs.Fixes.{Allows}
use Rattle.promises.specs.Told.{Told}
use Rattle.answer.specs.Told.{told_of}
use Rattle.text.specs.Code.{Reading, got, stuck, Longest}
use Rattle.text.proofs.Lists.{le_or_lt}
use Rattle.grammar.specs.Sheet.{nl, Annotation, line, Fields, ValidSheet, front, lines, render, sheets, eq}
use Rattle.grammar.specs.Read.{read_sheet}
use Rattle.grammar.specs.Given.{is_got, told_read, accepted, fields_in, tail_from, annotation_from, line_at}
use Rattle.sheet.specs.declared.Sheet.{Sheet}
use Rattle.grammar.proofs.Grammar.{refused_at}
use Rattle.grammar.proofs.Parts.{accepted_render, some_accepted, tail_rest, deed_bytes, line_in, line_from, none_from}
use Rattle.sheet.proofs.Unique.{read_op, deed_op, annotation_op, tail_op}

-- a lent slice of bytes
abbrev pub Lent : Type 0
Lent = Bor (List ℕ)

-- what the contracts allow of a call over the lent sheet s
abbrev pub Reads : Lfts 1 → Lent → Sheet → Type 0
Reads κs s z = Allows read_op κs (s, tt) z (tt, tt)

abbrev pub Deed : Lfts 1 → Lent → Lent → Type 0
Deed κs s r = Allows deed_op κs (s, tt) r (tt, tt)

abbrev pub Line : Lfts 1 → Lent → ℕ → Lent → Type 0
Line κs s n r = Allows annotation_op κs (s, (n, tt)) r (tt, (tt, tt))

abbrev pub Tail : Lfts 1 → Lent → Lent → Type 0
Tail κs s r = Allows tail_op κs (s, tt) r (tt, tt)

-- g 0, g 1, .. joined in order, n of them
abbrev pub joined : ℕ → (ℕ → List ℕ) → List ℕ
joined zero g = []
joined (suc n) g = g 0 ++ joined n (λ k. g (suc k))

joined_by : (n : ℕ) (g h : ℕ → List ℕ) → ((k : ℕ) → k < n → g k ≡ h k) → joined n g ≡ joined n h
joined_by zero g h e = refl
joined_by (suc n) g h e =
    ap (λ (x : List ℕ). x ++ joined n (λ k. g (suc k))) (e 0 (omega arith))
    ∙ ap (λ (x : List ℕ). h 0 ++ x) (joined_by n (λ k. g (suc k)) (λ k. h (suc k)) (λ k l. e (suc k) (suc-le-suc l)))

joined_lines : (l : List Annotation) → joined (length l) (λ n. line_at l n ++ nl) ≡ lines l
joined_lines [] = refl
joined_lines (a ∷ l) = ap (λ (x : List ℕ). (line a ++ nl) ++ x) (joined_lines l)

module _ (s : Lent) where
  -- the part that is annotation n holds its line
  pub line_holds : (κs : Lfts 1) (n : ℕ) (r : Lent) → Line κs s n r → r.now ≡ line_at (fields_in s.now).annotations n
  line_holds κs n r p = ⊎_elim past within (le_or_lt (length (fields_in s.now).annotations) n)
    where
      past : length (fields_in s.now).annotations ≤ n → r.now ≡ line_at (fields_in s.now).annotations n
      past h =
          let z = none_from s.now n h in
          p.bytes ∙ ap (λ (k : ℕ). take k (drop (annotation_from s.now n) s.now)) z.1 ∙ sym (nothing (line_at (fields_in s.now).annotations n) z.1)
        where
          nothing : (l : List ℕ) → length l ≡ 0 → l ≡ []
          nothing [] e = refl
          nothing (b ∷ l) e = absurd (omega arith)

      within : n < length (fields_in s.now).annotations → r.now ≡ line_at (fields_in s.now).annotations n
      within h =
          let v = line_in s.now n (some_accepted s.now (omega arith)) h in
          p.bytes ∙ ap (λ (k : ℕ). take (length (line_at (fields_in s.now).annotations n)) (drop k s.now)) (line_from s.now n h)
          ∙ ap (λ (k : ℕ). take k (drop (tail_from s.now + length (lines (take n (fields_in s.now).annotations))) s.now)) (ap length v.named)
          ∙ v.holds ∙ sym v.named

  -- annotation n is not empty exactly for n below the count
  pub line_some : (κs κr : Lfts 1) (z : Sheet) → Reads κs s z → (n : ℕ) (r : Lent) → Line κr s n r → (0 < length r.now) ↔ (n < z.annotations)
  line_some κs κr z p n r q = (
    λ h. ⊎_elim (λ (k : length (fields_in s.now).annotations ≤ n). absurd (omega (arith, h, ap length (line_holds κr n r q), (none_from s.now n k).1))) (λ (k : n < length (fields_in s.now).annotations). omega (arith, k, p.annotations)) (le_or_lt (length (fields_in s.now).annotations) n),
    λ h. let k : n < length (fields_in s.now).annotations = omega (arith, h, p.annotations) in
        let v = line_in s.now n (some_accepted s.now (omega arith)) k in
        omega (arith, ap length (line_holds κr n r q), ap length v.named, length-append v.value.key (eq ++ v.value.value), length-append eq v.value.value),
  )

  pub tail_holds : (κs : Lfts 1) (t : Lent) → Tail κs s t → t.now ≡ lines (fields_in s.now).annotations
  tail_holds κs t p = go (read_sheet s.now) refl
    where
      go : (o : Reading Fields) → read_sheet s.now ≡ o → t.now ≡ lines (fields_in s.now).annotations
      go (got f n) e =
          p.bytes ∙ ap (take (length (lines (fields_in s.now).annotations))) (tail_rest s.now (ap is_got e))
          ∙ take_all (length (lines (fields_in s.now).annotations)) (lines (fields_in s.now).annotations) (omega arith)
      go (stuck n) e = p.bytes ∙ rw e

  -- the lines of all annotations, each with its byte 10, joined in order, are the tail
  pub lines_join : (κs κt : Lfts 1) (κr : ℕ → Lfts 1) (z : Sheet) → Reads κs s z → (r : ℕ → Lent) → ((n : ℕ) → Line (κr n) s n (r n)) → (t : Lent) → Tail κt s t → joined z.annotations (λ n. (r n).now ++ nl) ≡ t.now
  lines_join κs κt κr z p r q t w =
      let l = (fields_in s.now).annotations in
      ap (λ (k : ℕ). joined k (λ n. (r n).now ++ nl)) p.annotations
      ∙ joined_by (length l) (λ n. (r n).now ++ nl) (λ n. line_at l n ++ nl) (λ n _. ap (λ (x : List ℕ). x ++ nl) (line_holds (κr n) n (r n) (q n)))
      ∙ joined_lines l ∙ sym (tail_holds κt t w)

  -- where the answer is done, the sheet is accepted
  pub done_accepted : (κs : Lfts 1) (z : Sheet) → Reads κs s z → (told_of z.answer).number ≡ 0 → accepted s.now ≡ true
  done_accepted κs z p h = go (read_sheet s.now) refl
    where
      go : (o : Reading Fields) → read_sheet s.now ≡ o → accepted s.now ≡ true
      go (got f n) e = ap is_got e
      go (stuck n) e = absurd (omega (arith, h, ap (λ (x : Told). x.number) (p.told ∙ ap told_read e)))

  -- accepted: the bytes are those of valid fields, and the tail is their end
  pub accepted_sheet : (κs : Lfts 1) (z : Sheet) → Reads κs s z → (told_of z.answer).number ≡ 0 → ValidSheet (fields_in s.now) × (s.now ≡ render (fields_in s.now))
  accepted_sheet κs z p h = accepted_render s.now (done_accepted κs z p h)

  pub tail_ends : (κs κt : Lfts 1) (z : Sheet) → Reads κs s z → (told_of z.answer).number ≡ 0 → (t : Lent) → Tail κt s t → s.now ≡ front (fields_in s.now) ++ t.now
  tail_ends κs κt z p h t w = (accepted_sheet κs z p h).1 ∙ ap (λ (x : List ℕ). front (fields_in s.now) ++ x) (sym (tail_holds κt t w))

  -- the deed's part holds the deed
  pub deed_holds : (κs : Lfts 1) (r : Lent) → Deed κs s r → r.now ≡ (fields_in s.now).deed
  deed_holds κs r p = go (read_sheet s.now) refl
    where
      go : (o : Reading Fields) → read_sheet s.now ≡ o → r.now ≡ (fields_in s.now).deed
      go (got f n) e = p.bytes ∙ deed_bytes s.now (ap is_got e)
      go (stuck n) e = p.bytes ∙ rw e

  -- refused: the number is 11, the place is the longest beginning that some accepted sheet also begins with, and no valid fields make the bytes
  pub refused_sheet : (κs : Lfts 1) (z : Sheet) → Reads κs s z → ((told_of z.answer).number ≡ 0 → ⊥)
      → ((told_of z.answer).number ≡ 11) × Longest sheets s.now (told_of z.answer).place × ((f : Fields) → ValidSheet f → s.now ≡ render f → ⊥)
  refused_sheet κs z p h = go (read_sheet s.now) refl
    where
      go : (o : Reading Fields) → read_sheet s.now ≡ o → ((told_of z.answer).number ≡ 11) × Longest sheets s.now (told_of z.answer).place × ((f : Fields) → ValidSheet f → s.now ≡ render f → ⊥)
      go (got f n) e = absurd (h (ap (λ (x : Told). x.number) (p.told ∙ ap told_read e)))
      go (stuck n) e =
          let a = refused_at s.now n e in
          let t = p.told ∙ ap told_read e in
          (ap (λ (x : Told). x.number) t, subst (Longest sheets s.now) (sym (ap (λ (x : Told). x.place) t)) a.0, a.1)
