-- CR 1. "Clerks want to ask for a key and get the first value under it in the record's sheet, or failing that the first in the cover. [..]
-- Demand 2's rule on annotations reads over both": the first annotation under each key of the record's sheet, and of the cover where the
-- record's sheet lacks the key, comes out byte for byte, known key or not.
use Prim.Native.Nat.{ℕ, ◌+◌, ◌<◌}
use native.Mathlib.Omega.{arith}
use mathlib.Core.Path.{◌≡◌, sym, ap, ◌∙◌, subst}
use mathlib.Core.Bool.{true, false}
use mathlib.Core.List.{List, ◌++◌}
use mathlib.Core.Logic.{◌⊎◌, ⊎_elim, ◌↔◌}
use contract.Lifetimes.{Lfts}
use lib.ListN.{length, take}
use Rattle.promises.specs.Told.{Told, told, done, refused}
use Rattle.promises.specs.Part.{PartOf}
use Rattle.promises.proofs.Choices.{by_test}
use Rattle.promises.proofs.Parts.{part_move}
use Rattle.answer.specs.Told.{Answer, told_of}
use Rattle.grammar.specs.Sheet.{eq, Annotation, line}
use Rattle.grammar.specs.Given.{accepted, told_in, fields_in, annotation_from, annotation_at}
use Rattle.grammar.proofs.Parts.{sheet_told, some_accepted, line_in}
use Rattle.sheet.specs.declared.Sheet.{Sheet}
use Rattle.sheet.proofs.Annotations.{Reads, Line, line_holds}
use Rattle.lookup.specs.Lookup.{has_key, value_in, value_from, holder_told, held, HeldPart}
use Rattle.lookup.proofs.Founds.{First, first_of, key_held, value_from_lem, value_is, has_exactly, lacks_exactly, key_accepted, stands, FitKey, key_fits}
use Rattle.lookup.proofs.Holders.{broken_record, broken_cover, in_record, in_cover, in_neither, refused_holds}
use Rattle.report_text.proofs.Enough.{enough, read_enough}
use Rattle.claims.proofs.Calls.{Lent, Finds, Gives}
use Rattle.claims.proofs.Demand2.{Done}

abbrev Accepted : Lent → Type 0
Accepted s = accepted s.now ≡ true

abbrev notes : Lent → List Annotation
notes s = (fields_in s.now).annotations

-- an annotation of the sheet has the key, or none has
abbrev pub Has : Lent → Lent → Type 0
Has s key = (i : ℕ) × (i < length (notes s)) × ((annotation_at (notes s) i).key ≡ key.now)

abbrev pub Lacks : Lent → Lent → Type 0
Lacks s key = (i : ℕ) → i < length (notes s) → (annotation_at (notes s) i).key ≡ key.now → ⊥

-- annotation i has the key, and none before it has
pub record FirstUnder (s key : Lent) (i : ℕ) : Type 0 where
  pub below : i < length (notes s)
  pub key_is : (annotation_at (notes s) i).key ≡ key.now
  pub none_before : (j : ℕ) → j < i → (annotation_at (notes s) j).key ≡ key.now → ⊥

-- the part is the value of annotation i: its bytes, and where it lies in the sheet, behind its key and the `=`
pub record ValueOf (s : Lent) (i : ℕ) (r : Lent) : Type 0 where
  pub holds : r.now ≡ (annotation_at (notes s) i).value
  pub lies : PartOf s r (annotation_from s.now i + (length (annotation_at (notes s) i).key + 1)) (length (annotation_at (notes s) i).value)

module _ (s key : Lent) (i : ℕ) (f : FirstUnder s key i) where
  the_first : First s.now key.now i
  the_first = first_of s.now key.now i f.below f.none_before f.key_is

  first_held : has_key s.now key.now ≡ true
  first_held = key_held s.now key.now i the_first

  value_of : (r : Lent) → PartOf s r (value_from s.now key.now) (length (value_in s.now key.now)) → ValueOf s i r
  value_of r p =
      let e = value_is s.now key.now i the_first in
      record {
        holds = p.bytes ∙ (stands s.now key.now).bytes ∙ e;
        lies = part_move _ _ _ _ (omega (arith, value_from_lem s.now key.now i the_first, ap length f.key_is)) (sym (ap length e)) p;
      }

-- a sheet that `read` refuses is not accepted, and is told 11 with its place
read_broken : (s : Lent) (κ : Lfts 1) (y : Sheet) → Reads κ s y → (Done y.answer → ⊥) → (accepted s.now ≡ false) × (told_of y.answer ≡ told 11 (told_in s.now).place 0)
read_broken s κ y read refuses =
    let t = read.told ∙ sheet_told s.now in
    by_test (accepted s.now) (λ (a : accepted s.now ≡ true). absurd (refuses (ap (λ (x : Told). x.number) t ∙ rw a))) (λ (a : accepted s.now ≡ false). (a, t ∙ rw a))

-- two things told that differ in number or value are not one
apart : {t u : Told} → t ≡ u → ((t.number ≡ u.number) × (t.value ≡ u.value) → ⊥) → ⊥
apart e differ = differ (ap (λ (x : Told). x.number) e, ap (λ (x : Told). x.value) e)

module _ (own cover key : Lent) (κs : Lfts 3) (z : Answer) (p : Finds κs own cover key z) where
  own_broken : accepted own.now ≡ false → told_of z ≡ told 11 (told_in own.now).place 0
  own_broken a = p ∙ (broken_record own.now cover.now key.now a).tells

  other_broken : Accepted own → accepted cover.now ≡ false → told_of z ≡ told 11 (told_in cover.now).place 0
  other_broken a b = p ∙ (broken_cover own.now cover.now key.now a b).tells

  -- "11 for the record's sheet, then 11 for the cover, each with the place in that sheet": what is told is what `read` tells of it.
  pub record_broken : (κ : Lfts 1) (y : Sheet) → Reads κ own y → (Done y.answer → ⊥) → told_of z ≡ told_of y.answer
  record_broken κ y read refuses = let b = read_broken own κ y read refuses in own_broken b.0 ∙ sym b.1

  pub cover_broken : Accepted own → (κ : Lfts 1) (y : Sheet) → Reads κ cover y → (Done y.answer → ⊥) → told_of z ≡ told_of y.answer
  cover_broken a κ y read refuses = let b = read_broken cover κ y read refuses in other_broken a b.0 ∙ sym b.1

  -- of two accepted sheets
  module _ (a : Accepted own) (b : Accepted cover) where
    own_has : Has own key → told_of z ≡ done 0
    own_has h = p ∙ (in_record own.now cover.now key.now a b ((has_exactly own.now key.now).1 h)).tells

    cover_has : Lacks own key → Has cover key → told_of z ≡ done 1
    cover_has l h = p ∙ (in_cover own.now cover.now key.now a b ((lacks_exactly own.now key.now).1 l) ((has_exactly cover.now key.now).1 h)).tells

    none_has : Lacks own key → Lacks cover key → told_of z ≡ refused 12
    none_has l m = p ∙ (in_neither own.now cover.now key.now a b ((lacks_exactly own.now key.now).1 l) ((lacks_exactly cover.now key.now).1 m)).tells

    cases : {P : Type 0} → (Has own key → told_of z ≡ done 0 → P) → (Lacks own key → Has cover key → told_of z ≡ done 1 → P) → (Lacks own key → Lacks cover key → told_of z ≡ refused 12 → P) → P
    cases f g h =
        by_test (has_key own.now key.now)
        (λ e. let w = (has_exactly own.now key.now).0 e in f w (own_has w))
        (λ e. let l = (lacks_exactly own.now key.now).0 e in
        by_test (has_key cover.now key.now)
        (λ d. let w = (has_exactly cover.now key.now).0 d in g l w (cover_has l w))
        (λ d. let m = (lacks_exactly cover.now key.now).0 d in h l m (none_has l m)))

    -- "value 0 for the record's, 1 for the cover": 0 exactly if the record's sheet has the key, whatever the cover has,
    pub zero_exactly : (told_of z ≡ done 0) ↔ Has own key
    zero_exactly = (λ e. cases (λ w t. w) (λ l w t. absurd (apart (sym e ∙ t) (λ q. omega arith))) (λ l m t. absurd (apart (sym e ∙ t) (λ q. omega arith))), own_has)

    -- and 1 exactly if it lacks it and the cover has it;
    pub one_exactly : (told_of z ≡ done 1) ↔ (Lacks own key × Has cover key)
    one_exactly = (λ e. cases (λ w t. absurd (apart (sym e ∙ t) (λ q. omega arith))) (λ l w t. (l, w)) (λ l m t. absurd (apart (sym e ∙ t) (λ q. omega arith))), λ w. cover_has w.0 w.1)

    lacking : (told_of z).number ≡ 12 → Lacks own key × Lacks cover key
    lacking e = cases (λ w t. absurd (omega (arith, e, ap (λ (x : Told). x.number) t))) (λ l w t. absurd (omega (arith, e, ap (λ (x : Told). x.number) t))) (λ l m t. (l, m))

    -- so each key that stands on either sheet is answered.
    pub none_out_of_reach : Has own key ⊎ Has cover key → (told_of z).number ≡ 0
    none_out_of_reach w =
        cases (λ _ t. ap (λ (x : Told). x.number) t) (λ _ _ t. ap (λ (x : Told). x.number) t)
        (λ l m t. absurd (⊎_elim (λ (h : Has own key). l h.0 h.1 h.2) (λ (h : Has cover key). m h.0 h.1 h.2) w))

    -- What can be no key (empty, reserved, longer than 16, with other bytes) is found nowhere.
    pub no_key : (FitKey key.now → ⊥) → told_of z ≡ refused 12
    no_key unfit = none_has (lacks own) (lacks cover)
      where
        lacks : (s : Lent) → Lacks s key
        lacks s i l e = unfit (key_fits s.now key.now ((has_exactly s.now key.now).1 (i, l, e)))

  -- "Then 12 exactly if neither has the key."
  pub twelve_exactly : ((told_of z).number ≡ 12) ↔ (Accepted own × Accepted cover × Lacks own key × Lacks cover key)
  twelve_exactly = (
    λ e. by_test (accepted own.now)
        (λ a. by_test (accepted cover.now) (λ b. let w = lacking a b e in (a, b, w.0, w.1)) (λ b. absurd (omega (arith, e, ap (λ (x : Told). x.number) (other_broken a b)))))
        (λ a. absurd (omega (arith, e, ap (λ (x : Told). x.number) (own_broken a)))),
    λ w. ap (λ (x : Told). x.number) (none_has w.0 w.1 w.2 w.3),
  )

  -- ==== And the value.
  module _ (κr : Lfts 2) (r : Lent) (q : Gives κr own cover key r) where
    -- Beside an accepted cover, each annotation of an accepted record's sheet whose key none before it has: asking for that key tells 0 and
    -- gives its value, at its place.
    pub record_note : Accepted cover → (i : ℕ) → FirstUnder own key i → (told_of z ≡ done 0) × ValueOf own i r
    record_note b i f =
        let h = first_held own key i f in
        let e = in_record own.now cover.now key.now (key_accepted own.now key.now h) b h in
        (p ∙ e.tells, value_of own key i f r (subst (λ x. HeldPart own cover x r) e.holds q))

    -- Beside an accepted record's sheet, each annotation of an accepted cover whose key none before it has and none in the record's sheet:
    -- it tells 1 and gives its value, at its place.
    pub cover_note : Accepted own → Lacks own key → (i : ℕ) → FirstUnder cover key i → (told_of z ≡ done 1) × ValueOf cover i r
    cover_note a l i f =
        let h = first_held cover key i f in
        let e = in_cover own.now cover.now key.now a (key_accepted cover.now key.now h) ((lacks_exactly own.now key.now).1 l) h in
        (p ∙ e.tells, value_of cover key i f r (subst (λ x. HeldPart own cover x r) e.holds q))

    -- Where it refuses: "an empty part of the record's sheet", at its start.
    pub refused_empty : ((told_of z).number ≡ 0 → ⊥) → PartOf own r 0 0
    refused_empty refuses = subst (λ x. HeldPart own cover x r) (refused_holds own.now cover.now key.now (λ e. refuses (ap (λ (x : Told). x.number) p ∙ e))) q

-- The line that `annotation` gives by that number is the key, `=`, and the value that `value` gives.
pub line_of : (s key r : Lent) (i : ℕ) → FirstUnder s key i → ValueOf s i r → (κl : Lfts 1) (l : Lent) → Line κl s i l → l.now ≡ key.now ++ (eq ++ r.now)
line_of s key r i f v κl l w =
    let n = line_in s.now i (some_accepted s.now (omega (arith, f.below))) f.below in
    line_holds s κl i l w
    ∙ n.named
    ∙ ap line (sym n.is)
    ∙ ap (λ (x : List ℕ). x ++ (eq ++ (annotation_at (notes s) i).value)) f.key_is
    ∙ ap (λ (x : List ℕ). key.now ++ (eq ++ x)) (sym v.holds)

-- The program `note` reads 28,160 bytes of each sheet: what lies past that alters neither what is told nor the value and where it lies.
pub note_enough : (own cover key : List ℕ) → (holder_told (take enough own) (take enough cover) key ≡ holder_told own cover key)
    × (held (take enough own) (take enough cover) key ≡ held own cover key)
    × ((s : List ℕ) → value_in (take enough s) key ≡ value_in s key)
unfolding holder_told held
note_enough own cover key = (
  rw (read_enough own, read_enough cover),
  rw (value_from, value_in, read_enough own, read_enough cover),
  λ s. rw (value_in, read_enough s),
)
