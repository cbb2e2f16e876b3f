-- What one pass over a sheet finds: each line stands behind those that are read, and is one step further.
use Prim.Native.Nat.{ℕ, ◌+◌, ◌-◌, ◌≤◌}
use native.Mathlib.Omega.{arith}
use mathlib.Core.Path.{◌≡◌, sym, ◌∙◌, ap, subst}
use mathlib.Core.List.{List}
use lib.ListN.{length, take, drop, length-append}
use Rattle.std.proofs.Common.{Ok, Err, Result}
use Rattle.settings.specs.declared.Rule.{Rule}
use Rattle.text.specs.Code.{Reading, got, Any, None, Accepted, Right}
use Rattle.text.specs.Combine.{times, up_to, read_times}
use Rattle.text.proofs.Rests.{Rest, passed, rest_read, first_passes, next_sticks, next_passes}
use Rattle.grammar.specs.Sheet.{at_line, annotation_line, front, lines, sheets}
use Rattle.grammar.specs.Read.{read_deed, read_pins, read_ruled_count, read_at, read_annotations, to_fields, read_sheet}
use Rattle.grammar.specs.Given.{padded}
use Rattle.grammar.proofs.Grammar.{ruled_count, ruled_right, writes_right, annotations_right, sheet_right, read_from_pins, read_from_rule, read_from_writes}
use Rattle.scan.specs.Steps.{read_as, itself, ruled, behind, outline_of}
use Rattle.scan.specs.declared.Found.{Found}
use Rattle.scan.proofs.Readings.{ok_got, Passes, passes, sticks}

-- the same rest, n bytes after the beginning
abbrev further : {Y Z : Type 0} {g : List ℕ → Reading Z} {f : List ℕ → Reading Y} (r : Rest g f) (n : ℕ) → n ≡ r.at → Rest g f
further {f = f} r n e =
    record { bytes = r.bytes; at = n; makes = r.makes; whole = r.whole ∙ ap (λ (j : ℕ). passed r.makes j (f (drop j r.bytes))) (sym e) }

-- the deed, the pins, and the rule with the number of writes are read
pub record Begun (s : List ℕ) (deed pins : Found ℕ) (rules : Found (Rule × ℕ)) : Type 0 where
  pub first : (v : List ℕ) × (read_deed s ≡ got v deed.size) × (deed.value ≡ length v)
  pub second : Passes itself (read_pins (drop deed.size s)) deed.size pins
  pub third : Passes ruled (read_ruled_count (drop pins.size s)) pins.size rules

pub begun : (s : List ℕ) (deed : Found ℕ) → Ok deed ≡ read_as length (read_deed s)
    → (pins : Found ℕ) (p : Result (Found ℕ) ℕ) → p ≡ read_as itself (read_pins (take (length s - deed.size) (drop deed.size s))) → Ok pins ≡ behind deed.size p
    → (rules : Found (Rule × ℕ)) (r : Result (Found (Rule × ℕ)) ℕ) → r ≡ read_as ruled (read_ruled_count (take (length s - pins.size) (drop pins.size s))) → Ok rules ≡ behind pins.size r
    → Begun s deed pins rules
begun s deed d pins p e f rules r g h =
    record { first = ok_got length (read_deed s) deed d; second = passes itself read_pins deed.size s p e pins f; third = passes ruled read_ruled_count pins.size s r g rules h }

module _ (s : List ℕ) (deed pins : Found ℕ) (rules : Found (Rule × ℕ)) (b : Begun s deed pins rules) where
  -- at most 64 writes are to be read
  pub count_most : rules.value.1 ≤ 64
  count_most =
      let l = drop pins.size s in
      omega (arith, (subst (Right Any ruled_count l) b.third.here (ruled_right l)).valid.1, ap (λ (x : Rule × ℕ). x.1) b.third.found)

  abbrev many : ℕ
  many = b.third.value.1

  abbrev after_deed : Rest read_sheet read_from_pins
  after_deed = first_passes to_fields read_deed (λ _. read_from_pins) s b.first.1

  abbrev after_pins : Rest read_sheet read_from_rule
  after_pins = further (next_passes read_pins (λ _. read_from_rule) after_deed b.second.here) pins.size b.second.goes

  abbrev after_rule : Rest read_sheet (read_from_writes many)
  after_rule = further (next_passes read_ruled_count (λ v. read_from_writes v.1) after_pins b.third.here) rules.size b.third.goes

  -- ---- the writes
  module _ (w : Result (Found (List ℕ)) ℕ) (q : w ≡ read_as (padded 64) (read_times read_at rules.value.1 (take (length s - rules.size) (drop rules.size s)))) where
    counted : w ≡ read_as (padded 64) (read_times read_at many (take (length s - rules.size) (drop rules.size s)))
    counted = q ∙ ap (λ (v : Rule × ℕ). read_as (padded 64) (read_times read_at v.1 (take (length s - rules.size) (drop rules.size s)))) b.third.found

    pub writes_stick : (place : ℕ) → Err place ≡ behind rules.size w → Err place ≡ outline_of (read_sheet s)
    writes_stick place e =
        let g = sticks (padded 64) (read_times read_at many) rules.size s w counted place e in
        ap Err g.goes ∙ sym (ap outline_of (next_sticks (read_times read_at many) (λ _. read_annotations) after_rule g.here))

    module _ (written : Found (List ℕ)) (e : Ok written ≡ behind rules.size w) where
      fourth : Passes (padded 64) (read_times read_at many (drop rules.size s)) rules.size written
      fourth = passes (padded 64) (read_times read_at many) rules.size s w counted written e

      -- as many writes are read as were to be
      writes_many : rules.value.1 ≡ length fourth.value
      writes_many =
          let l = drop rules.size s in
          omega (arith, (subst (Right Any (times many at_line) l) fourth.here (writes_right many l)).valid.1, ap (λ (x : Rule × ℕ). x.1) b.third.found)

      abbrev after_writes : Rest read_sheet read_annotations
      after_writes = further (next_passes (read_times read_at many) (λ _. read_annotations) after_rule fourth.here) written.size fourth.goes

      -- ---- the annotations
      module _ (n : Result (Found ℕ) ℕ) (z : n ≡ read_as length (read_annotations (take (length s - written.size) (drop written.size s)))) where
        pub notes_stick : (place : ℕ) → Err place ≡ behind written.size n → Err place ≡ outline_of (read_sheet s)
        notes_stick place f =
            let g = sticks length read_annotations written.size s n z place f in
            ap Err g.goes ∙ sym (ap outline_of (rest_read read_annotations after_writes g.here))

        module _ (notes : Found ℕ) (f : Ok notes ≡ behind written.size n) where
          fifth : Passes length (read_annotations (drop written.size s)) written.size notes
          fifth = passes length read_annotations written.size s n z notes f

          -- the bytes before the annotations are the fixed lines
          before : written.size ≡ length (front (after_writes.makes fifth.value))
          before =
              let k = after_writes.makes fifth.value in
              let a : Accepted None sheets s k (written.size + fifth.size) = subst (Right None sheets s) (rest_read read_annotations after_writes fifth.here) (sheet_right s) in
              let o : Accepted None (up_to 200 annotation_line) (drop written.size s) fifth.value fifth.size = subst (Right None (up_to 200 annotation_line) (drop written.size s)) fifth.here (annotations_right (drop written.size s)) in
              omega (arith, a.size, length-append (front k) (lines k.annotations), o.size)

          pub outlined : Ok (record { deed = deed.value; pins = pins.value; rule = rules.value.0; writes = written.value; write_count = rules.value.1; tail = written.size; annotations = notes.value }) ≡ outline_of (read_sheet s)
          outlined =
              (λ i. Ok (record { deed = b.first.2 i; pins = b.second.found i; rule = (b.third.found i).0; writes = fourth.found i; write_count = writes_many i; tail = before i; annotations = fifth.found i }))
              ∙ sym (ap outline_of (rest_read read_annotations after_writes fifth.here))
