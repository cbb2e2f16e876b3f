-- The reading of a sheet is right: it accepts the bytes of the valid sheets, and sticks at the longest beginning of one.
use Prim.Native.Nat.{ℕ, zero, suc, ◌≤◌, zero-le}
use native.Mathlib.Omega.{arith}
use native.Mathlib.Nat.{le_refl}
use mathlib.Core.Path.{◌≡◌, refl, sym, ◌∙◌, ap, subst}
use mathlib.Core.List.{List, [], ◌∷◌, ◌++◌, append_assoc, append-nil}
use mathlib.Core.Option.{Option, none}
use lib.ListN.{length, length-append, replicate, length-replicate}
use Rattle.settings.specs.declared.Rule.{Rule}
use Rattle.settings.specs.declared.Rule.TheVariants.{One}
use Rattle.text.specs.Code.{Code, Longest, Reading, got, stuck, Any, None, Accepted, Refused, Right, Prefix, Exact, Some}
use Rattle.text.specs.Combine.{both, and_then, closed, optional, AllValid, texts, times, up_to, only, read_closed, read_times, read_only}
use Rattle.text.specs.Hex.{hex_code, read_hex}
use Rattle.text.proofs.Sequences.{both_right, both_prefix, both_exact}
use Rattle.text.proofs.Renamed.{Same, same_right, same_prefix}
use Rattle.text.proofs.Words.{led_right, led_prefix}
use Rattle.text.proofs.Runs.{closed_right, closed_prefix}
use Rattle.text.proofs.Options.{Starts, optional_right, optional_prefix}
use Rattle.text.proofs.Repeats.{times_right, times_prefix, up_to_right, up_to_one}
use Rattle.text.proofs.Exclusions.{only_right, only_prefix}
use Rattle.text.proofs.Hexes.{hex_right, hex_prefix}
use Rattle.text.proofs.Back.{back_none}
use Rattle.grammar.specs.Sheet.{deed_byte, key_byte, value_byte, deed_word, pins_word, rule_word, writes_word, at_word, eq, nl, deed_line, pins_line, rule_code, rule_line, count_code, writes_line, at_line, Annotation, free, ValidAnnotation, line, annotation_line, Fields, ValidSheet, lines, render, sheets}
use Rattle.grammar.specs.Read.{read_deed, read_pins, read_at, read_rule_digit, read_rule_line, read_number, read_count, read_ruled_count, to_annotation, read_annotation, read_annotations, Lines, to_fields, read_sheet}
use Rattle.grammar.proofs.Numbers.{count_code_right, count_code_prefix}
use Rattle.grammar.proofs.Rules.{rule_code_right, rule_code_prefix}
use Rattle.grammar.proofs.Keys.{fill}

-- ---- the fixed lines
pub deed_right : (s : List ℕ) → Right Any deed_line s (read_deed s)
deed_right = led_right (deed_word ++ eq) (closed deed_byte 1 16 10) (45 ∷ []) ((refl, tt), le_refl 1, omega arith) (read_closed deed_byte 1 16 10) (closed_right deed_byte 10 refl 45 refl 1 16 (omega arith))

deed_prefix : Prefix deed_line
deed_prefix = led_prefix (deed_word ++ eq) (closed deed_byte 1 16 10) (closed_prefix deed_byte 10 refl 1 16)

pub pins_right : (s : List ℕ) → Right Any pins_line s (read_pins s)
pins_right = led_right (pins_word ++ eq) (hex_code 2 10) 0 (omega arith) (read_hex 2 10) (hex_right 2 10 refl)

pins_prefix : Prefix pins_line
pins_prefix = led_prefix (pins_word ++ eq) (hex_code 2 10) (hex_prefix 2 10 refl)

rule_right : (s : List ℕ) → Right Any rule_line s (read_rule_line s)
rule_right = led_right (rule_word ++ eq) rule_code One tt read_rule_digit rule_code_right

rule_prefix : Prefix rule_line
rule_prefix = led_prefix (rule_word ++ eq) rule_code rule_code_prefix

pub count_right : (s : List ℕ) → Right Any writes_line s (read_count s)
count_right = led_right (writes_word ++ eq) count_code 0 zero-le read_number count_code_right

count_prefix : Prefix writes_line
count_prefix = led_prefix (writes_word ++ eq) count_code count_code_prefix

-- the rule, if it is given, and the number of writes: their lines begin with r and w
abbrev pub ruled_count : Code (Option Rule × ℕ)
ruled_count = both (optional rule_line) (λ _. writes_line)

rule_starts : Starts rule_line 114
rule_starts r h = (_, refl)

count_starts : Starts writes_line 119
count_starts n h = (_, refl)

apart : ◌≡◌ {A = ℕ} 119 114 → ⊥
apart e = omega arith

pub ruled_right : (s : List ℕ) → Right Any ruled_count s (read_ruled_count s)
ruled_right = optional_right rule_line writes_line 114 119 rule_starts count_starts apart Any read_rule_line read_count rule_prefix 0 zero-le rule_right count_right

ruled_prefix : Prefix ruled_count
ruled_prefix = optional_prefix rule_line writes_line 114 119 rule_starts count_starts apart rule_prefix count_prefix

pub at_right : (s : List ℕ) → Right Any at_line s (read_at s)
at_right = led_right (at_word ++ eq) (hex_code 4 10) 0 (omega arith) (read_hex 4 10) (hex_right 4 10 refl)

at_prefix : Prefix at_line
at_prefix = led_prefix (at_word ++ eq) (hex_code 4 10) (hex_prefix 4 10 refl)

pub writes_right : (n : ℕ) (s : List ℕ) → Right Any (times n at_line) s (read_times read_at n s)
writes_right = times_right at_line read_at at_right at_prefix 0 (omega arith)

writes_prefix : (n : ℕ) → Prefix (times n at_line)
writes_prefix = times_prefix at_line read_at at_right at_prefix 0 (omega arith)

-- ---- annotations
abbrev key_code : Code (List ℕ)
key_code = only free (closed key_byte 1 16 61)

abbrev value_code : Code (List ℕ)
value_code = closed value_byte 0 120 10

key_prefix : Prefix key_code
key_prefix = only_prefix free (closed key_byte 1 16 61) (closed_prefix key_byte 61 refl 1 16)

pair_right : (s : List ℕ) → Right Any (both key_code (λ _. value_code)) s (and_then s (read_only free (read_closed key_byte 1 16 61 s)) (λ _ r. read_closed value_byte 0 120 10 r))
pair_right s =
    both_right key_code (λ _. value_code) Any key_prefix (λ _ _. ([], (tt, zero-le, zero-le))) s (read_only free (read_closed key_byte 1 16 61 s)) (λ _ r. read_closed value_byte 0 120 10 r)
    (only_right key_byte 1 16 61 refl free fill s (read_closed key_byte 1 16 61 s) (closed_right key_byte 61 refl 45 refl 1 16 (omega arith) s))
    (λ _ _ r. closed_right value_byte 10 refl 0 refl 0 120 zero-le r)

annotation_same : Same (both key_code (λ _. value_code)) annotation_line to_annotation
annotation_same =
    record {
      valid = λ p h. record { key_bytes = h.0.0.0; key_some = h.0.0.1; key_most = h.0.0.2; key_free = h.0.1; value_bytes = h.1.0; value_most = h.1.2 };
      text = λ p h. regroup p.0 p.1;
      back = λ a h. ((a.key, a.value), (((h.key_bytes, h.key_some, h.key_most), h.key_free), (h.value_bytes, zero-le, h.value_most)), refl);
    }
  where
    regroup : (k v : List ℕ) → (k ++ (eq ++ v)) ++ nl ≡ (k ++ eq) ++ (v ++ nl)
    regroup k v = append_assoc k (eq ++ v) nl ∙ sym (append_assoc k eq (v ++ nl))

pub annotation_right : (s : List ℕ) → Right Any annotation_line s (read_annotation s)
annotation_right s = same_right (both key_code (λ _. value_code)) annotation_line to_annotation annotation_same Any s (and_then s (read_only free (read_closed key_byte 1 16 61 s)) (λ _ r. read_closed value_byte 0 120 10 r)) (pair_right s)

pub annotation_prefix : Prefix annotation_line
annotation_prefix = same_prefix (both key_code (λ _. value_code)) annotation_line to_annotation annotation_same (both_prefix key_code (λ _. value_code) key_prefix (λ _. closed_prefix value_byte 10 refl 0 120))

pub annotation_some : Some annotation_line
annotation_some a h e = omega (arith, length-append (line a) nl, ap length e)

-- the shortest annotation
least : Annotation
least = record { key = 45 ∷ []; value = [] }

least_valid : ValidAnnotation least
unfolding least
least_valid = record { key_bytes = (refl, tt); key_some = le_refl 1; key_most = omega arith; key_free = refl; value_bytes = tt; value_most = zero-le }

pub annotations_right : (s : List ℕ) → Right None (up_to 200 annotation_line) s (read_annotations s)
annotations_right = up_to_right annotation_line read_annotation annotation_right annotation_prefix least least_valid annotation_some 200

annotations_exact : Exact (up_to 200 annotation_line)
annotations_exact l l' h h' e = up_to_one annotation_line read_annotation annotation_right annotation_prefix least least_valid annotation_some 200 200 l l' h h' e

-- ---- the lines from each of the fixed ones to the end: codes and readings
abbrev from_writes : ℕ → Code (List ℕ × List Annotation)
from_writes n = both (times n at_line) (λ _. up_to 200 annotation_line)

abbrev from_rule : Code ((Option Rule × ℕ) × (List ℕ × List Annotation))
from_rule = both ruled_count (λ ruled. from_writes ruled.1)

abbrev from_pins : Code (ℕ × ((Option Rule × ℕ) × (List ℕ × List Annotation)))
from_pins = both pins_line (λ _. from_rule)

abbrev from_deed : Code Lines
from_deed = both deed_line (λ _. from_pins)

abbrev pub read_from_writes : ℕ → List ℕ → Reading (List ℕ × List Annotation)
read_from_writes n s = and_then s (read_times read_at n s) (λ _. read_annotations)

abbrev pub read_from_rule : List ℕ → Reading ((Option Rule × ℕ) × (List ℕ × List Annotation))
read_from_rule s = and_then s (read_ruled_count s) (λ ruled. read_from_writes ruled.1)

abbrev pub read_from_pins : List ℕ → Reading (ℕ × ((Option Rule × ℕ) × (List ℕ × List Annotation)))
read_from_pins s = and_then s (read_pins s) (λ _. read_from_rule)

abbrev read_from_deed : List ℕ → Reading Lines
read_from_deed s = and_then s (read_deed s) (λ _. read_from_pins)

-- each has a valid value
from_writes_some : (n : ℕ) → (v : List ℕ × List Annotation) × (from_writes n).Valid v
from_writes_some n = ((replicate n 0, []), ((all n, length-replicate n 0), (tt, zero-le)))
  where
    all : (n : ℕ) → AllValid at_line (replicate n 0)
    all zero = tt
    all (suc n) = (omega arith, all n)

from_rule_some : (v : (Option Rule × ℕ) × (List ℕ × List Annotation)) × from_rule.Valid v
from_rule_some = let w = from_writes_some 0 in (((none, 0), w.0), ((tt, zero-le), w.1))

from_pins_some : (v : ℕ × ((Option Rule × ℕ) × (List ℕ × List Annotation))) × from_pins.Valid v
from_pins_some = let w = from_rule_some in ((0, w.0), (omega arith, w.1))

-- and is read rightly
from_writes_right : (n : ℕ) (s : List ℕ) → Right None (from_writes n) s (read_from_writes n s)
from_writes_right n s = both_right (times n at_line) (λ _. up_to 200 annotation_line) None (writes_prefix n) (λ _ _. ([], (tt, zero-le))) s (read_times read_at n s) (λ _. read_annotations) (writes_right n s) (λ _ _. annotations_right)

from_rule_right : (s : List ℕ) → Right None from_rule s (read_from_rule s)
from_rule_right s = both_right ruled_count (λ ruled. from_writes ruled.1) None ruled_prefix (λ v _. from_writes_some v.1) s (read_ruled_count s) (λ ruled. read_from_writes ruled.1) (ruled_right s) (λ v _. from_writes_right v.1)

from_pins_right : (s : List ℕ) → Right None from_pins s (read_from_pins s)
from_pins_right s = both_right pins_line (λ _. from_rule) None pins_prefix (λ _ _. from_rule_some) s (read_pins s) (λ _. read_from_rule) (pins_right s) (λ _ _. from_rule_right)

from_deed_right : (s : List ℕ) → Right None from_deed s (read_from_deed s)
from_deed_right s = both_right deed_line (λ _. from_pins) None deed_prefix (λ _ _. from_pins_some) s (read_deed s) (λ _. read_from_pins) (deed_right s) (λ _ _. from_pins_right)

-- and the bytes determine the value
from_deed_exact : Exact from_deed
from_deed_exact =
    both_exact deed_line (λ _. from_pins) deed_prefix λ _.
    both_exact pins_line (λ _. from_rule) pins_prefix λ _.
    both_exact ruled_count (λ ruled. from_writes ruled.1) ruled_prefix λ ruled.
    both_exact (times ruled.1 at_line) (λ _. up_to 200 annotation_line) (writes_prefix ruled.1) λ _. annotations_exact

-- ---- the sheet: the number of writes is the length of their list
sheet_same : Same from_deed sheets to_fields
sheet_same = record { valid = valid; text = text; back = back }
  where
    regroup : (d p r w t l : List ℕ) → (d ++ (p ++ (r ++ (w ++ t)))) ++ l ≡ d ++ (p ++ ((r ++ w) ++ (t ++ l)))
    regroup d p r w t l = simp append_assoc

    valid : (v : Lines) → from_deed.Valid v → ValidSheet (to_fields v)
    valid (d, (p, ((r, n), (w, l)))) (hd, (hp, ((hr, hn), ((hw, m), hl)))) =
        record { deed_valid = hd; pins_valid = hp; rule_valid = hr; count_valid = subst (λ (k : ℕ). k ≤ 64) (sym m) hn; writes_valid = hw; annotations_valid = hl }

    text : (v : Lines) → from_deed.Valid v → render (to_fields v) ≡ from_deed.text v
    text (d, (p, ((r, n), (w, l)))) (hd, (hp, ((hr, hn), ((hw, m), hl)))) =
        regroup (deed_line.text d) (pins_line.text p) ((optional rule_line).text r) (writes_line.text (length w)) (texts at_line w) (lines l)
        ∙ ap (λ (k : ℕ). deed_line.text d ++ (pins_line.text p ++ (ruled_count.text (r, k) ++ (texts at_line w ++ lines l)))) m

    back : (f : Fields) → ValidSheet f → (v : Lines) × from_deed.Valid v × (to_fields v ≡ f)
    back f h = ((f.deed, (f.pins, ((f.rule, length f.writes), (f.writes, f.annotations)))), (h.deed_valid, (h.pins_valid, ((h.rule_valid, h.count_valid), ((h.writes_valid, refl), h.annotations_valid)))), refl)

-- the reading of the sheet is right
pub sheet_right : (s : List ℕ) → Right None sheets s (read_sheet s)
sheet_right s = same_right from_deed sheets to_fields sheet_same None s (read_from_deed s) (from_deed_right s)

-- accepted: the bytes are those of valid fields
pub accepted_fields : (s : List ℕ) (f : Fields) (n : ℕ) → read_sheet s ≡ got f n → ValidSheet f × (s ≡ render f)
accepted_fields s f n e =
    let g : Accepted None sheets s f n = subst (Right None sheets s) e (sheet_right s) in
    (g.valid, g.whole ∙ ap (λ (x : List ℕ). render f ++ x) g.rest ∙ append-nil (render f))

-- refused: the place is the longest beginning that some accepted sheet also begins with, and no valid fields make the bytes
pub refused_at : (s : List ℕ) (n : ℕ) → read_sheet s ≡ stuck n → Longest sheets s n × ((f : Fields) → ValidSheet f → s ≡ render f → ⊥)
refused_at s n e =
    let h : Refused None sheets s n = subst (Right None sheets s) e (sheet_right s) in
    (h.longest, λ f v q. h.never f [] refl v (q ∙ sym (append-nil (render f))))

-- the bytes determine the fields
pub one_sheet : Exact sheets
one_sheet f f' h h' e =
    let b = sheet_same.back f h in
    let b' = sheet_same.back f' h' in
    let k : from_deed.text b.0 ≡ from_deed.text b'.0 = sym (sheet_same.text b.0 b.1) ∙ ap render b.2 ∙ e ∙ sym (ap render b'.2) ∙ sheet_same.text b'.0 b'.1 in
    sym b.2 ∙ ap to_fields (from_deed_exact b.0 b'.0 b.1 b'.1 k) ∙ b'.2

-- valid fields are read back
pub read_back : (f : Fields) → ValidSheet f → read_sheet (render f) ≡ got f (length (render f))
read_back f h = back_none sheets one_sheet f h (read_sheet (render f)) (sheet_right (render f))
