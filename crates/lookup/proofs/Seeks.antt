-- The walk from line to line: no line that is passed has the key, so the one that has it is the first.
use Prim.Native.Nat.{ℕ, ◌+◌, ◌-◌, ◌≤◌, ◌<◌}
use native.Mathlib.Omega.{arith}
use mathlib.Core.Path.{◌≡◌, sym, ◌∙◌, ap}
use mathlib.Core.List.{List}
use mathlib.Core.Bool.{true, false}
use mathlib.Core.Logic.{⊎_elim}
use lib.ListN.{length, take, drop, length-drop}
use lib.Seq.{take_all}
use Rattle.std.proofs.Common.{Some, None}
use Rattle.text.proofs.Lists.{le_or_lt}
use Rattle.grammar.specs.Sheet.{same, Annotation, line, lines}
use Rattle.grammar.specs.Given.{accepted, fields_in, tail_from, annotation_at}
use Rattle.grammar.proofs.Keys.{same_eq}
use Rattle.grammar.proofs.Parts.{tail_size, line_from, line_in}
use Rattle.lookup.specs.Steps.{to_line_end, keyed_by, found_in}
use Rattle.lookup.proofs.Lines.{line_size, line_ends, line_keyed}
use Rattle.lookup.proofs.Founds.{Has, found_here, found_nowhere}

-- the place at which line `count` begins; none before it has the key
pub record Passed (s k : List ℕ) (at : ℕ) : Type 0 where
  pub count : ℕ
  pub few : count ≤ length (fields_in s).annotations
  pub place : at ≡ tail_from s + length (lines (take count (fields_in s).annotations))
  pub none : (j : ℕ) → j < count → Has s k false j

-- before the first line nothing is passed
pub nothing_passed : (s k : List ℕ) (at : ℕ) → at ≡ tail_from s → Passed s k at
nothing_passed s k at e = record { count = 0; few = omega arith; place = e ∙ omega arith; none = λ j l. absurd (omega arith) }

-- what is left of the sheet from `at` on
abbrev pub rest : List ℕ → ℕ → List ℕ
rest s at = take (length s - at) (drop at s)

-- the line that begins at `at`: how long it is, and that it is the first with the key or is to be passed
pub record Here (s k : List ℕ) (at : ℕ) : Type 0 where
  pub size : ℕ
  pub ends : to_line_end (rest s at) ≡ size
  pub within : at + size + 1 ≤ length s
  pub long : keyed_by k (rest s at) ≡ true → length k + 1 ≤ size
  pub found : (n : ℕ) → n ≡ size → keyed_by k (rest s at) ≡ true → Some (record { from = at + (length k + 1); size = n - (length k + 1) }) ≡ found_in s k
  pub missed : (n : ℕ) → n ≡ size → keyed_by k (rest s at) ≡ false → Passed s k (at + (n + 1))

module _ (s k : List ℕ) (h : accepted s ≡ true) (at : ℕ) (p : Passed s k at) where
  abbrev notes : List Annotation
  notes = (fields_in s).annotations

  -- past the last line the sheet is over
  over : length notes ≤ p.count → at ≡ length s
  over l = p.place ∙ ap (λ (x : List Annotation). tail_from s + length (lines x)) (take_all p.count notes l) ∙ tail_size s h

  pub line_here : at < length s → Here s k at
  line_here j = ⊎_elim (λ (l : length notes ≤ p.count). absurd (omega (arith, over l))) go (le_or_lt (length notes) p.count)
    where
      go : p.count < length notes → Here s k at
      go l =
          let v = line_in s p.count h l in
          let a = v.value in
          let here = take_all (length s - at) (drop at s) (omega (arith, length-drop at s)) ∙ ap (λ (j : ℕ). drop j s) p.place ∙ v.here in
          let keyed : keyed_by k (rest s at) ≡ same (annotation_at notes p.count).key k =
          ap (keyed_by k) here ∙ line_keyed a v.valid v.rest k ∙ ap (λ (x : Annotation). same x.key k) (sym v.is) in
          let size = line_size a in
          let key : keyed_by k (rest s at) ≡ true → length k ≡ length a.key = λ e. sym (ap length (same_eq (annotation_at notes p.count).key k (sym keyed ∙ e))) ∙ ap (λ (x : Annotation). length x.key) v.is in
          record {
            size = length (line a);
            ends = ap to_line_end here ∙ line_ends a v.valid v.rest;
            within = omega (arith, p.place, v.within);
            long = λ e. omega (arith, size, key e);
            found = λ n q e. found_here s k p.count (record { below = l; none = p.none; has = sym keyed ∙ e }) (at + (length k + 1)) (n - (length k + 1))
                (omega (arith, p.place, line_from s p.count l)) (omega (arith, q, size, key e, ap (λ (x : Annotation). length x.value) v.is));
            missed = λ n q e. record {
              count = p.count + 1;
              few = omega arith;
              place = omega (arith, q, p.place, v.next);
              none = λ j m. ⊎_elim (λ (r : p.count ≤ j). let z : j ≡ p.count = omega arith in ap (λ (n : ℕ). same (annotation_at notes n).key k) z ∙ sym keyed ∙ e) (p.none j) (le_or_lt p.count j);
            };
          }

  -- so at the end of the sheet none has the key
  pub none_left : length s ≤ at → None ≡ found_in s k
  none_left l = ⊎_elim (λ (m : length notes ≤ p.count). found_nowhere s k (λ j n. p.none j (omega arith))) (λ (m : p.count < length notes). absurd (omega (arith, p.place, (line_in s p.count h m).within))) (le_or_lt (length notes) p.count)
