-- Every report fits its array, and ends with the sheet's annotation lines where the sheet is whole.
use Prim.Native.Nat.{ℕ, ◌≤◌}
use mathlib.Core.Path.{◌≡◌, sym, ap, ◌∙◌}
use mathlib.Core.List.{List, ◌++◌, append_assoc}
use native.Mathlib.Omega.{arith}
use lib.Dec.{eqb}
use lib.ListN.{length, take, length-append}
use borrow.Author.Tests.{eqb-true, eqb-false}
use Rattle.promises.specs.Told.{Told}
use Rattle.promises.proofs.Choices.{of_both, by_test}
use Rattle.settings.specs.declared.Settings.{Settings}
use Rattle.settings.proofs.Names.{name_small}
use Rattle.grammar.specs.Sheet.{lines}
use Rattle.grammar.specs.Given.{fields_in}
use Rattle.report_text.specs.Words.{annotations_word, decimal, line_of, room, text_of, held}
use Rattle.intake.specs.Intake.{settings_in}
use Rattle.report_text.specs.Report.{status_line, place_line, deed_printed, setting_lines, annotated, text_for}
use Rattle.report_text.specs.declared.Text.{Text}
use Rattle.report_text.proofs.Texts.{held_text, holds_text, text_long, place_long as place-full}
use Rattle.report_text.proofs.Values.{deed_small}
use Rattle.report_text.proofs.Longs.{decimal_small, annotated_long}
use Rattle.report_text.proofs.Cases.{report_done, report_refused}

pub settings_long : (s : Settings) → length (setting_lines s) ≤ 60
settings_long s = simp length-append (omega (arith, name_small s.look))

module _ (t : Told) (s : List ℕ) where
  deed_line_long : length (deed_printed s) ≤ 30
  deed_line_long = simp length-append (omega (arith, deed_small s))

  status_long : length (status_line t) ≤ 30
  status_long = simp length-append (omega (arith, decimal_small 20 t.number))

  place_long : length (place_line t) ≤ 30
  place_long = simp length-append (omega (arith, decimal_small 20 t.place))

  -- every report fits
  pub report_fits : length (text_for t s) ≤ room
  unfolding text_for
  report_fits =
      of_both (λ (l : List ℕ). length l ≤ room) (eqb t.number 0)
      (omega (arith, length-append (status_line t) (deed_printed s ++ (setting_lines (settings_in s) ++ annotated s)), length-append (deed_printed s) (setting_lines (settings_in s) ++ annotated s), length-append (setting_lines (settings_in s)) (annotated s), status_long, deed_line_long, settings_long (settings_in s), annotated_long s))
      (of_both (λ (l : List ℕ). length l ≤ room) (eqb t.number 11)
      (omega (arith, length-append (status_line t) (place_line t), status_long, place_long))
      (omega (arith, length-append (status_line t) (place_line t ++ (deed_printed s ++ annotated s)), length-append (place_line t) (deed_printed s ++ annotated s), length-append (deed_printed s) (annotated s), status_long, place_long, deed_line_long, annotated_long s)))

  -- so the bytes that a report's text holds are the report
  module _ (r : Text) (e : r ≡ text_of (text_for t s)) where
    pub holds_report : held r ≡ text_for t s
    holds_report = ap held e ∙ held_text (text_for t s)

    pub text_within : r.len ≤ length r.bytes
    text_within = omega (arith, place-full r (holds_text (text_for t s) e) (omega (arith, text_long (text_for t s) e, report_fits)), text_long (text_for t s) e, report_fits)

    pub text_held : r.len ≡ length (take r.len r.bytes)
    unfolding held
    text_held = text_long (text_for t s) e ∙ ap length (sym holds_report)

  -- but for a broken sheet, every report ends with the annotation lines as they stand in the sheet
  counted : List ℕ
  counted = line_of annotations_word (decimal (length (fields_in s).annotations))

  done_ends : status_line t ++ (deed_printed s ++ (setting_lines (settings_in s) ++ annotated s)) ≡ (status_line t ++ (deed_printed s ++ (setting_lines (settings_in s) ++ counted))) ++ lines (fields_in s).annotations
  unfolding counted
  done_ends = simp append_assoc

  refused_ends : status_line t ++ (place_line t ++ (deed_printed s ++ annotated s)) ≡ (status_line t ++ (place_line t ++ (deed_printed s ++ counted))) ++ lines (fields_in s).annotations
  unfolding counted
  refused_ends = simp append_assoc

  pub ends_with_lines : (t.number ≡ 11 → ⊥) → (before : List ℕ) × (text_for t s ≡ before ++ lines (fields_in s).annotations)
  ends_with_lines h =
      by_test (eqb t.number 0)
      (λ e. (status_line t ++ (deed_printed s ++ (setting_lines (settings_in s) ++ counted)), report_done t s (eqb-true _ _ e) ∙ done_ends))
      (λ e. (status_line t ++ (place_line t ++ (deed_printed s ++ counted)), report_refused t s (eqb-false _ _ e) h ∙ refused_ends))

  -- every report begins with its status
  pub begins_with_status : (rest : List ℕ) × (text_for t s ≡ status_line t ++ rest)
  unfolding text_for
  begins_with_status =
      by_test (eqb t.number 0)
      (λ e. (deed_printed s ++ (setting_lines (settings_in s) ++ annotated s), simp e))
      (λ e. by_test (eqb t.number 11) (λ d. (place_line t, simp (e, d))) (λ d. (place_line t ++ (deed_printed s ++ annotated s), simp (e, d))))
