-- The text by the number that is told: a success, a broken sheet, another refusal.
use Prim.Native.Nat.{ℕ}
use mathlib.Core.Path.{◌≡◌}
use mathlib.Core.List.{List, ◌++◌}
use borrow.Author.Tests.{eq-eqb, ne_eqb, eqb-true}
use lib.Dec.{eqb}
use Rattle.promises.specs.Told.{Told}
use Rattle.promises.specs.Order.{after}
use Rattle.promises.proofs.Choices.{by_test}
use Rattle.intake.specs.Intake.{settings_in, intake_told}
use Rattle.report_text.specs.Report.{status_line, place_line, deed_printed, setting_lines, annotated, text_for, told_after}

module _ (t : Told) (s : List ℕ) where
  pub report_done : t.number ≡ 0 → text_for t s ≡ status_line t ++ (deed_printed s ++ (setting_lines (settings_in s) ++ annotated s))
  unfolding text_for
  report_done e = simp (eq-eqb _ _ e)

  pub report_broken : (t.number ≡ 0 → ⊥) → t.number ≡ 11 → text_for t s ≡ status_line t ++ place_line t
  unfolding text_for
  report_broken n e = simp (ne_eqb _ _ n, eq-eqb _ _ e)

  pub report_refused : (t.number ≡ 0 → ⊥) → (t.number ≡ 11 → ⊥) → text_for t s ≡ status_line t ++ (place_line t ++ (deed_printed s ++ annotated s))
  unfolding text_for
  report_refused n m = simp (ne_eqb _ _ n, ne_eqb _ _ m)

-- the report after another operation is one of a success only where the sheet itself is accepted
pub after_done : (s : List ℕ) (t : Told) → (told_after s t).number ≡ 0 → (intake_told s).number ≡ 0
unfolding after
after_done s t e = by_test (eqb (intake_told s).number 0) (λ y. eqb-true _ _ y) (λ n. rw n at e)
