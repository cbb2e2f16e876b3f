-- `report_text::report_after` meets its contract: what is told is the sheet's own refusal, or else the answer.
use Rattle.std.proofs.Common.{true, sym, ap, ◌∙◌}
use Rattle.promises.specs.Told.{Told}
use Rattle.promises.specs.Order.{check, after}
use Rattle.answer.specs.Told.{told_of}
use Rattle.intake.proofs.Judges.{given_done}
use Rattle.report_text.specs.Words.{text_of}
use Rattle.report_text.specs.Report.{text_for}
use Rattle.report_text.proofs.Cases.{after_done}
use Rattle.report_text.proofs.report_after.Goals as goal

pub text_for-requires-clause-settings_value : goal.text_for-requires-clause-settings_value
text_for-requires-clause-settings_value c =
    let told_is = c.check-told.ensures ∙ ap (after (check true (told_of c.args.answer))) c.settings_of-taken.ensures.told in
    λ e. c.settings_of-taken.ensures.settings ∙ given_done c.args.sheet.now (after_done c.args.sheet.now (told_of c.args.answer) (ap (λ (t : Told). t.number) (sym told_is) ∙ e))

pub returns : goal.returns
returns c =
    let told_is = c.check-told.ensures ∙ ap (after (check true (told_of c.args.answer))) c.settings_of-taken.ensures.told in
    c.text_for.ensures ∙ ap (λ (t : Told). text_of (text_for t c.args.sheet.now)) told_is
