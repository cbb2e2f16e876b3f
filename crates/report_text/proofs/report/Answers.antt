-- `report_text::report` meets its contract.
use Rattle.std.proofs.Common.{sym, ap, ◌∙◌}
use Rattle.promises.specs.Told.{Told}
use Rattle.intake.proofs.Judges.{given_done}
use Rattle.report_text.specs.Words.{text_of}
use Rattle.report_text.specs.Report.{text_for}
use Rattle.report_text.proofs.report.Goals as goal

pub text_for-requires-clause-settings_value : goal.text_for-requires-clause-settings_value
text_for-requires-clause-settings_value c =
    λ e. c.settings_of-taken.ensures.settings ∙ given_done c.args.sheet.now (ap (λ (t : Told). t.number) (sym c.settings_of-taken.ensures.told) ∙ e)

pub returns : goal.returns
returns c = c.text_for.ensures ∙ ap (λ (t : Told). text_of (text_for t c.args.sheet.now)) c.settings_of-taken.ensures.told
