-- What `settings_of` promises of a sheet.
use Rattle.std.specs.Prelude.{ℕ, ◌≡◌, List, length}
use Rattle.answer.specs.Told.{told_of}
use Rattle.grammar.specs.Given.{fields_in}
use Rattle.intake.specs.declared.Intake.{Intake}
use Rattle.intake.specs.Intake.{intake_told, settings_given}

-- the answer, the settings, and the number of annotations, which a refusal of the settings alone gives too
pub record Taken (s : List ℕ) (r : Intake) : Type 0 where
  pub told : told_of r.answer ≡ intake_told s
  pub settings : r.settings ≡ settings_given s
  pub annotations : r.annotations ≡ length (fields_in s).annotations
