-- The settings of a sheet and what is told of them (document 01, "The report"): its writes played from reset, in the order 11, 10, 1, 4.
use Rattle.std.specs.Prelude.{ℕ, List, [], ◌∷◌, ◌++◌, eqb}
use Rattle.promises.specs.Choose.{choose}
use Rattle.promises.specs.Told.{Told, done}
use Rattle.promises.specs.Order.{Check, first_of}
use Rattle.settings.specs.declared.Rule.TheVariants.{One}
use Rattle.settings.specs.declared.Settings.{Settings}
use Rattle.settings.specs.Fields.{settings_of}
use Rattle.settings.specs.Refusals.{pins_above, fast_rate}
use Rattle.control.specs.Control.{played, play_order}
use Rattle.grammar.specs.Given.{fields_in, rule_given, sheet_order}

-- the settings that a sheet gives: its writes played from reset, its pins, and its rule
unfoldable pub settings_in : List ℕ → Settings
settings_in s = settings_of (played 0 (fields_in s).writes) (fields_in s).pins (rule_given (fields_in s).rule)

-- 1, 4
abbrev pub setting_order : Settings → List Check
setting_order s = pins_above s.look ∷ fast_rate s ∷ []

-- 11 with its place, 10 with its write, and then those
abbrev pub intake_order : List ℕ → List Check
intake_order s = sheet_order s ++ (play_order 0 (fields_in s).writes ++ setting_order (settings_in s))

unfoldable pub intake_told : List ℕ → Told
intake_told s = first_of (intake_order s) (done 0)

-- a refusal gives the word of reset, pins 0 and rule 1
abbrev pub no_settings : Settings
no_settings = settings_of 0 0 One

unfoldable pub settings_given : List ℕ → Settings
settings_given s = choose (eqb (intake_told s).number 0) (settings_in s) no_settings
