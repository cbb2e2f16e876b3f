-- The report of a sheet (document 01, "The report", and CR 6): its whole text.
use Rattle.std.specs.Prelude.{ℕ, true, List, [], ◌∷◌, ◌++◌, eqb, length}
use Rattle.promises.specs.Choose.{choose}
use Rattle.promises.specs.Told.{Told}
use Rattle.promises.specs.Order.{check, after}
use Rattle.settings.specs.declared.Settings.{Settings}
use Rattle.settings.specs.Modes.{mode_name}
use Rattle.counter.specs.Counter.{address_of}
use Rattle.text.specs.Hex.{hex}
use Rattle.grammar.specs.Sheet.{deed_word, pins_word, rule_word, rule_digit, lines}
use Rattle.grammar.specs.Given.{fields_in}
use Rattle.intake.specs.Intake.{settings_in, intake_told}
use Rattle.report_text.specs.Words.{status_word, place_word, control_word, mode_word, start_word, annotations_word, decimal, line_of}

-- the lines of the text
abbrev pub status_line : Told → List ℕ
status_line t = line_of status_word (decimal t.number)

abbrev pub place_line : Told → List ℕ
place_line t = line_of place_word (decimal t.place)

abbrev pub deed_printed : List ℕ → List ℕ
deed_printed s = line_of deed_word (fields_in s).deed

-- the number of annotations, and the annotation lines as they stand in the sheet
abbrev pub annotated : List ℕ → List ℕ
annotated s = line_of annotations_word (decimal (length (fields_in s).annotations)) ++ lines (fields_in s).annotations

-- what the chips were given: pins and control in capital hex digits
abbrev pub given_lines : Settings → List ℕ
given_lines s = line_of pins_word (hex 2 s.look.pins) ++ line_of control_word (hex 4 s.word)

-- the fetch rule by its digit
abbrev pub rule_printed : Settings → List ℕ
rule_printed s = line_of rule_word (rule_digit s.rule ∷ [])

-- what they show by it: the mode's name, and start in capital hex digits
abbrev pub view_lines : Settings → List ℕ
view_lines s = line_of mode_word (mode_name s.look) ++ line_of start_word (hex 4 (address_of s 0 0))

abbrev pub setting_lines : Settings → List ℕ
setting_lines s = given_lines s ++ (rule_printed s ++ view_lines s)

-- the whole text where t is told of a sheet: a success, a broken sheet, or another refusal
unfoldable pub text_for : Told → List ℕ → List ℕ
text_for t s =
    choose (eqb t.number 0) (status_line t ++ (deed_printed s ++ (setting_lines (settings_in s) ++ annotated s)))
    (choose (eqb t.number 11) (status_line t ++ place_line t)
    (status_line t ++ (place_line t ++ (deed_printed s ++ annotated s))))

-- the report
abbrev pub report_of : List ℕ → List ℕ
report_of s = text_for (intake_told s) s

-- the report after an operation on the record told t: the sheet's own refusal stands first
abbrev pub told_after : List ℕ → Told → Told
told_after s t = after (check true t) (intake_told s)

abbrev pub report_after : List ℕ → Told → List ℕ
report_after s t = text_for (told_after s t) s
