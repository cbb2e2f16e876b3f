-- CR 6, the fetch rules. "Show that the two agree wherever document 003's mode table pairs the pins with the SAM mode"; exactly where they
-- differ; and that the rule of a sheet goes with the settings, and a sheet without one, or a refused one, is rule 1.
-- Demands 2 and 3 speak of settings, and so of both rules: neither is said again here.
use Prim.Native.Nat.{ℕ, ◌<◌}
use mathlib.Core.Path.{◌≡◌, refl, sym, ap, ◌∙◌}
use mathlib.Core.Bool.{Bool, true, false, ◌&&◌}
use mathlib.Core.Logic.{◌⊎◌, inl, inr}
use mathlib.Core.List.{List, [], ◌∷◌, ◌++◌, append_assoc}
use native.Mathlib.Omega.{arith}
use contract.Lifetimes.{Lfts}
use lib.Dec.{T}
use lib.ListN.{get_or}
use borrow.Author.Tests.{eqb-true}
use Rattle.promises.proofs.Choices.{by_test}
use Rattle.answer.specs.Told.{Answer}
use Rattle.settings.specs.declared.Rule.{Rule}
use Rattle.settings.specs.declared.Rule.TheVariants.{One, Two}
use Rattle.settings.specs.declared.Settings.{Settings}
use Rattle.settings.specs.Fields.{settings_of, under}
use Rattle.settings.specs.Modes.{width}
use Rattle.settings.proofs.Widths.{width_cases}
use Rattle.counter.specs.Counter.{div_y, kept, fall, carry, advance, clear, bytes_on, start, line_start, address_of}
use Rattle.counter.specs.Pairs.{paired}
use Rattle.counter.specs.Steps.{clears_b4}
use Rattle.counter.proofs.Tables.{div_y_le}
use Rattle.counter.proofs.Rules.{steady_agree, paired_agree, line_differs}
use Rattle.settings.specs.Banks.{image_place}
use Rattle.text.specs.Hex.{hex}
use Rattle.grammar.specs.Sheet.{pins_word, rule_word, rule_digit, free, Fields, ValidSheet, render}
use Rattle.grammar.specs.Given.{fields_in, rule_given}
use Rattle.sheet.specs.declared.Sheet.{Sheet}
use Rattle.sheet.proofs.Annotations.{Reads}
use Rattle.intake.specs.Intake.{intake_told, settings_in}
use Rattle.intake.specs.declared.Intake.{Intake}
use Rattle.report_text.specs.declared.Text.{Text}
use Rattle.report_text.specs.Words.{control_word, line_of, held}
use Rattle.report_text.specs.Report.{status_line, deed_printed, rule_printed, view_lines, annotated}
use Rattle.report_text.proofs.Cases.{report_done}
use Rattle.claims.proofs.Calls.{Lent, Room, Fetches, Shows, TakesIn, Reports}
use Rattle.claims.proofs.Demand1.{settings_demand}
use Rattle.claims.proofs.Demand2.{Done, strip_bytes, valid_read, sheet_settings, printed}
use Rattle.claims.proofs.Alikes.{by_rules, same_fetched, same_shown}

-- ---- Where the table pairs the pins with the SAM mode, every address of every line is the same under both rules, for every start.
pub rules_agree : (s : Settings) → paired s ≡ true → (n c : ℕ) → address_of (under One s) n c ≡ address_of (under Two s) n c
unfolding paired
rules_agree s p n c = paired_agree (under Two s) p One n c

-- So fetching gives the same answer and strip under both, of the same contents lent;
pub agree_in_strip : (s : Settings) → paired s ≡ true → (κs κs' : Lfts 2) (image image' : Lent) (strip strip' : Room) (z z' : Answer) (out out' : List ℕ)
    → image.now ≡ image'.now → strip.now ≡ strip'.now → Fetches κs (under One s) image strip z out → Fetches κs' (under Two s) image' strip' z' out' → (z ≡ z') × (out ≡ out')
agree_in_strip s p = same_fetched (by_rules s One Two (rules_agree s p))

-- and both at once give the same answer, strip and frame.
pub agree_in_frame : (s : Settings) → paired s ≡ true
    → (κs κs' : Lfts 4) (image image' font font' : Lent) (strip strip' frame frame' : Room) (z z' : Answer) (bytes bytes' pixels pixels' : List ℕ)
    → image.now ≡ image'.now → font.now ≡ font'.now → strip.now ≡ strip'.now → frame.now ≡ frame'.now
    → Shows κs (under One s) image font strip frame z bytes pixels → Shows κs' (under Two s) image' font' strip' frame' z' bytes' pixels'
    → (z ≡ z') × (bytes ≡ bytes') × (pixels ≡ pixels')
agree_in_frame s p = same_shown (by_rules s One Two (rules_agree s p))

-- The table pairs, for instance: text with 0, and with 2, 4 and 6 (Semigraphics 8, 12 and 24); external text with 0; each graphics mode
-- with its own; and any pins with 7 (direct memory access).
abbrev instances : List Settings
instances =
    settings_of 0x0000 0x00 One
    ∷ settings_of 0x0002 0x00 One
    ∷ settings_of 0x0004 0x00 One
    ∷ settings_of 0x0006 0x00 One
    ∷ settings_of 0x0000 0x10 One
    ∷ settings_of 0x0001 0x20 One
    ∷ settings_of 0x0001 0x22 One
    ∷ settings_of 0x0002 0x24 One
    ∷ settings_of 0x0003 0x26 One
    ∷ settings_of 0x0004 0x28 One
    ∷ settings_of 0x0005 0x2A One
    ∷ settings_of 0x0006 0x2C One
    ∷ settings_of 0x0006 0x2E One
    ∷ settings_of 0x0007 0x20 One
    ∷ []

abbrev all_paired : List Settings → Bool
all_paired [] = true
all_paired (s ∷ l) = paired s && all_paired l

pub some_paired : T (all_paired instances)
unfolding paired
some_paired = tt

-- ---- Where they differ: exactly where a line has 16 bytes and its end clears B4, and there at line Y, which is on the screen.
pub agree_unless : (s : Settings) → (kept s ≡ 5 → width s.look ≡ 16 → ⊥) → (n c : ℕ) → address_of (under One s) n c ≡ address_of (under Two s) n c
agree_unless s apart n c = steady_agree (under Two s) (by_test (clears_b4 s) (λ t. inr (wide (eqb-true (kept s) 5 t) (width_cases s.look))) inl) One n c
  where
    wide : kept s ≡ 5 → (width s.look ≡ 16) ⊎ (width s.look ≡ 32) → width s.look ≡ 32
    wide five (inl e) = absurd (apart five e)
    wide five (inr e) = e

pub differ_there : (s : Settings) → kept s ≡ 5 → width s.look ≡ 16 → (div_y s < 192) × (address_of (under One s) (div_y s) 0 ≡ address_of (under Two s) (div_y s) 0 → ⊥)
differ_there s five one = (omega (arith, div_y_le s), line_differs s five one)

-- For instance P8, which the table does not pair: its line 100 is at $0000 under rule 1 and at $0100 under rule 2,
abbrev p8 : Rule → Settings
p8 r = settings_of 0x0000 0x20 r

pub p8_not_paired : paired (p8 One) ≡ false
unfolding paired
p8_not_paired = refl

p8_one : address_of (p8 One) 100 0 ≡ 0x0000
unfolding address_of line_start start clear fall carry advance bytes_on width
p8_one = refl

p8_two : address_of (p8 Two) 100 0 ≡ 0x0100
unfolding address_of line_start start clear fall carry advance bytes_on width
p8_two = refl

pub rules_differ : address_of (p8 One) 100 0 ≡ address_of (p8 Two) 100 0 → ⊥
rules_differ e = omega (arith, p8_one, p8_two)

-- so that of every image whose bytes at these places differ, the two strips differ.
pub differ_in_strip : (κs κs' : Lfts 2) (image : Lent) (strip strip' : Room) (z z' : Answer) (out out' : List ℕ)
    → Fetches κs (p8 One) image strip z out → Fetches κs' (p8 Two) image strip' z' out' → Done z → Done z'
    → (get_or image.now 0x0000 0 ≡ get_or image.now 0x0100 0 → ⊥) → out ≡ out' → ⊥
unfolding image_place width
differ_in_strip κs κs' image strip strip' z z' out out' p q d d' differ e =
    let one : get_or out 1600 0 ≡ get_or image.now 0x0000 0 = strip_bytes κs (p8 One) image strip z out p d 100 0 (omega arith) (omega arith) ∙ ap (λ (a : ℕ). get_or image.now (image_place (p8 One) a) 0) p8_one in
    let two : get_or out' 1600 0 ≡ get_or image.now 0x0100 0 = strip_bytes κs' (p8 Two) image strip' z' out' q d' 100 0 (omega arith) (omega arith) ∙ ap (λ (a : ℕ). get_or image.now (image_place (p8 Two) a) 0) p8_two in
    differ (sym one ∙ ap (λ (l : List ℕ). get_or l 1600 0) e ∙ two)

-- ---- The sheet. Its rule is the one that its line gives, and rule 1 without it. (A refused sheet yields rule 1: `refused_yields_nothing`, Demand1.antt.)
pub sheet_rule : (κs : Lfts 1) (s : Lent) (z : Sheet) (f : Fields) → ValidSheet f → s.now ≡ render f → Reads κs s z → z.rule ≡ rule_given f.rule
sheet_rule κs s z f valid e p = p.rule ∙ ap (λ (g : Fields). rule_given g.rule) (valid_read κs s z f valid e p).1

-- `rule` stays free as an annotation's key.
pub rule_free : free rule_word ≡ true
rule_free = refl

-- The settings of a sheet carry its rule, and those of a refused one rule 1.
pub settings_rule : (κs : Lfts 1) (s : Lent) (z : Intake) → TakesIn κs s z → Done z.answer → z.settings.rule ≡ rule_given (fields_in s.now).rule
unfolding settings_in
settings_rule κs s z p d = ap (λ (t : Settings). t.rule) (sheet_settings κs s z p d)

pub refused_settings_rule : (κs : Lfts 1) (s : Lent) (z : Intake) → TakesIn κs s z → (Done z.answer → ⊥) → z.settings.rule ≡ One
refused_settings_rule κs s z p differ = ap (λ (t : Settings). t.rule) ((settings_demand κs s z p).1 differ)

-- "A successful report prints `rule=` after control."
pub printed_rule : (κs : Lfts 1) (s : Lent) (r : Text) → Reports κs s r → (intake_told s.now).number ≡ 0
    → (before : List ℕ) × (after : List ℕ) × (held r ≡ before ++ (line_of control_word (hex 4 (settings_in s.now).word) ++ (line_of rule_word (rule_digit (settings_in s.now).rule ∷ []) ++ after)))
printed_rule κs s r p e =
    let t = intake_told s.now in
    let w = settings_in s.now in
    let pins = line_of pins_word (hex 2 w.look.pins) in
    let control = line_of control_word (hex 4 w.word) in (
      status_line t ++ (deed_printed s.now ++ pins),
      view_lines w ++ annotated s.now,
      printed κs s r p ∙ report_done t s.now e ∙ regroup (status_line t) (deed_printed s.now) pins control (rule_printed w) (view_lines w) (annotated s.now),
    )
  where
    regroup : (a d p c u v n : List ℕ) → a ++ (d ++ (((p ++ c) ++ (u ++ v)) ++ n)) ≡ (a ++ (d ++ p)) ++ (c ++ (u ++ (v ++ n)))
    regroup a d p c u v n = simp append_assoc
