-- `report_text::text_for` meets its contract: line by line, with room for each, in each of the three cases.
use Rattle.std.proofs.Common.{ℕ, ◌≤◌, ◌≡◌, true, false, List, [], ◌++◌, length, sym, ap, ◌∙◌, arith}
use borrow.Author.Tests.{eq-eqb, eqb-true}
use Rattle.settings.specs.declared.Settings.{Settings}
use Rattle.answer.specs.Told.{Answer, told_of}
use Rattle.answer.proofs.Answers.{not_done}
use Rattle.grammar.specs.Sheet.{deed_word, eq, nl}
use Rattle.grammar.specs.Given.{fields_in}
use Rattle.sheet.proofs.Annotations.{deed_holds}
use Rattle.intake.specs.Intake.{settings_in}
use Rattle.report_text.specs.Words.{status_word, place_word, decimal, text_of, held, HasRoom}
use Rattle.report_text.specs.Report.{status_line, place_line, deed_printed, setting_lines, annotated}
use Rattle.report_text.specs.declared.Text.{Text}
use Rattle.report_text.proofs.Texts.{grows, grows_on, lined, room_less, room_left, line_left, empty_room}
use Rattle.report_text.proofs.Longs.{decimal_small}
use Rattle.report_text.proofs.Fits.{settings_long}
use Rattle.report_text.proofs.Values.{deed_small}
use Rattle.report_text.proofs.Cases.{report_done, report_broken, report_refused}
use Rattle.report_text.proofs.text_for.Goals as goal

-- the room after the lines of the status, the place and the deed
status_left : (t u : Text) (n : ℕ) → t ≡ text_of [] → u ≡ text_of (held t ++ ((status_word ++ eq) ++ (decimal n ++ nl))) → HasRoom u 32740
status_left t u n e f = line_left t u 32740 (status_word ++ eq) (decimal n) (empty_room e) f (omega (arith, decimal_small 20 n))

place_left : (t u : Text) (n : ℕ) → HasRoom t 32740 → u ≡ text_of (held t ++ ((place_word ++ eq) ++ (decimal n ++ nl))) → HasRoom u 32700
place_left t u n h f = line_left t u 32700 (place_word ++ eq) (decimal n) h f (omega (arith, decimal_small 20 n))

deed_left : (t u : Text) (v : List ℕ) → HasRoom t 32700 → length v ≤ 16 → u ≡ text_of (held t ++ ((deed_word ++ eq) ++ (v ++ nl))) → HasRoom u 32600
deed_left t u v h l f = line_left t u 32600 (deed_word ++ eq) v h f (omega arith)

few : (s : List ℕ) {d : List ℕ} → d ≡ (fields_in s).deed → length d ≤ 16
few s e = rw e (deed_small s)

pub number_line-requires : goal.number_line-requires
number_line-requires c = room_less _ (empty_room c.new-text.ensures) (omega arith)

pub line-requires : goal.line-requires
line-requires c = room_less _ (status_left _ _ c.from.result c.new-text.ensures c.number_line.ensures) (omega (arith, few c.args.sheet.now (deed_holds _ c.deed.lifetimes _ c.deed.ensures)))

pub setting_lines-requires : goal.setting_lines-requires
setting_lines-requires c =
    room_less _ (deed_left _ _ c.deed.result.now (room_less _ (status_left _ _ c.from.result c.new-text.ensures c.number_line.ensures) (omega arith)) (few c.args.sheet.now (deed_holds _ c.deed.lifetimes _ c.deed.ensures)) c.line.ensures) (omega arith)

pub annotations-requires-clause-room : goal.annotations-requires-clause-room
annotations-requires-clause-room c =
    let named = deed_left _ _ c.deed.result.now (room_less _ (status_left _ _ c.from.result c.new-text.ensures c.number_line.ensures) (omega arith)) (few c.args.sheet.now (deed_holds _ c.deed.lifetimes _ c.deed.ensures)) c.line.ensures in
    room_left _ _ _ (setting_lines c.args.taken.settings) named c.setting_lines.ensures (omega (arith, settings_long c.args.taken.settings))

pub returns-in_default : goal.returns-in_default
returns-in_default c =
    let s = c.args.sheet.now in
    let t = told_of c.args.answer in
    let z : t.number ≡ 0 = ap (λ (a : Answer). (told_of a).number) c.in_default.is in
    let status = lined _ _ (status_word ++ eq) (decimal t.number) c.number_line.ensures (ap decimal (c.from.ensures ∙ c.number-number.ensures)) in
    let deed = lined _ _ (deed_word ++ eq) (fields_in s).deed c.line.ensures (deed_holds _ c.deed.lifetimes _ c.deed.ensures) in
    let settings = c.setting_lines.ensures ∙ ap (λ (x : Settings). text_of (held c.line.new.self ++ setting_lines x)) (c.requires.settings_value z) in
    grows [] (status_line t ++ (deed_printed s ++ (setting_lines (settings_in s) ++ annotated s))) c.new-text.ensures
    (grows_on _ _ _ (status_line t) _ status (grows_on _ _ _ (deed_printed s) _ deed (grows_on _ _ _ (setting_lines (settings_in s)) (annotated s) settings c.annotations.ensures)))
    ∙ ap text_of (sym (report_done t s z))

pub number_line-requires-2 : goal.number_line-requires-2
number_line-requires-2 c = room_less _ (status_left _ _ c.from.result c.new-text.ensures c.number_line.ensures) (omega arith)

pub returns-then-is_broken : goal.returns-then-is_broken
returns-then-is_broken c =
    let s = c.args.sheet.now in
    let t = told_of c.args.answer in
    let broken : t.number ≡ 11 = ap (λ (a : Answer). (told_of a).number) c.in-Err.is ∙ eqb-true _ _ (sym c.is_broken.ensures ∙ c.if-is_broken.true) in
    let status = lined _ _ (status_word ++ eq) (decimal t.number) c.number_line.ensures (ap decimal (c.from.ensures ∙ c.number-number.ensures)) in
    let place = lined _ _ (place_word ++ eq) (decimal t.place) c.number_line-2.ensures (ap decimal (c.place.ensures ∙ sym (ap (λ (a : Answer). (told_of a).place) c.in-Err.is))) in
    grows [] (status_line t ++ place_line t) c.new-text.ensures (grows_on _ _ _ (status_line t) (place_line t) status place)
    ∙ ap text_of (sym (report_broken t s (λ e. omega (arith, e, broken)) broken))

pub line-requires-2 : goal.line-requires-2
line-requires-2 c =
    room_less _ (place_left _ _ c.place.result (status_left _ _ c.from.result c.new-text.ensures c.number_line.ensures) c.number_line-2.ensures) (omega (arith, few c.args.sheet.now (deed_holds _ c.deed-2.lifetimes _ c.deed-2.ensures)))

pub annotations-requires-2-clause-room : goal.annotations-requires-2-clause-room
annotations-requires-2-clause-room c =
    let placed = place_left _ _ c.place.result (status_left _ _ c.from.result c.new-text.ensures c.number_line.ensures) c.number_line-2.ensures in
    room_less _ (deed_left _ _ c.deed-2.result.now placed (few c.args.sheet.now (deed_holds _ c.deed-2.lifetimes _ c.deed-2.ensures)) c.line-2.ensures) (omega arith)

pub returns : goal.returns
returns c =
    let s = c.args.sheet.now in
    let t = told_of c.args.answer in
    let number = ap (λ (a : Answer). (told_of a).number) c.in-Err.is in
    let other : t.number ≡ 11 → ⊥ = λ e. let z : true ≡ false = sym (eq-eqb _ _ (sym number ∙ e)) ∙ sym c.is_broken.ensures ∙ c.if-is_broken.false in cc in
    let status = lined _ _ (status_word ++ eq) (decimal t.number) c.number_line.ensures (ap decimal (c.from.ensures ∙ c.number-number.ensures)) in
    let place = lined _ _ (place_word ++ eq) (decimal t.place) c.number_line-2.ensures (ap decimal (c.place.ensures ∙ sym (ap (λ (a : Answer). (told_of a).place) c.in-Err.is))) in
    let deed = lined _ _ (deed_word ++ eq) (fields_in s).deed c.line-2.ensures (deed_holds _ c.deed-2.lifetimes _ c.deed-2.ensures) in
    grows [] (status_line t ++ (place_line t ++ (deed_printed s ++ annotated s))) c.new-text.ensures
    (grows_on _ _ _ (status_line t) _ status (grows_on _ _ _ (place_line t) _ place (grows_on _ _ _ (deed_printed s) (annotated s) deed c.annotations-2.ensures)))
    ∙ ap text_of (sym (report_refused t s (λ e. not_done c.in-Err.refusal (sym number ∙ e)) other))
