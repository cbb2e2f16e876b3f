-- `intake::settings_of`, along the order 11, 10, 1, 4: what is known of the sheet and of its writes at each step.
use Rattle.std.proofs.Common.{ℕ, ◌≡◌, ◌<◌, ◌^◌, List, take, Ok, Err, refl, sym, ap, ◌∙◌, arith}
use Rattle.promises.specs.Told.{Told, done}
use Rattle.promises.specs.Order.{first_of}
use Rattle.answer.specs.Told.{Answer, told_of}
use Rattle.answer.proofs.Answers.{not_done}
use Rattle.settings.specs.declared.Settings.{Settings}
use Rattle.settings.specs.Fields.{settings_of}
use Rattle.control.specs.Control.{played, play_told}
use Rattle.control.proofs.Plays.{played_done}
use Rattle.grammar.specs.Given.{told_in, fields_in}
use Rattle.sheet.specs.declared.Sheet.{Sheet}
use Rattle.sheet.specs.Held.{HeldIn}
use Rattle.intake.specs.Intake.{settings_in, setting_order, intake_told}
use Rattle.intake.proofs.Judges.{told_broken, told_elsewhere, told_settings, taken_refused, taken_done, writes_are}
use Rattle.intake.proofs.settings_of.Goals as goal

module _ (s : List ℕ) (r : Sheet) (h : HeldIn s r) where
  abbrev writes : List ℕ
  writes = (fields_in s).writes

  listed : take r.write_count r.writes ≡ writes
  listed = writes_are writes r.writes r.write_count h.writes h.count

  -- past the first step the sheet is accepted
  module _ {v : ℕ} (whole : r.answer ≡ Ok v) where
    accepted : (told_in s).number ≡ 0
    accepted = ap (λ (t : Told). t.number) (sym h.told) ∙ ap (λ (a : Answer). (told_of a).number) whole

    -- and past the second its writes are played
    module _ {w : ℕ} (p : done w ≡ play_told 0 (take r.write_count r.writes)) where
      all_played : done w ≡ play_told 0 writes
      all_played = p ∙ ap (play_told 0) listed

      none_elsewhere : (play_told 0 writes).number ≡ 0
      none_elsewhere = ap (λ (t : Told). t.number) (sym all_played)

      word_is : (w ≡ played 0 writes) × (w < 2 ^ 16)
      word_is =
          let d = played_done 0 writes (omega arith) none_elsewhere in
          let e = ap (λ (t : Told). t.value) (all_played ∙ d.0) in
          (e, rw e d.1)

      settings_are : settings_of w r.pins r.rule ≡ settings_in s
      unfolding settings_in
      settings_are = λ i. settings_of (word_is.0 i) (h.pins i) (h.rule i)

      judged : (a : Answer) → told_of a ≡ first_of (setting_order (settings_of w r.pins r.rule)) (done 0) → told_of a ≡ intake_told s
      judged a e = told_settings s accepted none_elsewhere (e ∙ ap (λ (t : Settings). first_of (setting_order t) (done 0)) settings_are)

pub returns-in-Err : goal.returns-in-Err
returns-in-Err c =
    let e : told_of c.read-fields.result.answer ≡ told_in c.args.sheet.now = c.read-fields.ensures.told in
    let f = rw c.in-Err.is at e in
    taken_refused c.args.sheet.now _ (told_broken c.args.sheet.now f (not_done c.in-Err.refusal)) c.read-fields.ensures.annotations c.refused.ensures (not_done c.in-Err.refusal)

pub overflow_cast-word : goal.overflow_cast-word
overflow_cast-word c = record { fits = (word_is c.args.sheet.now c.read-fields.result c.read-fields.ensures c.in_default.is c.in-Ok.ensures).1 }

pub returns-in-Err-play : goal.returns-in-Err-play
returns-in-Err-play c =
    let p = c.in-Err-play.ensures ∙ ap (play_told 0) (listed c.args.sheet.now c.read-fields.result c.read-fields.ensures) in
    let no = not_done c.in-Err-play.refusal in
    taken_refused c.args.sheet.now _ (told_elsewhere c.args.sheet.now (accepted c.args.sheet.now c.read-fields.result c.read-fields.ensures c.in_default.is) p no) c.read-fields.ensures.annotations c.refused-in-Err-play.ensures no

pub returns-in-Ok-settings_answer : goal.returns-in-Ok-settings_answer
returns-in-Ok-settings_answer c =
    let j = judged c.args.sheet.now c.read-fields.result c.read-fields.ensures c.in_default.is c.in-Ok.ensures (Ok c.in-Ok-settings_answer.done) c.in-Ok-settings_answer.ensures in
    taken_done c.args.sheet.now (Ok c.in-Ok-settings_answer.done) j c.read-fields.ensures.annotations (refl, settings_are c.args.sheet.now c.read-fields.result c.read-fields.ensures c.in_default.is c.in-Ok.ensures, refl) refl

pub returns-in-Err-settings_answer : goal.returns-in-Err-settings_answer
returns-in-Err-settings_answer c =
    let j = judged c.args.sheet.now c.read-fields.result c.read-fields.ensures c.in_default.is c.in-Ok.ensures (Err c.in-Err-settings_answer.refusal) c.in-Err-settings_answer.ensures in
    taken_refused c.args.sheet.now (Err c.in-Err-settings_answer.refusal) j c.read-fields.ensures.annotations c.refused-in-Err-settings_answer.ensures (not_done c.in-Err-settings_answer.refusal)
