-- `screen::render` stores what it fetched where drawing that is not refused.
use Rattle.std.proofs.Common.{rules, ℕ, ◌≤◌, ◌<◌, ◌≡◌, min, List, length, get_or, replicate, refl, ap, ◌∙◌, arith}
use lib.ListN.{length-replicate}
use Rattle.promises.specs.Told.{Told}
use Rattle.promises.specs.Written.{written}
use Rattle.settings.specs.declared.Settings.{Settings}
use Rattle.settings.specs.Refusals.{strip_length}
use Rattle.settings.proofs.Widths.{width_le}
use Rattle.answer.proofs.Answers.{not_done}
use Rattle.buffer.proofs.Stores.{stored}
use Rattle.strip.specs.Fetch.{fetched_byte, strip_after}
use Rattle.strip.proofs.Fetches.{strip_same_length}
use Rattle.frame.specs.Draw.{draw_told, frame_after}
use Rattle.screen.specs.Show.{show_told, strip_shown, frame_shown}
use Rattle.screen.proofs.Shows.{show_length_told, strip_long, fetched_byte_lem, shown_stored, shown_kept}
use Rattle.screen.proofs.render.Goals as goal

-- the room that is fetched into, and that it is long enough
abbrev room : List ℕ
room = replicate 6144 0

long : (s : Settings) → strip_length s.look ≤ length room
long s = omega (arith, width_le s.look, length-replicate {A = ℕ} 6144 0)

fetched_long : (s : Settings) (image : List ℕ) → strip_length s.look ≤ length (strip_after s image room)
fetched_long s image = rw (strip_same_length s image room) (long s)

module _ (s : Settings) (image font strip frame : List ℕ) (no : (show_length_told s (length image) (length font) (length strip) (length frame)).number ≡ 0) {t : Told} (fetched : List ℕ) {pixels : List ℕ}
    (left : fetched ≡ strip_after s image room) (told : t ≡ draw_told s.look font fetched frame) (pictured : pixels ≡ frame_after s.look font fetched frame)
  where
    -- refused: both buffers stay
    kept : (t.number ≡ 0 → ⊥) → (t ≡ show_told s image font strip frame) × ((strip ≡ strip_shown s image font strip frame) × (pixels ≡ frame_shown s image font strip frame))
    kept = shown_kept s image font strip frame no room (long s) left told pictured

    -- done: what was fetched is stored
    rendered : {n : ℕ} {new : List ℕ} → t.number ≡ 0 → n ≡ strip_length s.look → new ≡ written (λ (k : ℕ). get_or fetched k 0) (min n (min (length fetched) (length strip))) strip
        → (t ≡ show_told s image font strip frame) × ((new ≡ strip_shown s image font strip frame) × (pixels ≡ frame_shown s image font strip frame))
    rendered d m p =
        shown_stored s image font strip frame no room (long s) left told pictured d
        (stored (fetched_byte s image) (strip_length s.look) fetched strip m (omega (arith, ap (λ (x : List ℕ). length x) left, fetched_long s image)) (strip_long s image font strip frame no)
        (λ k h. ap (λ (x : List ℕ). get_or x k 0) left ∙ fetched_byte_lem s image font strip frame no room (long s) k h) p)

pub returns-in_err-border-clause-answer : goal.returns-in_err-border-clause-answer
returns-in_err-border-clause-answer c =
    let k = kept c.args.settings c.args.image.now c.args.font.now c.args.strip.now c.args.frame.now c.requires c.fetch.new.strip c.fetch.ensures.bytes c.in_err-border.ensures.answer c.draw.ensures.frame (not_done c.in_err-border.field-0.0) in
    search (rules, k.0)

pub returns-in_err-border-clause-stored : goal.returns-in_err-border-clause-stored
returns-in_err-border-clause-stored c =
    (kept c.args.settings c.args.image.now c.args.font.now c.args.strip.now c.args.frame.now c.requires c.fetch.new.strip c.fetch.ensures.bytes c.in_err-border.ensures.answer c.draw.ensures.frame (not_done c.in_err-border.field-0.0)).1.0

pub returns-in_err-border-clause-drawn : goal.returns-in_err-border-clause-drawn
returns-in_err-border-clause-drawn c =
    (kept c.args.settings c.args.image.now c.args.font.now c.args.strip.now c.args.frame.now c.requires c.fetch.new.strip c.fetch.ensures.bytes c.in_err-border.ensures.answer c.draw.ensures.frame (not_done c.in_err-border.field-0.0)).1.1

pub returns-clause-answer : goal.returns-clause-answer
returns-clause-answer c =
    (rendered c.args.settings c.args.image.now c.args.font.now c.args.strip.now c.args.frame.now c.requires c.fetch.new.strip c.fetch.ensures.bytes c.in_ok-border.ensures.answer c.draw.ensures.frame refl c.strip_length.ensures c.store.ensures).0

pub returns-clause-stored : goal.returns-clause-stored
returns-clause-stored c =
    (rendered c.args.settings c.args.image.now c.args.font.now c.args.strip.now c.args.frame.now c.requires c.fetch.new.strip c.fetch.ensures.bytes c.in_ok-border.ensures.answer c.draw.ensures.frame refl c.strip_length.ensures c.store.ensures).1.0

pub returns-clause-drawn : goal.returns-clause-drawn
returns-clause-drawn c =
    (rendered c.args.settings c.args.image.now c.args.font.now c.args.strip.now c.args.frame.now c.requires c.fetch.new.strip c.fetch.ensures.bytes c.in_ok-border.ensures.answer c.draw.ensures.frame refl c.strip_length.ensures c.store.ensures).1.1
