-- Demand 1. "Every entry point takes all bytes and numbers, ends, and refuses bad input by itself, with a number and a place, writing no
-- lent byte. A success writes only the part that is named." That every input is taken is said in Operations; that each call ends comes
-- with the proof of its function.
use Prim.Native.Nat.{ℕ, ◌/◌, ◌%◌, ◌^◌, ◌≤◌, ◌<◌}
use mathlib.Core.Path.{◌≡◌, refl, ap, ◌∙◌}
use mathlib.Core.Bool.{Bool, true, false}
use mathlib.Core.List.{List, [], ◌++◌, map}
use mathlib.Core.Logic.{◌↔◌}
use contract.Lifetimes.{Lfts}
use lib.Dec.{T, eqb}
use lib.ListN.{length, get_or}
use borrow.Author.Tests.{eqb-true, eqb-false, eq-eqb, ne_eqb}
use Rattle.promises.specs.Choose.{choose}
use Rattle.promises.specs.Told.{Told, done}
use Rattle.promises.specs.Order.{Check, after, first_of, HoldsFirst, NoneHolds, are_refusals}
use Rattle.promises.specs.Written.{written}
use Rattle.promises.proofs.Tables.{Each}
use Rattle.promises.proofs.Orders.{given_when, done_when}
use Rattle.promises.proofs.Fills.{written_fills}
use Rattle.answer.specs.Told.{Answer, told_of}
use Rattle.settings.specs.declared.Look.{Look}
use Rattle.settings.specs.declared.Rule.TheVariants.{One}
use Rattle.settings.specs.declared.Settings.{Settings}
use Rattle.settings.specs.Modes.{border}
use Rattle.settings.specs.Refusals.{strip_length, frame_length}
use Rattle.control.specs.Control.{played, play_order, play_told}
use Rattle.strip.specs.Fetch.{fetched_byte, fetch_order, fetch_told, strip_after}
use Rattle.strip.proofs.Fetches.{accepted as fetch-accepted, strip_done, strip_refused}
use Rattle.pixel.specs.Picture.{picture}
use Rattle.frame.specs.Draw.{draw_order, draw_told}
use Rattle.frame.proofs.Draws.{accepted as draw-accepted, frame_done, frame_refused}
use Rattle.screen.specs.Show.{show_order, show_told}
use Rattle.screen.proofs.Shows.{fetched, drawn, shown_done, shown_refused}
use Rattle.back.specs.Read.{read_byte}
use Rattle.back.specs.Back.{back_pixels, back_order, back_told}
use Rattle.back.proofs.Backs.{back_accepted, strip_done as back_Done, strip_kept}
use Rattle.transpose.specs.Chip.{chip_order, chip_told, chip_after, transposed_byte}
use Rattle.transpose.proofs.Answers.{accepted as chip-accepted, room_done, room_refused}
use Rattle.plans.specs.declared.Placement.{Placement}
use Rattle.plans.specs.Canvas.{covers, with_counts, first_outside, lay_order, order_told}
use Rattle.plans.proofs.Refusals.{entries_refused, canvas_refused}
use Rattle.plans.proofs.Covers.{fields_stay, canvas_long, uncovered_stays}
use Rattle.png.specs.File.{file}
use Rattle.picture.specs.Encode.{file_length, pixels, encode_order, encode_told}
use Rattle.picture.proofs.Answers.{accepted as encode-accepted, made_done, made_refused}
use Rattle.picture_back.specs.Decode.{border_read, pixel_read, decode_order, decode_told}
use Rattle.picture_back.proofs.Decodes.{accepted as decode-accepted, read_done, read_refused}
use Rattle.intake.specs.declared.Intake.{Intake}
use Rattle.intake.specs.Intake.{intake_order, intake_told, no_settings}
use Rattle.intake.proofs.Judges.{given_refused}
use Rattle.grammar.specs.Sheet.{Fields, lines}
use Rattle.grammar.specs.Given.{padded, fields_in, rule_given, no_fields, sheet_order, line_at}
use Rattle.grammar.proofs.Parts.{sheet_told, refused_fields}
use Rattle.sheet.specs.declared.Sheet.{Sheet}
use Rattle.sheet.proofs.Annotations.{Reads, Deed, Line, Tail, deed_holds, line_holds, tail_holds}
use Rattle.lookup.specs.Lookup.{has_key, holder_order, holder_told}
use Rattle.report_text.specs.declared.Text.{Text}
use Rattle.report_text.specs.Words.{held}
use Rattle.report_text.specs.Report.{status_line, told_after}
use Rattle.report_text.proofs.Fits.{holds_report, begins_with_status}
use Rattle.claims.proofs.Calls.{Lent, Room, Listed, Plays, Fetches, Draws, Shows, ReadsBack, ToImage, ToChip, Lays, Encodes, Decodes, TakesIn, Finds, Reports, ReportsAfter}

-- what is told is what the order says: each number exactly when its condition holds and none earlier does, done exactly when none does
pub record Ordered (told : Told) (order : List Check) (value : ℕ) : Type 0 where
  pub says : told ≡ first_of order (done value)
  pub each : (n : ℕ) → 0 < n → (told.number ≡ n) ↔ HoldsFirst n order
  pub done_if : (told.number ≡ 0) ↔ NoneHolds order

-- a refusal leaves the buffer as it was; a success keeps its length and every byte from the named length on
pub record Guarded (told : Told) (named : ℕ) (old new : List ℕ) : Type 0 where
  pub refused : (told.number ≡ 0 → ⊥) → new ≡ old
  pub long : length new ≡ length old
  pub past : (k : ℕ) → named ≤ k → get_or new k 0 ≡ get_or old k 0

ordered : {told : Told} (order : List Check) (value : ℕ) → T (are_refusals order) → told ≡ first_of order (done value) → Ordered told order value
ordered order value r e =
    record { says = e; each = λ n h. rw e (given_when (done value) refl n h order); done_if = rw e (done_when (done value) refl order r) }

-- a buffer that is written where the answer is done, and left where it is not
guarded : {told : Told} (g : ℕ → ℕ) (named : ℕ) (old : List ℕ) {new : List ℕ} → (told.number ≡ 0 → (named ≤ length old) × (new ≡ written g named old))
    → ((told.number ≡ 0 → ⊥) → new ≡ old) → Guarded told named old new
guarded {told} g named old {new} wrote left = by (eqb told.number 0) refl
  where
    by : (b : Bool) → eqb told.number 0 ≡ b → Guarded told named old new
    by true t =
        let n : told.number ≡ 0 = eqb-true told.number 0 t in
        let f = written_fills g named old (wrote n).0 in
        record { refused = λ no. absurd (no n); long = rw (wrote n).1 f.long; past = λ k h. rw (wrote n).1 (f.after k h) }
    by false t =
        let e = left (eqb-false told.number 0 t) in
        record { refused = λ no. e; long = rw e; past = λ k h. rw e }

-- `play` is lent no buffer to write to, so that the order is all there is to say
pub play_demand : (κs : Lfts 1) (word : ℕ) (writes : Lent) (z : Answer) → Plays κs word writes z
    → Ordered (told_of z) (play_order word writes.now) (played word writes.now)
unfolding play_told
play_demand κs word writes z p = ordered (play_order word writes.now) (played word writes.now) tt p

pub fetch_demand : (κs : Lfts 2) (s : Settings) (image : Lent) (strip : Room) (z : Answer) (out : List ℕ) → Fetches κs s image strip z out
    → Ordered (told_of z) (fetch_order s (length image.now) (length strip.now)) (strip_length s.look) × Guarded (told_of z) (strip_length s.look) strip.now out
unfolding fetch_told
fetch_demand κs s image strip z out p = (
  ordered (fetch_order s (length image.now) (length strip.now)) (strip_length s.look) tt p.call.0,
  guarded (fetched_byte s image.now) (strip_length s.look) strip.now
      (λ e. let d = rw p.call.0 at e in ((fetch-accepted s image.now strip.now d).strip_long, p.call.1.1 ∙ strip_done s image.now strip.now d))
      (λ no. p.call.1.1 ∙ strip_refused s image.now strip.now (λ e. no (rw p.call.0 e))),
)

pub draw_demand : (κs : Lfts 3) (l : Look) (font strip : Lent) (frame : Room) (z : Answer) (out : List ℕ) → Draws κs l font strip frame z out
    → Ordered (told_of z) (draw_order l font.now strip.now frame.now) (border l) × Guarded (told_of z) frame_length frame.now out
unfolding draw_told
draw_demand κs l font strip frame z out p = (
  ordered (draw_order l font.now strip.now frame.now) (border l) tt p.0,
  guarded (picture l font.now strip.now) frame_length frame.now
      (λ e. let d = rw p.0 at e in ((draw-accepted l font.now strip.now frame.now d).frame_long, p.1 ∙ frame_done l font.now strip.now frame.now d))
      (λ no. p.1 ∙ frame_refused l font.now strip.now frame.now (λ e. no (rw p.0 e))),
)

-- both buffers of both at once
pub show_demand : (κs : Lfts 4) (s : Settings) (image font : Lent) (strip frame : Room) (z : Answer) (bytes pixels : List ℕ) → Shows κs s image font strip frame z bytes pixels
    → Ordered (told_of z) (show_order s image.now font.now strip.now frame.now) (border s.look)
    × Guarded (told_of z) (strip_length s.look) strip.now bytes
    × Guarded (told_of z) frame_length frame.now pixels
unfolding show_told
show_demand κs s image font strip frame z bytes pixels p = (
  ordered (show_order s image.now font.now strip.now frame.now) (border s.look) tt p.0,
  guarded (fetched_byte s image.now) (strip_length s.look) strip.now
      (λ e. let d = rw p.0 at e in
      let f = fetched s image.now font.now strip.now frame.now d in
      ((fetch-accepted s image.now strip.now f).strip_long, p.1.0 ∙ (shown_done s image.now font.now strip.now frame.now d).0 ∙ strip_done s image.now strip.now f))
      (λ no. p.1.0 ∙ (shown_refused s image.now font.now strip.now frame.now (λ e. no (rw p.0 e))).0),
  guarded (picture s.look font.now (strip_after s image.now strip.now)) frame_length frame.now
      (λ e. let d = rw p.0 at e in
      let f = drawn s image.now font.now strip.now frame.now d in (
        (draw-accepted s.look font.now (strip_after s image.now strip.now) frame.now f).frame_long,
        p.1.1 ∙ (shown_done s image.now font.now strip.now frame.now d).1 ∙ frame_done s.look font.now (strip_after s image.now strip.now) frame.now f,
      ))
      (λ no. p.1.1 ∙ (shown_refused s image.now font.now strip.now frame.now (λ e. no (rw p.0 e))).1),
)

pub back_demand : (κs : Lfts 2) (l : Look) (frame : Lent) (strip : Room) (z : Answer) (out : List ℕ) → ReadsBack κs l frame strip z out
    → Ordered (told_of z) (back_order l frame.now strip.now) (strip_length l) × Guarded (told_of z) (strip_length l) strip.now out
unfolding back_told back_pixels
back_demand κs l frame strip z out p = (
  ordered (back_order l frame.now strip.now) (strip_length l) tt p.0,
  guarded (read_byte l frame.now) (strip_length l) strip.now
      (λ e. let d = rw p.0 at e in ((back_accepted l frame.now strip.now d).0.strip_long, p.1 ∙ back_Done l frame.now strip.now d))
      (λ no. p.1 ∙ strip_kept l frame.now strip.now (λ e. no (rw p.0 e))),
)

-- both directions of the chips promise the same of what is lent and the room
chip_demand : (k : ℕ) (lent : Lent) (room : Room) (z : Answer) (out : List ℕ) → (told_of z ≡ chip_told k (length lent.now) (length room.now)) × (out ≡ chip_after k lent.now room.now)
    → Ordered (told_of z) (chip_order k (length lent.now) (length room.now)) 0 × Guarded (told_of z) (length lent.now) room.now out
unfolding chip_told
chip_demand k lent room z out p = (
  ordered (chip_order k (length lent.now) (length room.now)) 0 tt p.0,
  guarded (transposed_byte (2 ^ k) lent.now) (length lent.now) room.now
      (λ e. let d = rw p.0 at e in ((chip-accepted k (length lent.now) (length room.now) d).1, p.1 ∙ room_done k lent.now room.now d))
      (λ no. p.1 ∙ room_refused k lent.now room.now (λ e. no (rw p.0 e))),
)

pub to_image_demand : (κs : Lfts 2) (k : ℕ) (chip : Lent) (image : Room) (z : Answer) (out : List ℕ) → ToImage κs k chip image z out
    → Ordered (told_of z) (chip_order k (length chip.now) (length image.now)) 0 × Guarded (told_of z) (length chip.now) image.now out
to_image_demand κs k chip image z out p = chip_demand k chip image z out p

pub to_chip_demand : (κs : Lfts 2) (k : ℕ) (image : Lent) (chip : Room) (z : Answer) (out : List ℕ) → ToChip κs k image chip z out
    → Ordered (told_of z) (chip_order k (length image.now) (length chip.now)) 0 × Guarded (told_of z) (length image.now) chip.now out
to_chip_demand κs k image chip z out p = chip_demand k image chip z out p

-- what laying spares: where it is refused all of both, and always of an entry all but its two counts, and of the canvas each pixel that no placement covers
pub record Spared (told : Told) (width : ℕ) (ps entries : List Placement) (canvas out : List ℕ) : Type 0 where
  pub no_entry : (told.number ≡ 0 → ⊥) → entries ≡ ps
  pub no_pixel : (told.number ≡ 0 → ⊥) → out ≡ canvas
  pub fields : map (λ (p : Placement). with_counts p 0 0) entries ≡ map (λ (p : Placement). with_counts p 0 0) ps
  pub long : length out ≡ length canvas
  pub uncovered : (k : ℕ) → Each (λ (p : Placement). covers p (k % width) (k / width) ≡ false) ps → get_or out k 0 ≡ get_or canvas k 0

-- placements on a canvas: 8, 18, 19, 20
pub lay_demand : (κs : Lfts 3) (frame : Lent) (ps : Listed) (width height : ℕ) (canvas : Room) (z : Answer) (entries : List Placement) (out : List ℕ) → Lays κs frame ps width height canvas z entries out
    → Ordered (told_of z) (lay_order (length frame.now) width height (length canvas.now) (length ps.now) (first_outside ps.now)) 0 × Spared (told_of z) width ps.now entries canvas.now out
unfolding order_told
lay_demand κs frame ps width height canvas z entries out p = (
  ordered (lay_order (length frame.now) width height (length canvas.now) (length ps.now) (first_outside ps.now)) 0 tt p.0,
  record {
    no_entry = λ no. p.1.0 ∙ entries_refused frame.now ps.now width height canvas.now (λ e. no (rw p.0 e));
    no_pixel = λ no. p.1.1 ∙ canvas_refused frame.now ps.now width height canvas.now (λ e. no (rw p.0 e));
    fields = rw p.1.0 (fields_stay frame.now ps.now width height canvas.now);
    long = rw p.1.1 (canvas_long frame.now ps.now width height canvas.now);
    uncovered = λ k e. rw p.1.1 (uncovered_stays frame.now ps.now width height canvas.now k e);
  },
)

-- the picture file: 8, 9, 14
pub encode_demand : (κs : Lfts 2) (border : ℕ) (frame : Lent) (png : Room) (z : Answer) (out : List ℕ) → Encodes κs border frame png z out
    → Ordered (told_of z) (encode_order border frame.now png.now) file_length × Guarded (told_of z) file_length png.now out
unfolding encode_told
encode_demand κs border frame png z out p = (
  ordered (encode_order border frame.now png.now) file_length tt p.0,
  guarded (file border (pixels frame.now)).at file_length png.now
      (λ e. let d = rw p.0 at e in ((encode-accepted border frame.now png.now d).file_long, p.1 ∙ made_done border frame.now png.now d))
      (λ no. p.1 ∙ made_refused border frame.now png.now (λ e. no (rw p.0 e))),
)

-- and the frame out of it: 28, 8
pub decode_demand : (κs : Lfts 2) (png : Lent) (frame : Room) (z : Answer) (out : List ℕ) → Decodes κs png frame z out
    → Ordered (told_of z) (decode_order png.now frame.now) (border_read png.now) × Guarded (told_of z) frame_length frame.now out
unfolding decode_told
decode_demand κs png frame z out p = (
  ordered (decode_order png.now frame.now) (border_read png.now) tt p.0,
  guarded (pixel_read png.now) frame_length frame.now
      (λ e. let d = rw p.0 at e in ((decode-accepted png.now frame.now d).1, p.1 ∙ read_done png.now frame.now d))
      (λ no. p.1 ∙ read_refused png.now frame.now (λ e. no (rw p.0 e))),
)

-- the settings of a sheet: 11, 10, 1, 4; a refusal gives none. `settings_of` is lent no buffer to write to
pub settings_demand : (κs : Lfts 1) (sheet : Lent) (z : Intake) → TakesIn κs sheet z
    → Ordered (told_of z.answer) (intake_order sheet.now) 0 × (((told_of z.answer).number ≡ 0 → ⊥) → z.settings ≡ no_settings)
unfolding intake_told
settings_demand κs sheet z p = (
  ordered (intake_order sheet.now) 0 tt p.told,
  λ no. p.settings ∙ given_refused sheet.now (λ e. no (ap (λ (t : Told). t.number) p.told ∙ e)),
)

-- a sheet alone: 11
pub read_demand : (κs : Lfts 1) (sheet : Lent) (z : Sheet) → Reads κs sheet z → Ordered (told_of z.answer) (sheet_order sheet.now) 0
read_demand κs sheet z p = ordered (sheet_order sheet.now) 0 tt (p.told ∙ sheet_told sheet.now)

-- a key in a record's sheet and a cover: 11, 11, 12. Neither question is lent a buffer to write to
pub holder_demand : (κs : Lfts 3) (own cover key : Lent) (z : Answer) → Finds κs own cover key z
    → Ordered (told_of z) (holder_order own.now cover.now key.now) (choose (has_key own.now key.now) 0 1)
unfolding holder_told
holder_demand κs own cover key z p = ordered (holder_order own.now cover.now key.now) (choose (has_key own.now key.now) 0 1) tt p

-- a refused sheet yields an empty deed, pins 0, rule 1, no writes and 0 annotations, and its parts are empty
pub record Nothing (sheet : Lent) (z : Sheet) : Type 0 where
  pub pins : z.pins ≡ 0
  pub rule : z.rule ≡ One
  pub writes : z.writes ≡ padded 64 []
  pub count : z.write_count ≡ 0
  pub annotations : z.annotations ≡ 0
  pub deed : (κs : Lfts 1) (r : Lent) → Deed κs sheet r → r.now ≡ []
  pub line : (κs : Lfts 1) (n : ℕ) (r : Lent) → Line κs sheet n r → r.now ≡ []
  pub tail : (κs : Lfts 1) (r : Lent) → Tail κs sheet r → r.now ≡ []

pub refused_yields_nothing : (κs : Lfts 1) (sheet : Lent) (z : Sheet) → Reads κs sheet z → ((told_of z.answer).number ≡ 0 → ⊥) → Nothing sheet z
refused_yields_nothing κs sheet z p refused =
    let e : fields_in sheet.now ≡ no_fields = refused_fields sheet.now (λ d. refused (ap (λ (t : Told). t.number) p.told ∙ d)) in
    record {
      pins = p.pins ∙ ap (λ (f : Fields). f.pins) e;
      rule = p.rule ∙ ap (λ (f : Fields). rule_given f.rule) e;
      writes = p.writes ∙ ap (λ (f : Fields). padded 64 f.writes) e;
      count = p.count ∙ ap (λ (f : Fields). length f.writes) e;
      annotations = p.annotations ∙ ap (λ (f : Fields). length f.annotations) e;
      deed = λ κd r q. deed_holds sheet κd r q ∙ ap (λ (f : Fields). f.deed) e;
      line = λ κr n r q. line_holds sheet κr n r q ∙ ap (λ (f : Fields). line_at f.annotations n) e;
      tail = λ κt r q. tail_holds sheet κt r q ∙ ap (λ (f : Fields). lines f.annotations) e;
    }

-- the report's first line is the status of that order
pub report_demand : (κs : Lfts 1) (sheet : Lent) (r : Text) → Reports κs sheet r
    → ((rest : List ℕ) × (held r ≡ status_line (intake_told sheet.now) ++ rest)) × Ordered (intake_told sheet.now) (intake_order sheet.now) 0
unfolding intake_told
report_demand κs sheet r p =
    let b = begins_with_status (intake_told sheet.now) sheet.now in
    ((b.0, holds_report (intake_told sheet.now) sheet.now r p ∙ b.1), ordered (intake_order sheet.now) 0 tt refl)

-- after an operation on the record its first line is the status of whoever refused first: the sheet's own order, then the operation
pub report_after_demand : (κs : Lfts 1) (sheet : Lent) (a : Answer) (r : Text) → ReportsAfter κs sheet a r
    → ((rest : List ℕ) × (held r ≡ status_line (told_after sheet.now (told_of a)) ++ rest))
    × (((intake_told sheet.now).number ≡ 0 → ⊥) → told_after sheet.now (told_of a) ≡ intake_told sheet.now)
    × ((intake_told sheet.now).number ≡ 0 → told_after sheet.now (told_of a) ≡ told_of a)
unfolding after
report_after_demand κs sheet a r p =
    let b = begins_with_status (told_after sheet.now (told_of a)) sheet.now in
    ((b.0, holds_report (told_after sheet.now (told_of a)) sheet.now r p ∙ b.1), λ no. simp (ne_eqb _ _ no), λ e. simp (eq-eqb _ _ e))
