-- Demand 2. "The control word, the strip of fetched bytes and the frame with its border are exactly those of Motorola's sheets as
-- document 01 reads them; in graphics the frame gives back the one strip that draws it, and is refused exactly if none does. Each annotation
-- comes out byte for byte, in order, known key or not."
use Prim.Native.Nat.{ℕ, ◌+◌, ◌*◌, ◌%◌, ◌<◌, ◌≤◌}
use mathlib.Core.Path.{◌≡◌, refl, sym, ap, ◌∙◌}
use mathlib.Core.Bool.{Bool, true, false}
use mathlib.Core.List.{List, [], ◌∷◌, ◌++◌}
use mathlib.Core.Logic.{◌↔◌}
use native.Mathlib.Nat.{mul_comm, mul-le-mul_right, suc-mul}
use native.Mathlib.Omega.{arith}
use contract.Lifetimes.{Lfts}
use borrow.Author.Tests.{ltb-true, lt-ltb, le-ltb}
use lib.Arith.{digits_div, digits_mod}
use lib.Dec.{ltb}
use lib.ListN.{length, get_or}
use Rattle.promises.specs.Told.{Told, told, done}
use Rattle.promises.specs.Choose.{choose}
use Rattle.promises.specs.Order.{first_of}
use Rattle.promises.specs.Written.{Bytes}
use Rattle.promises.proofs.Orders.{done_says}
use Rattle.promises.proofs.Fills.{written_fills}
use Rattle.answer.specs.Told.{Answer, told_of}
use Rattle.settings.specs.declared.Look.{Look}
use Rattle.settings.specs.declared.Settings.{Settings}
use Rattle.settings.specs.Fields.{graphics}
use Rattle.settings.specs.Modes.{width, border}
use Rattle.settings.specs.Refusals.{strip_length, frame_length}
use Rattle.control.specs.Control.{played, word_after, play_order, play_told}
use Rattle.control.proofs.Plays.{played_more}
use Rattle.strip.specs.Fetch.{place_of, fetch_address, fetched_byte, fetch_order, fetch_told, strip_after}
use Rattle.strip.proofs.Windows.{strip_byte}
use Rattle.pixel.specs.Picture.{pixel, picture}
use Rattle.pixel.proofs.Letters.{blocks}
use Rattle.frame.specs.Draw.{draw_order, draw_told}
use Rattle.frame.proofs.Draws.{accepted, frame_done}
use Rattle.screen.specs.Show.{show_order, show_told}
use Rattle.screen.proofs.Shows.{fetched, drawn, shown_done}
use Rattle.back.specs.Stray.{first_stray}
use Rattle.back.specs.Back.{back_lengths, back_pixels}
use Rattle.back.proofs.Backs.{back_accepted, told_passed, strip_done as back_Done}
use Rattle.back.proofs.RoundTrip.{Draws as DrawnBy, written_reads, drawn_read, drawn_clean, clean_drawn, strip_of, strip_reads, strip_bytes as strip-of-bytes, no_strip}
use Rattle.back.proofs.Trips.{drawn_is_read, read_as_drawn, read_is_drawn, drawn_as_read}
use Rattle.text.specs.Code.{got, Longest}
use Rattle.grammar.specs.Sheet.{nl, Fields, ValidSheet, front, render, sheets}
use Rattle.grammar.specs.Read.{read_sheet}
use Rattle.grammar.specs.Given.{told_read, fields_read, accepted as acceptedSheet, fields_in, line_at}
use Rattle.grammar.proofs.Grammar.{read_back}
use Rattle.grammar.proofs.Length.{none_longer, one_as_long}
use Rattle.sheet.specs.declared.Sheet.{Sheet}
use Rattle.sheet.proofs.Annotations.{Reads, Deed, Line, Tail, joined, line_holds, deed_holds, line_some, lines_join, tail_ends, tail_holds, done_accepted, accepted_sheet, refused_sheet}
use Rattle.intake.specs.Intake.{intake_told, settings_in}
use Rattle.intake.specs.declared.Intake.{Intake}
use Rattle.intake.proofs.Judges.{given_done}
use Rattle.report_text.specs.declared.Text.{Text}
use Rattle.report_text.specs.Words.{held}
use Rattle.report_text.specs.Report.{report_of, told_after, report_after}
use Rattle.report_text.proofs.Fits.{holds_report, ends_with_lines}
use Rattle.claims.proofs.Calls.{Lent, Room, Plays, Fetches, Draws, Shows, ReadsBack, TakesIn, Reports, ReportsAfter}

-- the answer is done
abbrev pub Done : Answer → Type 0
Done z = (told_of z).number ≡ 0

abbrev pub value : Answer → ℕ
value z = (told_of z).value

-- (i) The word after `play` is the fold of the rule over the writes.
pub word_after_lem : (κs : Lfts 1) (word : ℕ) (writes : Lent) (z : Answer) → Plays κs word writes z → Done z → value z ≡ played word writes.now
unfolding play_told
word_after_lem κs word writes z p d = ap (λ (t : Told). t.value) (p ∙ done_says (done (played word writes.now)) refl (play_order word writes.now) tt (rw p at d))

-- A list one longer is one write more.
pub one_more_write : (κs κs' : Lfts 1) (word a : ℕ) (writes longer : Lent) (z z' : Answer) → longer.now ≡ writes.now ++ (a ∷ [])
    → Plays κs word writes z → Plays κs' word longer z' → Done z → Done z' → value z' ≡ word_after (value z) a
one_more_write κs κs' word a writes longer z z' e p q d d' =
    word_after_lem κs' word longer z' q d' ∙ ap (played word) e ∙ played_more word writes.now a ∙ ap (λ (w : ℕ). word_after w a) (sym (word_after_lem κs word writes z p d))

-- (ii) Strip byte W × n + c is the image's byte at the place of line n, byte c, and the value told is the strip's length.
pub strip_bytes : (κs : Lfts 2) (s : Settings) (image : Lent) (strip : Room) (z : Answer) (out : List ℕ) → Fetches κs s image strip z out → Done z
    → (n c : ℕ) → n < 192 → c < width s.look → get_or out (width s.look * n + c) 0 ≡ get_or image.now (place_of s n c) 0
unfolding fetch_address
strip_bytes κs s image strip z out p d n c hn hc =
    let k : width s.look * n + c ≡ n * width s.look + c = ap (λ (m : ℕ). m + c) (mul_comm (width s.look) n) in
    let room : n * width s.look + width s.look ≤ strip_length s.look = rw (← suc-mul n (width s.look)) (mul-le-mul_right (width s.look) hn) in
    rw (k, p.call.1.1)
    (strip_byte s image.now strip.now (rw p.call.0 at d) (n * width s.look + c) (omega arith)
    ∙ rw (digits_div n hc, digits_mod n hc))

pub strip_long : (κs : Lfts 2) (s : Settings) (image : Lent) (strip : Room) (z : Answer) (out : List ℕ) → Fetches κs s image strip z out → Done z → value z ≡ strip_length s.look
unfolding fetch_told
strip_long κs s image strip z out p d =
    ap (λ (t : Told). t.value) (p.call.0 ∙ done_says (done (strip_length s.look)) refl (fetch_order s (length image.now) (length strip.now)) tt (rw p.call.0 at d))

-- (iii) Each pixel is that of the picture, and the value told is the border.
pub frame_pixels : (κs : Lfts 3) (l : Look) (font strip : Lent) (frame : Room) (z : Answer) (out : List ℕ) → Draws κs l font strip frame z out → Done z
    → (k : ℕ) → k < frame_length → get_or out k 0 ≡ picture l font.now strip.now k
frame_pixels κs l font strip frame z out p d k h =
    let e = rw p.0 at d in
    rw (p.1, frame_done l font.now strip.now frame.now e)
    ((written_fills (picture l font.now strip.now) frame_length frame.now (accepted l font.now strip.now frame.now e).frame_long).is k (omega arith) h)

pub frame_border : (κs : Lfts 3) (l : Look) (font strip : Lent) (frame : Room) (z : Answer) (out : List ℕ) → Draws κs l font strip frame z out → Done z → value z ≡ border l
unfolding draw_told
frame_border κs l font strip frame z out p d =
    ap (λ (t : Told). t.value) (p.0 ∙ done_says (done (border l)) refl (draw_order l font.now strip.now frame.now) tt (rw p.0 at d))

-- Both at once gives the same strip, the picture of that strip, and the border.
module _ (κs : Lfts 4) (s : Settings) (image font : Lent) (strip frame : Room) (z : Answer) (bytes pixels : List ℕ) (p : Shows κs s image font strip frame z bytes pixels) (d : Done z) where
  told_done : (show_told s image.now font.now strip.now frame.now).number ≡ 0
  told_done = rw p.0 at d

  strip_left : bytes ≡ strip_after s image.now strip.now
  strip_left = p.1.0 ∙ (shown_done s image.now font.now strip.now frame.now told_done).0

  pub shown_byte : (k : ℕ) → k < strip_length s.look → get_or bytes k 0 ≡ fetched_byte s image.now k
  shown_byte k h = rw strip_left (strip_byte s image.now strip.now (fetched s image.now font.now strip.now frame.now told_done) k h)

  pub shown_pixel : (k : ℕ) → k < frame_length → get_or pixels k 0 ≡ picture s.look font.now bytes k
  shown_pixel k h =
      let e = drawn s image.now font.now strip.now frame.now told_done in
      let w = p.1.1 ∙ (shown_done s image.now font.now strip.now frame.now told_done).1 ∙ frame_done s.look font.now (strip_after s image.now strip.now) frame.now e in
      rw (w, strip_left)
      ((written_fills (picture s.look font.now (strip_after s image.now strip.now)) frame_length frame.now
      (accepted s.look font.now (strip_after s image.now strip.now) frame.now e).frame_long).is k (omega arith) h)

  pub shown_border : value z ≡ border s.look
  unfolding show_told
  shown_border =
      ap (λ (t : Told). t.value)
      (p.0 ∙ done_says (done (border s.look)) refl (show_order s image.now font.now strip.now frame.now) tt (rw p.0 at d))

-- (iv) In graphics, what `draw` leaves `read_back` accepts, and gives the strip that was drawn.
pub drawn_read_back : (κs : Lfts 3) (κs' : Lfts 2) (l : Look) (font strip : Lent) (frame back : Room) (z z' : Answer) (out out' : List ℕ) (drawn : Lent)
    → graphics l ≡ true → Draws κs l font strip frame z out → Done z → drawn.now ≡ out → strip_length l ≤ length back.now → ReadsBack κs' l drawn back z' out'
    → Done z' × (Bytes strip.now → (i : ℕ) → i < strip_length l → get_or out' i 0 ≡ get_or strip.now i 0)
drawn_read_back κs κs' l font strip frame back z z' out out' drawn g p d e room q =
    let n = rw p.0 at d in
    let f = e ∙ p.1 in (
      ap (λ (t : Told). t.number) q.0 ∙ rw f (drawn_is_read l g font.now strip.now frame.now back.now n room),
      λ bytes i h. rw (q.1, f) (read_as_drawn l g font.now strip.now frame.now back.now n room bytes i h),
    )

-- What `read_back` accepts is what `draw` leaves for the strip that it gave,
pub read_drawn_again : (κs : Lfts 2) (κs' : Lfts 3) (l : Look) (font frame : Lent) (strip again : Room) (z z' : Answer) (out out' : List ℕ) (given : Lent)
    → ReadsBack κs l frame strip z out → Done z → given.now ≡ out → frame_length ≤ length again.now → Draws κs' l font given again z' out'
    → Done z' × ((k : ℕ) → k < frame_length → get_or out' k 0 ≡ get_or frame.now k 0)
read_drawn_again κs κs' l font frame strip again z z' out out' given p d e room q =
    let n = rw p.0 at d in
    let s = e ∙ p.1 in (
      ap (λ (t : Told). t.number) q.0 ∙ rw s (read_is_drawn l font.now again.now frame.now strip.now n room),
      λ k h. rw (q.1, s) (drawn_as_read l font.now again.now frame.now strip.now n room k h),
    )

-- and that strip is the only one that draws the frame.
pub one_strip : (κs : Lfts 2) (l : Look) (font : List ℕ) (frame : Lent) (strip : Room) (z : Answer) (out : List ℕ) → ReadsBack κs l frame strip z out → Done z
    → (S : List ℕ) → Bytes S → DrawnBy l font S frame.now → (i : ℕ) → i < strip_length l → get_or out i 0 ≡ get_or S i 0
one_strip κs l font frame strip z out p d S bytes draws i h =
    let n = rw p.0 at d in
    let a = (back_accepted l frame.now strip.now n).0 in
    rw (p.1, back_Done l frame.now strip.now n)
    (written_reads l frame.now strip.now a.strip_long i h ∙ sym (drawn_read l a.in_graphics font S frame.now draws bytes i h))

nine_by : (b : Bool) (k v : ℕ) → ((choose b (told 9 k 0) (done v)).number ≡ 9) ↔ (b ≡ true)
nine_by true k v = (λ e. refl, λ e. refl)
nine_by false k v = (λ e. absurd (omega arith), λ e. let z : ◌≡◌ {A = ℕ} 0 1 = cc in absurd (omega arith))

-- Where the lengths are right, 9 is told exactly if no strip draws the frame, at the first pixel that is stray.
pub nine_exactly : (κs : Lfts 2) (l : Look) (font : List ℕ) (frame : Lent) (strip : Room) (z : Answer) (out : List ℕ) → ReadsBack κs l frame strip z out → graphics l ≡ true
    → (first_of (back_lengths l (length strip.now) (length frame.now)) (done (strip_length l))).number ≡ 0
    → (((told_of z).number ≡ 9) ↔ ((S : List ℕ) → Bytes S → DrawnBy l font S frame.now → ⊥)) × ((told_of z).number ≡ 9 → (told_of z).place ≡ first_stray l frame.now)
unfolding back_pixels
nine_exactly κs l font frame strip z out p g lengths =
    let t = p.0 ∙ told_passed l frame.now strip.now lengths in
    let n = nine_by (ltb (first_stray l frame.now) frame_length) (first_stray l frame.now) (strip_length l) in
    let m = no_strip l g font frame.now in (
      (λ e. m.0 (ltb-true _ _ (n.0 (rw t at e))), λ none. rw t (n.1 (lt-ltb _ _ (m.1 none)))),
      λ e. rw (t, n.0 (rw t at e)),
    )

-- So, with graphics pins and buffers long enough, a frame is accepted exactly if some strip draws it.
pub accepted_exactly : (κs : Lfts 2) (l : Look) (font : List ℕ) (frame : Lent) (strip : Room) (z : Answer) (out : List ℕ) → ReadsBack κs l frame strip z out → graphics l ≡ true
    → (first_of (back_lengths l (length strip.now) (length frame.now)) (done (strip_length l))).number ≡ 0
    → (Done z) ↔ ((S : List ℕ) × Bytes S × DrawnBy l font S frame.now)
unfolding back_pixels
accepted_exactly κs l font frame strip z out p g lengths =
    let t = p.0 ∙ told_passed l frame.now strip.now lengths in (
      λ d. let c = (back_accepted l frame.now strip.now (rw p.0 at d)).1 in
          (strip_of l g frame.now, strip-of-bytes l g frame.now, clean_drawn l g font frame.now (strip_of l g frame.now) c (strip_reads l g frame.now)),
      λ w. let c = drawn_clean l g font w.0 frame.now w.2 in
          ap (λ (x : Told). x.number) t ∙ simp (le-ltb (first_stray l frame.now) frame_length (omega arith)),
    )

-- (v) Each annotation line by its number, with its line end, joined in order: they are the tail, and the tail is the end of the sheet.
module _ (s : Lent) (κs : Lfts 1) (z : Sheet) (read : Reads κs s z) where
  pub annotations_joined : (κr : ℕ → Lfts 1) (r : ℕ → Lent) → ((n : ℕ) → Line (κr n) s n (r n)) → (κt : Lfts 1) (t : Lent) → Tail κt s t
      → joined z.annotations (λ n. (r n).now ++ nl) ≡ t.now
  annotations_joined κr r q κt t w = lines_join s κs κt κr z read r q t w

  pub tail_ends_sheet : Done z.answer → (κt : Lfts 1) (t : Lent) → Tail κt s t → s.now ≡ front (fields_in s.now) ++ t.now
  tail_ends_sheet d κt t w = tail_ends s κs κt z read d t w

  -- Annotation n of an accepted sheet IS its n-th annotation line, whatever its key; the deed is its deed.
  pub annotation_is : (κr : Lfts 1) (n : ℕ) (r : Lent) → Line κr s n r → r.now ≡ line_at (fields_in s.now).annotations n
  annotation_is κr n r q = line_holds s κr n r q

  pub deed_is : (κd : Lfts 1) (r : Lent) → Deed κd s r → r.now ≡ (fields_in s.now).deed
  deed_is κd r q = deed_holds s κd r q

  -- The count is the number of annotation lines.
  pub counted_lines : (κr : Lfts 1) (n : ℕ) (r : Lent) → Line κr s n r → (0 < length r.now) ↔ (n < z.annotations)
  counted_lines κr n r q = line_some s κs κr z read n r q

  -- An accepted sheet is the bytes of valid fields; a refused one is told 11 at the longest beginning that some accepted sheet has, and no fields make it.
  pub whole_sheet : Done z.answer → ValidSheet (fields_in s.now) × (s.now ≡ render (fields_in s.now))
  whole_sheet d = accepted_sheet s κs z read d

  pub broken_sheet : (Done z.answer → ⊥) → ((told_of z.answer).number ≡ 11) × Longest sheets s.now (told_of z.answer).place × ((f : Fields) → ValidSheet f → s.now ≡ render f → ⊥)
  broken_sheet differ = refused_sheet s κs z read differ

-- Every valid set of fields is read back from its bytes: pins, rule, writes and annotations are those of the fields.
pub valid_read : (κs : Lfts 1) (s : Lent) (z : Sheet) (f : Fields) → ValidSheet f → s.now ≡ render f → Reads κs s z
    → Done z.answer × (fields_in s.now ≡ f)
valid_read κs s z f valid e p =
    let r : read_sheet s.now ≡ got f (length (render f)) = ap read_sheet e ∙ read_back f valid in
    (ap (λ (t : Told). t.number) (p.told ∙ ap told_read r), ap fields_read r)

-- The longest sheet has 28,159 bytes: no accepted sheet is longer, and one is as long.
pub longest_sheet : ((κs : Lfts 1) (s : Lent) (z : Sheet) → Reads κs s z → Done z.answer → length s.now ≤ 28159) × ((s : List ℕ) × (acceptedSheet s ≡ true) × (length s ≡ 28159))
longest_sheet = ((λ κs s z p d. none_longer s.now (done_accepted s κs z p d)), one_as_long)

-- Semigraphics: a byte of 128 or more is drawn alike under all pins of text, with any font; external text refuses it.
pub semigraphics_alike : (l m : Look) (font list : List ℕ) → graphics l ≡ false → graphics m ≡ false → (b line t : ℕ) → 128 ≤ b → pixel l font b line t ≡ pixel m list b line t
unfolding pixel
semigraphics_alike l m font list g h b line t k =
    let e = blocks l m font list b (line % 12) k in
    rw (g, h, e.0, e.1)

-- The settings of a sheet that is taken in: its writes played from reset, its pins, and its rule.
pub sheet_settings : (κs : Lfts 1) (s : Lent) (z : Intake) → TakesIn κs s z → Done z.answer → z.settings ≡ settings_in s.now
sheet_settings κs s z p d = p.settings ∙ given_done s.now (ap (λ (t : Told). t.number) (sym p.told) ∙ d)

-- What the report prints is the report, and but for a broken sheet it ends with the annotation lines as they stand in the sheet.
pub printed : (κs : Lfts 1) (s : Lent) (r : Text) → Reports κs s r → held r ≡ report_of s.now
printed κs s r p = holds_report (intake_told s.now) s.now r p

pub printed_ends : (κs κt : Lfts 1) (s t : Lent) (r : Text) → Reports κs s r → Tail κt s t → ((intake_told s.now).number ≡ 11 → ⊥) → (before : List ℕ) × (held r ≡ before ++ t.now)
printed_ends κs κt s t r p w h =
    let e = ends_with_lines (intake_told s.now) s.now h in
    (e.0, printed κs s r p ∙ e.1 ∙ ap (λ (x : List ℕ). e.0 ++ x) (sym (tail_holds s κt t w)))

-- After an operation on the record the same holds of what is then told.
pub printed_after : (κs : Lfts 1) (s : Lent) (a : Answer) (r : Text) → ReportsAfter κs s a r → held r ≡ report_after s.now (told_of a)
printed_after κs s a r p = holds_report (told_after s.now (told_of a)) s.now r p

pub printed_after_ends : (κs κt : Lfts 1) (s t : Lent) (a : Answer) (r : Text) → ReportsAfter κs s a r → Tail κt s t → ((told_after s.now (told_of a)).number ≡ 11 → ⊥)
    → (before : List ℕ) × (held r ≡ before ++ t.now)
printed_after_ends κs κt s t a r p w h =
    let e = ends_with_lines (told_after s.now (told_of a)) s.now h in
    (e.0, printed_after κs s a r p ∙ e.1 ∙ ap (λ (x : List ℕ). e.0 ++ x) (sym (tail_holds s κt t w)))
