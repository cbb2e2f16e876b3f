-- "Versions we would send back" (document 01): five tools that are unfit, each ruled out by the contracts, for every operation that it concerns.
use Prim.Native.Nat.{ℕ, ◌+◌, ◌-◌, ◌*◌, ◌/◌, ◌%◌, ◌<◌, ◌≤◌}
use mathlib.Core.Path.{◌≡◌, refl, sym, ap, ◌∙◌}
use mathlib.Core.Bool.{true, false}
use mathlib.Core.List.{List, [], ◌∷◌, ◌++◌}
use mathlib.Core.Logic.{◌↔◌, ⊎_elim}
use native.Mathlib.Omega.{arith}
use contract.Lifetimes.{Lfts}
use lib.IntN.{pos}
use lib.ListN.{length, get_or, take, set, replicate, length-set, length-replicate, get_or-replicate, get_or-eq_default}
use lib.Seq.{get_or-set_same, get_or-set_other}
use borrow.Author.Tests.{le-ltb}
use Rattle.promises.specs.Told.{Told, done}
use Rattle.promises.specs.Order.{NoneHolds}
use Rattle.promises.specs.Written.{Bytes}
use Rattle.promises.proofs.Tables.{Each}
use Rattle.promises.proofs.Fills.{lt_or_ge}
use Rattle.promises.proofs.Orders.{done_when}
use Rattle.promises.specs.First.{first_where}
use Rattle.promises.proofs.Firsts.{first_none}
use Rattle.answer.specs.Told.{Answer}
use Rattle.settings.specs.declared.Look.{Look}
use Rattle.settings.specs.declared.Rule.{Rule}
use Rattle.settings.specs.declared.Rule.TheVariants.{One}
use Rattle.settings.specs.declared.Settings.{Settings}
use Rattle.settings.specs.Fields.{look_of, settings_of, bits, graphics}
use Rattle.settings.specs.Modes.{width, dots, font_size}
use Rattle.settings.specs.Banks.{suited, missing}
use Rattle.settings.specs.Refusals.{image_fits, strip_length, frame_length}
use Rattle.control.specs.Control.{word_after, first_elsewhere, play_order}
use Rattle.control.proofs.Masks.{bit_there}
use Rattle.strip.specs.Fetch.{place_of, fetch_place, fetched_byte, first_missing, fetch_order}
use Rattle.strip.proofs.Banks.{none_missing, not_found, none_refused}
use Rattle.strip.proofs.Windows.{strip_byte}
use Rattle.pixel.specs.Dots.{one_bit, bit}
use Rattle.pixel.specs.Text.{pattern, inverted, letter, lit, ink, block}
use Rattle.pixel.specs.Picture.{owner, dot, pixel, picture}
use Rattle.pixel.proofs.Shows.{shows}
use Rattle.frame.specs.Draw.{draw_order}
use Rattle.frame.proofs.Draws.{bytes_internal, bytes_low}
use Rattle.screen.specs.Show.{show_order}
use Rattle.back.specs.Read.{read_byte}
use Rattle.back.specs.Stray.{shows as isShown, leftmost, stray, first_stray}
use Rattle.back.specs.Back.{back_pixels, back_order}
use Rattle.back.proofs.Backs.{back_accepted, strip_done as back_Done}
use Rattle.back.proofs.RoundTrip.{written_reads}
use Rattle.transpose.specs.Chip.{chip_order, chip_place}
use Rattle.plans.specs.declared.Placement.{Placement}
use Rattle.plans.specs.Canvas.{canvas_fits, outside, first_outside, lay_order, covers, pixel_of}
use Rattle.png.specs.File.{file}
use Rattle.picture.specs.Encode.{file_length, pixels, encode_order, encode_told, picture_made}
use Rattle.picture.proofs.Answers.{accepts}
use Rattle.picture_back.specs.Decode.{border_read, pixel_read, decode_order, decode_told}
use Rattle.picture_back.proofs.RoundTrip.{told_back}
use Rattle.grammar.specs.Given.{sheet_order}
use Rattle.grammar.proofs.Length.{one_as_long}
use Rattle.sheet.specs.declared.Sheet.{Sheet}
use Rattle.sheet.proofs.Annotations.{Reads, Line}
use Rattle.lookup.specs.Lookup.{holder_order}
use Rattle.lookup.proofs.Examples.{record_sheet, cover_sheet}
use Rattle.claims.proofs.Calls.{Lent, Room, Listed, Plays, Fetches, Draws, Shows, ReadsBack, ToImage, ToChip, Lays, Encodes, Decodes, Finds}
use Rattle.claims.proofs.Demand1.{play_demand, fetch_demand, draw_demand, show_demand, back_demand, read_demand, to_image_demand, to_chip_demand, lay_demand, encode_demand, decode_demand, holder_demand}
use Rattle.claims.proofs.Demand2.{Done, value, one_more_write, strip_bytes, frame_pixels, shown_byte, shown_pixel, counted_lines}
use Rattle.claims.proofs.Chips.{image_byte, chip_byte}
use Rattle.claims.proofs.Plans.{later_covers}
use Rattle.claims.proofs.Copy.{picture_byte, pixel_left}
use Rattle.claims.proofs.LowerCase.{Painted}
use Rattle.claims.proofs.Ascents.{rg6, goes_up}

-- ==== A tool that refuses everything. A call is done exactly if no condition of its order holds,
pub play_accepts : (κs : Lfts 1) (word : ℕ) (writes : Lent) (z : Answer) → Plays κs word writes z → (Done z) ↔ NoneHolds (play_order word writes.now)
play_accepts κs word writes z p = (play_demand κs word writes z p).done_if

pub fetch_accepts : (κs : Lfts 2) (s : Settings) (image : Lent) (strip : Room) (z : Answer) (out : List ℕ) → Fetches κs s image strip z out → (Done z) ↔ NoneHolds (fetch_order s (length image.now) (length strip.now))
fetch_accepts κs s image strip z out p = (fetch_demand κs s image strip z out p).0.done_if

pub draw_accepts : (κs : Lfts 3) (l : Look) (font strip : Lent) (frame : Room) (z : Answer) (out : List ℕ) → Draws κs l font strip frame z out → (Done z) ↔ NoneHolds (draw_order l font.now strip.now frame.now)
draw_accepts κs l font strip frame z out p = (draw_demand κs l font strip frame z out p).0.done_if

pub show_accepts : (κs : Lfts 4) (s : Settings) (image font : Lent) (strip frame : Room) (z : Answer) (bytes pixels : List ℕ) → Shows κs s image font strip frame z bytes pixels
    → (Done z) ↔ NoneHolds (show_order s image.now font.now strip.now frame.now)
show_accepts κs s image font strip frame z bytes pixels p = (show_demand κs s image font strip frame z bytes pixels p).0.done_if

pub back_accepts : (κs : Lfts 2) (l : Look) (frame : Lent) (strip : Room) (z : Answer) (out : List ℕ) → ReadsBack κs l frame strip z out → (Done z) ↔ NoneHolds (back_order l frame.now strip.now)
back_accepts κs l frame strip z out p = (back_demand κs l frame strip z out p).0.done_if

pub sheet_accepts : (κs : Lfts 1) (sheet : Lent) (z : Sheet) → Reads κs sheet z → (Done z.answer) ↔ NoneHolds (sheet_order sheet.now)
sheet_accepts κs sheet z p = (read_demand κs sheet z p).done_if

pub image_accepts : (κs : Lfts 2) (k : ℕ) (chip : Lent) (image : Room) (z : Answer) (out : List ℕ) → ToImage κs k chip image z out → (Done z) ↔ NoneHolds (chip_order k (length chip.now) (length image.now))
image_accepts κs k chip image z out p = (to_image_demand κs k chip image z out p).0.done_if

pub chip_accepts : (κs : Lfts 2) (k : ℕ) (image : Lent) (chip : Room) (z : Answer) (out : List ℕ) → ToChip κs k image chip z out → (Done z) ↔ NoneHolds (chip_order k (length image.now) (length chip.now))
chip_accepts κs k image chip z out p = (to_chip_demand κs k image chip z out p).0.done_if

pub lay_accepts : (κs : Lfts 3) (frame : Lent) (ps : Listed) (width height : ℕ) (canvas : Room) (z : Answer) (entries : List Placement) (out : List ℕ) → Lays κs frame ps width height canvas z entries out
    → (Done z) ↔ NoneHolds (lay_order (length frame.now) width height (length canvas.now) (length ps.now) (first_outside ps.now))
lay_accepts κs frame ps width height canvas z entries out p = (lay_demand κs frame ps width height canvas z entries out p).0.done_if

pub encode_accepts : (κs : Lfts 2) (border : ℕ) (frame : Lent) (png : Room) (z : Answer) (out : List ℕ) → Encodes κs border frame png z out → (Done z) ↔ NoneHolds (encode_order border frame.now png.now)
encode_accepts κs border frame png z out p = (encode_demand κs border frame png z out p).0.done_if

pub decode_accepts : (κs : Lfts 2) (png : Lent) (frame : Room) (z : Answer) (out : List ℕ) → Decodes κs png frame z out → (Done z) ↔ NoneHolds (decode_order png.now frame.now)
decode_accepts κs png frame z out p = (decode_demand κs png frame z out p).0.done_if

pub holder_accepts : (κs : Lfts 3) (own cover key : Lent) (z : Answer) → Finds κs own cover key z → (Done z) ↔ NoneHolds (holder_order own.now cover.now key.now)
holder_accepts κs own cover key z p = (holder_demand κs own cover key z p).done_if

-- and for each of them there is such a call: what is lent is n times 0, the sheet is the longest one, the file is the picture of such a frame, and keys are asked of two short sheets, one that the record's has and one that only the cover has.
abbrev zeros : ℕ → List ℕ
zeros n = replicate n 0

all_zero : (n k : ℕ) → get_or (zeros n) k 0 < 128
all_zero n k =
    ⊎_elim (λ (h : k < n). rw (get_or-replicate {A = ℕ} n k 0 0 h) (omega arith)) (λ (h : n ≤ k). rw (get_or-eq_default (zeros n) 0 {n = k} (omega (arith, length-replicate {A = ℕ} n 0))) (omega arith)) (lt_or_ge k n)

clean : (k : ℕ) → k < frame_length → stray (look_of 0x20) (zeros frame_length) k ≡ false
unfolding stray isShown leftmost dots
clean k h =
    let e : get_or (zeros frame_length) k 0 ≡ 0 = get_or-replicate frame_length k 0 0 h in
    let d : get_or (zeros frame_length) (k / 256 * 256 + k % 256 / 4 * 4) 0 ≡ 0 = get_or-replicate frame_length (k / 256 * 256 + k % 256 / 4 * 4) 0 0 (omega arith) in
    rw (e, d)

pub some_played : NoneHolds (play_order 0x0000 (0xFFC1 ∷ 0xFFC9 ∷ 0xFFD6 ∷ []))
unfolding first_elsewhere
some_played = (refl, tt)

-- a window that lies in the one bank of its board, and one of a board that has every bank
one_bank : 6144 ≡ first_missing (settings_of 0x0000 0x2E One) 4096
unfolding width missing
one_bank = not_found (settings_of 0x0000 0x2E One) 4096 refl refl (omega arith)

every_bank : (p : ℕ) → 192 * width (look_of p) ≡ first_missing (settings_of 0x4000 p One) 65536
unfolding missing
every_bank p = none_missing (settings_of 0x4000 p One) 65536 refl

pub some_fetched : NoneHolds (fetch_order (settings_of 0x0000 0x2E One) 4096 6144)
unfolding image_fits suited width
some_fetched = (refl, (refl, (refl, (refl, (refl, (none_refused (settings_of 0x0000 0x2E One) 4096 one_bank, tt))))))

-- in graphics, in internal text and in external text
pub some_drawn : NoneHolds (draw_order (look_of 0x2E) [] (zeros 6144) (zeros frame_length))
    × NoneHolds (draw_order (look_of 0x00) (zeros 1152) (zeros 6144) (zeros frame_length))
    × NoneHolds (draw_order (look_of 0x10) (zeros 3072) (zeros 6144) (zeros frame_length))
unfolding width font_size
some_drawn = (
  (refl, (refl, (refl, (refl, bytes_internal (look_of 0x2E) _ refl)))),
  (refl, (refl, (refl, (refl, bytes_internal (look_of 0x00) _ refl)))),
  (refl, (refl, (refl, (refl, bytes_low (look_of 0x10) _ (λ k h. all_zero 6144 k))))),
)

pub some_shown : NoneHolds (show_order (settings_of 0x0000 0x2E One) (zeros 4096) [] (zeros 6144) (zeros frame_length))
    × NoneHolds (show_order (settings_of 0x4000 0x00 One) (zeros 65536) (zeros 1152) (zeros 6144) (zeros frame_length))
    × NoneHolds (show_order (settings_of 0x4000 0x10 One) (zeros 65536) (zeros 3072) (zeros 6144) (zeros frame_length))
unfolding image_fits suited width font_size
some_shown = (
  (refl, (refl, (refl, (refl, (refl, (refl, (refl, (none_refused (settings_of 0x0000 0x2E One) 4096 one_bank, bytes_internal (look_of 0x2E) _ refl)))))))),
  (refl, (refl, (refl, (refl, (refl, (refl, (refl, (none_refused (settings_of 0x4000 0x00 One) 65536 (every_bank 0x00), bytes_internal (look_of 0x00) _ refl)))))))),
  (refl, (refl, (refl, (refl, (refl, (refl, (refl, (none_refused (settings_of 0x4000 0x10 One) 65536 (every_bank 0x10), bytes_low (look_of 0x10) _ (λ k h. all_zero 65536 (fetch_place (settings_of 0x4000 0x10 One) k)))))))))),
)

none_stray : first_stray (look_of 0x20) (zeros frame_length) ≡ frame_length
unfolding first_stray
none_stray = first_none (stray (look_of 0x20) (zeros frame_length)) frame_length clean

pub some_read_back : NoneHolds (back_order (look_of 0x20) (zeros frame_length) (zeros 3072))
unfolding width back_pixels
some_read_back = (refl, (refl, (refl, (refl, (le-ltb (first_stray (look_of 0x20) (zeros frame_length)) frame_length (omega (arith, none_stray)), tt)))))

pub some_sheet : (s : List ℕ) × NoneHolds (sheet_order s)
some_sheet = (one_as_long.0, (rw one_as_long.1 refl, tt))

pub some_held : NoneHolds (holder_order record_sheet cover_sheet (0x61 ∷ [])) × NoneHolds (holder_order record_sheet cover_sheet (0x62 ∷ []))
unfolding first_where
some_held = ((refl, (refl, (refl, tt))), (refl, (refl, (refl, tt))))

pub some_transposed : NoneHolds (chip_order 6 4096 4096) × NoneHolds (chip_order 7 32768 32768) × NoneHolds (chip_order 8 65536 65536)
some_transposed = ((refl, (refl, tt)), (refl, (refl, tt)), (refl, (refl, tt)))

-- one pixel of a frame laid on a canvas of one
pub some_laid : NoneHolds (lay_order frame_length 1 1 1 1 (first_outside (record { left = 255; top = 191; across = 1; down = 1; x = pos 0; y = pos 0; on = 0; cut = 0 } ∷ [])))
unfolding canvas_fits outside first_where
some_laid = (refl, (refl, (refl, (refl, tt))))

-- a frame of 0 with border 0 makes a picture,
encoded : encode_told 0 (zeros frame_length) (zeros file_length) ≡ done file_length
encoded = accepts 0 (zeros frame_length) (zeros file_length) (record {
  frame_long = omega (arith, length-replicate {A = ℕ} frame_length 0);
  colours = λ k h. omega (arith, get_or-replicate {A = ℕ} frame_length k 0 0 h);
  border_low = omega arith;
  file_long = omega (arith, length-replicate {A = ℕ} file_length 0);
})

pub some_encoded : NoneHolds (encode_order 0 (zeros frame_length) (zeros file_length))
unfolding encode_told
some_encoded = (done_when (done file_length) refl (encode_order 0 (zeros frame_length) (zeros file_length)) tt).0 (ap (λ (t : Told). t.number) encoded)

-- and its file is read.
pub some_decoded : (s : List ℕ) × NoneHolds (decode_order s (zeros frame_length))
unfolding decode_told
some_decoded =
    let s = take file_length (picture_made 0 (zeros frame_length) (zeros file_length)) in
    let e = told_back 0 (zeros frame_length) (zeros file_length) (ap (λ (t : Told). t.number) encoded) (zeros frame_length) (omega (arith, length-replicate {A = ℕ} frame_length 0)) in
    (s, (done_when (done (border_read s)) refl (decode_order s (zeros frame_length)) tt).0 (ap (λ (t : Told). t.number) e))

-- ==== A tool that draws one frame for all. In graphics, strips that differ in a byte give frames that differ,
pub not_one_frame : (κs κs' : Lfts 3) (l : Look) (font strip strip' : Lent) (frame frame' : Room) (z z' : Answer) (out out' : List ℕ)
    → Draws κs l font strip frame z out → Draws κs' l font strip' frame' z' out' → Done z → Done z' → graphics l ≡ true → Bytes strip.now → Bytes strip'.now
    → (i : ℕ) → i < strip_length l → (get_or strip.now i 0 ≡ get_or strip'.now i 0 → ⊥) → out ≡ out' → ⊥
not_one_frame κs κs' l font strip strip' frame frame' z z' out out' p q d d' g small small' i h differ same =
    let w = shows l font.now strip.now strip'.now g i h (small i) (small' i) differ in
    w.3 (sym (frame_pixels κs l font strip frame z out p d w.0 w.1) ∙ ap (λ (x : List ℕ). get_or x w.0 0) same ∙ frame_pixels κs' l font strip' frame' z' out' q d' w.0 w.1)

-- also those that both at once leaves;
pub not_one_screen : (κs κs' : Lfts 4) (s : Settings) (image image' font : Lent) (strip strip' frame frame' : Room) (z z' : Answer) (bytes bytes' pixels pixels' : List ℕ)
    → Shows κs s image font strip frame z bytes pixels → Shows κs' s image' font strip' frame' z' bytes' pixels' → Done z → Done z' → graphics s.look ≡ true → Bytes bytes → Bytes bytes'
    → (i : ℕ) → i < strip_length s.look → (get_or bytes i 0 ≡ get_or bytes' i 0 → ⊥) → pixels ≡ pixels' → ⊥
not_one_screen κs κs' s image image' font strip strip' frame frame' z z' bytes bytes' pixels pixels' p q d d' g small small' i h differ same =
    let w = shows s.look font.now bytes bytes' g i h (small i) (small' i) differ in
    w.3 (sym (shown_pixel κs s image font strip frame z bytes pixels p d w.0 w.1) ∙ ap (λ (x : List ℕ). get_or x w.0 0) same ∙ shown_pixel κs' s image' font strip' frame' z' bytes' pixels' q d' w.0 w.1)

-- frames that differ in their first pixel are not one
first_differs : {out out' : List ℕ} → get_or out 0 0 ≡ 8 → get_or out' 0 0 ≡ 0 → out ≡ out' → ⊥
first_differs a b same = let x : ◌≡◌ {A = ℕ} 8 0 = sym a ∙ ap (λ (l : List ℕ). get_or l 0 0) same ∙ b in omega arith

-- in text, bytes 80 and 8F at the strip's beginning do,
first_pixel : (font strip : List ℕ) → (get_or strip 0 0 ≡ 0x80 → picture (look_of 0x00) font strip 0 ≡ 8) × (get_or strip 0 0 ≡ 0x8F → picture (look_of 0x00) font strip 0 ≡ 0)
unfolding picture owner dot pixel width one_bit bit lit ink block
first_pixel font strip = (λ e. rw e, λ e. rw e)

pub not_one_text : (κs κs' : Lfts 3) (font strip strip' : Lent) (frame frame' : Room) (z z' : Answer) (out out' : List ℕ)
    → Draws κs (look_of 0x00) font strip frame z out → Draws κs' (look_of 0x00) font strip' frame' z' out' → Done z → Done z'
    → get_or strip.now 0 0 ≡ 0x80 → get_or strip'.now 0 0 ≡ 0x8F → out ≡ out' → ⊥
not_one_text κs κs' font strip strip' frame frame' z z' out out' p q d d' e e' =
    first_differs (frame_pixels κs (look_of 0x00) font strip frame z out p d 0 (omega arith) ∙ (first_pixel font.now strip.now).0 e)
    (frame_pixels κs' (look_of 0x00) font strip' frame' z' out' q d' 0 (omega arith) ∙ (first_pixel font.now strip'.now).1 e')

pub not_one_text_screen : (κs κs' : Lfts 4) (word : ℕ) (rule : Rule) (image image' font : Lent) (strip strip' frame frame' : Room) (z z' : Answer) (bytes bytes' pixels pixels' : List ℕ)
    → Shows κs (settings_of word 0x00 rule) image font strip frame z bytes pixels → Shows κs' (settings_of word 0x00 rule) image' font strip' frame' z' bytes' pixels' → Done z → Done z'
    → get_or bytes 0 0 ≡ 0x80 → get_or bytes' 0 0 ≡ 0x8F → pixels ≡ pixels' → ⊥
not_one_text_screen κs κs' word rule image image' font strip strip' frame frame' z z' bytes bytes' pixels pixels' p q d d' e e' =
    first_differs (shown_pixel κs (settings_of word 0x00 rule) image font strip frame z bytes pixels p d 0 (omega arith) ∙ (first_pixel font.now bytes).0 e)
    (shown_pixel κs' (settings_of word 0x00 rule) image' font strip' frame' z' bytes' pixels' q d' 0 (omega arith) ∙ (first_pixel font.now bytes').1 e')

-- and in external text bytes 00 and 40 do, with a font in which the first row of their patterns is empty; said of both at once too (`Painted`).
first_external : (font strip : List ℕ) → get_or font 0 0 ≡ 0 → get_or font 768 0 ≡ 0
    → (get_or strip 0 0 ≡ 0x00 → picture (look_of 0x10) font strip 0 ≡ 8) × (get_or strip 0 0 ≡ 0x40 → picture (look_of 0x10) font strip 0 ≡ 0)
unfolding picture owner dot pixel width one_bit bit lit ink letter pattern inverted
first_external font strip a b = (λ e. rw (e, a), λ e. rw (e, b))

pub not_one_external : (font strip strip' out out' : List ℕ) → Painted (look_of 0x10) font strip out → Painted (look_of 0x10) font strip' out'
    → get_or font 0 0 ≡ 0 → get_or font 768 0 ≡ 0 → get_or strip 0 0 ≡ 0x00 → get_or strip' 0 0 ≡ 0x40 → out ≡ out' → ⊥
not_one_external font strip strip' out out' p q a b e e' =
    first_differs (p 0 (omega arith) ∙ (first_external font strip a b).0 e) (q 0 (omega arith) ∙ (first_external font strip' a b).1 e')

-- ==== A tool that stores nothing. A done call leaves another buffer wherever what was there is not what is fetched, drawn, read, crossed or pictured.
idle : {out old : List ℕ} (k : ℕ) {v : ℕ} → get_or out k 0 ≡ v → (v ≡ get_or old k 0 → ⊥) → out ≡ old → ⊥
idle k e differ same = differ (sym e ∙ ap (λ (x : List ℕ). get_or x k 0) same)

pub not_idle_strip : (κs : Lfts 2) (s : Settings) (image : Lent) (strip : Room) (z : Answer) (out : List ℕ) → Fetches κs s image strip z out → Done z
    → (k : ℕ) → k < strip_length s.look → (fetched_byte s image.now k ≡ get_or strip.now k 0 → ⊥) → out ≡ strip.now → ⊥
not_idle_strip κs s image strip z out p d k h = idle k (ap (λ (x : List ℕ). get_or x k 0) p.call.1.1 ∙ strip_byte s image.now strip.now (rw p.call.0 at d) k h)

pub not_idle_frame : (κs : Lfts 3) (l : Look) (font strip : Lent) (frame : Room) (z : Answer) (out : List ℕ) → Draws κs l font strip frame z out → Done z
    → (k : ℕ) → k < frame_length → (picture l font.now strip.now k ≡ get_or frame.now k 0 → ⊥) → out ≡ frame.now → ⊥
not_idle_frame κs l font strip frame z out p d k h = idle k (frame_pixels κs l font strip frame z out p d k h)

pub not_idle_back : (κs : Lfts 2) (l : Look) (frame : Lent) (strip : Room) (z : Answer) (out : List ℕ) → ReadsBack κs l frame strip z out → Done z
    → (k : ℕ) → k < strip_length l → (read_byte l frame.now k ≡ get_or strip.now k 0 → ⊥) → out ≡ strip.now → ⊥
not_idle_back κs l frame strip z out p d k h =
    let n = rw p.0 at d in
    idle k (ap (λ (x : List ℕ). get_or x k 0) (p.1 ∙ back_Done l frame.now strip.now n) ∙ written_reads l frame.now strip.now (back_accepted l frame.now strip.now n).0.strip_long k h)

-- both buffers of both at once
module _ (κs : Lfts 4) (s : Settings) (image font : Lent) (strip frame : Room) (z : Answer) (bytes pixels : List ℕ) (p : Shows κs s image font strip frame z bytes pixels) (d : Done z) where
  pub not_idle_shown_strip : (k : ℕ) → k < strip_length s.look → (fetched_byte s image.now k ≡ get_or strip.now k 0 → ⊥) → bytes ≡ strip.now → ⊥
  not_idle_shown_strip k h = idle k (shown_byte κs s image font strip frame z bytes pixels p d k h)

  pub not_idle_shown_frame : (k : ℕ) → k < frame_length → (picture s.look font.now bytes k ≡ get_or frame.now k 0 → ⊥) → pixels ≡ frame.now → ⊥
  not_idle_shown_frame k h = idle k (shown_pixel κs s image font strip frame z bytes pixels p d k h)

-- both directions of the chips
pub not_idle_image : (κs : Lfts 2) (k : ℕ) (chip : Lent) (image : Room) (z : Answer) (out : List ℕ) → ToImage κs k chip image z out → Done z
    → (a : ℕ) → a < length chip.now → (get_or chip.now (chip_place k a) 0 ≡ get_or image.now a 0 → ⊥) → out ≡ image.now → ⊥
not_idle_image κs k chip image z out p d a h = idle a (image_byte κs k chip image z out p d a h)

pub not_idle_chip : (κs : Lfts 2) (k : ℕ) (image : Lent) (chip : Room) (z : Answer) (out : List ℕ) → ToChip κs k image chip z out → Done z
    → (a : ℕ) → a < length image.now → (get_or image.now a 0 ≡ get_or chip.now (chip_place k a) 0 → ⊥) → out ≡ chip.now → ⊥
not_idle_chip κs k image chip z out p d a h = idle (chip_place k a) (chip_byte κs k image chip z out p d a h)

-- the canvas
pub not_idle_canvas : (κs : Lfts 3) (frame : Lent) (ps : Listed) (width height : ℕ) (canvas : Room) (z : Answer) (entries : List Placement) (out : List ℕ) → Lays κs frame ps width height canvas z entries out → Done z
    → (xs : List Placement) (q : Placement) (ys : List Placement) → ps.now ≡ xs ++ (q ∷ ys) → (k : ℕ) → k < length canvas.now → covers q (k % width) (k / width) ≡ true
    → Each (λ (y : Placement). covers y (k % width) (k / width) ≡ false) ys → (pixel_of frame.now q (k % width) (k / width) ≡ get_or canvas.now k 0 → ⊥) → out ≡ canvas.now → ⊥
not_idle_canvas κs frame ps width height canvas z entries out p d xs q ys e k h on off = idle k (later_covers κs frame ps width height canvas z entries out p d xs q ys e k h on off)

-- the picture file, and the frame out of it
pub not_idle_picture : (κs : Lfts 2) (border : ℕ) (frame : Lent) (png : Room) (z : Answer) (out : List ℕ) → Encodes κs border frame png z out → Done z
    → (k : ℕ) → k < file_length → ((file border (pixels frame.now)).at k ≡ get_or png.now k 0 → ⊥) → out ≡ png.now → ⊥
not_idle_picture κs border frame png z out p d k h = idle k (picture_byte κs border frame png z out p d k h)

pub not_idle_decoded : (κs : Lfts 2) (png : Lent) (frame : Room) (z : Answer) (out : List ℕ) → Decodes κs png frame z out → Done z
    → (k : ℕ) → k < frame_length → (pixel_read png.now k ≡ get_or frame.now k 0 → ⊥) → out ≡ frame.now → ⊥
not_idle_decoded κs png frame z out p d k h = idle k (pixel_left κs png frame z out p d k h)

-- ==== A tool that obeys the first control write and idles through the others. For any list and any further write a, the word that is told is
-- the word after the list with a's bit set or cleared by a (`one_more_write`), so it is another word wherever that bit was not so before.
module _ (κs κs' : Lfts 1) (word a : ℕ) (writes longer : Lent) (z z' : Answer) (e : longer.now ≡ writes.now ++ (a ∷ [])) (p : Plays κs word writes z) (q : Plays κs' word longer z') (d : Done z) (d' : Done z') where
  pub last_write_felt : bits (value z') ((a - 0xFFC0) / 2) 1 ≡ a % 2
  unfolding word_after
  last_write_felt = rw (one_more_write κs κs' word a writes longer z z' e p q d d') (bit_there (value z) ((a - 0xFFC0) / 2) (a % 2) (omega arith))

  pub not_first_write_only : (bits (value z) ((a - 0xFFC0) / 2) 1 ≡ a % 2 → ⊥) → value z' ≡ value z → ⊥
  not_first_write_only differ same = differ (ap (λ (w : ℕ). bits w ((a - 0xFFC0) / 2) 1) (sym same) ∙ last_write_felt)

-- The same of lines: for every line n and byte c of it, where two images differ at its place, byte W × n + c of the strips differs.
pub not_first_line_only : (κs κs' : Lfts 2) (s : Settings) (image image' : Lent) (strip strip' : Room) (z z' : Answer) (out out' : List ℕ)
    → Fetches κs s image strip z out → Fetches κs' s image' strip' z' out' → Done z → Done z'
    → (n c : ℕ) → n < 192 → c < width s.look → (get_or image.now (place_of s n c) 0 ≡ get_or image'.now (place_of s n c) 0 → ⊥)
    → get_or out (width s.look * n + c) 0 ≡ get_or out' (width s.look * n + c) 0 → ⊥
not_first_line_only κs κs' s image image' strip strip' z z' out out' p q d d' n c hn hc differ same =
    let a = strip_bytes κs s image strip z out p d n c hn hc in
    let b = strip_bytes κs' s image' strip' z' out' q d' n c hn hc in
    differ (sym a ∙ same ∙ b)

-- There are such images for every line n, accepted both, that differ at no place of another line: RG6 with SAM mode 6, where line n's places are its own.
pub plain : List ℕ
plain = zeros 65536

pub marked : ℕ → List ℕ
marked n = set plain (32 * n) 1

plain_zero : (k : ℕ) → k < 65536 → get_or plain k 0 ≡ 0
unfolding plain
plain_zero k h = get_or-replicate 65536 k 0 0 h

plain_long : length plain ≡ 65536
unfolding plain
plain_long = length-replicate {A = ℕ} 65536 0

marked_long : (n : ℕ) → length (marked n) ≡ 65536
unfolding marked
marked_long n = length-set plain (32 * n) 1 ∙ plain_long

-- an image of that length is accepted
accepted_image : (image : List ℕ) → length image ≡ 65536 → NoneHolds (fetch_order rg6 (length image) 6144)
unfolding image_fits suited width missing
accepted_image image e = rw e (refl, (refl, (refl, (refl, (refl, (none_refused rg6 65536 (none_missing rg6 65536 refl), tt))))))

pub line_alone : (n : ℕ) → n < 192
    → NoneHolds (fetch_order rg6 (length plain) 6144) × NoneHolds (fetch_order rg6 (length (marked n)) 6144) × (length plain ≡ 65536) × (length (marked n) ≡ 65536)
    × (get_or plain (place_of rg6 n 0) 0 ≡ get_or (marked n) (place_of rg6 n 0) 0 → ⊥)
    × ((m c : ℕ) → m < 192 → c < 32 → (m ≡ n → ⊥) → get_or plain (place_of rg6 m c) 0 ≡ get_or (marked n) (place_of rg6 m c) 0)
unfolding marked
line_alone n h = (
  accepted_image plain plain_long,
  accepted_image (marked n) (marked_long n),
  plain_long,
  marked_long n,
  λ same.
      let there : place_of rg6 n 0 ≡ 32 * n = goes_up n 0 h (omega arith) ∙ omega arith in
      let x : ◌≡◌ {A = ℕ} 0 1 = sym (plain_zero (32 * n) (omega arith)) ∙ rw there at same ∙ get_or-set_same plain (32 * n) 1 0 (omega (arith, plain_long)) in
      omega arith,
  λ m c hm hc other. rw (goes_up m c hm hc) (sym (get_or-set_other plain (32 * n) (32 * m + c) 1 0 (λ e. other (omega arith)))),
)

-- ==== A tool that invents the annotation count. Annotation n is not empty exactly for n below the count.
pub not_invented : (s : Lent) (κs κr : Lfts 1) (z : Sheet) → Reads κs s z → (n : ℕ) (r : Lent) → Line κr s n r → (0 < length r.now) ↔ (n < z.annotations)
not_invented s κs κr z read n r q = counted_lines s κs z read κr n r q
