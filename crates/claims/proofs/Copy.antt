-- The clerk's copy: the picture file keeps the frame with its border, and in graphics the file alone gives back the one strip that was fetched.
use Prim.Native.Nat.{ℕ, ◌*◌, ◌<◌, ◌≤◌}
use mathlib.Core.Path.{◌≡◌, refl, sym, ap, ap₂, ◌∙◌}
use mathlib.Core.Bool.{true, ◌||◌}
use mathlib.Core.List.{List}
use mathlib.Core.Logic.{◌⊎◌, ⊎_elim}
use native.Mathlib.Omega.{arith}
use contract.Lifetimes.{Lfts}
use borrow.Author.Tests.{le-ltb}
use lib.Dec.{eqb, ltb}
use lib.ListN.{length, get_or, take, length-take, get_or-eq_default}
use lib.Seq.{get_or-take}
use Rattle.promises.specs.Told.{Told, done}
use Rattle.promises.specs.Order.{first_of}
use Rattle.promises.specs.Written.{Bytes}
use Rattle.promises.proofs.Choices.{of_both}
use Rattle.promises.proofs.Orders.{done_when, done_says}
use Rattle.promises.proofs.Fills.{lt_or_ge, written_fills}
use Rattle.answer.specs.Told.{Answer}
use Rattle.settings.specs.declared.Look.{Look}
use Rattle.settings.specs.declared.Settings.{Settings}
use Rattle.settings.specs.Fields.{graphics, gm2, gm1, gm0, css}
use Rattle.settings.specs.Modes.{border}
use Rattle.settings.specs.Refusals.{strip_length, frame_length}
use Rattle.strip.specs.Fetch.{strip_after}
use Rattle.pixel.specs.Dots.{black, bit, one_bit, two_bits}
use Rattle.pixel.specs.Graphics.{element, graphic}
use Rattle.pixel.specs.Text.{ink}
use Rattle.pixel.specs.Picture.{pixel, picture}
use Rattle.pixel.proofs.Owners.{owner_below, depends}
use Rattle.frame.specs.Draw.{draw_told}
use Rattle.frame.proofs.Draws.{accepted as draw-accepted, accepted_pins}
use Rattle.screen.proofs.Shows.{drawn}
use Rattle.back.specs.Back.{back_lengths}
use Rattle.back.proofs.RoundTrip.{Draws as DrawnBy}
use Rattle.png.specs.File.{file}
use Rattle.picture.specs.Encode.{file_length, pixels, encode_told, picture_made}
use Rattle.picture.specs.Steps.{Fits}
use Rattle.picture.proofs.Answers.{accepted as encode-accepted, accepts, each_byte}
use Rattle.picture_back.specs.Decode.{border_read, pixel_read, decode_order, decode_told, frame_read}
use Rattle.picture_back.proofs.Decodes.{accepted as decode-accepted, read_done}
use Rattle.picture_back.proofs.RoundTrip.{told_back, frame_back, border_in, pixel_in, told_again, file_again}
use Rattle.claims.proofs.Calls.{Lent, Room, Shows, ReadsBack, Encodes, Decodes}
use Rattle.claims.proofs.Demand1.{show_demand, decode_demand}
use Rattle.claims.proofs.Demand2.{Done, value, shown_byte, shown_pixel, shown_border, one_strip, accepted_exactly}

-- ==== What each of the two calls leaves.
-- Done, `encode` leaves the file of the border and the frame's pixels, byte for byte.
pub picture_byte : (κs : Lfts 2) (border : ℕ) (frame : Lent) (png : Room) (z : Answer) (out : List ℕ) → Encodes κs border frame png z out → Done z
    → (k : ℕ) → k < file_length → get_or out k 0 ≡ (file border (pixels frame.now)).at k
picture_byte κs border frame png z out p d k h =
    ap (λ (x : List ℕ). get_or x k 0) p.1
    ∙ (each_byte border frame.now png.now (encode-accepted border frame.now png.now (rw p.0 at d))).is k (omega arith) h

-- Done, `decode` leaves the pixels that the file has,
pub pixel_left : (κs : Lfts 2) (png : Lent) (frame : Room) (z : Answer) (out : List ℕ) → Decodes κs png frame z out → Done z → (k : ℕ) → k < frame_length → get_or out k 0 ≡ pixel_read png.now k
pixel_left κs png frame z out p d k h =
    let n = rw p.0 at d in
    ap (λ (x : List ℕ). get_or x k 0) (p.1 ∙ read_done png.now frame.now n)
    ∙ (written_fills (pixel_read png.now) frame_length frame.now (decode-accepted png.now frame.now n).1).is k (omega arith) h

-- and tells the border that it has.
pub border_told : (κs : Lfts 2) (png : Lent) (frame : Room) (z : Answer) (out : List ℕ) → Decodes κs png frame z out → Done z → value z ≡ border_read png.now
unfolding decode_told
border_told κs png frame z out p d =
    ap (λ (t : Told). t.value) (p.0 ∙ done_says (done (border_read png.now)) refl (decode_order png.now frame.now) tt (rw p.0 at d))

-- ==== There and back.
-- An `encode` that is done, then a `decode` of the bytes that it left, into a frame that is long enough: done with the border, and each pixel is the encoded frame's.
pub picture_read : (κs κs' : Lfts 2) (border : ℕ) (frame : Lent) (png : Room) (copy : Lent) (room : Room) (z z' : Answer) (out out' : List ℕ)
    → Encodes κs border frame png z out → Done z → copy.now ≡ take file_length out → frame_length ≤ length room.now → Decodes κs' copy room z' out'
    → Done z' × (value z' ≡ border) × ((k : ℕ) → k < frame_length → get_or out' k 0 ≡ get_or frame.now k 0)
picture_read κs κs' border frame png copy room z z' out out' p d e long q =
    let n = rw p.0 at d in
    let f = e ∙ ap (take file_length) p.1 in
    let t = q.0 ∙ ap (λ (x : List ℕ). decode_told x room.now) f ∙ told_back border frame.now png.now n room.now long in (
      ap (λ (t : Told). t.number) t,
      ap (λ (t : Told). t.value) t,
      λ k h. ap (λ (x : List ℕ). get_or x k 0) (q.1 ∙ ap (λ (x : List ℕ). frame_read x room.now) f) ∙ frame_back border frame.now png.now n room.now long k h,
    )

-- A `decode` that is done, then an `encode` of the border that it told and the frame that it left, with room for a file: done, and the file is the one decoded, byte for byte.
pub read_pictured : (κs κs' : Lfts 2) (png : Lent) (frame : Room) (read : Lent) (room : Room) (z z' : Answer) (out out' : List ℕ)
    → Decodes κs png frame z out → Done z → read.now ≡ out → file_length ≤ length room.now → Encodes κs' (value z) read room z' out'
    → Done z' × (take file_length out' ≡ png.now)
read_pictured κs κs' png frame read room z z' out out' p d e long q =
    let n = rw p.0 at d in
    let b = border_told κs png frame z out p d in
    let f = e ∙ p.1 in (
      ap (λ (t : Told). t.number) (q.0 ∙ ap₂ (λ (c : ℕ) (x : List ℕ). encode_told c x room.now) b f ∙ told_again png.now frame.now n room.now long),
      ap (take file_length) (q.1 ∙ ap₂ (λ (c : ℕ) (x : List ℕ). picture_made c x room.now) b f) ∙ file_again png.now frame.now n room.now long,
    )

-- two calls of `encode` that are done
module _ (κs κs' : Lfts 2) (border border' : ℕ) (frame frame' : Lent) (png png' : Room) (z z' : Answer) (out out' : List ℕ)
    (p : Encodes κs border frame png z out) (q : Encodes κs' border' frame' png' z' out') (d : Done z) (d' : Done z')
  where
    -- Two files that are equal were made of the same border and the same 49,152 pixels,
    pub same_picture : take file_length out ≡ take file_length out' → (border ≡ border') × ((k : ℕ) → k < frame_length → get_or frame.now k 0 ≡ get_or frame'.now k 0)
    same_picture same =
        let n = rw p.0 at d in
        let n' = rw q.0 at d' in
        let e : take file_length (picture_made border frame.now png.now) ≡ take file_length (picture_made border' frame'.now png'.now) = ap (take file_length) (sym p.1) ∙ same ∙ ap (take file_length) q.1 in (
          sym (border_in border frame.now png.now n) ∙ ap border_read e ∙ border_in border' frame'.now png'.now n',
          λ k h. sym (pixel_in border frame.now png.now n k h) ∙ ap (λ (x : List ℕ). pixel_read x k) e ∙ pixel_in border' frame'.now png'.now n' k h,
        )

    -- so another border, or one pixel that differs, gives another file.
    pub pictures_differ : (border ≡ border' → ⊥) ⊎ ((k : ℕ) × (k < frame_length) × (get_or frame.now k 0 ≡ get_or frame'.now k 0 → ⊥)) → take file_length out ≡ take file_length out' → ⊥
    pictures_differ differ same =
        let s = same_picture same in
        ⊎_elim (λ b. b s.0) (λ w. w.2 (s.1 w.0 w.1)) differ

-- ==== What is shown can be copied.
-- a dot is low where what is lit is
dot_low : (on b j : ℕ) → on ≤ 8 → one_bit on black b j ≤ 8
unfolding one_bit
dot_low on b j h = of_both (λ (x : ℕ). x ≤ 8) (eqb (bit b j) 1) h (omega arith)

-- an element of graphics is one of the nine colours
element_low : (l : Look) (b j : ℕ) → element l b j ≤ 8
unfolding element two_bits
element_low l b j = of_both (λ (x : ℕ). x ≤ 8) (eqb (gm0 l) 1) (dot_low (4 * css l) b j (omega arith)) (omega arith)

-- so is what text lights
ink_low : (l : Look) (b : ℕ) → ink l b ≤ 8
unfolding ink
ink_low l b = of_both (λ (x : ℕ). x ≤ 8) (ltb b 128) (omega arith) (omega arith)

-- so is every pixel of a picture, in every mode
picture_low : (l : Look) (font S : List ℕ) (k : ℕ) → picture l font S k ≤ 8
unfolding picture pixel graphic
picture_low l font S k = of_both (λ (x : ℕ). x ≤ 8) (graphics l) (element_low l _ _) (dot_low (ink l _) _ _ (ink_low l _))

-- and so is the border
border_low : (l : Look) → border l ≤ 8
unfolding border
border_low l = of_both (λ (x : ℕ). x ≤ 8) (graphics l) (omega arith) (of_both (λ (x : ℕ). x ≤ 8) (eqb (gm2 l) 0 || eqb (gm1 l) 1) (omega arith) (omega arith))

-- a call of `show` that is done
module _ (κs : Lfts 4) (s : Settings) (image font : Lent) (strip frame : Room) (z : Answer) (bytes screen : List ℕ) (p : Shows κs s image font strip frame z bytes screen) (d : Done z) where
  -- drawing what was fetched is done
  draw_done : (draw_told s.look font.now (strip_after s image.now strip.now) frame.now).number ≡ 0
  draw_done = drawn s image.now font.now strip.now frame.now (rw p.0 at d)

  -- What `show` leaves, `encode` accepts wherever there is room for a file, in text as in graphics: a copy is never refused at its picture.
  pub shown_pictured : (κs' : Lfts 2) (shown : Lent) (png : Room) (z' : Answer) (out : List ℕ) → shown.now ≡ screen → file_length ≤ length png.now → Encodes κs' (value z) shown png z' out → Done z'
  shown_pictured κs' shown png z' out e long q =
      let whole = (draw-accepted s.look font.now (strip_after s image.now strip.now) frame.now draw_done).frame_long in
      let kept = (show_demand κs s image font strip frame z bytes screen p).2.long in
      let fits : Fits (value z) shown.now (length png.now) = record {
        frame_long = rw e (omega (arith, whole, kept));
        colours = λ k h. rw (e, shown_pixel κs s image font strip frame z bytes screen p d k h) (picture_low s.look font.now bytes k);
        border_low = rw (shown_border κs s image font strip frame z bytes screen p d) (border_low s.look);
        file_long = long;
      } in
      ap (λ (t : Told). t.number) (q.0 ∙ accepts (value z) shown.now png.now fits)

  -- ==== The strip out of the file.
  -- the strip's named bytes
  abbrev S : List ℕ
  S = take (strip_length s.look) bytes

  -- they are bytes, since the image's are
  small : Bytes image.now → Bytes S
  small bound k =
      ⊎_elim (λ (h : k < strip_length s.look). rw (get_or-take (strip_length s.look) bytes k 0 h ∙ shown_byte κs s image font strip frame z bytes screen p d k h) (bound _))
      (λ (h : strip_length s.look ≤ k). rw (get_or-eq_default S 0 {n = k} (omega (arith, length-take (strip_length s.look) bytes))) (omega arith))
      (lt_or_ge k (strip_length s.look))

  -- In graphics: what was shown, made a picture, read and read back with the same pins into a strip that is long enough gives each byte of the strip that was shown.
  pub file_gives_strip : (κe κd κb : Lfts 2) (shown : Lent) (png : Room) (copy : Lent) (room : Room) (read : Lent) (again : Room) (z₁ z₂ z₃ : Answer) (out out' back : List ℕ)
      → graphics s.look ≡ true → Bytes image.now
      → shown.now ≡ screen → Encodes κe (value z) shown png z₁ out → Done z₁
      → copy.now ≡ take file_length out → frame_length ≤ length room.now → Decodes κd copy room z₂ out'
      → read.now ≡ out' → strip_length s.look ≤ length again.now → ReadsBack κb s.look read again z₃ back
      → Done z₂ × Done z₃ × ((i : ℕ) → i < strip_length s.look → get_or back i 0 ≡ get_or bytes i 0)
  file_gives_strip κe κd κb shown png copy room read again z₁ z₂ z₃ out out' back g bound e₁ q₁ d₁ e₂ long q₂ e₃ wide q₃ =
      let r = picture_read κe κd (value z) shown png copy room z₁ z₂ out out' q₁ d₁ e₂ long q₂ in
      let draws : DrawnBy s.look font.now S read.now = λ k h.
      ap (λ (x : List ℕ). get_or x k 0) e₃
      ∙ r.2 k h
      ∙ ap (λ (x : List ℕ). get_or x k 0) e₁
      ∙ shown_pixel κs s image font strip frame z bytes screen p d k h
      ∙ depends s.look font.now bytes S k (sym (get_or-take (strip_length s.look) bytes _ 0 (owner_below s.look k h))) in
      let kept = (decode_demand κd copy room z₂ out' q₂).1.long in
      let lengths : (first_of (back_lengths s.look (length again.now) (length read.now)) (done (strip_length s.look))).number ≡ 0 =
      (done_when (done (strip_length s.look)) refl (back_lengths s.look (length again.now) (length read.now)) tt).1 (
        le-ltb _ _ (accepted_pins s.look font.now (strip_after s image.now strip.now) frame.now draw_done),
        (simp g, (le-ltb _ _ wide, (le-ltb (length read.now) frame_length (rw e₃ (omega (arith, kept, long))), tt))),
      ) in
      let d₃ = (accepted_exactly κb s.look font.now read again z₃ back q₃ g lengths).1 (S, small bound, draws) in (
        r.0,
        d₃,
        λ i h. one_strip κb s.look font.now read again z₃ back q₃ d₃ S (small bound) draws i h ∙ get_or-take (strip_length s.look) bytes i 0 h,
      )
