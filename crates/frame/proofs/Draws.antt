-- Drawing, done or refused: what is then known of the lengths, what is told, and what the frame is.
use Prim.Native.Nat.{ℕ, ◌<◌, ◌≤◌}
use mathlib.Core.Path.{◌≡◌, refl, sym, ap, ◌∙◌}
use mathlib.Core.Bool.{Bool, true, false, not, ◌&&◌}
use mathlib.Core.List.{List, [], ◌∷◌}
use native.Mathlib.Omega.{arith}
use lib.Dec.{eqb}
use lib.ListN.{length, get_or}
use borrow.Author.Tests.{le-ltb, lt-leb, eqb-true, ltb-false}
use Rattle.promises.specs.Told.{Told, done}
use Rattle.promises.specs.Order.{Check, first_of, NoneHolds}
use Rattle.promises.specs.Written.{written, Filled}
use Rattle.promises.proofs.Fills.{written_by, filled_written, leaves_done, leaves_refused}
use Rattle.promises.proofs.Orders.{done_when, done_says, passing}
use Rattle.promises.proofs.Later.{first_passes, first_done}
use Rattle.settings.specs.declared.Look.{Look}
use Rattle.settings.specs.Fields.{graphics, external}
use Rattle.settings.specs.Modes.{border, font_size}
use Rattle.settings.specs.Refusals.{strip_length, frame_length}
use Rattle.pixel.specs.Picture.{owner, picture}
use Rattle.pixel.proofs.Owners.{depends, owner_below}
use Rattle.valid.specs.Valid.{first_not_valid}
use Rattle.valid.proofs.Valids.{not_external, all_low, same_not_valid}
use Rattle.frame.specs.Draw.{draw_lengths, draw_bytes, draw_order, draw_told, frame_after, DrawFits}

-- in text, with the wrong length ruled out, the length is right
right_length : (g a : Bool) → g ≡ false → (not g && not a) ≡ false → a ≡ true
right_length false true h e = refl
right_length false false h e = let z : ◌≡◌ {A = ℕ} 0 1 = cc in absurd (omega arith)
right_length true a h e = let z : ◌≡◌ {A = ℕ} 0 1 = cc in absurd (omega arith)

-- what is told of the lengths alone
abbrev pub draw_length_told : Look → ℕ → ℕ → ℕ → Told
draw_length_told look font strip frame = first_of (draw_lengths look font strip frame) (done (border look))

module _ (look : Look) (font strip frame : ℕ) where
  -- where no length is refused, everything fits
  pub lengths_fit : (draw_length_told look font strip frame).number ≡ 0 → DrawFits look font strip frame
  lengths_fit e =
      let n = passing (6 ∷ 7 ∷ 8 ∷ []) (draw_lengths look font strip frame) ((done_when (done (border look)) refl (draw_lengths look font strip frame) tt).0 e) in
      record {
        font_whole = λ g. eqb-true _ _ (right_length (graphics look) (eqb font (font_size look)) g n.0);
        strip_long = ltb-false _ _ n.1.0;
        frame_long = ltb-false _ _ n.1.1.0;
      }

  -- in graphics none is refused wherever strip and frame are long enough
  pub fits_graphics : look.pins ≤ 63 → graphics look ≡ true → strip_length look ≤ strip → frame_length ≤ frame → (draw_length_told look font strip frame).number ≡ 0
  fits_graphics p g s f =
      (done_when (done (border look)) refl (draw_lengths look font strip frame) tt).1
      (le-ltb _ _ p, (simp g, (le-ltb _ _ s, (le-ltb _ _ f, tt))))

-- bytes that are alike are refused alike
pub same_bytes : (look : Look) (f g : ℕ → ℕ) → ((k : ℕ) → k < strip_length look → f k ≡ g k) → draw_bytes look f ≡ draw_bytes look g
same_bytes look f g e = rw (same_not_valid look f g e)

-- and none is refused but in external text, nor where all are below 128
bytes_by : (look : Look) (byte : ℕ → ℕ) → first_not_valid look byte ≡ strip_length look → NoneHolds (draw_bytes look byte)
bytes_by look byte e = (le-ltb (first_not_valid look byte) (strip_length look) (omega arith), tt)

pub bytes_internal : (look : Look) (byte : ℕ → ℕ) → external look ≡ false → NoneHolds (draw_bytes look byte)
bytes_internal look byte e = bytes_by look byte (not_external look byte e)

pub bytes_low : (look : Look) (byte : ℕ → ℕ) → ((k : ℕ) → k < strip_length look → byte k < 128) → NoneHolds (draw_bytes look byte)
bytes_low look byte h = bytes_by look byte (all_low look byte (λ k l. lt-leb 128 (byte k) (h k l)))

module _ (look : Look) (font strip frame : List ℕ) where
  -- where no length is refused, what is told of the bytes
  pub told_passed : (byte : ℕ → ℕ) → (draw_length_told look (length font) (length strip) (length frame)).number ≡ 0 → ((k : ℕ) → k < strip_length look → get_or strip k 0 ≡ byte k)
      → draw_told look font strip frame ≡ first_of (draw_bytes look byte) (done (border look))
  unfolding draw_told
  told_passed byte h e =
      first_passes (done (border look)) refl (draw_lengths look (length font) (length strip) (length frame)) (draw_bytes look (λ (k : ℕ). get_or strip k 0)) tt h
      ∙ ap (λ (cs : List Check). first_of cs (done (border look))) (same_bytes look (λ (k : ℕ). get_or strip k 0) byte e)

  -- where drawing is done, everything fits, and the border is told
  pub accepted : (draw_told look font strip frame).number ≡ 0 → DrawFits look (length font) (length strip) (length frame)
  unfolding draw_told
  accepted e =
      lengths_fit look (length font) (length strip) (length frame)
      (first_done (done (border look)) refl (draw_lengths look (length font) (length strip) (length frame)) (draw_bytes look (λ (k : ℕ). get_or strip k 0)) e)

  pub accepted_pins : (draw_told look font strip frame).number ≡ 0 → look.pins ≤ 63
  unfolding draw_told
  accepted_pins e = ltb-false _ _ (passing (1 ∷ []) (draw_order look font strip frame) ((done_when (done (border look)) refl (draw_order look font strip frame) tt).0 e)).0

  pub told_done : (draw_told look font strip frame).number ≡ 0 → draw_told look font strip frame ≡ done (border look)
  unfolding draw_told
  told_done e = done_says (done (border look)) refl (draw_order look font strip frame) tt e

  -- in graphics it is done wherever strip and frame are long enough
  pub accepts_graphics : look.pins ≤ 63 → graphics look ≡ true → strip_length look ≤ length strip → frame_length ≤ length frame → (draw_told look font strip frame).number ≡ 0
  accepts_graphics p g s f =
      let byte : ℕ → ℕ = λ k. get_or strip k 0 in
      ap (λ (t : Told). t.number) (told_passed byte (fits_graphics look (length font) (length strip) (length frame) p g s f) (λ k h. refl))
      ∙ (done_when (done (border look)) refl (draw_bytes look byte) tt).1 (bytes_internal look byte (rw g))

  -- the frame then holds the picture; a refusal leaves it as it was
  pub frame_done : (draw_told look font strip frame).number ≡ 0 → frame_after look font strip frame ≡ written (picture look font strip) frame_length frame
  unfolding frame_after
  frame_done e = leaves_done (draw_told look font strip frame) _ frame e

  pub frame_refused : ((draw_told look font strip frame).number ≡ 0 → ⊥) → frame_after look font strip frame ≡ frame
  unfolding frame_after
  frame_refused h = leaves_refused (draw_told look font strip frame) _ frame h

  -- where the order refuses, that is told, and the frame stays
  module _ {t : Told} (told : t ≡ first_of (draw_order look font strip frame) (done (border look))) where
    as_told : t ≡ draw_told look font strip frame
    unfolding draw_told
    as_told = told

    pub kept : (t.number ≡ 0 → ⊥) → (t ≡ draw_told look font strip frame) × (frame ≡ frame_after look font strip frame)
    kept h = (as_told, sym (frame_refused (λ z. h (rw as_told z))))

    -- and where it does not, everything fits, and it is done with the picture
    pub all_fits : t.number ≡ 0 → DrawFits look (length font) (length strip) (length frame)
    all_fits z = accepted (rw as_told at z)

    pub all_drawn : {new : List ℕ} → t.number ≡ 0 → Filled (picture look font strip) 0 frame_length frame new → (t ≡ draw_told look font strip frame) × (new ≡ frame_after look font strip frame)
    all_drawn z f = (as_told, filled_written (all_fits z).frame_long f ∙ sym (frame_done (rw as_told at z)))

-- only the 192 × W bytes of a strip are drawn
pub same_frame : (look : Look) (font S R frame : List ℕ) → (draw_told look font S frame).number ≡ 0 → (draw_told look font R frame).number ≡ 0
    → ((k : ℕ) → k < strip_length look → get_or S k 0 ≡ get_or R k 0) → frame_after look font S frame ≡ frame_after look font R frame
same_frame look font S R frame d e h =
    frame_done look font S frame d
    ∙ written_by frame_length frame (λ k l. depends look font S R k (h (owner look k) (owner_below look k l)))
    ∙ sym (frame_done look font R frame e)
