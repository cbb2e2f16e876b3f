-- Reading back, done or refused: what is then known, what is told, and what the strip is.
use Prim.Native.Nat.{ℕ, ◌*◌, ◌≤◌, ◌<◌}
use mathlib.Core.Path.{◌≡◌, refl, sym, ap, ◌∙◌}
use mathlib.Core.Bool.{true}
use mathlib.Core.List.{List, [], ◌∷◌}
use native.Mathlib.Omega.{arith}
use lib.ListN.{length, get_or}
use borrow.Author.Tests.{lt-ltb, le-ltb, ltb-false, not-false}
use Rattle.promises.specs.Told.{Told, told, done}
use Rattle.promises.specs.Order.{first_of}
use Rattle.promises.specs.Written.{written}
use Rattle.promises.proofs.Fills.{leaves_done, leaves_refused}
use Rattle.promises.proofs.Orders.{done_when, passing}
use Rattle.promises.proofs.Later.{first_refuses, first_passes, first_done}
use Rattle.settings.specs.declared.Look.{Look}
use Rattle.settings.specs.Fields.{graphics}
use Rattle.settings.specs.Modes.{width}
use Rattle.settings.specs.Refusals.{strip_length, frame_length}
use Rattle.frame.specs.Draw.{frame_after}
use Rattle.frame.proofs.Draws.{accepts_graphics, frame_done}
use Rattle.back.specs.Read.{read_byte}
use Rattle.back.specs.Stray.{first_stray}
use Rattle.back.specs.Back.{back_lengths, back_pixels, back_order, back_told, strip_back, BackFits}
use Rattle.back.proofs.RoundTrip.{written_draws, drawn_clean, none_stray}

-- a frame that is like a drawing has no stray pixel
pub drawing_clean : (l : Look) (font S f P old : List ℕ) → l.pins ≤ 63 → graphics l ≡ true → 192 * width l ≤ length S → frame_length ≤ length old
    → P ≡ frame_after l font S old → ((k : ℕ) → k < frame_length → get_or f k 0 ≡ get_or P k 0) → first_stray l f ≡ frame_length
drawing_clean l font S f P old p g s o e same =
    drawn_clean l g font S f (λ k h.
    same k h
    ∙ ap (λ (x : List ℕ). get_or x k 0) (e ∙ frame_done l font S old (accepts_graphics l font S old p g s o))
    ∙ written_draws l font S old o k h)

-- what is told of the lengths alone, and of the pixels alone
abbrev pub back_length_told : Look → ℕ → ℕ → Told
back_length_told look strip frame = first_of (back_lengths look strip frame) (done (strip_length look))

abbrev pub pixel_told : Look → List ℕ → Told
pixel_told look frame = first_of (back_pixels look frame) (done (strip_length look))

-- where no length is refused, all fits
pub lengths_fit : (look : Look) (strip frame : ℕ) → (back_length_told look strip frame).number ≡ 0 → BackFits look strip frame
lengths_fit look strip frame e =
    let n = passing (1 ∷ 3 ∷ 7 ∷ 8 ∷ []) (back_lengths look strip frame) ((done_when (done (strip_length look)) refl (back_lengths look strip frame) tt).0 e) in
    record {
      pins_low = ltb-false _ _ n.0;
      in_graphics = not-false _ n.1.0;
      strip_long = ltb-false _ _ n.1.1.0;
      frame_long = ltb-false _ _ n.1.1.1.0;
    }

module _ (look : Look) (frame strip : List ℕ) where
  -- where no length is refused, what is told of the pixels
  pub told_passed : (back_length_told look (length strip) (length frame)).number ≡ 0 → back_told look frame strip ≡ pixel_told look frame
  unfolding back_told
  told_passed h = first_passes (done (strip_length look)) refl (back_lengths look (length strip) (length frame)) (back_pixels look frame) tt h

  -- where reading back is done, all fits and no pixel is stray, and conversely
  pub back_accepted : (back_told look frame strip).number ≡ 0 → BackFits look (length strip) (length frame) × (first_stray look frame ≡ frame_length)
  unfolding back_told back_pixels
  back_accepted e = (
    lengths_fit look (length strip) (length frame) (first_done (done (strip_length look)) refl (back_lengths look (length strip) (length frame)) (back_pixels look frame) e),
    none_stray look frame (ltb-false _ _ (passing (9 ∷ []) (back_order look frame strip) ((done_when (done (strip_length look)) refl (back_order look frame strip) tt).0 e)).0),
  )

  pub back_accepts : BackFits look (length strip) (length frame) → first_stray look frame ≡ frame_length → (back_told look frame strip).number ≡ 0
  unfolding back_told back_pixels
  back_accepts f e =
      (done_when (done (strip_length look)) refl (back_order look frame strip) tt).1
      (le-ltb _ _ f.pins_low, (simp f.in_graphics, (le-ltb _ _ f.strip_long, (le-ltb _ _ f.frame_long, (le-ltb (first_stray look frame) frame_length (omega arith), tt)))))

  -- the strip then holds what is read, or is as it was
  pub strip_done : (back_told look frame strip).number ≡ 0 → strip_back look frame strip ≡ written (read_byte look frame) (strip_length look) strip
  unfolding strip_back
  strip_done e = leaves_done (back_told look frame strip) _ strip e

  pub strip_kept : ((back_told look frame strip).number ≡ 0 → ⊥) → strip_back look frame strip ≡ strip
  unfolding strip_back
  strip_kept h = leaves_refused (back_told look frame strip) _ strip h

  -- where a length is refused, that is told, and the strip stays
  pub length_refused : {t : Told} → t ≡ back_length_told look (length strip) (length frame) → (t.number ≡ 0 → ⊥) → (t ≡ back_told look frame strip) × (strip ≡ strip_back look frame strip)
  unfolding back_told
  length_refused {t} told h =
      let e : t ≡ back_told look frame strip = told ∙ sym (first_refuses (done (strip_length look)) refl (back_lengths look (length strip) (length frame)) (back_pixels look frame) (λ z. h (rw told z))) in
      (e, sym (strip_kept (λ z. h (rw e z))))

  -- what is told and left by the first stray pixel, where no length is refused
  module _ (lengths : (back_length_told look (length strip) (length frame)).number ≡ 0) where
    pub told_stray : first_stray look frame < frame_length → (told 9 (first_stray look frame) 0 ≡ back_told look frame strip) × (strip ≡ strip_back look frame strip)
    unfolding back_pixels
    told_stray l =
        let e : back_told look frame strip ≡ told 9 (first_stray look frame) 0 = told_passed lengths ∙ simp (lt-ltb _ _ l) in
        (sym e, sym (strip_kept (λ z. let q : ◌≡◌ {A = ℕ} 9 0 = ap (λ (t : Told). t.number) (sym e) ∙ z in omega arith)))

    pub told_clean : {new : List ℕ} → frame_length ≤ first_stray look frame → new ≡ written (read_byte look frame) (strip_length look) strip
        → (done (strip_length look) ≡ back_told look frame strip) × (new ≡ strip_back look frame strip)
    unfolding back_pixels
    told_clean l f =
        let e : back_told look frame strip ≡ done (strip_length look) = told_passed lengths ∙ simp (le-ltb _ _ l) in
        (sym e, f ∙ sym (strip_done (ap (λ (t : Told). t.number) e)))
