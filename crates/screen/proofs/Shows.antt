-- Laws of what both at once answers and leaves.
use Prim.Native.Nat.{ℕ, ◌<◌, ◌≤◌}
use mathlib.Core.Path.{◌≡◌, refl, sym, ap, ap₂, ◌∙◌}
use mathlib.Core.List.{List, [], ◌∷◌, ◌++◌}
use lib.ListN.{length, get_or}
use borrow.Author.Tests.{le-ltb, ltb-false}
use Rattle.promises.specs.Told.{Told, done}
use Rattle.promises.specs.Order.{Check, first_of, NoneHolds}
use Rattle.promises.specs.Written.{written, leaves}
use Rattle.promises.proofs.Fills.{leaves_done, leaves_refused}
use Rattle.promises.proofs.Orders.{done_when, passing, instead_passes}
use Rattle.promises.proofs.Later.{first_refuses, first_passes, first_done}
use Rattle.settings.specs.declared.Settings.{Settings}
use Rattle.settings.specs.Modes.{border}
use Rattle.settings.specs.Refusals.{strip_length, short_strip}
use Rattle.strip.specs.Fetch.{fetched_byte, fetch_order, fetch_told, strip_after, Fetched}
use Rattle.strip.proofs.Fetches.{strip_done, strip_same_length}
use Rattle.strip.proofs.Windows.{strip_byte, same_fetched, same_strip}
use Rattle.frame.specs.Draw.{draw_lengths, draw_told, frame_after}
use Rattle.frame.proofs.Draws.{draw_length_told, same_bytes, told_passed, frame_refused, same_frame}
use Rattle.screen.specs.Show.{show_lengths, show_fetched, show_told, strip_shown, frame_shown}

-- what is told of the lengths alone
abbrev pub show_length_told : Settings → ℕ → ℕ → ℕ → ℕ → Told
show_length_told s image font strip frame = first_of (show_lengths s image font strip frame) (done (border s.look))

module _ (s : Settings) (image font strip frame : List ℕ) where
  abbrev lengths : Told
  lengths = show_length_told s (length image) (length font) (length strip) (length frame)

  abbrev number : ℕ
  number = (show_told s image font strip frame).number

  -- both buffers where it is done, and where it is refused
  pub shown_done : number ≡ 0 → (strip_shown s image font strip frame ≡ strip_after s image strip) × (frame_shown s image font strip frame ≡ frame_after s.look font (strip_after s image strip) frame)
  unfolding strip_shown frame_shown
  shown_done e = (leaves_done (show_told s image font strip frame) _ strip e, leaves_done (show_told s image font strip frame) _ frame e)

  pub shown_refused : (number ≡ 0 → ⊥) → (strip_shown s image font strip frame ≡ strip) × (frame_shown s image font strip frame ≡ frame)
  unfolding strip_shown frame_shown
  shown_refused h = (leaves_refused (show_told s image font strip frame) _ strip h, leaves_refused (show_told s image font strip frame) _ frame h)

  -- where a length is refused, that is told, and both buffers stay
  pub length_refused : {t : Told} → t ≡ lengths → (t.number ≡ 0 → ⊥)
      → (t ≡ show_told s image font strip frame) × ((strip ≡ strip_shown s image font strip frame) × (frame ≡ frame_shown s image font strip frame))
  unfolding show_told
  length_refused {t} told h =
      let e : t ≡ show_told s image font strip frame = told ∙ sym (first_refuses (done (border s.look)) refl (show_lengths s (length image) (length font) (length strip) (length frame)) (show_fetched s image) (λ z. h (rw told z))) in
      let k = shown_refused (λ z. h (rw e z)) in
      (e, (sym k.0, sym k.1))

  -- where the whole is done, no length is refused
  pub lengths_done : number ≡ 0 → lengths.number ≡ 0
  unfolding show_told
  lengths_done e = first_done (done (border s.look)) refl (show_lengths s (length image) (length font) (length strip) (length frame)) (show_fetched s image) e

  -- where no length is refused, what is told is what is told of what is fetched
  pub told_fetched : lengths.number ≡ 0 → show_told s image font strip frame ≡ first_of (show_fetched s image) (done (border s.look))
  unfolding show_told
  told_fetched h = first_passes (done (border s.look)) refl (show_lengths s (length image) (length font) (length strip) (length frame)) (show_fetched s image) tt h

  -- where no length is refused, and a room is long enough for a strip: what fetching leaves there, and what drawing that tells
  module _ (h : lengths.number ≡ 0) where
    none : NoneHolds (show_lengths s (length image) (length font) (length strip) (length frame))
    none = (done_when (done (border s.look)) refl (show_lengths s (length image) (length font) (length strip) (length frame)) tt).0 h

    pub strip_long : strip_length s.look ≤ length strip
    strip_long = ltb-false _ _ (passing (7 ∷ []) (show_lengths s (length image) (length font) (length strip) (length frame)) none).0

    module _ (room : List ℕ) (long : strip_length s.look ≤ length room) where
      there : NoneHolds (show_lengths s (length image) (length font) (length room) (length frame))
      there = instead_passes (short_strip s.look (length room)) (show_lengths s (length image) (length font) (length strip) (length frame)) (le-ltb _ _ long) none

      pub fetch_done : (fetch_told s image room).number ≡ 0
      unfolding fetch_told
      fetch_done =
          (done_when (done (strip_length s.look)) refl (fetch_order s (length image) (length room)) tt).1
          (passing (1 ∷ 4 ∷ 5 ∷ 16 ∷ 7 ∷ 17 ∷ []) (show_lengths s (length image) (length font) (length room) (length frame)) there)

      pub fetched_byte_lem : (k : ℕ) → k < strip_length s.look → get_or (strip_after s image room) k 0 ≡ fetched_byte s image k
      fetched_byte_lem = strip_byte s image room fetch_done

      draw_fits : (draw_length_told s.look (length font) (length (strip_after s image room)) (length frame)).number ≡ 0
      draw_fits =
          rw (strip_same_length s image room)
          ((done_when (done (border s.look)) refl (draw_lengths s.look (length font) (length room) (length frame)) tt).1
          (passing (1 ∷ 6 ∷ 7 ∷ 8 ∷ []) (show_lengths s (length image) (length font) (length room) (length frame)) there))

      pub draw_told_lem : draw_told s.look font (strip_after s image room) frame ≡ show_told s image font strip frame
      draw_told_lem = told_passed s.look font (strip_after s image room) frame (fetched_byte s image) draw_fits fetched_byte_lem ∙ sym (told_fetched h)

    -- what is told and left by drawing what was fetched there, where it is then stored and where it is not
    module _ (room : List ℕ) (long : strip_length s.look ≤ length room) {t : Told} {bytes pixels : List ℕ}
        (left : bytes ≡ strip_after s image room) (told : t ≡ draw_told s.look font bytes frame) (pictured : pixels ≡ frame_after s.look font bytes frame)
      where
        as_shown : t ≡ show_told s image font strip frame
        as_shown = rw left at told ∙ draw_told_lem room long

        pub shown_stored : {new : List ℕ} → t.number ≡ 0 → new ≡ written (fetched_byte s image) (strip_length s.look) strip
            → (t ≡ show_told s image font strip frame) × ((new ≡ strip_shown s image font strip frame) × (pixels ≡ frame_shown s image font strip frame))
        shown_stored d f =
            let e = rw as_shown at d in
            let k = shown_done e in (
              as_shown,
              (
                f ∙ sym (strip_done s image strip (fetch_done strip strip_long)) ∙ sym k.0,
                rw left at pictured
                    ∙ same_frame s.look font (strip_after s image room) (strip_after s image strip) frame (rw (draw_told_lem room long) e) (rw (draw_told_lem strip strip_long) e) (λ j l. fetched_byte_lem room long j l ∙ sym (fetched_byte_lem strip strip_long j l))
                    ∙ sym k.1,
              ),
            )

        pub shown_kept : (t.number ≡ 0 → ⊥)
            → (t ≡ show_told s image font strip frame) × ((strip ≡ strip_shown s image font strip frame) × (pixels ≡ frame_shown s image font strip frame))
        shown_kept d =
            let k = shown_refused (λ z. d (rw as_shown z)) in
            (as_shown, (sym k.0, pictured ∙ frame_refused s.look font bytes frame (λ z. d (rw told z)) ∙ sym k.1))

  -- so where the whole is done, fetching is done and drawing what was fetched is done
  pub fetched : number ≡ 0 → (fetch_told s image strip).number ≡ 0
  fetched e = let h = lengths_done e in fetch_done h strip (strip_long h)

  pub drawn : number ≡ 0 → (draw_told s.look font (strip_after s image strip) frame).number ≡ 0
  drawn e = let h = lengths_done e in ap (λ (t : Told). t.number) (draw_told_lem h strip (strip_long h)) ∙ e

-- images of one length that agree at the fetched places: what is told and left by one is told and left by the other
module _ (s : Settings) (image other font strip frame : List ℕ) (long : length image ≡ length other)
    (agree : (p : ℕ) → Fetched s p → get_or image p 0 ≡ get_or other p 0)
  where
    same_fetched_checks : show_fetched s image ≡ show_fetched s other
    same_fetched_checks = same_bytes s.look (fetched_byte s image) (fetched_byte s other) (same_fetched s image other strip long agree)

    pub same_shown : (show_told s image font strip frame ≡ show_told s other font strip frame)
        × (strip_shown s image font strip frame ≡ strip_shown s other font strip frame)
        × (frame_shown s image font strip frame ≡ frame_shown s other font strip frame)
    unfolding show_told strip_shown frame_shown
    same_shown =
        let t : show_told s image font strip frame ≡ show_told s other font strip frame =
        ap₂ (λ (n : ℕ) (cs : List Check). first_of (show_lengths s n (length font) (length strip) (length frame) ++ cs) (done (border s.look))) long same_fetched_checks in
        let e = same_strip s image other strip long agree in
        (t, ap₂ (λ (x : Told) (y : List ℕ). leaves x y strip) t e, ap₂ (λ (x : Told) (y : List ℕ). leaves x (frame_after s.look font y frame) frame) t e)
