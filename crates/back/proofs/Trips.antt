-- The round trip in the words of the two contracts: what drawing leaves is read back, and what is read back is drawn.
use Prim.Native.Nat.{ℕ, ◌*◌, ◌≤◌, ◌<◌}
use mathlib.Core.Path.{◌≡◌, sym, ap, ◌∙◌}
use mathlib.Core.Bool.{true}
use mathlib.Core.List.{List}
use native.Mathlib.Omega.{arith}
use lib.ListN.{length, get_or}
use Rattle.promises.specs.Written.{Bytes, written}
use Rattle.promises.proofs.Fills.{length_written}
use Rattle.settings.specs.declared.Look.{Look}
use Rattle.settings.specs.Fields.{graphics}
use Rattle.settings.specs.Modes.{width}
use Rattle.settings.specs.Refusals.{frame_length}
use Rattle.pixel.specs.Picture.{picture}
use Rattle.frame.specs.Draw.{draw_told, frame_after}
use Rattle.frame.proofs.Draws.{accepted, accepted_pins, accepts_graphics, frame_done}
use Rattle.back.specs.Read.{read_byte}
use Rattle.back.specs.Back.{back_told, strip_back}
use Rattle.back.proofs.Backs.{back_accepted, back_accepts, strip_done}
use Rattle.back.proofs.RoundTrip.{Draws, Reads, written_draws, written_reads, drawn_read, drawn_clean, clean_drawn}

-- a frame drawn from a strip is read back, and gives that strip
module _ (l : Look) (g : graphics l ≡ true) (font S frame strip : List ℕ) (done : (draw_told l font S frame).number ≡ 0) (room : 192 * width l ≤ length strip) where
  drawn : frame_after l font S frame ≡ written (picture l font S) frame_length frame
  drawn = frame_done l font S frame done

  draws : Draws l font S (frame_after l font S frame)
  draws = rw drawn (written_draws l font S frame (accepted l font S frame done).frame_long)

  pub drawn_is_read : (back_told l (frame_after l font S frame) strip).number ≡ 0
  drawn_is_read =
      let long : length (frame_after l font S frame) ≡ length frame = ap (λ (x : List ℕ). length x) drawn ∙ length_written (picture l font S) frame_length frame in
      back_accepts l (frame_after l font S frame) strip
      (record {
        pins_low = accepted_pins l font S frame done;
        in_graphics = g;
        strip_long = room;
        frame_long = omega (arith, long, (accepted l font S frame done).frame_long);
      })
      (drawn_clean l g font S (frame_after l font S frame) draws)

  pub read_as_drawn : Bytes S → (i : ℕ) → i < 192 * width l → get_or (strip_back l (frame_after l font S frame) strip) i 0 ≡ get_or S i 0
  read_as_drawn bytes i h =
      rw (strip_done l (frame_after l font S frame) strip drawn_is_read)
      (written_reads l (frame_after l font S frame) strip room i h ∙ sym (drawn_read l g font S (frame_after l font S frame) draws bytes i h))

-- a strip read off a frame is drawn, and gives that frame
module _ (l : Look) (font frame f strip : List ℕ) (done : (back_told l f strip).number ≡ 0) (room : frame_length ≤ length frame) where
  abbrev S : List ℕ
  S = strip_back l f strip

  stored : S ≡ written (read_byte l f) (192 * width l) strip
  stored = strip_done l f strip done

  reads : Reads l f S
  reads = rw stored (written_reads l f strip (back_accepted l f strip done).0.strip_long)

  pub read_is_drawn : (draw_told l font S frame).number ≡ 0
  read_is_drawn =
      let a = (back_accepted l f strip done).0 in
      let long : length S ≡ length strip = ap (λ (x : List ℕ). length x) stored ∙ length_written (read_byte l f) (192 * width l) strip in
      accepts_graphics l font S frame a.pins_low a.in_graphics (omega (arith, long, a.strip_long)) room

  pub drawn_as_read : (k : ℕ) → k < frame_length → get_or (frame_after l font S frame) k 0 ≡ get_or f k 0
  drawn_as_read k h =
      rw (frame_done l font S frame read_is_drawn)
      (written_draws l font S frame room k h ∙ sym (clean_drawn l (back_accepted l f strip done).0.in_graphics font f S (back_accepted l f strip done).1 reads k h))
