-- `back::take` stores what it gathered where no pixel is stray.
use Rattle.std.proofs.Common.{ℕ, ◌≡◌, ◌≤◌, ◌<◌, zero-le, List, length, get_or, min, sym, ap, ◌∙◌, arith}
use lib.ListN.{length-replicate}
use Rattle.promises.specs.Told.{told, done}
use Rattle.promises.specs.Written.{written}
use Rattle.settings.specs.declared.Look.{Look}
use Rattle.settings.specs.Refusals.{strip_length, frame_length}
use Rattle.settings.proofs.Widths.{width_le}
use Rattle.buffer.proofs.Stores.{stored}
use Rattle.back.specs.Back.{BackFits, back_told, strip_back}
use Rattle.back.specs.Read.{read_byte}
use Rattle.back.specs.Stray.{first_stray}
use Rattle.back.proofs.Backs.{back_length_told, lengths_fit, told_stray, told_clean}
use Rattle.back.proofs.take.Goals as goal

module _ (look : Look) (frame strip : List ℕ) (no : (back_length_told look (length strip) (length frame)).number ≡ 0) where
  fits : BackFits look (length strip) (length frame)
  fits = lengths_fit look (length strip) (length frame) no

  -- a stray pixel
  strayed : {k : ℕ} → (first_stray look frame ≡ k) × (k < frame_length) → (told 9 k 0 ≡ back_told look frame strip) × (strip ≡ strip_back look frame strip)
  strayed {k} h = let t = told_stray look frame strip no (rw h.0 h.1) in (ap (λ (p : ℕ). told 9 p 0) (sym h.0) ∙ t.0, t.1)

  -- none, and what was gathered is stored
  clean : {n : ℕ} (bytes : List ℕ) {new : List ℕ} → first_stray look frame ≡ frame_length → n ≡ strip_length look → strip_length look ≤ length bytes
      → ((i : ℕ) → i < strip_length look → get_or bytes i 0 ≡ read_byte look frame i)
      → new ≡ written (λ (i : ℕ). get_or bytes i 0) (min n (min (length bytes) (length strip))) strip
      → (done n ≡ back_told look frame strip) × (new ≡ strip_back look frame strip)
  clean bytes e m long each p =
      let t = told_clean look frame strip no (omega (arith, e)) (stored (read_byte look frame) (strip_length look) bytes strip m long fits.strip_long each p) in
      (ap done m ∙ t.0, t.1)

pub gather-requires : goal.gather-requires
gather-requires c =
    let f = fits c.args.look c.args.frame.now c.args.strip.now c.requires in
    (f.in_graphics, f.frame_long, omega (arith, width_le c.args.look))

pub first_stray-requires : goal.first_stray-requires
first_stray-requires c =
    let f = fits c.args.look c.args.frame.now c.args.strip.now c.requires in
    (f.pins_low, f.in_graphics, omega (arith, c.gather.ensures.long, length-replicate {A = ℕ} 6144 0, width_le c.args.look), f.frame_long)

pub returns-in-Some-clause-answer : goal.returns-in-Some-clause-answer
returns-in-Some-clause-answer c = (strayed c.args.look c.args.frame.now c.args.strip.now c.requires c.in-Some.ensures).0

pub returns-in-Some-clause-stored : goal.returns-in-Some-clause-stored
returns-in-Some-clause-stored c = (strayed c.args.look c.args.frame.now c.args.strip.now c.requires c.in-Some.ensures).1

pub returns-clause-answer : goal.returns-clause-answer
returns-clause-answer c =
    (clean c.args.look c.args.frame.now c.args.strip.now c.requires c.gather.new.strip c.in_default.ensures c.strip_length-length.ensures
    (omega (arith, c.gather.ensures.long, length-replicate {A = ℕ} 6144 0, width_le c.args.look)) (λ i h. c.gather.ensures.is i zero-le h) c.store.ensures).0

pub returns-clause-stored : goal.returns-clause-stored
returns-clause-stored c =
    (clean c.args.look c.args.frame.now c.args.strip.now c.requires c.gather.new.strip c.in_default.ensures c.strip_length-length.ensures
    (omega (arith, c.gather.ensures.long, length-replicate {A = ℕ} 6144 0, width_le c.args.look)) (λ i h. c.gather.ensures.is i zero-le h) c.store.ensures).1
