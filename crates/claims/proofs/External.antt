-- CR 5. "With A/G = 0 and INT/EXT = 1 a byte below 128 shows that pattern by its whole number; colours and inverting are as in internal text
-- with GM0 = 0. Document 000 calls a byte of 128 or more in this setting not valid. The report names the mode EXT. Refusals: 2 is no longer
-- given; 6 asks for 3,072 here; 15, with the strip index, for the first byte of 128 or more, checked last by drawing and by both at once,
-- never by fetching alone." What it says of demand 3 is in Demand3.antt.
use Prim.Native.Nat.{ℕ, ◌+◌, ◌*◌, ◌/◌, ◌%◌, ◌<◌, ◌≤◌}
use mathlib.Core.Path.{◌≡◌, refl, sym, ◌∙◌}
use mathlib.Core.Bool.{Bool, true, false, not, ◌&&◌}
use mathlib.Core.List.{List, [], ◌∷◌}
use mathlib.Core.Logic.{◌↔◌, inl, inr, ⊎_elim}
use native.Mathlib.Omega.{arith}
use contract.Lifetimes.{Lfts}
use borrow.Author.Tests.{ltb-true, lt-ltb, le-ltb, eq-eqb, ne_eqb, not-true}
use lib.Dec.{eqb, ltb}
use lib.ListN.{length, get_or, replicate, get_or-replicate}
use Rattle.promises.specs.Choose.{choose}
use Rattle.promises.specs.Told.{told, done}
use Rattle.promises.specs.Order.{first_of, NoneHolds}
use Rattle.promises.specs.Written.{Bytes}
use Rattle.promises.proofs.Choices.{both_pass}
use Rattle.promises.proofs.Orders.{done_when, never}
use Rattle.answer.specs.Told.{Answer, told_of}
use Rattle.answer.proofs.Answers.{not_two}
use Rattle.settings.specs.declared.Look.{Look}
use Rattle.settings.specs.declared.Settings.{Settings}
use Rattle.settings.specs.Fields.{look_of, graphics, external, gm1, gm0, css}
use Rattle.settings.specs.Modes.{width, font_size, mode_name, border}
use Rattle.settings.specs.Refusals.{strip_length, frame_length, short_strip, short_frame}
use Rattle.strip.specs.Fetch.{fetched_byte, fetch_order}
use Rattle.pixel.specs.Dots.{black}
use Rattle.pixel.specs.Text.{dd6}
use Rattle.pixel.proofs.LetterDots.{byte_at, dot_of, shows_external, shows_other, letter_dot}
use Rattle.valid.specs.Valid.{first_not_valid, not_valid_byte}
use Rattle.valid.proofs.Valids.{FirstHigh, is_first, first_is}
use Rattle.frame.specs.Draw.{draw_lengths, draw_bytes}
use Rattle.frame.proofs.Draws.{told_passed}
use Rattle.claims.proofs.Calls.{Lent, Room, Fetches, Draws, Shows}
use Rattle.claims.proofs.Demand1.{fetch_demand, draw_demand, show_demand}
use Rattle.claims.proofs.Demand3.{Fifteen, LengthsPass, told_by_bytes}
use Rattle.claims.proofs.LowerCase.{Painted, Inverted, NotInverted, same_pixel}

-- "A/G = 0 and INT/EXT = 1": external text is text
in_text : (l : Look) → external l ≡ true → graphics l ≡ false
in_text l x = not-true (graphics l) (both_pass (not (graphics l)) _ x).0

-- ==== The letters: of what a done call of `draw` or `show` leaves (`Painted`).
module _ (l : Look) (x : external l ≡ true) (font strip out : List ℕ) (p : Painted l font strip out) (k : ℕ) (within : k < frame_length) where
  abbrev byte : ℕ
  byte = byte_at strip k

  -- "a byte below 128 shows that pattern by its whole number", inverted where DD6 = 1: dark on colour, and GM1 = 1 exchanges.
  module _ (holds : Bytes font) where
    shown_as : byte < 128 → get_or out k 0 ≡ choose (eqb (dd6 byte) (gm1 l)) (dot_of (7 * css l) black font byte k) (dot_of black (7 * css l) font byte k)
    shown_as small = p k within ∙ letter_dot l font strip k (in_text l x) holds small byte (dd6 byte) (shows_external l byte x)

    pub whole_number : byte < 64 → NotInverted l font out k byte
    whole_number h =
        let i : dd6 byte ≡ 0 = omega arith in
        let s = rw i at (shown_as (omega arith)) in
        (λ e. s ∙ simp e, λ e. s ∙ simp e)

    pub whole_number_inverted : 64 ≤ byte → byte < 128 → Inverted l font out k byte
    whole_number_inverted h small =
        let i : dd6 byte ≡ 1 = omega arith in
        let s = rw i at (shown_as small) in
        (λ e. s ∙ simp e, λ e. s ∙ simp e)

    -- "colours and inverting are as in internal text with GM0 = 0": with the same GM1 and CSS a letter looks as in internal text wherever the
    -- internal font has the same row for it.
    pub as_internal : (m : Look) (own out' : List ℕ) → graphics m ≡ false → external m ≡ false → gm0 m ≡ 0 → gm1 l ≡ gm1 m → css l ≡ css m → Painted m own strip out' → Bytes own
        → byte < 128 → get_or font (byte * 12 + k / 256 % 12) 0 ≡ get_or own (byte % 64 * 12 + k / 256 % 12) 0 → get_or out k 0 ≡ get_or out' k 0
    as_internal m own out' text internal off same colour q holds' small row =
        let other = q k within ∙ letter_dot m own strip k text holds' small (byte % 64) (dd6 byte) (shows_other m internal byte (inl off)) in
        shown_as small ∙ rw (row, same, colour) (sym other)

  -- GM0 is not read: frames of one strip and font under external looks with the same GM1 and CSS are the same.
  pub gm0_not_read : (m : Look) (out' : List ℕ) → external m ≡ true → gm1 l ≡ gm1 m → css l ≡ css m → Painted m font strip out' → get_or out k 0 ≡ get_or out' k 0
  gm0_not_read m out' y same colour q =
      same_pixel l m (in_text l x) (in_text m y) colour font strip out out' p q k within byte (dd6 byte) (shows_external l byte x) (shows_external m byte y) same

-- "The report names the mode EXT."
pub named_ext : (l : Look) → external l ≡ true → mode_name l ≡ 69 ∷ 88 ∷ 84 ∷ []
unfolding mode_name
named_ext l x = rw (x, in_text l x)

-- ==== The refusals.
-- "2 is no longer given": by no operation, since no answer is told by it.
pub two_not_given : (z : Answer) → (told_of z).number ≡ 2 → ⊥
two_not_given = not_two

-- "6 asks for 3,072 here": a drawing of external text is told 6 exactly if the font has another length, whatever else is wrong behind that.
pub six_exactly : (κs : Lfts 3) (l : Look) (font strip : Lent) (frame : Room) (z : Answer) (out : List ℕ) → Draws κs l font strip frame z out → external l ≡ true → l.pins ≤ 63
    → ((told_of z).number ≡ 6) ↔ (length font.now ≡ 3072 → ⊥)
unfolding font_size
six_exactly κs l font strip frame z out p x low =
    let each = (draw_demand κs l font strip frame z out p).0.each 6 (omega arith) in
    let rest = short_strip l (length strip.now) ∷ short_frame (length frame.now) ∷ not_valid_byte l (λ (j : ℕ). get_or strip.now j 0) ∷ [] in (
      λ e long.
          let fits : not (graphics l) && not (eqb (length font.now) (font_size l)) ≡ false = rw (x, in_text l x, eq-eqb (length font.now) 3072 long) in
          ⊎_elim (λ a. omega (arith, a.0)) (λ b. ⊎_elim (λ c. clash (sym fits ∙ c.1)) (λ c. never 6 rest tt c.1) b.1) (each.0 e),
      λ other. each.1 (inr (le-ltb 63 l.pins low, inl (refl, rw (x, in_text l x, ne_eqb (length font.now) 3072 other)))),
    )
  where
    clash : ◌≡◌ {A = Bool} false true → ⊥
    clash e = let z : ◌≡◌ {A = ℕ} 0 1 = cc in omega arith

-- what is told of a first byte that is not valid
fifteen_by : (b : Bool) (p v k : ℕ) → (((choose b (told 15 p 0) (done v)).number ≡ 15) × ((choose b (told 15 p 0) (done v)).place ≡ k)) ↔ ((b ≡ true) × (p ≡ k))
fifteen_by true p v k = (λ e. (refl, e.1), λ e. (refl, e.1))
fifteen_by false p v k = (λ e. absurd (omega arith), λ e. let z : ◌≡◌ {A = ℕ} 0 1 = cc in absurd (omega arith))

fifteen_of : (l : Look) (bytes : ℕ → ℕ) (z : Answer) (k : ℕ) → told_of z ≡ first_of (draw_bytes l bytes) (done (border l)) → Fifteen z k ↔ ((external l ≡ true) × FirstHigh l bytes k)
fifteen_of l bytes z k e =
    let n = fifteen_by (ltb (first_not_valid l bytes) (strip_length l)) (first_not_valid l bytes) (border l) k in (
      λ f. let t = n.0 (rw e at f) in rw t.1 at (is_first l bytes (ltb-true _ _ t.0)),
      λ f. let i = first_is l bytes k f.0 f.1 in rw e (n.1 (lt-ltb (first_not_valid l bytes) (strip_length l) (rw i f.1.within), i)),
    )

-- "15, with the strip index, for the first byte of 128 or more, checked last by drawing": where no length is refused, 15 is told at k exactly if
-- the text is external and byte k of the strip is its first of 128 or more,
pub draw_fifteen : (κs : Lfts 3) (l : Look) (font strip : Lent) (frame : Room) (z : Answer) (out : List ℕ) → Draws κs l font strip frame z out
    → NoneHolds (draw_lengths l (length font.now) (length strip.now) (length frame.now))
    → (k : ℕ) → Fifteen z k ↔ ((external l ≡ true) × FirstHigh l (λ (j : ℕ). get_or strip.now j 0) k)
draw_fifteen κs l font strip frame z out p none k =
    let order = draw_lengths l (length font.now) (length strip.now) (length frame.now) in
    fifteen_of l (λ (j : ℕ). get_or strip.now j 0) z k
    (p.0 ∙ told_passed l font.now strip.now frame.now (λ (j : ℕ). get_or strip.now j 0) ((done_when (done (border l)) refl order tt).1 none) (λ j _. refl))

-- "and by both at once": the same of the bytes that are fetched;
pub show_fifteen : (κs : Lfts 4) (s : Settings) (image font : Lent) (strip frame : Room) (z : Answer) (bytes pixels : List ℕ) → Shows κs s image font strip frame z bytes pixels
    → LengthsPass s image font strip frame → (k : ℕ) → Fifteen z k ↔ ((external s.look ≡ true) × FirstHigh s.look (fetched_byte s image.now) k)
show_fifteen κs s image font strip frame z bytes pixels p none k =
    fifteen_of s.look (fetched_byte s image.now) z k (told_by_bytes s κs image font strip frame z bytes pixels p none)

-- "never by fetching alone".
pub fetch_not_fifteen : (κs : Lfts 2) (s : Settings) (image : Lent) (strip : Room) (z : Answer) (out : List ℕ) → Fetches κs s image strip z out → (told_of z).number ≡ 15 → ⊥
fetch_not_fifteen κs s image strip z out p e = never 15 (fetch_order s (length image.now) (length strip.now)) tt (((fetch_demand κs s image strip z out p).0.each 15 (omega arith)).0 e)

-- With 15 every buffer is as it was: the frame that was drawn on, and strip and frame of both at once.
pub draw_kept : (κs : Lfts 3) (l : Look) (font strip : Lent) (frame : Room) (z : Answer) (out : List ℕ) → Draws κs l font strip frame z out → (told_of z).number ≡ 15 → out ≡ frame.now
draw_kept κs l font strip frame z out p e = (draw_demand κs l font strip frame z out p).1.refused (λ d. omega arith)

pub show_kept : (κs : Lfts 4) (s : Settings) (image font : Lent) (strip frame : Room) (z : Answer) (bytes pixels : List ℕ) → Shows κs s image font strip frame z bytes pixels
    → (told_of z).number ≡ 15 → (bytes ≡ strip.now) × (pixels ≡ frame.now)
show_kept κs s image font strip frame z bytes pixels p e =
    let d = show_demand κs s image font strip frame z bytes pixels p in
    (d.1.refused (λ n. omega arith), d.2.refused (λ n. omega arith))

-- There are such strips: one of byte 80 throughout is refused at its first byte, and Unfit.antt has a call of external text that is done.
pub some_not_valid : NoneHolds (draw_lengths (look_of 0x10) 3072 6144 frame_length) × (external (look_of 0x10) ≡ true) × FirstHigh (look_of 0x10) (λ (j : ℕ). get_or (replicate 6144 0x80) j 0) 0
unfolding width font_size
some_not_valid = (
  (refl, (refl, (refl, (refl, tt)))),
  refl,
  record { within = omega arith; high = omega (arith, get_or-replicate {A = ℕ} 6144 0 0x80 0 (omega arith)); before = λ j h. absurd (omega arith) },
)
