-- CR 2. "Bytes 0 to 31 show lower case, pattern 64 plus the byte, dark on colour as the inverted characters are. Bytes 32 to 127 look as they
-- do with GM0 = 0. DD6 selects nothing else. GM1 exchanges as before." All but the last is of internal text; External.antt has external text.
use Prim.Native.Nat.{ℕ, ◌+◌, ◌*◌, ◌/◌, ◌%◌, ◌<◌, ◌≤◌}
use mathlib.Core.Path.{◌≡◌, refl, ◌∙◌}
use mathlib.Core.Bool.{false}
use mathlib.Core.List.{List}
use mathlib.Core.Logic.{◌⊎◌, inr}
use native.Mathlib.Omega.{arith}
use contract.Lifetimes.{Lfts}
use lib.Dec.{eqb}
use lib.ListN.{get_or, replicate}
use Rattle.promises.specs.Choose.{choose}
use Rattle.promises.specs.Order.{NoneHolds}
use Rattle.promises.specs.Written.{Bytes}
use Rattle.answer.specs.Told.{Answer}
use Rattle.settings.specs.declared.Look.{Look}
use Rattle.settings.specs.declared.Settings.{Settings}
use Rattle.settings.specs.Fields.{look_of, graphics, external, gm1, gm0, css}
use Rattle.settings.specs.Modes.{width, font_size}
use Rattle.settings.specs.Refusals.{frame_length}
use Rattle.pixel.specs.Dots.{black}
use Rattle.pixel.specs.Text.{dd6, pattern, inverted}
use Rattle.pixel.specs.Picture.{picture}
use Rattle.pixel.proofs.LetterDots.{byte_at, dot_of, Exchanged, shows_lower, shows_other, same_letter, text_dot, letter_dot, gm1_turns}
use Rattle.frame.specs.Draw.{draw_order}
use Rattle.frame.proofs.Draws.{bytes_internal}
use Rattle.claims.proofs.Calls.{Lent, Room, Draws, Shows}
use Rattle.claims.proofs.Demand2.{Done, frame_pixels, shown_pixel}

-- Each pixel is that of the picture: so it is of what a done call of `draw` leaves, with the strip that it was lent, and of what one of
-- `show` leaves, with the strip that it fetched. All below is said of both.
abbrev pub Painted : Look → List ℕ → List ℕ → List ℕ → Type 0
Painted l font strip out = (k : ℕ) → k < frame_length → get_or out k 0 ≡ picture l font strip k

pub draw_paints : (κs : Lfts 3) (l : Look) (font strip : Lent) (frame : Room) (z : Answer) (out : List ℕ) → Draws κs l font strip frame z out → Done z
    → Painted l font.now strip.now out
draw_paints κs l font strip frame z out = frame_pixels κs l font strip frame z out

pub show_paints : (κs : Lfts 4) (s : Settings) (image font : Lent) (strip frame : Room) (z : Answer) (bytes pixels : List ℕ)
    → Shows κs s image font strip frame z bytes pixels → Done z → Painted s.look font.now bytes pixels
show_paints κs s image font strip frame z bytes pixels = shown_pixel κs s image font strip frame z bytes pixels

-- Pixel k is the dot of pattern n that stands there: inverted, dark on colour; not inverted, in colour on black. GM1 = 1 exchanges both.
abbrev pub Inverted : Look → List ℕ → List ℕ → ℕ → ℕ → Type 0
Inverted l font out k n = (gm1 l ≡ 0 → get_or out k 0 ≡ dot_of black (7 * css l) font n k) × (gm1 l ≡ 1 → get_or out k 0 ≡ dot_of (7 * css l) black font n k)

abbrev pub NotInverted : Look → List ℕ → List ℕ → ℕ → ℕ → Type 0
NotInverted l font out k n = (gm1 l ≡ 0 → get_or out k 0 ≡ dot_of (7 * css l) black font n k) × (gm1 l ≡ 1 → get_or out k 0 ≡ dot_of black (7 * css l) font n k)

-- What pixel k of a frame of internal text shows, by the byte that draws it.
module _ (l : Look) (text : graphics l ≡ false) (internal : external l ≡ false) (font strip out : List ℕ) (p : Painted l font strip out) (holds : Bytes font) (k : ℕ) (within : k < frame_length) where
  abbrev byte : ℕ
  byte = byte_at strip k

  shown_as : (n i : ℕ) → byte < 128 → (pattern l byte ≡ n) × (inverted l byte ≡ i) → get_or out k 0 ≡ choose (eqb i (gm1 l)) (dot_of (7 * css l) black font n k) (dot_of black (7 * css l) font n k)
  shown_as n i small e = p k within ∙ letter_dot l font strip k text holds small n i e

  -- "Bytes 0 to 31 show lower case, pattern 64 plus the byte, dark on colour as the inverted characters are."
  pub lower_case : gm0 l ≡ 1 → byte < 32 → Inverted l font out k (64 + byte)
  lower_case on h = let s = shown_as (64 + byte) 1 (omega arith) (shows_lower l internal byte on h) in (λ e. s ∙ simp e, λ e. s ∙ simp e)

  -- "DD6 selects nothing else": with either GM0 a letter with DD6 = 1 is inverted, and shows the pattern of its low six bits.
  pub dd6_inverts : 64 ≤ byte → byte < 128 → Inverted l font out k (byte % 64)
  dd6_inverts h small =
      let e = shows_other l internal byte (inr (omega arith)) in
      let s = shown_as (byte % 64) 1 small (e.0, e.1 ∙ omega arith) in
      (λ z. s ∙ simp z, λ z. s ∙ simp z)

  -- All other letters are not inverted: those with DD6 = 0 that are not lower case.
  pub not_inverted : (gm0 l ≡ 0) ⊎ (32 ≤ byte) → byte < 64 → NotInverted l font out k byte
  not_inverted other h =
      let e = shows_other l internal byte other in
      let s = shown_as byte 0 (omega arith) (e.0 ∙ omega arith, e.1 ∙ omega arith) in
      (λ z. s ∙ simp z, λ z. s ∙ simp z)

-- Two text frames of one strip and font, by looks of the same CSS.
module _ (l m : Look) (text : graphics l ≡ false) (text' : graphics m ≡ false) (colour : css l ≡ css m) (font strip out out' : List ℕ) (p : Painted l font strip out)
    (q : Painted m font strip out') (k : ℕ) (within : k < frame_length) where
  -- a byte of which both show the same pattern, both inverted or neither, looks the same
  pub same_pixel : (n i : ℕ) → (pattern l (byte_at strip k) ≡ n) × (inverted l (byte_at strip k) ≡ i) → (pattern m (byte_at strip k) ≡ n) × (inverted m (byte_at strip k) ≡ i)
      → gm1 l ≡ gm1 m → get_or out k 0 ≡ get_or out' k 0
  same_pixel n i own other same =
      let e = same_letter l m font (byte_at strip k) (k / 256 % 12) n i own other same colour in
      rw (p k within, q k within, text_dot l font strip k text, text_dot m font strip k text', e.0, e.1)

  -- "Bytes 32 to 127 look as they do with GM0 = 0": with the same GM1 they look the same whatever GM0 is in each, and so does Semigraphics.
  pub as_with_gm0_off : external l ≡ false → external m ≡ false → gm1 l ≡ gm1 m → 32 ≤ byte_at strip k → get_or out k 0 ≡ get_or out' k 0
  as_with_gm0_off internal internal' same h =
      same_pixel (byte_at strip k % 64) (dd6 (byte_at strip k)) (shows_other l internal (byte_at strip k) (inr h)) (shows_other m internal' (byte_at strip k) (inr h)) same

  -- "GM1 exchanges as before": each dot of a letter, lower case or not, internal or external, has its colour in one frame and is black in the other.
  pub gm1_exchanges : external l ≡ external m → gm0 l ≡ gm0 m → gm1 l ≡ 0 → gm1 m ≡ 1 → Bytes font → byte_at strip k < 128
      → Exchanged (7 * css l) black (get_or out k 0) (get_or out' k 0)
  gm1_exchanges kind same off on holds small = rw (p k within, q k within) (gm1_turns l m font strip k text text' kind same colour off on holds small)

-- There are such calls: none of a drawing's refusals holds of a strip of byte 01, with pins 02 and 06, nor of one of byte 61, with pins 02 and 00.
abbrev NotRefused : ℕ → ℕ → Type 0
NotRefused pins b = NoneHolds (draw_order (look_of pins) (replicate 1152 0) (replicate 6144 b) (replicate frame_length 0))

pub some_lower_case : NotRefused 0x02 0x01 × NotRefused 0x06 0x01 × NotRefused 0x02 0x61 × NotRefused 0x00 0x61
unfolding width font_size
some_lower_case = (
  (refl, (refl, (refl, (refl, bytes_internal (look_of 0x02) _ refl)))),
  (refl, (refl, (refl, (refl, bytes_internal (look_of 0x06) _ refl)))),
  (refl, (refl, (refl, (refl, bytes_internal (look_of 0x02) _ refl)))),
  (refl, (refl, (refl, (refl, bytes_internal (look_of 0x00) _ refl)))),
)
