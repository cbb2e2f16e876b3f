-- Settings that are the same in all that the definitions read of them give the same answers, strips and frames.
use Prim.Native.Nat.{ℕ, zero, suc, ◌+◌, ◌*◌, ◌/◌, ◌%◌, ◌^◌, ◌<◌}
use mathlib.Core.Path.{◌≡◌, refl, sym, ap, ◌∙◌}
use mathlib.Core.Bool.{Bool, true, false, not, ◌&&◌}
use mathlib.Core.List.{List}
use native.Mathlib.Nat.{mod-lt}
use native.Mathlib.Omega.{arith}
use borrow.Author.Tests.{lt-ltb, le-ltb, ltb-true, ltb-false}
use lib.Dec.{eqb, ltb}
use lib.ListN.{length, get_or}
use lib.Pow.{high, low, pow_pos, shr-shr}
use contract.Lifetimes.{Lfts}
use Rattle.promises.specs.Choose.{choose}
use Rattle.promises.specs.First.{first_where}
use Rattle.promises.proofs.Choices.{by_test}
use Rattle.promises.proofs.Fills.{written_by}
use Rattle.promises.specs.Count.{somewhere}
use Rattle.promises.proofs.Firsts.{same_first}
use Rattle.promises.proofs.Counts.{same_many}
use Rattle.answer.specs.Told.{Answer}
use Rattle.answer.proofs.Answers.{one_answer}
use Rattle.settings.specs.declared.Look.{Look}
use Rattle.settings.specs.declared.Rule.{Rule}
use Rattle.settings.specs.declared.Rule.TheVariants.{One, Two}
use Rattle.settings.specs.declared.Settings.{Settings}
use Rattle.settings.specs.Fields.{rule_number, under, video_mode, offset, fast, memory, graphics, external, gm, gm2, gm1, gm0, css}
use Rattle.settings.specs.Modes.{width, dots, border, font_size}
use Rattle.settings.specs.Banks.{suited, image_place, missing}
use Rattle.settings.specs.Refusals.{strip_length, frame_length}
use Rattle.control.specs.Control.{with_bit}
use Rattle.counter.specs.declared.Counter.{Counter}
use Rattle.counter.specs.Counter.{start, line_start, bytes_on, address_of}
use Rattle.counter.proofs.Shifts.{bytes_by_v, clear_by_v}
use Rattle.strip.specs.Fetch.{place_of, fetch_address, fetch_place, fetched_byte, first_missing, fetch_told, strip_after}
use Rattle.strip.specs.Touched.{line_touched, touched_bytes, fetch_touched}
use Rattle.pixel.specs.Graphics.{count, element, graphic}
use Rattle.pixel.specs.Text.{pattern, inverted, letter, block, lit, ink}
use Rattle.pixel.specs.Picture.{pixel, owner, dot, picture}
use Rattle.valid.specs.Valid.{first_not_valid}
use Rattle.valid.proofs.Valids.{same_not_valid}
use Rattle.frame.specs.Draw.{draw_told, frame_after}
use Rattle.screen.specs.Show.{show_told, strip_shown, frame_shown}
use Rattle.back.specs.Read.{values, read_byte}
use Rattle.back.specs.Stray.{shows, leftmost, stray, first_stray}
use Rattle.back.specs.Back.{back_pixels, back_told, strip_back}
use Rattle.claims.proofs.Calls.{Lent, Room, Touches, Fetches, Shows}

-- of the pins: whether they are above 63, whether the text is external, A/G, GM2-GM0 and CSS
pub record SameLook (l m : Look) : Type 0 where
  pub above : ltb 63 l.pins ≡ ltb 63 m.pins
  pub outside : external l ≡ external m
  pub mode : graphics l ≡ graphics m
  pub number : gm l ≡ gm m
  pub colours : css l ≡ css m

module _ {l m : Look} (e : SameLook l m) where
  -- GM2, GM1 and GM0 alone
  second : gm2 l ≡ gm2 m
  second = omega (arith, e.number)

  first : gm1 l ≡ gm1 m
  first = omega (arith, e.number)

  zeroth : gm0 l ≡ gm0 m
  zeroth = omega (arith, e.number)

  width_alike : width l ≡ width m
  unfolding width
  width_alike = rw (e.mode, e.number)

  border_alike : border l ≡ border m
  unfolding border
  border_alike = rw (e.mode, e.colours, second, first)

  -- drawing
  picture_alike : (font strip : List ℕ) (k : ℕ) → picture l font strip k ≡ picture m font strip k
  unfolding picture pixel owner dot graphic element dots lit letter pattern inverted block ink
  picture_alike font strip k = rw (width_alike, e.outside, e.mode, e.number, e.colours, first, zeroth)

  first_not_valid_alike : (byte : ℕ → ℕ) → first_not_valid l byte ≡ first_not_valid m byte
  unfolding first_not_valid
  first_not_valid_alike byte = rw (width_alike, e.outside)

  pub draw_told_alike : (font strip frame : List ℕ) → draw_told l font strip frame ≡ draw_told m font strip frame
  unfolding draw_told font_size
  draw_told_alike font strip frame = rw (first_not_valid_alike (λ (k : ℕ). get_or strip k 0), border_alike, width_alike, e.above, e.outside, e.mode)

  pub frame_after_alike : (font strip frame : List ℕ) → frame_after l font strip frame ≡ frame_after m font strip frame
  unfolding frame_after
  frame_after_alike font strip frame = rw (draw_told_alike font strip frame, written_by frame_length frame (λ k _. picture_alike font strip k))

  -- reading back
  read_byte_alike : (frame : List ℕ) (i : ℕ) → read_byte l frame i ≡ read_byte m frame i
  unfolding read_byte values count dots
  read_byte_alike frame i = rw (width_alike, e.mode, e.number, zeroth)

  stray_alike : (frame : List ℕ) (k : ℕ) → stray l frame k ≡ stray m frame k
  unfolding stray shows leftmost dots
  stray_alike frame k = rw (e.mode, e.number, e.colours, zeroth)

  first_stray_alike : (frame : List ℕ) → first_stray l frame ≡ first_stray m frame
  unfolding first_stray
  first_stray_alike frame = λ i. first_where (λ (k : ℕ). stray_alike frame k i) frame_length

  pub back_told_alike : (frame strip : List ℕ) → back_told l frame strip ≡ back_told m frame strip
  unfolding back_told back_pixels
  back_told_alike frame strip = rw (first_stray_alike frame, width_alike, e.above, e.mode)

  pub strip_back_alike : (frame strip : List ℕ) → strip_back l frame strip ≡ strip_back m frame strip
  unfolding strip_back
  strip_back_alike frame strip = rw (back_told_alike frame strip, width_alike, written_by (strip_length m) strip (λ i _. read_byte_alike frame i))

-- what fetching feels of settings: which addresses it fetches, the memory's size, whether there is a display, and the look
pub record SameFetches (s t : Settings) : Type 0 where
  pub addresses : (n c : ℕ) → address_of s n c ≡ address_of t n c
  pub size : memory s ≡ memory t
  pub rate : fast s ≡ fast t
  pub look : SameLook s.look t.look

-- so it is with the same V2-V0, F6-F0, R1 and M1-M0 of the control word, the same rule, and the same look
module _ (s t : Settings) (video : video_mode s ≡ video_mode t) (from : offset s ≡ offset t) (rate : fast s ≡ fast t) (size : memory s ≡ memory t) (rule : s.rule ≡ t.rule) (look : SameLook s.look t.look) where
  line_start_alike : (n : ℕ) → line_start s n ≡ line_start t n
  unfolding line_start start
  line_start_alike zero = rw from
  line_start_alike (suc n) = rw (width_alike look, line_start_alike n, bytes_by_v s t video (width t.look) (line_start t n)) (clear_by_v s t video rule _)

  address_of_alike : (n c : ℕ) → address_of s n c ≡ address_of t n c
  unfolding address_of
  address_of_alike n c = ap (λ (d : Counter). d.address) (bytes_by_v s t video c (line_start s n) ∙ ap (bytes_on t c) (line_start_alike n))

  pub by_fields : SameFetches s t
  by_fields = record { addresses = address_of_alike; size = size; rate = rate; look = look }

-- and under either rule where the addresses are the same
pub by_rules : (s : Settings) (q r : Rule) → ((n c : ℕ) → address_of (under q s) n c ≡ address_of (under r s) n c) → SameFetches (under q s) (under r s)
by_rules s q r h = record { addresses = h; size = refl; rate = refl; look = record { above = refl; outside = refl; mode = refl; number = refl; colours = refl } }

module _ {s t : Settings} (e : SameFetches s t) where
  -- fetching
  fetch_address_alike : (k : ℕ) → fetch_address s k ≡ fetch_address t k
  unfolding fetch_address
  fetch_address_alike k = rw (width_alike e.look, e.addresses (k / width t.look) (k % width t.look))

  fetch_place_alike : (k : ℕ) → fetch_place s k ≡ fetch_place t k
  unfolding image_place
  fetch_place_alike k = rw (fetch_address_alike k, e.size)

  place_of_alike : (n c : ℕ) → place_of s n c ≡ place_of t n c
  unfolding image_place
  place_of_alike n c = rw (e.addresses n c, e.size)

  -- 16 and 17
  suited_alike : (n : ℕ) → suited s n ≡ suited t n
  unfolding suited
  suited_alike n = rw e.size

  missing_alike : (n k : ℕ) → missing s n (fetch_address s k) ≡ missing t n (fetch_address t k)
  unfolding missing
  missing_alike n k = rw (fetch_address_alike k, e.size)

  first_missing_alike : (n : ℕ) → first_missing s n ≡ first_missing t n
  unfolding first_missing
  first_missing_alike n =
      same_first (λ (k : ℕ). missing s n (fetch_address s k)) (λ (k : ℕ). missing t n (fetch_address t k)) (strip_length s.look) (λ k _. missing_alike n k)
      ∙ ap (λ (w : ℕ). first_where (λ (k : ℕ). missing t n (fetch_address t k)) (192 * w)) (width_alike e.look)

  fetch_told_alike : (image strip : List ℕ) → fetch_told s image strip ≡ fetch_told t image strip
  unfolding fetch_told
  fetch_told_alike image strip = rw (suited_alike (length image), first_missing_alike (length image), width_alike e.look, e.look.above, e.rate)

  strip_after_alike : (image strip : List ℕ) → strip_after s image strip ≡ strip_after t image strip
  unfolding strip_after
  strip_after_alike image strip =
      rw (fetch_told_alike image strip, width_alike e.look, written_by (strip_length t.look) strip (λ k _. ap (λ (p : ℕ). get_or image p 0) (fetch_place_alike k)))

  line_touched_alike : (n : ℕ) → line_touched s n ≡ line_touched t n
  unfolding line_touched image_place
  line_touched_alike zero = refl
  line_touched_alike (suc n) = λ i. somewhere (λ (c : ℕ). not (eqb (place_of_alike (suc n) c i) (place_of_alike n c i))) (width_alike e.look i)

  fetch_touched_alike : (image strip : List ℕ) → fetch_touched s image strip ≡ fetch_touched t image strip
  unfolding fetch_touched touched_bytes
  fetch_touched_alike image strip = rw (fetch_told_alike image strip, width_alike e.look, same_many (line_touched s) (line_touched t) 192 (λ n _. line_touched_alike n))

  -- both at once
  module _ (image font strip frame : List ℕ) where
    show_told_alike : show_told s image font strip frame ≡ show_told t image font strip frame
    unfolding show_told font_size
    show_told_alike =
        let bytes : first_not_valid s.look (fetched_byte s image) ≡ first_not_valid t.look (fetched_byte t image) =
        first_not_valid_alike e.look (fetched_byte s image)
        ∙ same_not_valid t.look (fetched_byte s image) (fetched_byte t image) (λ k _. ap (λ (p : ℕ). get_or image p 0) (fetch_place_alike k)) in
        rw (bytes, suited_alike (length image), first_missing_alike (length image), border_alike e.look, width_alike e.look, e.look.above, e.look.outside, e.look.mode, e.rate)

    strip_shown_alike : strip_shown s image font strip frame ≡ strip_shown t image font strip frame
    unfolding strip_shown
    strip_shown_alike = rw (show_told_alike, strip_after_alike image strip)

    frame_shown_alike : frame_shown s image font strip frame ≡ frame_shown t image font strip frame
    unfolding frame_shown
    frame_shown_alike = rw (show_told_alike, strip_after_alike image strip, frame_after_alike e.look font (strip_after t image strip) frame)

  -- of two calls with the same contents lent: fetching gives the same answer and strip,
  pub same_fetched : (κs κs' : Lfts 2) (image image' : Lent) (strip strip' : Room) (z z' : Answer) (out out' : List ℕ)
      → image.now ≡ image'.now → strip.now ≡ strip'.now → Fetches κs s image strip z out → Fetches κs' t image' strip' z' out' → (z ≡ z') × (out ≡ out')
  same_fetched κs κs' image image' strip strip' z z' out out' i b p q = (
    one_answer (p.call.0 ∙ fetch_told_alike image.now strip.now) (q.call.0 ∙ rw (i, b)),
    p.call.1.1 ∙ strip_after_alike image.now strip.now ∙ rw (i, b) (sym q.call.1.1),
  )

  -- and reports the same count,
  pub same_count : (κs κs' : Lfts 2) (image image' : Lent) (strip strip' : Room) (z z' : Answer) (n n' : ℕ) (out out' : List ℕ)
      → image.now ≡ image'.now → strip.now ≡ strip'.now → Touches κs s image strip z n out → Touches κs' t image' strip' z' n' out' → n ≡ n'
  same_count κs κs' image image' strip strip' z z' n n' out out' i b p q = p.1.0 ∙ fetch_touched_alike image.now strip.now ∙ rw (i, b) (sym q.1.0)

  -- and both at once the same answer, strip and frame
  pub same_shown : (κs κs' : Lfts 4) (image image' font font' : Lent) (strip strip' frame frame' : Room) (z z' : Answer) (bytes bytes' pixels pixels' : List ℕ)
      → image.now ≡ image'.now → font.now ≡ font'.now → strip.now ≡ strip'.now → frame.now ≡ frame'.now
      → Shows κs s image font strip frame z bytes pixels → Shows κs' t image' font' strip' frame' z' bytes' pixels' → (z ≡ z') × (bytes ≡ bytes') × (pixels ≡ pixels')
  same_shown κs κs' image image' font font' strip strip' frame frame' z z' bytes bytes' pixels pixels' i f b x p q = (
    one_answer (p.0 ∙ show_told_alike image.now font.now strip.now frame.now) (q.0 ∙ rw (i, f, b, x)),
    p.1.0 ∙ strip_shown_alike image.now font.now strip.now frame.now ∙ rw (i, f, b, x) (sym q.1.0),
    p.1.1 ∙ frame_shown_alike image.now font.now strip.now frame.now ∙ rw (i, f, b, x) (sym q.1.1),
  )

-- ---- tests that are told as numbers
-- a test told by 1 or 0
pub by_number : (a b : Bool) → ◌≡◌ {A = ℕ} (choose a 1 0) (choose b 1 0) → a ≡ b
by_number true true e = refl
by_number true false e = absurd (omega arith)
by_number false true e = absurd (omega arith)
by_number false false e = refl

-- a rule told by its number
pub by_rule : (q r : Rule) → rule_number q ≡ rule_number r → q ≡ r
by_rule One One e = refl
by_rule One Two e = absurd (omega arith)
by_rule Two One e = absurd (omega arith)
by_rule Two Two e = refl

-- a bit that is told only where a test fails
pub by_bit : (a b : Bool) (x y : ℕ) → a ≡ b → choose a 0 x ≡ choose b 0 y → not a && eqb x 1 ≡ not b && eqb y 1
by_bit true true x y g e = refl
by_bit true false x y g e = let z : ◌≡◌ {A = ℕ} 0 1 = cc in absurd (omega arith)
by_bit false true x y g e = let z : ◌≡◌ {A = ℕ} 0 1 = cc in absurd (omega arith)
by_bit false false x y g e = ap (λ (n : ℕ). eqb n 1) e

-- bytes that agree from bit 6 on are both above 63, or neither is
pub by_high : (x y : ℕ) → x / 64 ≡ y / 64 → ltb 63 x ≡ ltb 63 y
by_high x y e = by_test (ltb 63 y) (λ t. lt-ltb 63 x (omega (arith, ltb-true 63 y t)) ∙ sym t) (λ f. le-ltb 63 x (omega (arith, ltb-false 63 y f)) ∙ sym f)

-- ---- what stays of a word of which a bit is set or cleared: the bits below it, and those above it
pub bits_below : (w k b : ℕ) → with_bit w k b % 2 ^ k ≡ w % 2 ^ k
unfolding with_bit
bits_below w k b = low (w / 2 ^ k / 2 * 2 + b) k (mod-lt w (pow_pos k))

pub bits_above : (w k b : ℕ) → b < 2 → (j : ℕ) → with_bit w k b / 2 ^ (k + (1 + j)) ≡ w / 2 ^ (k + (1 + j))
unfolding with_bit
bits_above w k b h j =
    let at : (n : ℕ) → n / 2 ^ k / 2 / 2 ^ j ≡ n / 2 ^ (k + (1 + j)) = λ n. shr-shr (n / 2 ^ k) 1 j ∙ shr-shr n k (1 + j) in
    let e : (w / 2 ^ k / 2 * 2 + b) / 2 ≡ w / 2 ^ k / 2 = omega arith in
    sym (at (with_bit w k b)) ∙ ap (λ (n : ℕ). n / 2 / 2 ^ j) (high (w / 2 ^ k / 2 * 2 + b) k (mod-lt w (pow_pos k))) ∙ ap (λ (n : ℕ). n / 2 ^ j) e ∙ at w
