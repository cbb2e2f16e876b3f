-- The round trip: drawing and reading back undo each other, and a frame with a stray pixel is drawn by no strip.
use Prim.Native.Nat.{ℕ, zero, suc, ◌+◌, ◌-◌, ◌*◌, ◌/◌, ◌%◌, ◌≤◌, ◌<◌, zero-le}
use mathlib.Core.Path.{◌≡◌, refl, sym, ap, ◌∙◌}
use mathlib.Core.Bool.{true, false}
use mathlib.Core.List.{List}
use mathlib.Core.Logic.{⊎_elim, ◌↔◌}
use native.Mathlib.Omega.{arith}
use lib.Dec.{eqb}
use lib.ListN.{length, get_or, replicate, length-replicate}
use borrow.Author.Tests.{eq-eqb, eqb-true, not-false}
use Rattle.promises.specs.Written.{Bytes, written, Filled}
use Rattle.promises.proofs.Choices.{both_pass}
use Rattle.promises.proofs.Fills.{lt_or_ge, written_fills}
use Rattle.promises.proofs.Firsts.{first_le, first_none, nowhere}
use Rattle.settings.specs.declared.Look.{Look}
use Rattle.settings.specs.Fields.{graphics}
use Rattle.settings.specs.Modes.{width, dots}
use Rattle.settings.proofs.Widths.{width_cases}
use Rattle.settings.specs.Refusals.{frame_length}
use Rattle.pixel.specs.Graphics.{count, element, graphic}
use Rattle.pixel.specs.Picture.{breadth, owner, dot, picture}
use Rattle.pixel.proofs.Digits.{same_digits}
use Rattle.pixel.proofs.Elements.{dots_cases, element_below, dot_within, graphic_at}
use Rattle.pixel.proofs.Owners.{owner_below, dot_below, drawn_by, drawn_as, drawn_within, drawn_at, in_graphics}
use Rattle.back.specs.Read.{values, value, read, read_byte}
use Rattle.back.specs.Stray.{shows, leftmost, stray, first_stray}
use Rattle.back.proofs.Values.{digits_back, element_back, element_shown, read_small}

-- the strip S draws the frame f
abbrev pub Draws : Look → List ℕ → List ℕ → List ℕ → Type 0
Draws l font S f = (k : ℕ) → k < frame_length → get_or f k 0 ≡ picture l font S k

-- the strip R is what is read off the frame f
abbrev pub Reads : Look → List ℕ → List ℕ → Type 0
Reads l f R = (i : ℕ) → i < 192 * width l → get_or R i 0 ≡ read_byte l f i

-- a frame that holds the picture of a strip is drawn by it, and a strip that holds what is read is so read
pub written_draws : (l : Look) (font S old : List ℕ) → frame_length ≤ length old → Draws l font S (written (picture l font S) frame_length old)
written_draws l font S old h k m = (written_fills (picture l font S) frame_length old h).is k zero-le m

pub written_reads : (l : Look) (f old : List ℕ) → 192 * width l ≤ length old → Reads l f (written (read_byte l f) (192 * width l) old)
written_reads l f old h i m = (written_fills (read_byte l f) (192 * width l) old h).is i zero-le m

pub none_stray : (l : Look) (f : List ℕ) → frame_length ≤ first_stray l f → first_stray l f ≡ frame_length
unfolding first_stray
none_stray l f h = omega (arith, first_le (stray l f) frame_length)

zeros : (n j : ℕ) → ◌≡◌ {A = ℕ} (get_or (replicate n 0) j 0) 0
zeros zero j = refl
zeros (suc n) zero = refl
zeros (suc n) (suc j) = zeros n j

module _ (l : Look) (g : graphics l ≡ true) where
  by_dots : {A : Type 0} → (dots l ≡ 1 → A) → (dots l ≡ 2 → A) → (dots l ≡ 4 → A) → A
  by_dots a b c = ⊎_elim a (⊎_elim b c) (dots_cases l g)

  -- the leftmost pixel of an element is one of its byte's
  left_at : (k : ℕ) → leftmost l k ≡ owner l k * breadth l + dot l k / dots l * dots l
  unfolding leftmost owner dot
  left_at k =
      ⊎_elim
      (λ (w : width l ≡ 16). by_dots (λ e. rw (w, e) (omega arith)) (λ e. rw (w, e) (omega arith)) (λ e. rw (w, e) (omega arith)))
      (λ (w : width l ≡ 32). by_dots (λ e. rw (w, e) (omega arith)) (λ e. rw (w, e) (omega arith)) (λ e. rw (w, e) (omega arith)))
      (width_cases l)

  -- which is where an element begins when they are counted from the frame's start
  pub left_of : (k : ℕ) → (k - k % dots l ≡ leftmost l k) × (leftmost l k ≤ k)
  unfolding leftmost
  left_of k = by_dots (λ e. rw e (omega arith)) (λ e. rw e (omega arith)) (λ e. rw e (omega arith))

  left_in : (k : ℕ) → dot l k / dots l * dots l < breadth l
  left_in k = dot_within l g (dot l k / dots l) (element_below l g (dot l k) (dot_below l k))

  left_dot : (b t : ℕ) → graphic l b (t / dots l * dots l) ≡ graphic l b t
  unfolding graphic
  left_dot b t = graphic_at l g b (t / dots l)

  module _ (font S f : List ℕ) (draws : Draws l font S f) where
    pixel_at_lem : (i t : ℕ) → i < 192 * width l → t < breadth l → get_or f (i * breadth l + t) 0 ≡ graphic l (get_or S i 0) t
    pixel_at_lem i t h m =
        draws (i * breadth l + t) (drawn_within l i t h m) ∙ in_graphics l font S (i * breadth l + t) g ∙ rw (drawn_by l i t m, drawn_as l i t m)

    -- reading the picture of a strip gives the strip, so no other strip draws it
    pub drawn_read : Bytes S → Reads l f S
    unfolding read_byte read
    drawn_read bytes i h =
        sym (same_digits (values l) (λ (j : ℕ). value (values l) (get_or f (i * breadth l + j * dots l) 0)) (λ (j : ℕ). value (values l) (element l (get_or S i 0) j)) (count l)
        (λ j m. ap (value (values l)) (pixel_at_lem i (j * dots l) h (dot_within l g j m) ∙ graphic_at l g (get_or S i 0) j))
        ∙ digits_back l (get_or S i 0) (bytes i))

    -- and it has no stray pixel
    clean : (k : ℕ) → k < frame_length → stray l f k ≡ false
    unfolding stray graphic
    clean k h =
        let i = owner l k in
        let t = dot l k in
        let b = get_or S i 0 in
        let here : get_or f k 0 ≡ graphic l b t = ap (λ (n : ℕ). get_or f n 0) (sym (drawn_at l k)) ∙ pixel_at_lem i t (owner_below l k h) (dot_below l k) in
        let left : get_or f (leftmost l k) 0 ≡ graphic l b t = ap (λ (n : ℕ). get_or f n 0) (left_at k) ∙ pixel_at_lem i (t / dots l * dots l) (owner_below l k h) (left_in k) ∙ left_dot b t in
        rw (here, left) (simp (element_shown l b (t / dots l), eq-eqb (element l b (t / dots l)) (element l b (t / dots l)) refl))

    pub drawn_clean : first_stray l f ≡ frame_length
    unfolding first_stray
    drawn_clean = first_none (stray l f) frame_length clean

  -- a frame without a stray pixel is the picture of the strip read off it
  pub clean_drawn : (font f R : List ℕ) → first_stray l f ≡ frame_length → Reads l f R → Draws l font R f
  unfolding first_stray stray read_byte read graphic
  clean_drawn font f R none reads k h =
      let i = owner l k in
      let j = dot l k / dots l in
      let v : ℕ → ℕ = λ n. get_or f (i * breadth l + n * dots l) 0 in
      let ok = both_pass (shows l (get_or f k 0)) (eqb (get_or f k 0) (get_or f (leftmost l k) 0)) (not-false _ (nowhere (stray l f) frame_length none k h)) in
      let same : get_or f k 0 ≡ v j = eqb-true _ _ ok.1 ∙ ap (λ (n : ℕ). get_or f n 0) (left_at k) in
      same
      ∙ sym (element_back l v j (element_below l g (dot l k) (dot_below l k)) (ap (shows l) (sym same) ∙ ok.0))
      ∙ ap (λ (b : ℕ). element l b j) (sym (reads i (owner_below l k h)))
      ∙ sym (in_graphics l font R k g)

  -- the strip read off a frame, as a list
  abbrev pub strip_of : List ℕ → List ℕ
  strip_of f = written (read_byte l f) (192 * width l) (replicate (192 * width l) 0)

  fills : (f : List ℕ) → Filled (read_byte l f) 0 (192 * width l) (replicate (192 * width l) 0) (strip_of f)
  fills f = written_fills (read_byte l f) (192 * width l) (replicate (192 * width l) 0) (omega (arith, length-replicate {A = ℕ} (192 * width l) 0))

  pub strip_reads : (f : List ℕ) → Reads l f (strip_of f)
  strip_reads f i h = (fills f).is i zero-le h

  pub strip_bytes : (f : List ℕ) → Bytes (strip_of f)
  unfolding read_byte read
  strip_bytes f j =
      ⊎_elim
      (λ h. rw (strip_reads f j h) (read_small l (λ (i : ℕ). get_or f (j * breadth l + i * dots l) 0)))
      (λ h. rw ((fills f).after j h ∙ zeros (192 * width l) j) (omega arith))
      (lt_or_ge j (192 * width l))

  -- a frame has a stray pixel exactly where no strip draws it
  pub no_strip : (font f : List ℕ) → (first_stray l f < frame_length) ↔ ((S : List ℕ) → Bytes S → Draws l font S f → ⊥)
  no_strip font f = (
    λ h S _ d. omega (arith, drawn_clean font S f d),
    λ no. ⊎_elim (λ h. h) (λ h. absurd (no (strip_of f) (strip_bytes f) (clean_drawn font f (strip_of f) (none_stray l f h) (strip_reads f)))) (lt_or_ge (first_stray l f) frame_length),
  )
