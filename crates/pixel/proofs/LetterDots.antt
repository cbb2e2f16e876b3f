-- Text: which pattern a letter shows, whether inverted, and each dot of it.
use Prim.Native.Nat.{ℕ, zero, suc, ◌+◌, ◌-◌, ◌*◌, ◌/◌, ◌%◌, ◌≤◌, ◌<◌}
use mathlib.Core.Path.{◌≡◌, refl, ◌∙◌}
use mathlib.Core.Bool.{Bool, true, false}
use mathlib.Core.List.{List}
use mathlib.Core.Logic.{◌⊎◌, inl, inr}
use native.Mathlib.Omega.{arith}
use lib.Dec.{eqb, eqb→eq}
use lib.ListN.{get_or}
use borrow.Author.Tests.{lt-ltb, le-ltb}
use Rattle.promises.specs.Choose.{choose}
use Rattle.promises.specs.Written.{Bytes}
use Rattle.promises.proofs.Choices.{of_both, and_false}
use Rattle.promises.proofs.Tables.{each_below}
use Rattle.settings.specs.declared.Look.{Look}
use Rattle.settings.specs.Fields.{graphics, external, gm1, gm0, css}
use Rattle.pixel.specs.Dots.{black, bit, one_bit}
use Rattle.pixel.specs.Text.{dd6, lower, pattern, inverted, letter, block, lit, ink}
use Rattle.pixel.specs.Picture.{owner, dot, picture}
use Rattle.pixel.proofs.Owners.{owner_div, dot_mod, in_text}
use Rattle.pixel.proofs.Letters.{text_width}

module _ (l : Look) where
  -- external text shows the pattern of the byte's whole number, inverted as DD6 says
  pub shows_external : (b : ℕ) → external l ≡ true → (pattern l b ≡ b) × (inverted l b ≡ dd6 b)
  unfolding pattern inverted
  shows_external b x = (rw x, rw x)

  -- in internal text lower case shows pattern 64 plus the byte, inverted; every other letter that of its low six bits, inverted as DD6 says
  module _ (own : external l ≡ false) where
    pub shows_lower : (b : ℕ) → gm0 l ≡ 1 → b < 32 → (pattern l b ≡ 64 + b) × (inverted l b ≡ 1)
    unfolding pattern inverted
    shows_lower b e h = let low = lt-ltb b 32 h in (rw own (simp (e, low)), rw own (simp (e, low)))

    pub shows_other : (b : ℕ) → (gm0 l ≡ 0) ⊎ (32 ≤ b) → (pattern l b ≡ b % 64) × (inverted l b ≡ dd6 b)
    unfolding pattern inverted
    shows_other b (inl e) = (rw own (simp e), rw own (simp e))
    shows_other b (inr h) = let high = le-ltb b 32 h in (rw own (simp (high, and_false)), rw own (simp (high, and_false)))

-- where each bit of a byte is the other one, each dot is the other one too
turned : (on off m : ℕ) → m < 2 → choose (eqb (1 - m) 1) on off ≡ choose (eqb m 1) off on
turned on off zero h = refl
turned on off (suc zero) h = refl
turned on off (suc (suc m)) h = absurd (omega arith)

abbrev other_bit : ℕ → Bool
other_bit n = eqb (bit (255 - n / 8) (n % 8)) (1 - bit (n / 8) (n % 8))

exchanged : (on off x t : ℕ) → x < 256 → t < 8 → one_bit on off (255 - x) t ≡ one_bit off on x t
unfolding one_bit bit
exchanged on off x t h i =
    let n = x * 8 + t in
    let d : n / 8 ≡ x = omega arith in
    let m : n % 8 ≡ t = omega arith in
    let e : bit (255 - n / 8) (n % 8) ≡ 1 - bit (n / 8) (n % 8) = eqb→eq _ _ (each_below other_bit 2048 tt n (omega arith)) in
    rw (rw (d, m) at e) (turned on off (bit x t) (omega arith))

-- a byte of which two looks show the same pattern, both inverted or neither, is drawn alike under both
pub same_letter : (l m : Look) (font : List ℕ) (b row n i : ℕ) → (pattern l b ≡ n) × (inverted l b ≡ i) → (pattern m b ≡ n) × (inverted m b ≡ i) → gm1 l ≡ gm1 m → css l ≡ css m
    → (lit l font b row ≡ lit m font b row) × (ink l b ≡ ink m b)
unfolding lit letter block ink
same_letter l m font b row n i own other e c = (rw (own.0, own.1, other.0, other.1, e), rw c)

-- in text strip byte k / 8 draws pixel k
abbrev pub byte_at : List ℕ → ℕ → ℕ
byte_at strip k = get_or strip (k / 8) 0

-- the dot of pattern n at pixel k, in its row k / 256 % 12 and column k % 8: `on` where the font's bit is 1, else `off`
abbrev pub dot_of : ℕ → ℕ → List ℕ → ℕ → ℕ → ℕ
dot_of on off font n k = one_bit on off (get_or font (n * 12 + k / 256 % 12) 0) (k % 8)

module _ (l : Look) (font strip : List ℕ) (k : ℕ) (g : graphics l ≡ false) where
  pub text_dot : picture l font strip k ≡ one_bit (ink l (byte_at strip k)) black (lit l font (byte_at strip k) (k / 256 % 12)) (k % 8)
  text_dot =
      let w = text_width l g in
      let o : owner l k ≡ k / 8 = owner_div l k ∙ rw w in
      let d : dot l k ≡ k % 8 = dot_mod l k ∙ rw w in
      in_text l font strip k g ∙ rw (o, d)

  -- a letter's dot is that of its pattern: in colour on black, or dark on colour, by inverting and GM1
  module _ (holds : Bytes font) (small : byte_at strip k < 128) where
    by_choice : (x : ℕ) → x < 256 → (c : Bool) → one_bit (7 * css l) black (choose c x (255 - x)) (k % 8) ≡ choose c (one_bit (7 * css l) black x (k % 8)) (one_bit black (7 * css l) x (k % 8))
    by_choice x h true = refl
    by_choice x h false = exchanged (7 * css l) black x (k % 8) h (omega arith)

    pub letter_dot : (n i : ℕ) → (pattern l (byte_at strip k) ≡ n) × (inverted l (byte_at strip k) ≡ i)
        → picture l font strip k ≡ choose (eqb i (gm1 l)) (dot_of (7 * css l) black font n k) (dot_of black (7 * css l) font n k)
    unfolding lit letter ink
    letter_dot n i e = text_dot ∙ rw (lt-ltb (byte_at strip k) 128 small, e.0, e.1) (by_choice (get_or font (n * 12 + k / 256 % 12) 0) (holds _) (eqb i (gm1 l)))

-- two dots are exchanged: one is on where the other is off
abbrev pub Exchanged : ℕ → ℕ → ℕ → ℕ → Type 0
Exchanged on off a b = ((a ≡ on) × (b ≡ off)) ⊎ ((a ≡ off) × (b ≡ on))

by_dot : (on off i : ℕ) (c : Bool) → i < 2 → Exchanged on off (choose (eqb i 0) (choose c on off) (choose c off on)) (choose (eqb i 1) (choose c on off) (choose c off on))
by_dot on off zero true h = inl (refl, refl)
by_dot on off zero false h = inr (refl, refl)
by_dot on off (suc zero) true h = inr (refl, refl)
by_dot on off (suc zero) false h = inl (refl, refl)
by_dot on off (suc (suc i)) c h = absurd (omega arith)

-- what a letter shows reads INT/EXT and GM0 alone, and inverting is 1 or 0
same_shown : (l m : Look) → external l ≡ external m → gm0 l ≡ gm0 m → (b : ℕ) → (pattern m b ≡ pattern l b) × (inverted m b ≡ inverted l b)
unfolding pattern inverted
same_shown l m kind same b = (rw (kind, same), rw (kind, same))

one_or_none : (l : Look) (b : ℕ) → inverted l b < 2
unfolding inverted
one_or_none l b = of_both (λ (i : ℕ). i < 2) (lower l b) (omega arith) (omega arith)

-- GM1 = 1 exchanges each dot of a letter
pub gm1_turns : (l m : Look) (font strip : List ℕ) (k : ℕ) → graphics l ≡ false → graphics m ≡ false → external l ≡ external m → gm0 l ≡ gm0 m → css l ≡ css m → gm1 l ≡ 0 → gm1 m ≡ 1
    → Bytes font → byte_at strip k < 128 → Exchanged (7 * css l) black (picture l font strip k) (picture m font strip k)
unfolding one_bit
gm1_turns l m font strip k g h kind same colour off on holds small =
    let b = byte_at strip k in
    let own = letter_dot l font strip k g holds small (pattern l b) (inverted l b) (refl, refl) in
    let other = letter_dot m font strip k h holds small (pattern l b) (inverted l b) (same_shown l m kind same b) in
    rw (own, other, ← colour, off, on)
    (by_dot (7 * css l) black (inverted l b) (eqb (bit (get_or font (pattern l b * 12 + k / 256 % 12) 0) (k % 8)) 1) (one_or_none l b))
