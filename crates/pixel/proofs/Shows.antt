-- In graphics every byte shows: two that differ draw at least one pixel otherwise.
use Prim.Native.Nat.{ℕ, zero, suc, ◌*◌, ◌+◌, ◌<◌}
use mathlib.Core.Path.{◌≡◌, refl, sym, subst, ◌∙◌}
use mathlib.Core.Bool.{Bool, true, false}
use mathlib.Core.List.{List}
use mathlib.Core.Logic.{◌⊎◌, inl, inr, ⊎_elim}
use native.Mathlib.Nat.{eq-or-lt_of_le, le_of_suc-le-suc, not-suc-le-zero}
use native.Mathlib.Omega.{arith}
use lib.Dec.{eqb}
use lib.ListN.{get_or}
use borrow.Author.Tests.{eqb-true, eqb-false}
use Rattle.promises.specs.Choose.{choose}
use Rattle.settings.specs.declared.Look.{Look}
use Rattle.settings.specs.Fields.{graphics, css}
use Rattle.settings.specs.Modes.{width, dots}
use Rattle.settings.specs.Refusals.{frame_length}
use Rattle.pixel.specs.Dots.{black, bit, one_bit}
use Rattle.pixel.specs.Graphics.{count, element}
use Rattle.pixel.specs.Picture.{breadth, owner, picture}
use Rattle.pixel.proofs.Digits.{same_bits, same_pairs}
use Rattle.pixel.proofs.Owners.{in_graphics, drawn_by, drawn_as, drawn_within}
use Rattle.pixel.proofs.Elements.{by_mode, dot_within, graphic_at}

-- two rows of numbers are alike below n, or differ somewhere
module _ (f g : ℕ → ℕ) where
  abbrev Alike : ℕ → Type 0
  Alike n = (j : ℕ) → j < n → f j ≡ g j

  abbrev Differ : ℕ → Type 0
  Differ n = (j : ℕ) × (j < n) × (f j ≡ g j → ⊥)

  one_more : (n : ℕ) (b : Bool) → eqb (f n) (g n) ≡ b → Alike n → Alike (suc n) ⊎ Differ (suc n)
  one_more n true e h = inl (λ j l. ⊎_elim (λ q. subst (λ (m : ℕ). f m ≡ g m) (sym q) (eqb-true _ _ e)) (λ m. h j m) (eq-or-lt_of_le (le_of_suc-le-suc l)))
  one_more n false e h = inr (n, omega arith, eqb-false _ _ e)

  alike_or_differ : (n : ℕ) → Alike n ⊎ Differ n
  alike_or_differ zero = inl (λ j l. absurd (not-suc-le-zero l))
  alike_or_differ (suc n) = ⊎_elim (λ h. one_more n (eqb (f n) (g n)) refl h) (λ s. inr (s.0, omega (arith, s.1), s.2)) (alike_or_differ n)

-- a colour for 1 and another for 0 tell the bits apart
apart : (a x y : ℕ) → (a ≡ black → ⊥) → x < 2 → y < 2 → choose (eqb x 1) a black ≡ choose (eqb y 1) a black → x ≡ y
apart a zero zero n h i e = refl
apart a zero (suc zero) n h i e = absurd (n (sym e))
apart a (suc zero) zero n h i e = absurd (n e)
apart a (suc zero) (suc zero) n h i e = refl
apart a (suc (suc x)) y n h i e = absurd (omega arith)
apart a zero (suc (suc y)) n h i e = absurd (omega arith)
apart a (suc zero) (suc (suc y)) n h i e = absurd (omega arith)

module _ (l : Look) (b c : ℕ) (h : b < 256) (i : c < 256) where
  -- a byte is known by its elements
  pub by_its_elements : ((j : ℕ) → j < count l → element l b j ≡ element l c j) → b ≡ c
  unfolding element one_bit bit
  by_its_elements =
      by_mode l
      (λ m n. rw (m, n) (λ e. same_bits b c h i (λ j k. apart (4 * css l) _ _ (λ q. omega arith) (omega arith) (omega arith) (e j k))))
      (λ m n. rw (m, n) (λ e. same_pairs b c h i (λ j k. omega (arith, e j k))))

  pub some_element : (b ≡ c → ⊥) → (j : ℕ) × (j < count l) × (element l b j ≡ element l c j → ⊥)
  some_element d = ⊎_elim (λ a. absurd (d (by_its_elements a))) (λ s. s) (alike_or_differ (element l b) (element l c) (count l))

-- where byte i of two strips differs, so does a pixel that it draws
module _ (l : Look) (font S R : List ℕ) (g : graphics l ≡ true) (i : ℕ) (m : i < 192 * width l) where
  pub shows : get_or S i 0 < 256 → get_or R i 0 < 256 → (get_or S i 0 ≡ get_or R i 0 → ⊥)
      → (k : ℕ) × (k < frame_length) × (owner l k ≡ i) × (picture l font S k ≡ picture l font R k → ⊥)
  shows h n d =
      let s = some_element l (get_or S i 0) (get_or R i 0) h n d in
      let w = dot_within l g s.0 s.1 in
      let k = i * breadth l + s.0 * dots l in
      let at : (Q : List ℕ) → picture l font Q k ≡ element l (get_or Q i 0) s.0 =
      λ Q. in_graphics l font Q k g ∙ rw (drawn_by l i (s.0 * dots l) w, drawn_as l i (s.0 * dots l) w) (graphic_at l g (get_or Q i 0) s.0)
      in
      (k, drawn_within l i (s.0 * dots l) m w, drawn_by l i (s.0 * dots l) w, λ e. s.2 (sym (at S) ∙ e ∙ at R))
