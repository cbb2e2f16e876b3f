-- A byte's elements fill its dots: eight of one bit in RG modes, four of two bits in CG modes.
use Prim.Native.Nat.{ℕ, ◌*◌, ◌/◌, ◌%◌, ◌<◌}
use mathlib.Core.Path.{◌≡◌, refl}
use mathlib.Core.Bool.{Bool, true, false}
use mathlib.Core.Logic.{◌⊎◌, inl, inr, ⊎_elim}
use native.Mathlib.Omega.{arith}
use native.Mathlib.Nat.{mod-lt, div-lt_iff_lt-mul, mul-lt-mul_of_pos_right, mul-div_cancel}
use lib.Dec.{T, eqb, eqb→eq, lit<}
use lib.ListN.{get_or}
use Rattle.promises.specs.Choose.{choose}
use Rattle.promises.proofs.Choices.{of_both}
use Rattle.promises.proofs.Tables.{each_below, each}
use Rattle.settings.specs.declared.Look.{Look}
use Rattle.settings.specs.Fields.{graphics, gm, gm0}
use Rattle.settings.specs.Modes.{widths, elements, width, dots}
use Rattle.settings.proofs.Widths.{width_cases}
use Rattle.pixel.specs.Picture.{breadth}
use Rattle.pixel.specs.Graphics.{count, element, graphic}
use Rattle.pixel.proofs.Pins.{gm_low}

-- of all eight modes, by GM: W bytes of so many elements, of so many dots each, fill a line
abbrev fills : ℕ → Bool
fills n = eqb (choose (eqb (n % 2) 1) 8 4 * get_or elements n 0 * get_or widths n 0) 256

-- and a byte has eight of them, or four
module _ {A : Type 0} (l : Look) (rg : eqb (gm0 l) 1 ≡ true → count l ≡ 8 → A) (cg : eqb (gm0 l) 1 ≡ false → count l ≡ 4 → A) where
  by_test : (a : Bool) → eqb (gm0 l) 1 ≡ a → A
  unfolding count
  by_test true e = rg e (simp e)
  by_test false e = cg e (simp e)

  pub by_mode : A
  by_mode = by_test (eqb (gm0 l) 1) refl

abbrev Dots : ℕ → Type 0
Dots d = (d ≡ 1) ⊎ ((d ≡ 2) ⊎ (d ≡ 4))

module _ (l : Look) (g : graphics l ≡ true) where
  a_line : count l * dots l * width l ≡ 256
  unfolding count dots width
  a_line =
      let t : T (fills (gm l)) = each_below fills 8 tt (gm l) (mod-lt _ (lit< tt)) in
      simp g (rw (gm_low l) at (eqb→eq (choose (eqb (gm l % 2) 1) 8 4 * get_or elements (gm l) 0 * get_or widths (gm l) 0) 256 t))

  -- an element's dots, by how many of them and how many bytes there are
  sized : {c w : ℕ} → count l ≡ c → width l ≡ w → c * dots l * w ≡ 256
  sized c w = rw (c, w) at a_line

  -- a byte's dots are those of its elements
  pub by_elements : breadth l ≡ count l * dots l
  by_elements =
      by_mode l
      (λ _ c. ⊎_elim (λ (w : width l ≡ 16). rw (c, w) (omega (arith, sized c w))) (λ (w : width l ≡ 32). rw (c, w) (omega (arith, sized c w))) (width_cases l))
      (λ _ c. ⊎_elim (λ (w : width l ≡ 16). rw (c, w) (omega (arith, sized c w))) (λ (w : width l ≡ 32). rw (c, w) (omega (arith, sized c w))) (width_cases l))

  -- an element has one dot, two or four
  pub dots_cases : (dots l ≡ 1) ⊎ ((dots l ≡ 2) ⊎ (dots l ≡ 4))
  unfolding dots
  dots_cases =
      let two = inr (inl refl) in
      of_both Dots (graphics l) (each Dots elements 0 (inr (inr refl), (two, (two, (two, (two, (two, (two, (inl refl, tt)))))))) (gm l) (mod-lt _ (lit< tt))) (inl refl)

  pub dots_pos : 0 < dots l
  dots_pos = ⊎_elim (λ e. omega arith) (⊎_elim (λ e. omega arith) (λ e. omega arith)) dots_cases

  -- so dot t is of element t / dots, and element j begins at dot j × dots
  pub element_below : (t : ℕ) → t < breadth l → t / dots l < count l
  element_below t h = (div-lt_iff_lt-mul dots_pos).1 (rw by_elements at h)

  pub dot_within : (j : ℕ) → j < count l → j * dots l < breadth l
  dot_within j h = rw by_elements (mul-lt-mul_of_pos_right h dots_pos)

  pub graphic_at : (b j : ℕ) → graphic l b (j * dots l) ≡ element l b j
  unfolding graphic
  graphic_at b j = rw (mul-div_cancel j dots_pos)
