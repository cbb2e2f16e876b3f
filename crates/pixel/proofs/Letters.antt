-- Text: a letter's pattern lies within the font, and Semigraphics are the same under all pins.
use Prim.Native.Nat.{ℕ, ◌+◌, ◌*◌, ◌%◌, ◌≤◌, ◌<◌}
use mathlib.Core.Path.{◌≡◌, refl}
use mathlib.Core.Bool.{Bool, true, false, not}
use mathlib.Core.List.{List}
use native.Mathlib.Omega.{arith}
use lib.Dec.{eqb, ltb}
use borrow.Author.Tests.{ltb-true, le-ltb}
use Rattle.promises.specs.Choose.{choose}
use Rattle.promises.proofs.Choices.{of_both, both_pass}
use Rattle.settings.specs.declared.Look.{Look}
use Rattle.settings.specs.Fields.{graphics, external, gm0}
use Rattle.settings.specs.Modes.{width, font_size}
use Rattle.pixel.specs.Text.{lower, pattern, block, lit, ink}

pattern_by : (b : ℕ) → b < 256 → (x a : Bool) → (a ≡ true → b < 32) → choose x b (choose a (64 + b) (b % 64)) * 12 + 12 ≤ choose x 3072 1152
pattern_by b s true a h = omega arith
pattern_by b s false true h = omega (arith, h refl)
pattern_by b s false false h = omega arith

module _ (l : Look) where
  -- a row of a pattern is one of the font's bytes
  pub pattern_fits : (b row : ℕ) → b < 256 → row < 12 → pattern l b * 12 + row < font_size l
  unfolding pattern font_size
  pattern_fits b row s h =
      omega (arith, pattern_by b s (external l) (lower l b) (λ t. ltb-true b 32 (both_pass (eqb (gm0 l) 1) (ltb b 32) (both_pass (not (external l)) _ t).1).1))

  -- no font is longer than 256 patterns
  pub font_small : font_size l ≤ 3072
  unfolding font_size
  font_small = of_both (λ (n : ℕ). n ≤ 3072) (external l) (omega arith) (omega arith)

  -- Semigraphics: no pin matters, and no font
  pub blocks : (m : Look) (font list : List ℕ) (b row : ℕ) → 128 ≤ b → (lit l font b row ≡ lit m list b row) × (ink l b ≡ ink m b)
  unfolding lit ink block
  blocks m font list b row h = let e = le-ltb b 128 h in (simp e, simp e)

  -- text has 32 bytes a line
  pub text_width : graphics l ≡ false → width l ≡ 32
  unfolding width
  text_width g = simp g
