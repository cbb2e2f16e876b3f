-- What a mode's numbers say while its bytes are gathered: values are small, and places lie within strip and frame.
use Prim.Native.Nat.{ℕ, ◌+◌, ◌*◌, ◌/◌, ◌^◌, ◌≤◌, ◌<◌}
use mathlib.Core.Path.{◌≡◌, refl, sym, ap, ◌∙◌}
use mathlib.Core.Bool.{true, false}
use mathlib.Core.List.{List}
use mathlib.Core.Logic.{inl, inr, ⊎_elim}
use native.Mathlib.Nat.{suc-mul, add-mul, mul_assoc, mul-le-mul_right, pow-le-pow_right}
use native.Mathlib.Omega.{arith}
use lib.Dec.{eqb}
use Rattle.settings.specs.declared.Look.{Look}
use Rattle.settings.specs.Fields.{graphics, gm0}
use Rattle.settings.specs.Modes.{dots}
use Rattle.pixel.specs.Dots.{digits}
use Rattle.pixel.specs.Graphics.{count}
use Rattle.pixel.specs.Picture.{breadth}
use Rattle.pixel.proofs.Elements.{by_elements}
use Rattle.pixel.proofs.Digits.{digits_small}
use Rattle.back.specs.Read.{values, value, read, read_byte}
use Rattle.back.specs.Steps.{Shape}
use Rattle.back.proofs.Values.{value_two, value_four}

module _ {r n e : ℕ} (h : Shape r n e) where
  pub values_le : (0 < r) × (r ≤ 4)
  values_le = ⊎_elim (λ k. omega (arith, k.0)) (λ k. omega (arith, k.0)) h.kind

  value_below : (c : ℕ) → value r c < r
  value_below c = ⊎_elim (λ k. rw k.0 (value_two c)) (λ k. rw k.0 (value_four c)) h.kind

  in_all : r ^ n ≡ 256
  in_all = ⊎_elim (λ k. rw (k.0, k.1)) (λ k. rw (k.0, k.1)) h.kind

  -- the number of the first elements of a byte is a byte
  pub number_small : (g : ℕ → ℕ) (j : ℕ) → j ≤ n → digits r (λ (i : ℕ). value r (g i)) j < 256
  number_small g j l =
      omega (arith, digits_small r (λ (i : ℕ). value r (g i)) (λ i. value_below (g i)) j, pow-le-pow_right {n = r} values_le.0 l, in_all)

  -- a byte lies within the strip
  pub byte_within : (m c : ℕ) → m < 192 → c < 256 / (n * e) → m * (256 / (n * e)) + c < 192 * (256 / (n * e))
  byte_within m c l k = omega (arith, mul-le-mul_right (256 / (n * e)) l, suc-mul m (256 / (n * e)))

  -- and so does a line
  pub line_within : (m : ℕ) → m < 192 → m * (256 / (n * e)) + 256 / (n * e) ≤ 192 * (256 / (n * e))
  line_within m l = omega (arith, mul-le-mul_right (256 / (n * e)) l, suc-mul m (256 / (n * e)))

  -- and byte c of line m is byte m × W + c of the frame
  pub cell_start : (m c : ℕ) → m * 256 + c * (n * e) ≡ (m * (256 / (n * e)) + c) * (n * e)
  cell_start m c = sym (add-mul (m * (256 / (n * e))) c (n * e) ∙ ap (λ (x : ℕ). x + c * (n * e)) (mul_assoc m (256 / (n * e)) (n * e) ∙ ap (λ (x : ℕ). m * x) h.fills))

-- the shapes of RG1, RG2 and RG3, and of CG1
pub bits_two : Shape 2 8 2
bits_two = record { kind = inl (refl, refl); some = omega arith; broad = omega arith; fills = refl }

pub pairs_four : Shape 4 4 4
pairs_four = record { kind = inr (refl, refl); some = omega arith; broad = omega arith; fills = refl }

-- what is gathered by a shape is what the look shows
module _ (l : Look) (g : graphics l ≡ true) where
  as_shape : {r n e : ℕ} → values l ≡ r → count l ≡ n → dots l ≡ e → (f : List ℕ) (i : ℕ) → read r n e f (i * (n * e)) ≡ read_byte l f i
  unfolding read_byte
  as_shape a b d f i = sym (rw (by_elements l g, a, b, d))

  pub as_bits : (e : ℕ) → eqb (gm0 l) 1 ≡ true → breadth l ≡ 8 * e → (f : List ℕ) (i : ℕ) → read 2 8 e f (i * (8 * e)) ≡ read_byte l f i
  unfolding values count
  as_bits e m w =
      let d : 8 * e ≡ 8 * dots l = sym w ∙ simp m at (by_elements l g) in
      as_shape (simp m) (simp m) (omega arith)

  pub as_pairs : (e : ℕ) → eqb (gm0 l) 1 ≡ false → breadth l ≡ 4 * e → (f : List ℕ) (i : ℕ) → read 4 4 e f (i * (4 * e)) ≡ read_byte l f i
  unfolding values count
  as_pairs e m w =
      let d : 4 * e ≡ 4 * dots l = sym w ∙ simp m at (by_elements l g) in
      as_shape (simp m) (simp m) (omega arith)
