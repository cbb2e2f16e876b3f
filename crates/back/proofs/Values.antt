-- An element's value and its colour undo each other.
use Prim.Native.Nat.{ℕ, zero, suc, ◌+◌, ◌*◌, ◌/◌, ◌%◌, ◌<◌}
use mathlib.Core.Path.{◌≡◌, refl, sym, ◌∙◌}
use mathlib.Core.Bool.{Bool, true, false, ◌||◌}
use native.Mathlib.Omega.{arith}
use lib.Dec.{eqb}
use borrow.Author.Tests.{eq-eqb, eqb-true}
use Rattle.promises.specs.Choose.{choose}
use Rattle.settings.specs.declared.Look.{Look}
use Rattle.settings.specs.Fields.{css}
use Rattle.pixel.specs.Dots.{black, bit, one_bit, two_bits, digits}
use Rattle.pixel.specs.Graphics.{count, element}
use Rattle.pixel.proofs.Digits.{same_digits, digits_small, bits_digits, pairs_digits, bit_out, pair_out}
use Rattle.pixel.proofs.Elements.{by_mode}
use Rattle.back.specs.Read.{values, value}
use Rattle.back.specs.Stray.{shows}

small_by : (b : Bool) → choose b 0 1 < 2
small_by true = omega arith
small_by false = omega arith

-- a value is one of two, or of four
pub value_two : (c : ℕ) → value 2 c < 2
unfolding value
value_two c = small_by (eqb c black)

pub value_four : (c : ℕ) → value 4 c < 4
unfolding value
value_four c = omega arith

lit_by : (a : ℕ) → a < 2 → (b : ℕ) → b < 2 → choose (eqb (choose (eqb b 1) (4 * a) black) black) 0 1 ≡ b
lit_by a h zero l = refl
lit_by zero h (suc zero) l = refl
lit_by (suc zero) h (suc zero) l = refl
lit_by (suc (suc a)) h (suc zero) l = absurd (omega arith)
lit_by a h (suc (suc b)) l = absurd (omega arith)

module _ (l : Look) where
  -- the colour of an element gives back its digit
  value_bit : (b j : ℕ) → value 2 (one_bit (4 * css l) black b j) ≡ bit b j
  unfolding value one_bit bit
  value_bit b j = lit_by (css l) (omega arith) _ (omega arith)

  value_pair : (b j : ℕ) → value 4 (4 * css l + two_bits b j) ≡ two_bits b j
  unfolding value two_bits
  value_pair b j = omega arith

  -- a byte's elements give back the byte
  pub digits_back : (b : ℕ) → b < 256 → digits (values l) (λ (j : ℕ). value (values l) (element l b j)) (count l) ≡ b
  unfolding values count element
  digits_back b h =
      by_mode l
      (λ m _. simp m (same_digits 2 (λ (j : ℕ). value 2 (one_bit (4 * css l) black b j)) (bit b) 8 (λ j _. value_bit b j) ∙ bits_digits b h))
      (λ m _. simp m (same_digits 4 (λ (j : ℕ). value 4 (4 * css l + two_bits b j)) (two_bits b) 4 (λ j _. value_pair b j) ∙ pairs_digits b h))

  -- a colour that is shown is that of its value
  module _ (c : ℕ) where
    rg_by : (x y : Bool) → eqb c (4 * css l) ≡ x → eqb c black ≡ y → (x || y) ≡ true → choose (eqb (choose y 0 1) 1) (4 * css l) black ≡ c
    rg_by x true hx hy o = sym (eqb-true _ _ hy)
    rg_by true false hx hy o = sym (eqb-true _ _ hx)
    rg_by false false hx hy o = let z : ◌≡◌ {A = ℕ} 0 1 = cc in absurd (omega arith)

    cg_back : eqb (c / 4) (css l) ≡ true → 4 * css l + c % 4 ≡ c
    cg_back e = let q : c / 4 ≡ css l = eqb-true _ _ e in omega arith

  -- so element j of what is read off some colours is colour j, where it is shown
  pub element_back : (g : ℕ → ℕ) (j : ℕ) → j < count l → shows l (g j) ≡ true → element l (digits (values l) (λ (i : ℕ). value (values l) (g i)) (count l)) j ≡ g j
  unfolding values count element shows one_bit value
  element_back g j =
      by_mode l
      (λ m _. simp m (λ h s. rw (bit_out (λ (i : ℕ). value 2 (g i)) (λ i. value_two (g i)) j h) (rg_by (g j) (eqb (g j) (4 * css l)) (eqb (g j) black) refl refl s)))
      (λ m _. simp m (λ h s. rw (pair_out (λ (i : ℕ). value 4 (g i)) (λ i. value_four (g i)) j h) (cg_back (g j) s)))

  -- and what is drawn is shown
  shown_by : (a : ℕ) (x : Bool) → (eqb (choose x a black) a || eqb (choose x a black) black) ≡ true
  shown_by a true = simp (eq-eqb a a refl)
  shown_by a false = last (eqb black a)
    where
      last : (y : Bool) → (y || true) ≡ true
      last true = refl
      last false = refl

  pub element_shown : (b j : ℕ) → shows l (element l b j) ≡ true
  unfolding element shows one_bit two_bits
  element_shown b j =
      by_mode l
      (λ m _. simp m (shown_by (4 * css l) (eqb (bit b j) 1)))
      (λ m _. simp m (eq-eqb _ (css l) (omega arith)))

-- what is read off any colours is a byte
pub read_small : (l : Look) (g : ℕ → ℕ) → digits (values l) (λ (j : ℕ). value (values l) (g j)) (count l) < 256
unfolding values count
read_small l g =
    by_mode l
    (λ m _. simp m (digits_small 2 (λ (j : ℕ). value 2 (g j)) (λ j. value_two (g j)) 8))
    (λ m _. simp m (digits_small 4 (λ (j : ℕ). value 4 (g j)) (λ j. value_four (g j)) 4))
