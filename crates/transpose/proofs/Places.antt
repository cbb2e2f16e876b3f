-- The map from addresses to places: it stays within its bank and is its own inverse, so no place is lost or used twice. Once over k.
use Prim.Native.Nat.{ℕ, ◌+◌, ◌*◌, ◌/◌, ◌%◌, ◌<◌}
use mathlib.Core.Path.{◌≡◌, refl, sym, ap, ◌∙◌}
use mathlib.Core.List.{[], ◌∷◌, map}
use native.Mathlib.Omega.{arith}
use native.Mathlib.Nat.{div-add-mod', mod-lt, div-lt_iff_lt-mul, mul-pos}
use lib.Arith.{digits_lt, digits_div, digits_mod}
use Rattle.transpose.specs.Chip.{transposed, transposed_in, chip_place}

-- what leaves no remainder is so many times the divisor
pub whole_times : (n b : ℕ) → n % b ≡ 0 → n ≡ n / b * b
whole_times n b e = omega (arith, div-add-mod' n b, e)

module _ (s : ℕ) (some : 0 < s) where
  -- row and column are exchanged
  pub exchanged : (r : ℕ) {c : ℕ} → c < s → transposed s (r * s + c) ≡ c * s + r
  exchanged r {c} h = rw (digits_mod r h, digits_div r h)

  -- an address of a bank by its row and column
  row_lt : {a : ℕ} → a < s * s → a / s < s
  row_lt h = (div-lt_iff_lt-mul some).1 h

  pub stays : {a : ℕ} → a < s * s → transposed s a < s * s
  stays {a} h = digits_lt (mod-lt a some) (row_lt h)

  pub back : {a : ℕ} → a < s * s → transposed s (transposed s a) ≡ a
  back {a} h = exchanged (a % s) (row_lt h) ∙ div-add-mod' a s

  -- in the bank n
  pub in_bank : (n : ℕ) {x : ℕ} → x < s * s → transposed_in s (n * (s * s) + x) ≡ n * (s * s) + transposed s x
  unfolding transposed_in
  in_bank n {x} h = rw (digits_div n h, digits_mod n h)

  -- bank by bank the map is its own inverse
  pub own_inverse : (a : ℕ) → transposed_in s (transposed_in s a) ≡ a
  own_inverse a =
      let b = s * s in
      let l : a % b < b = mod-lt a (mul-pos some some) in
      let here : transposed_in s a ≡ a / b * b + transposed s (a % b) = ap (transposed_in s) (sym (div-add-mod' a b)) ∙ in_bank (a / b) l in
      ap (transposed_in s) here ∙ in_bank (a / b) (stays l) ∙ ap (λ (x : ℕ). a / b * b + x) (back l) ∙ div-add-mod' a b

  -- and it keeps within whole banks
  pub stays_in : (m : ℕ) {a : ℕ} → a < m * (s * s) → transposed_in s a < m * (s * s)
  unfolding transposed_in
  stays_in m {a} h =
      let some-bank : 0 < s * s = mul-pos some some in
      digits_lt ((div-lt_iff_lt-mul some-bank).1 h) (stays (mod-lt a some-bank))

-- some places by hand: k = 6, 7 and 8, in the first bank and in a second
pub examples : map (λ (p : ℕ × ℕ). chip_place p.0 p.1) ((6, 1) ∷ (6, 64) ∷ (6, 4095) ∷ (6, 4097) ∷ (7, 130) ∷ (7, 16512) ∷ (8, 258) ∷ (8, 65280) ∷ [])
    ≡ 64 ∷ 1 ∷ 4095 ∷ 4160 ∷ 257 ∷ 16385 ∷ 513 ∷ 255 ∷ []
unfolding transposed_in
examples = refl
