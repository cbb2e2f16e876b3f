-- What k and a length that suit each other say: the five cases, and the shape of the banks.
use Prim.Native.Nat.{ℕ, ◌*◌, ◌%◌, ◌^◌, ◌<◌, ◌≤◌}
use mathlib.Core.Path.{◌≡◌, refl}
use mathlib.Core.Bool.{Bool, true, false, ◌||◌}
use native.Mathlib.Omega.{arith}
use borrow.Author.Tests.{eqb-true}
use lib.Dec.{eqb}
use Rattle.promises.specs.Choose.{choose}
use Rattle.transpose.specs.Chip.{chip_fits}

-- a fact about k and a length, by the five cases
pub by_chip : (P : ℕ → ℕ → Type 0) → P 6 4096 → P 6 8192 → P 7 16384 → P 7 32768 → P 8 65536 → (k n : ℕ) → chip_fits k n ≡ true → P k n
by_chip P a b c d e k n h = six (eqb k 6) refl h
  where
    one_or_two : (j m m' : ℕ) → k ≡ j → P j m → P j m' → (t : Bool) → eqb n m ≡ t → t || eqb n m' ≡ true → P k n
    one_or_two j m m' is p q true u h = rw (is, eqb-true n m u) p
    one_or_two j m m' is p q false u h = rw (is, eqb-true n m' h) q

    eight : (t : Bool) → eqb k 8 ≡ t → choose t (eqb n 65536) false ≡ true → P k n
    eight true u h = rw (eqb-true k 8 u, eqb-true n 65536 h) e
    eight false u h = let z : ◌≡◌ {A = ℕ} 0 1 = cc in absurd (omega arith)

    seven : (t : Bool) → eqb k 7 ≡ t → choose t (eqb n 16384 || eqb n 32768) (choose (eqb k 8) (eqb n 65536) false) ≡ true → P k n
    seven true u h = one_or_two 7 16384 32768 (eqb-true k 7 u) c d (eqb n 16384) refl h
    seven false u h = eight (eqb k 8) refl h

    six : (t : Bool) → eqb k 6 ≡ t → choose t (eqb n 4096 || eqb n 8192) (choose (eqb k 7) (eqb n 16384 || eqb n 32768) (choose (eqb k 8) (eqb n 65536) false)) ≡ true → P k n
    six true u h = one_or_two 6 4096 8192 (eqb-true k 6 u) a b (eqb n 4096) refl h
    six false u h = seven (eqb k 7) refl h

-- the shape of the banks: rows of 64 places and more, a power of two that is small, and nothing beside whole banks
abbrev pub Shape : ℕ → ℕ → Type 0
Shape k n = (k < 9) × (2 ^ k ≤ 256) × (0 < 2 ^ k) × (2 ^ k % 64 ≡ 0) × (n % (2 ^ k * 2 ^ k) ≡ 0)

pub shape : (k n : ℕ) → chip_fits k n ≡ true → Shape k n
shape = by_chip Shape
    (omega arith, omega arith, omega arith, refl, refl)
    (omega arith, omega arith, omega arith, refl, refl)
    (omega arith, omega arith, omega arith, refl, refl)
    (omega arith, omega arith, omega arith, refl, refl)
    (omega arith, omega arith, omega arith, refl, refl)

-- the shift that the code makes of k
pub side_is : (k n : ℕ) → chip_fits k n ≡ true → 1 * 2 ^ k % 18446744073709551616 ≡ 2 ^ k
side_is = by_chip (λ (k n : ℕ). 1 * 2 ^ k % 18446744073709551616 ≡ 2 ^ k) refl refl refl refl refl

-- what the loop over the banks asks, of a side that is 2^k
pub whole_banks : (k n room s : ℕ) → chip_fits k n ≡ true → n ≤ room → s ≡ 2 ^ k → ((s ≤ 256) × (s % 64 ≡ 0) × (0 < s)) × ((n % (s * s) ≡ 0) × (n ≤ room))
whole_banks k n room s h l e = let f = shape k n h in rw e ((f.1, f.3, f.2), (f.4, l))
