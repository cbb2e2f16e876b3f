-- How long the texts of one code are together.
use Prim.Native.Nat.{ℕ, zero, suc, ◌*◌, ◌≤◌, zero-le}
use native.Mathlib.Omega.{arith}
use native.Mathlib.Nat.{mul-suc}
use mathlib.Core.Path.{◌≡◌, sym}
use mathlib.Core.List.{List, [], ◌∷◌}
use lib.ListN.{length, replicate, length-append}
use Rattle.text.specs.Code.{Code}
use Rattle.text.specs.Combine.{AllValid, texts}

module _ {X : Type 0} (C : Code X) (m : ℕ) where
  -- where each has at most m bytes, all have at most m for each
  pub texts_most : ((v : X) → C.Valid v → length (C.text v) ≤ m) → (l : List X) → AllValid C l → length (texts C l) ≤ m * length l
  texts_most most [] h = zero-le
  texts_most most (v ∷ l) h =
      omega (arith, length-append (C.text v) (texts C l), most v h.0, texts_most most l h.1, mul-suc m (length l))

  -- and of n that are the same and have m bytes it is m for each
  pub texts_same : (v : X) → length (C.text v) ≡ m → (n : ℕ) → length (texts C (replicate n v)) ≡ m * n
  texts_same v e zero = sym (omega arith)
  texts_same v e (suc n) = omega (arith, length-append (C.text v) (texts C (replicate n v)), e, texts_same v e n, mul-suc m n)

pub valid_same : {X : Type 0} (C : Code X) (v : X) → C.Valid v → (n : ℕ) → AllValid C (replicate n v)
valid_same C v h zero = tt
valid_same C v h (suc n) = (h, valid_same C v h n)
