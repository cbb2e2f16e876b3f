-- A figure to check by: what a definition gives, and what the document says, as numbers.
use Rattle.std.specs.Prelude.{ℕ, Bool, true, false, ◌&&◌, List, [], ◌∷◌, eqb}

pub record Figure : Type 0 where
  pub given : List ℕ
  pub paper : List ℕ

abbrev pub figure : List ℕ → List ℕ → Figure
figure g p = record { given = g; paper = p }

abbrev pub alike : List ℕ → List ℕ → Bool
alike [] [] = true
alike [] (y ∷ ys) = false
alike (x ∷ xs) [] = false
alike (x ∷ xs) (y ∷ ys) = eqb x y && alike xs ys

-- every figure of a list is right
abbrev pub all_right : List Figure → Bool
all_right [] = true
all_right (f ∷ fs) = alike f.given f.paper && all_right fs
