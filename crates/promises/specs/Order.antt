-- An order of refusals: a list of conditions, each with what is told where it is the first that holds.
use Rattle.std.specs.Prelude.{ℕ, ◌≡◌, Bool, true, false, ◌&&◌, List, [], ◌∷◌, ◌⊎◌, ltb, eqb}
use Rattle.promises.specs.Choose.{choose}
use Rattle.promises.specs.Told.{Told}

-- a condition, and what is told where it holds
pub record Check : Type 0 where
  pub when : Bool
  pub says : Told

abbrev pub check : Bool → Told → Check
check b t = record { when = b; says = t }

-- what is told after one more check: what it says where nothing was refused before and its condition holds
unfoldable pub after : Check → Told → Told
after c t = choose (eqb t.number 0 && c.when) c.says t

-- what the first condition that holds says, and `other` where none does
abbrev pub first_of : List Check → Told → Told
first_of [] other = other
first_of (c ∷ cs) other = choose c.when c.says (first_of cs other)

-- no condition holds
abbrev pub NoneHolds : List Check → Type 0
NoneHolds [] = Unit
NoneHolds (c ∷ cs) = (c.when ≡ false) × NoneHolds cs

-- the condition with the number n holds, and none before it does
abbrev pub HoldsFirst : ℕ → List Check → Type 0
HoldsFirst n [] = ⊥
HoldsFirst n (c ∷ cs) = ((c.says.number ≡ n) × (c.when ≡ true)) ⊎ ((c.when ≡ false) × HoldsFirst n cs)

-- every number of the list is one of a refusal
abbrev pub are_refusals : List Check → Bool
are_refusals [] = true
are_refusals (c ∷ cs) = ltb 0 c.says.number && are_refusals cs
