-- Laws of tests, and of a choice by one.
use mathlib.Core.Path.{◌≡◌, refl}
use mathlib.Core.Bool.{Bool, true, false, ◌&&◌, ◌||◌}
use mathlib.Core.Logic.{◌⊎◌, inl, inr}
use Rattle.promises.specs.Choose.{choose}

-- what holds of both holds of the choice
pub of_both : {A : Type 0} (P : A → Type 0) (b : Bool) {x y : A} → P x → P y → P (choose b x y)
of_both P true p q = p
of_both P false p q = q

-- a test passes or fails
pub by_test : {P : Type 0} (b : Bool) → (b ≡ true → P) → (b ≡ false → P) → P
by_test true f g = f refl
by_test false f g = g refl

-- one of two tests passes
pub either : (a b : Bool) → a || b ≡ true → (a ≡ true) ⊎ (b ≡ true)
either true b h = inl refl
either false b h = inr h

-- both of two tests pass
pub both_pass : (a b : Bool) → a && b ≡ true → (a ≡ true) × (b ≡ true)
both_pass true b h = (refl, h)
both_pass false b h = (h, cc)

-- a test and one that fails
pub and_false : (a : Bool) → a && false ≡ false
and_false true = refl
and_false false = refl

-- neither of two tests passes
pub neither : (a b : Bool) → a || b ≡ false → (a ≡ false) × (b ≡ false)
neither true b h = (h, cc)
neither false b h = (refl, h)
