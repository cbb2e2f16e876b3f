-- Laws of computed tests.
use Prim.Native.Nat.{ℕ, suc, ◌≤◌}
use mathlib.Core.Path.{◌≡◌, refl, sym, ◌∙◌}
use mathlib.Core.Bool.{Bool, true, false, ◌&&◌, ◌||◌, true≢false}
use lib.Dec.{leb}
use borrow.Author.Tests.{leb-true, le-leb}
use Rattle.promises.specs.Choose.{choose}
use Rattle.text.specs.Code.{got, stuck}
use Rattle.text.specs.Combine.{bump}
use Rattle.text.specs.Hex.{between}

-- no test both passes and fails
pub clash : {t : Bool} → t ≡ true → t ≡ false → ⊥
clash h k = true≢false (sym h ∙ k)

pub and_split : (a b : Bool) → a && b ≡ true → (a ≡ true) × (b ≡ true)
and_split true b h = (refl, h)
and_split false b h = absurd (clash h refl)

pub and_both : (a b : Bool) → a ≡ true → b ≡ true → a && b ≡ true
and_both a b h k = rw (h, k)

pub or_left : (a b : Bool) → a ≡ true → a || b ≡ true
or_left a b h = rw h

pub or_right : (a b : Bool) → b ≡ true → a || b ≡ true
or_right true b h = refl
or_right false b h = h

pub between_of : (a z b : ℕ) → a ≤ b → b ≤ z → between a z b ≡ true
between_of a z b h k = and_both (leb a b) (leb b z) (le-leb a b h) (le-leb b z k)

pub between_le : (a z b : ℕ) → between a z b ≡ true → (a ≤ b) × (b ≤ z)
between_le a z b h = let s = and_split (leb a b) (leb b z) h in (leb-true a b s.0, leb-true b z s.1)

-- a choice of readings, each one byte further on
pub bump_choose : {X Y : Type 0} (g : Y → X) (t : Bool) (w : Y) (n m : ℕ) → bump g (choose t (got w n) (stuck m)) ≡ choose t (got (g w) (suc n)) (stuck (suc m))
bump_choose g true w n m = refl
bump_choose g false w n m = refl
