-- The addresses of the control word: from $FFC0 to $FFDF, so that half the distance is one of its sixteen bits.
use Prim.Native.Nat.{ℕ, ◌-◌, ◌/◌, ◌≤◌, ◌<◌}
use mathlib.Core.Path.{◌≡◌}
use mathlib.Core.Bool.{true}
use native.Mathlib.Omega.{arith}
use lib.Dec.{leb}
use borrow.Author.Tests.{leb-true}
use Rattle.promises.proofs.Choices.{both_pass}
use Rattle.control.specs.Control.{is_control}

pub bounds : (a : ℕ) → is_control a ≡ true → (0xFFC0 ≤ a) × (a ≤ 0xFFDF)
bounds a e =
    let u = both_pass (leb 0xFFC0 a) (leb a 0xFFDF) e in
    (leb-true 0xFFC0 a u.0, leb-true a 0xFFDF u.1)

pub in_word : (a : ℕ) → is_control a ≡ true → (a - 0xFFC0) / 2 < 16
in_word a e = omega (arith, (bounds a e).1)
