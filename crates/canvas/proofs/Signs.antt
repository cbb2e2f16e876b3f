-- A signed number of 16 bits, widened, negated and taken as a count: what it is by `off_of` and `start_of`, and that each step fits.
use mathlib.Core.Path.{◌≡◌, refl, ap, ◌∙◌}
use mathlib.Core.Bool.{true, false}
use Prim.Native.Nat.{zero, suc, ◌<◌}
use native.Mathlib.Omega.{arith}
use lib.Dec.{T}
use lib.IntN.{ℤ, pos, negsuc, neg_ℤ, nat_abs, ◌-ℤ◌, +ℤ_idl}
use lib.Signed.{lt_z, non_neg}
use borrow.Author.Tests.{ltb-true}
use mir.Syntax.{w16, w32, w64}
use mir.Val.{Fits, SFits, to_z, of_z}
use mir.ValLaws.{to_z-of_z}
use Rattle.plans.specs.Cuts.{off_of, start_of}

widen : (z : ℤ) → SFits w16 z → SFits w32 z
widen z f = record { sfits = omega (arith, f.sfits) }

neg_fits : (z : ℤ) → SFits w16 z → SFits w32 (neg_ℤ z)
neg_fits (pos zero) f = record { sfits = omega arith }
neg_fits (pos (suc k)) f = record { sfits = omega (arith, f.sfits) }
neg_fits (negsuc k) f = record { sfits = omega (arith, f.sfits) }

neg_is : (z : ℤ) → lt_z z (pos 0) ≡ true → neg_ℤ z ≡ pos (off_of z)
neg_is (pos k) e = let h : k < 0 = ltb-true k 0 e in absurd (omega arith)
neg_is (negsuc k) e = refl

off_small : (z : ℤ) → SFits w16 z → Fits w64 (off_of z)
off_small (pos k) f = record { fits = omega arith }
off_small (negsuc k) f = record { fits = omega (arith, f.sfits) }

start_small : (z : ℤ) → SFits w16 z → Fits w64 (start_of z)
start_small (pos k) f = record { fits = omega (arith, f.sfits) }
start_small (negsuc k) f = record { fits = omega arith }

pub off_none : (z : ℤ) → lt_z z (pos 0) ≡ false → 0 ≡ off_of z
off_none (pos k) e = refl
off_none (negsuc k) e = cc

pub start_none : (z : ℤ) → lt_z z (pos 0) ≡ true → 0 ≡ start_of z
start_none (pos k) e = let h : k < 0 = ltb-true k 0 e in absurd (omega arith)
start_none (negsuc k) e = refl

start_is : (z : ℤ) → lt_z z (pos 0) ≡ false → z ≡ pos (start_of z)
start_is (pos k) e = refl
start_is (negsuc k) e = cc

module _ (z : ℤ) (f : SFits w16 z) where
  -- the machine's number, read back from its bits, once and after the widening
  pub here : to_z w16 (of_z w16 z) ≡ z
  here = to_z-of_z w16 z f

  pub wide : to_z w32 (of_z w32 (to_z w16 (of_z w16 z))) ≡ z
  wide = ap (λ (y : ℤ). to_z w32 (of_z w32 y)) here ∙ to_z-of_z w32 z (widen z f)

  pub widens : SFits w32 (to_z w16 (of_z w16 z))
  widens = rw here (widen z f)

  pub negates : SFits w32 (pos 0 -ℤ to_z w32 (of_z w32 (to_z w16 (of_z w16 z))))
  negates = rw (wide, +ℤ_idl) (neg_fits z f)

  pub back : lt_z z (pos 0) ≡ true → to_z w32 (of_z w32 (pos 0 -ℤ to_z w32 (of_z w32 (to_z w16 (of_z w16 z))))) ≡ pos (off_of z)
  back e = to_z-of_z w32 (pos 0 -ℤ to_z w32 (of_z w32 (to_z w16 (of_z w16 z)))) negates ∙ ap (λ (y : ℤ). pos 0 -ℤ y) wide ∙ +ℤ_idl (neg_ℤ z) ∙ neg_is z e

  pub count : {y : ℤ} → y ≡ pos (off_of z) → T (non_neg y) × Fits w64 (nat_abs y)
  count e = rw e (tt, off_small z f)

  pub placed : lt_z z (pos 0) ≡ false → to_z w16 (of_z w16 z) ≡ pos (start_of z)
  placed e = here ∙ start_is z e

  pub count_start : {y : ℤ} → y ≡ pos (start_of z) → T (non_neg y) × Fits w64 (nat_abs y)
  count_start e = rw e (tt, start_small z f)
