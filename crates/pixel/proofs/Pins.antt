-- GM1 and GM0 out of the number GM2-GM0.
use Prim.Native.Nat.{◌/◌, ◌%◌}
use mathlib.Core.Path.{◌≡◌}
use native.Mathlib.Omega.{arith}
use Rattle.settings.specs.declared.Look.{Look}
use Rattle.settings.specs.Fields.{gm, gm1, gm0}

pub gm_low : (l : Look) → gm l % 2 ≡ gm0 l
gm_low l = omega arith

pub gm_middle : (l : Look) → gm l / 2 % 2 ≡ gm1 l
gm_middle l = omega arith
