-- The bytes a line are 16 or 32, so a line's bytes have 16 or 8 dots each.
use Prim.Native.Nat.{ℕ, ◌≤◌, ◌<◌}
use mathlib.Core.Path.{◌≡◌, refl}
use mathlib.Core.Logic.{◌⊎◌, inl, inr, ⊎_elim}
use native.Mathlib.Omega.{arith}
use native.Mathlib.Nat.{mod-lt}
use lib.Dec.{lit<}
use Rattle.promises.proofs.Choices.{of_both}
use Rattle.promises.proofs.Tables.{each}
use Rattle.settings.specs.declared.Look.{Look}
use Rattle.settings.specs.Fields.{graphics, gm}
use Rattle.settings.specs.Modes.{width, widths}

-- one run of 16 bytes, or two
abbrev OneOrTwo : ℕ → Type 0
OneOrTwo w = (w ≡ 16) ⊎ (w ≡ 32)

pub width_cases : (l : Look) → (width l ≡ 16) ⊎ (width l ≡ 32)
unfolding width
width_cases l =
    let by_mode = each OneOrTwo widths 0 (inl refl, (inl refl, (inr refl, (inl refl, (inr refl, (inl refl, (inr refl, (inr refl, tt)))))))) (gm l) (mod-lt _ (lit< tt)) in
    of_both OneOrTwo (graphics l) by_mode (inr refl)

pub width_le : (l : Look) → width l ≤ 32
width_le l = ⊎_elim (λ e. omega arith) (λ e. omega arith) (width_cases l)

pub width_pos : (l : Look) → 0 < width l
width_pos l = ⊎_elim (λ e. omega arith) (λ e. omega arith) (width_cases l)
