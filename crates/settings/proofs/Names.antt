-- A mode's name in its array of three bytes.
use Prim.Native.Nat.{ℕ, ◌≤◌}
use mathlib.Core.Path.{◌≡◌, refl}
use mathlib.Core.List.{List, [], ◌∷◌}
use native.Mathlib.Omega.{arith}
use lib.ListN.{length, take}
use Rattle.promises.proofs.Choices.{of_both}
use Rattle.settings.specs.declared.Look.{Look}
use Rattle.settings.specs.Fields.{graphics, external}
use Rattle.settings.specs.Modes.{mode_name, named}

pub name_small : (l : Look) → length (mode_name l) ≤ 3
unfolding mode_name
name_small l =
    of_both (λ (s : List ℕ). length s ≤ 3) (graphics l) (omega arith) (of_both (λ (s : List ℕ). length s ≤ 3) (external l) (omega arith) (omega arith))

-- the first bytes of the array are the name, and it has three
pub name_bytes : (s : List ℕ) → length s ≤ 3 → (take (named s).len (named s).bytes ≡ s) × (length (named s).bytes ≡ 3)
name_bytes [] h = (refl, refl)
name_bytes (a ∷ []) h = (refl, refl)
name_bytes (a ∷ b ∷ []) h = (refl, refl)
name_bytes (a ∷ b ∷ c ∷ []) h = (refl, refl)
name_bytes (a ∷ b ∷ c ∷ d ∷ s) h = absurd (omega arith)
