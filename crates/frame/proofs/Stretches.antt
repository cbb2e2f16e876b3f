-- Where the dots of a line's bytes go, each one pixel wide or two.
use Prim.Native.Nat.{ℕ, ◌+◌, ◌-◌, ◌*◌, ◌/◌, ◌%◌, ◌≤◌, ◌<◌}
use mathlib.Core.Path.{◌≡◌, ap}
use mathlib.Core.List.{List}
use mathlib.Core.Logic.{⊎_elim}
use native.Mathlib.Omega.{arith}
use lib.ListN.{get_or}
use Rattle.frame.specs.Steps.{Stretch, plotted}

module _ {s : ℕ} (h : Stretch s) where
  -- eight dots are shown by 8 × s pixels
  pub dot_of_lem : (k : ℕ) → k % (8 * s) / s < 8
  dot_of_lem k = ⊎_elim (λ e. rw e (omega arith)) (λ e. rw e (omega arith)) h

  -- and the next byte's follow them
  pub cell_end : (n c : ℕ) → n * 256 + c * (8 * s) + 8 * s ≡ n * 256 + (c + 1) * (8 * s)
  cell_end n c = ⊎_elim (λ e. rw e (omega arith)) (λ e. rw e (omega arith)) h

  -- the pixels of byte c of line n
  pub cell : (T S : List ℕ) (n c r : ℕ) → r ≡ get_or S (n * (32 / s) + c) 0
      → (k : ℕ) → n * 256 + c * (8 * s) ≤ k → k < n * 256 + c * (8 * s) + 8 * s → get_or T (r * 8 + (k - (n * 256 + c * (8 * s))) / s) 0 ≡ plotted s T S k
  unfolding plotted
  cell T S n c r =
      ⊎_elim
      (λ e. rw e (λ q k a b.
      let i : k / 8 ≡ n * 32 + c = omega arith in
      ap (λ (j : ℕ). get_or T j 0) (omega (arith, q, ap (λ (m : ℕ). get_or S m 0) i))))
      (λ e. rw e (λ q k a b.
      let i : k / 16 ≡ n * 16 + c = omega arith in
      ap (λ (j : ℕ). get_or T j 0) (omega (arith, q, ap (λ (m : ℕ). get_or S m 0) i))))
      h
