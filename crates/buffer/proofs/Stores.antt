-- The law of `store` where both buffers are long enough: n bytes are written, whatever function gives them.
use Prim.Native.Nat.{ℕ, ◌≤◌, ◌<◌, min}
use mathlib.Core.Path.{◌≡◌, ap, ◌∙◌}
use mathlib.Core.List.{List}
use native.Mathlib.Omega.{arith}
use lib.ListN.{length, get_or}
use Rattle.promises.specs.Written.{written}
use Rattle.promises.proofs.Fills.{written_by}

pub stored : (g : ℕ → ℕ) {m : ℕ} (n : ℕ) (bytes room : List ℕ) {new : List ℕ} → m ≡ n → n ≤ length bytes → n ≤ length room → ((k : ℕ) → k < n → get_or bytes k 0 ≡ g k)
    → new ≡ written (λ (k : ℕ). get_or bytes k 0) (min m (min (length bytes) (length room))) room → new ≡ written g n room
stored g {m} n bytes room w b r e p =
    let s : min m (min (length bytes) (length room)) ≡ n = omega arith in
    p ∙ ap (λ (k : ℕ). written (λ (j : ℕ). get_or bytes j 0) k room) s ∙ written_by n room e
