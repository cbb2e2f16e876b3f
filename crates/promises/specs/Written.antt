-- A buffer after it was written: as an equation for the promises, and place by place for the loops.
use Rattle.std.specs.Prelude.{ℕ, zero, suc, ◌<◌, ◌≤◌, ◌≡◌, List, eqb, length, get_or, set}
use Rattle.promises.specs.Choose.{choose}
use Rattle.promises.specs.Told.{Told}

-- what a lent slice of bytes holds: numbers below 256
abbrev pub Bytes : List ℕ → Type 0
Bytes l = (k : ℕ) → get_or l k 0 < 256

-- old, with g 0, g 1, .., g (n - 1) stored at its first n places; a store past the end changes nothing
unfoldable pub written : (ℕ → ℕ) → ℕ → List ℕ → List ℕ
written g zero old = old
written g (suc n) old = set (written g n old) n (g n)

-- what a call leaves in a buffer or a list, where t is told of it: `new` where it is done; a refusal stores nothing
unfoldable pub leaves : {A : Type 0} → Told → List A → List A → List A
leaves t new old = choose (eqb t.number 0) new old

-- new is old with g k at each place k from a to below n
pub record Filled (g : ℕ → ℕ) (a n : ℕ) (old new : List ℕ) : Type 0 where
  pub long : length new ≡ length old
  pub is : (k : ℕ) → a ≤ k → k < n → get_or new k 0 ≡ g k
  pub before : (k : ℕ) → k < a → get_or new k 0 ≡ get_or old k 0
  pub after : (k : ℕ) → n ≤ k → get_or new k 0 ≡ get_or old k 0
