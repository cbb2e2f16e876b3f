-- What the loops of reading back ask of a mode's numbers: the elements of a byte, their values and their dots.
use Rattle.std.specs.Prelude.{ℕ, ◌*◌, ◌/◌, ◌≤◌, ◌<◌, ◌≡◌, ◌⊎◌}

-- a byte has n elements of r values and e dots: eight bits, or four pairs of bits; and such bytes fill a line
pub record Shape (r n e : ℕ) : Type 0 where
  pub kind : ((r ≡ 2) × (n ≡ 8)) ⊎ ((r ≡ 4) × (n ≡ 4))
  pub some : 0 < e
  pub broad : 8 ≤ n * e
  pub fills : 256 / (n * e) * (n * e) ≡ 256
