-- How a byte's bits stand on a line: high bits left.
use Rattle.std.specs.Prelude.{ℕ, zero, suc, ◌+◌, ◌-◌, ◌*◌, ◌/◌, ◌%◌, ◌^◌, eqb}
use Rattle.promises.specs.Choose.{choose}

-- The colour numbers: 0 green, 1 yellow, 2 blue, 3 red, 4 buff, 5 cyan, 6 magenta, 7 orange, 8 black.
abbrev pub black : ℕ
black = 8

-- bit j of eight from the left
unfoldable pub bit : ℕ → ℕ → ℕ
bit b j = b / 2 ^ (7 - j) % 2

-- a dot for it: `on` where it is 1, else `off`
unfoldable pub one_bit : ℕ → ℕ → ℕ → ℕ → ℕ
one_bit on off b j = choose (eqb (bit b j) 1) on off

-- the two bits of pair j of four from the left
unfoldable pub two_bits : ℕ → ℕ → ℕ
two_bits b j = b / 2 ^ (6 - 2 * j) % 4

-- the number whose n digits to base r are g 0, g 1, .., the highest first
abbrev pub digits : ℕ → (ℕ → ℕ) → ℕ → ℕ
digits r g zero = 0
digits r g (suc n) = digits r g n * r + g n
