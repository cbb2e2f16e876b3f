-- The step by which the two sums of Adler-32 are taken along a list of bytes. Only contracts behind the operations name it.
use Rattle.std.specs.Prelude.{ℕ, ◌+◌, ◌%◌}

-- the two sums after one byte more
abbrev pub sums_byte : ℕ × ℕ → ℕ → ℕ × ℕ
sums_byte s b = ((s.0 + b) % 65521, (s.1 + (s.0 + b) % 65521) % 65521)
