-- What a returned part of a lent slice is: what it holds, and where it lies.
use Rattle.std.specs.Prelude.{ℕ, ◌+◌, ◌≡◌, List, take, drop}
use Rattle.std.specs.Borrow.{Bor}

-- `part` is the `count` bytes of `lent` from `from` on: it holds them, and lies in the same block of memory, `from` bytes after its start
pub record PartOf (lent part : Bor (List ℕ)) (from count : ℕ) : Type 0 where
  pub bytes : part.now ≡ take count (drop from lent.now)
  pub block : part.ref_ptr.0 ≡ lent.ref_ptr.0
  pub offset : part.ref_ptr.1 ≡ from + lent.ref_ptr.1
