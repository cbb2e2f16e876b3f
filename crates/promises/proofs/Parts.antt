-- The laws of parts: what a part of a lent slice holds and where it lies is fixed by its numbers.
use Prim.Native.Nat.{ℕ}
use mathlib.Core.Path.{◌≡◌, sym, ◌∙◌, subst}
use mathlib.Core.List.{List}
use denote.Ref.{Bor}
use Rattle.promises.specs.Fixes.{placed}
use Rattle.promises.specs.Part.{PartOf}

-- two parts by the same numbers hold the same and lie at the same place
pub one_part : {lent part part' : Bor (List ℕ)} {from count : ℕ} → PartOf lent part from count → PartOf lent part' from count → placed part ≡ placed part'
one_part p q = λ i. (((p.block ∙ sym q.block) i, (p.offset ∙ sym q.offset) i), (p.bytes ∙ sym q.bytes) i)

-- the same part by other numbers
pub part_move : {lent part : Bor (List ℕ)} (a n a' n' : ℕ) → a' ≡ a → n' ≡ n → PartOf lent part a n → PartOf lent part a' n'
part_move {lent} {part} a n a' n' p q h = subst (PartOf lent part a') (sym q) (subst (λ (x : ℕ). PartOf lent part x n) (sym p) h)
