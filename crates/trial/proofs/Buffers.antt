-- How the sum and the mark of a buffer grow by one place.
use Rattle.std.proofs.Common.{◌≡◌, ℕ, ◌+◌, ◌*◌, ◌%◌, eqb, List, get_or, refl, add-one}
use Rattle.promises.specs.Choose.{choose}
use Rattle.trial.specs.Buffers.{marked, unchanged_to, sum_to}

pub sum_none : (l : List ℕ) → sum_to l 0 ≡ 0
unfolding sum_to
sum_none l = refl

pub sum_more : (l : List ℕ) (i n : ℕ) → n ≡ sum_to l i → (n * 31 + get_or l i 0) % 65521 ≡ sum_to l (i + 1)
unfolding sum_to
sum_more l i n e = rw (add-one i, e) refl

pub unchanged_none : (l : List ℕ) → unchanged_to l 0 ≡ 0
unfolding unchanged_to
unchanged_none l = refl

pub unchanged_more : (l : List ℕ) (i n : ℕ) → n ≡ unchanged_to l i → choose (eqb (get_or l i 0) (marked i)) n (i + 1) ≡ unchanged_to l (i + 1)
unfolding unchanged_to
unchanged_more l i n e = rw (add-one i, e) refl
