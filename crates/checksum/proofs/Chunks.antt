-- A fold over a list is one over its whole chunks and then over the rest; and it is reached place by place.
use Prim.Native.Nat.{ℕ, zero, suc, ◌+◌, ◌*◌, ◌≤◌}
use mathlib.Core.Path.{◌≡◌, refl, sym, ap, ◌∙◌}
use mathlib.Core.List.{List}
use native.Mathlib.Omega.{arith}
use native.Mathlib.Numerals.{add-one}
use native.Mathlib.Nat.{suc-mul, zero-mul}
use lib.ListN.{length, get_or}
use Rattle.std.proofs.Common.{take, drop}
use Rattle.std.specs.List.{fold}
use Rattle.std.specs.Simd.{first_chunks}
use Rattle.std.proofs.Math.Seq.{take-length}
use Rattle.std.proofs.lemmas.List.{take-append-drop, drop-drop}
use Rattle.std.proofs.lemmas.List.Sums.{fold-append, fold_more}

module _ {B : Type 0} (f : B → ℕ → B) where
  abbrev by_chunks : B → List (List ℕ) → B
  by_chunks a cs = fold (λ b chunk. fold f b chunk) a cs

  pub whole_then_rest : (n k : ℕ) (a : B) (xs : List ℕ) → fold f (by_chunks a (first_chunks n k xs)) (drop (k * n) xs) ≡ fold f a xs
  whole_then_rest n zero a xs = rw (zero-mul n) refl
  whole_then_rest n (suc k) a xs =
      let e : suc k * n ≡ n + k * n = omega (arith, suc-mul k n) in
      ap (fold f (by_chunks (fold f a (take n xs)) (first_chunks n k (drop n xs)))) (ap (λ (i : ℕ). drop i xs) e ∙ sym (drop-drop (k * n) n xs))
      ∙ whole_then_rest n k (fold f a (take n xs)) (drop n xs) ∙ sym (fold-append f a (take n xs) (drop n xs)) ∙ ap (fold f a) (take-append-drop n xs)

  -- where s k is what the first k items give
  module _ (s : ℕ → B) (xs : List ℕ) (next : (k : ℕ) → s (suc k) ≡ f (s k) (get_or xs k 0)) where
    so_far : (n : ℕ) → n ≤ length xs → fold f (s 0) (take n xs) ≡ s n
    so_far zero h = refl
    so_far (suc n) h =
        ap (λ (i : ℕ). fold f (s 0) (take i xs)) (sym (add-one n)) ∙ fold_more f (s 0) xs n 0 (omega arith) ∙ ap (λ b. f b (get_or xs n 0)) (so_far n (omega arith)) ∙ sym (next n)

    pub all_items : fold f (s 0) xs ≡ s (length xs)
    all_items = ap (fold f (s 0)) (sym (take-length xs)) ∙ so_far (length xs) (omega arith)
