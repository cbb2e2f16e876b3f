-- Laws of a line's columns: a line of one or two runs, and where a run of a later line stands in the first.
use Rattle.std.proofs.Common.{◌≡◌, ℕ, ◌+◌, ◌-◌, ◌%◌, ◌<◌, ◌≤◌, ◌⊎◌, List, length, get_or, ap, ◌∙◌, ⊎_elim, arith}
use lib.Bits.{bit_and, and_mask}
use borrow.Rule.Slice.PartMut.{put_mid}
use Rattle.promises.specs.Written.{Filled}
use Rattle.promises.proofs.Fills.{join}
use Rattle.promises.proofs.Copied.{part}

module _ (wide : ℕ) (runs : (wide ≡ 16) ⊎ (wide ≡ 32)) where
  -- the column of a byte, by a mask
  abbrev pub masked : ℕ → ℕ
  masked k = bit_and k (wide - 1)

  pub column_masked : (k : ℕ) → masked k ≡ k % wide
  column_masked k = ⊎_elim (λ e. rw e (and_mask k 4)) (λ e. rw e (and_mask k 5)) runs

  -- a number of lines is a number of runs
  pub whole_runs : (n : ℕ) → n % wide ≡ 0 → n % 16 ≡ 0
  whole_runs n z = ⊎_elim (λ (e : wide ≡ 16). let y : n % 16 ≡ 0 = rw e at z in y) (λ (e : wide ≡ 32). let y : n % 32 ≡ 0 = rw e at z in omega arith) runs

  -- a run ends within its line, and its bytes stand side by side
  pub run_fits : (to : ℕ) → to % 16 ≡ 0 → to % wide + 16 ≤ wide
  run_fits to z = ⊎_elim (λ e. rw e (omega arith)) (λ e. rw e (omega arith)) runs

  pub run_column : (to j : ℕ) → to % 16 ≡ 0 → j < 16 → (to + j) % wide ≡ to % wide + j
  run_column to j z l = ⊎_elim (λ e. rw e (omega arith)) (λ e. rw e (omega arith)) runs

  -- one run more: it is read from the first line, from the place `from` on, and ys is what its places hold now
  pub run_more : (at to from m : ℕ) (old strip run ys : List ℕ) → to % 16 ≡ 0 → at + wide ≤ to → to + 16 ≤ length strip → m ≡ 16 → length ys ≡ 16 → ((j : ℕ) → j < 16 → get_or ys j 0 ≡ get_or run j 0)
      → from ≡ at + to % wide → ((j : ℕ) → j < 16 → get_or run j 0 ≡ get_or strip (from + j) 0)
      → Filled (λ k. get_or old (at + k % wide) 0) (at + wide) to old strip → Filled (λ k. get_or old (at + k % wide) 0) (at + wide) (to + 16) old (put_mid to m strip ys)
  run_more at to from m old strip run ys z behind fits e long same here brings f =
      join behind (omega arith) f
      (part to m (to + 16) strip ys (omega arith) (omega arith) fits
      (λ j l.
      same j (omega arith)
      ∙ brings j (omega arith)
      ∙ ap (λ (i : ℕ). get_or strip (i + j) 0) here
      ∙ f.before (at + to % wide + j) (omega (arith, run_fits to z))
      ∙ ap (λ (i : ℕ). get_or old i 0) (omega (arith, run_column to j z (omega arith)))))
