-- The banks of an image by M1, M0: facts by the rows of the table, and by the lengths that are suited.
use Prim.Native.Nat.{ℕ, zero, suc, ◌*◌, ◌/◌, ◌%◌, ◌^◌, ◌<◌}
use mathlib.Core.Path.{◌≡◌, refl}
use mathlib.Core.Bool.{true}
use mathlib.Core.Logic.{⊎_elim}
use native.Mathlib.Nat.{mod-lt}
use native.Mathlib.Omega.{arith}
use lib.Dec.{lit<, eqb}
use lib.ListN.{get_or}
use borrow.Author.Tests.{eqb-true}
use Rattle.promises.proofs.Choices.{either}
use Rattle.settings.specs.declared.Settings.{Settings}
use Rattle.settings.specs.Fields.{memory}
use Rattle.settings.specs.Banks.{bank_bits, full_sizes, bank_bit, full_size, bank_size, suited, bank_start}

-- a fact about a bank's bit and the length with every bank, by the four rows
rows : (P : ℕ → ℕ → Type 0) → P 12 8192 → P 14 32768 → P 16 65536 → (m : ℕ) → m < 4 → P (get_or bank_bits m 0) (get_or full_sizes m 0)
rows P p q r zero h = p
rows P p q r (suc zero) h = q
rows P p q r (suc (suc zero)) h = r
rows P p q r (suc (suc (suc zero))) h = r
rows P p q r (suc (suc (suc (suc m)))) h = absurd (omega arith)

module _ (s : Settings) where
  pub by_memory : (P : ℕ → ℕ → Type 0) → P 12 8192 → P 14 32768 → P 16 65536 → P (bank_bit s) (full_size s)
  by_memory P p q r = rows P p q r (memory s) (mod-lt _ (lit< tt))

  pub by_bit : (P : ℕ → Type 0) → P 12 → P 14 → P 16 → P (bank_bit s)
  by_bit P p q r = by_memory (λ b f. P b) p q r

  -- and about a length that is suited too
  pub by_suited : (P : ℕ → ℕ → Type 0) → P 12 4096 → P 12 8192 → P 14 16384 → P 14 32768 → P 16 65536 → (n : ℕ) → suited s n ≡ true → P (bank_bit s) n
  unfolding suited
  by_suited P a b c d e n h =
      ⊎_elim
      (λ q. rw (eqb-true n (bank_size s) q) (by_bit (λ k. P k (2 ^ k)) a c e))
      (λ q. rw (eqb-true n (full_size s) q) (by_memory (λ k f. P k f) b d e))
      (either (eqb n (bank_size s)) (eqb n (full_size s)) h)

  pub bit_lt : bank_bit s < 64
  bit_lt = by_bit (λ k. k < 64) (omega arith) (omega arith) (omega arith)

  pub bank_some : 0 < bank_size s
  bank_some = by_bit (λ k. 0 < 2 ^ k) (omega arith) (omega arith) (omega arith)

  -- `1 << bit` is one bank
  pub one_shifted : 1 * 2 ^ bank_bit s % 2 ^ 64 ≡ bank_size s
  one_shifted = by_bit (λ k. 1 * 2 ^ k % 2 ^ 64 ≡ 2 ^ k) refl refl refl

  -- and a bank's number, shifted back, is where it begins
  pub bank_shifted : (a : ℕ) → a / 2 ^ bank_bit s % 2 * 2 ^ bank_bit s % 2 ^ 64 ≡ bank_start s a
  bank_shifted a = by_bit (λ k. a / 2 ^ k % 2 * 2 ^ k % 2 ^ 64 ≡ a / 2 ^ k % 2 * 2 ^ k) (omega arith) (omega arith) (omega arith)

-- what the table says of the numbers that no arm of the code's `match` names
pub other_rows : (m : ℕ) → m < 4 → (m ≡ 0 → ⊥) → (m ≡ 1 → ⊥) → (16 ≡ get_or bank_bits m 0) × (65536 ≡ get_or full_sizes m 0)
other_rows zero h p q = absurd (p refl)
other_rows (suc zero) h p q = absurd (q refl)
other_rows (suc (suc zero)) h p q = (refl, refl)
other_rows (suc (suc (suc zero))) h p q = (refl, refl)
other_rows (suc (suc (suc (suc m)))) h p q = absurd (omega arith)
