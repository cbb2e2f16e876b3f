-- Laws of Adler-32: its sums along a list, block by block, that they may be reduced later than at every byte, and that only the bytes that are summed count.
use Prim.Native.Nat.{ℕ, zero, suc, ◌+◌, ◌*◌, ◌/◌, ◌%◌, ◌<◌}
use mathlib.Core.Path.{◌≡◌, refl, ap, ap₂, ◌∙◌}
use mathlib.Core.List.{List}
use native.Mathlib.Omega.{arith}
use native.Mathlib.Nat.{add-mod}
use native.Mathlib.Numerals.{add-one}
use lib.ListN.{length, get_or}
use Rattle.std.proofs.Common.{drop}
use Rattle.std.specs.List.{fold}
use Rattle.std.specs.Simd.{first_chunks}
use Rattle.checksum.specs.Sums.{sums_byte}
use Rattle.checksum.proofs.Chunks.{whole_then_rest, all_items}
use Rattle.checksum.specs.Adler.{adler_low, adler_high, adler}

-- the sums along a list
along : (bytes : List ℕ) → let g = λ (k : ℕ). get_or bytes k 0 in fold sums_byte (1, 0) bytes ≡ (adler_low g (length bytes), adler_high g (length bytes))
unfolding adler_low adler_high
along bytes = let g = λ (k : ℕ). get_or bytes k 0 in all_items sums_byte (λ (n : ℕ). (adler_low g n, adler_high g n)) bytes (λ k. refl)

-- the Adler-32, where whole blocks of n bytes are summed first and then the rest
pub adler_of_list : (bytes : List ℕ) (n : ℕ) (s : ℕ × ℕ) (low high : ℕ) → s ≡ fold (λ a block. fold sums_byte a block) (1, 0) (first_chunks n (length bytes / n) bytes)
    → (low, high) ≡ fold sums_byte s (drop (length bytes / n * n) bytes) → high * 65536 + low ≡ adler (λ (k : ℕ). get_or bytes k 0) (length bytes)
unfolding adler
adler_of_list bytes n s low high e f =
    ap (λ (p : ℕ × ℕ). p.1 * 65536 + p.0)
    (f ∙ ap (λ (p : ℕ × ℕ). fold sums_byte p (drop (length bytes / n * n) bytes)) e ∙ whole_then_rest sums_byte n (length bytes / n) (1, 0) bytes ∙ along bytes)

-- one byte more, to sums that are not reduced
module _ (g : ℕ → ℕ) where
  low_more : (n a : ℕ) → a % 65521 ≡ adler_low g n → (a + g n) % 65521 ≡ adler_low g (n + 1)
  unfolding adler_low
  low_more n a e = rw (add-one n, ← e) (omega arith)

  high_more : (n a b : ℕ) → a % 65521 ≡ adler_low g (n + 1) → b % 65521 ≡ adler_high g n → (b + a) % 65521 ≡ adler_high g (n + 1)
  unfolding adler_high
  high_more n a b e f = add-mod b a 65521 ∙ ap₂ (λ (x y : ℕ). (x + y) % 65521) f e ∙ rw (add-one n) refl

  pub sums_more : (n low high : ℕ) → (low % 65521 ≡ adler_low g n) × (high % 65521 ≡ adler_high g n)
      → ((low + g n) % 65521 ≡ adler_low g (n + 1)) × ((high + (low + g n)) % 65521 ≡ adler_high g (n + 1))
  sums_more n low high e =
      let l : (low + g n) % 65521 ≡ adler_low g (n + 1) = low_more n low e.0 in
      (l, high_more n (low + g n) high l e.1)

-- only the bytes that are summed count
low_by : {g h : ℕ → ℕ} (n : ℕ) → ((k : ℕ) → k < n → g k ≡ h k) → adler_low g n ≡ adler_low h n
unfolding adler_low
low_by zero e = refl
low_by {g} {h} (suc n) e = rw (low_by {g = g} {h = h} n (λ k l. e k (omega arith)), e n (omega arith))

high_by : {g h : ℕ → ℕ} (n : ℕ) → ((k : ℕ) → k < n → g k ≡ h k) → adler_high g n ≡ adler_high h n
unfolding adler_high
high_by zero e = refl
high_by {g} {h} (suc n) e = rw (high_by {g = g} {h = h} n (λ k l. e k (omega arith)), low_by {g = g} {h = h} (suc n) e)

pub adler_by : {g h : ℕ → ℕ} (n : ℕ) → ((k : ℕ) → k < n → g k ≡ h k) → adler g n ≡ adler h n
unfolding adler
adler_by {g} {h} n e = ap₂ (λ (x y : ℕ). x * 65536 + y) (high_by {g = g} {h = h} n e) (low_by {g = g} {h = h} n e)
