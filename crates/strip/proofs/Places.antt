-- Laws of the place in an image: inside a row of 32 it moves with the address, in a bank that is fitted it lies within the image, and a mask finds it.
use Rattle.std.proofs.Common.{◌≡◌, ℕ, ◌+◌, ◌-◌, ◌*◌, ◌/◌, ◌%◌, ◌^◌, ◌<◌, ◌≤◌, true, false, sym, ap, ◌∙◌, mod-lt, arith, leb-false}
use lib.Bits.{bit_and, and_mask}
use borrow.Author.Tests.{lt-leb}
use Rattle.settings.specs.declared.Settings.{Settings}
use Rattle.settings.specs.Fields.{bits}
use Rattle.settings.specs.Banks.{bank_bit, bank_size, bank_start, suited, image_place, missing}
use Rattle.settings.proofs.Banks.{by_bit, by_suited}
use Rattle.counter.specs.Counter.{wrap}
use Rattle.counter.proofs.Wraps.{wrap_small}

module _ (s : Settings) where
  -- the place is what a bank's bit and the bits below it say
  pub place_decoded : (a : ℕ) → image_place s a ≡ a % (2 * bank_size s)
  unfolding image_place
  place_decoded a = by_bit s (λ b. a / 2 ^ b % 2 * 2 ^ b + a % 2 ^ b ≡ a % (2 * 2 ^ b)) (omega arith) (omega arith) (omega arith)

  -- inside a row of 32 places it moves with the address
  pub place_moves : (a j : ℕ) → a < 2 ^ 16 → a % 32 + j < 32 → image_place s (wrap a j) ≡ image_place s a + j
  place_moves a j f l =
      ap (image_place s) (wrap_small a j (omega arith)) ∙ place_decoded (a + j)
      ∙ by_bit s (λ b. (a + j) % (2 * 2 ^ b) ≡ a % (2 * 2 ^ b) + j) (omega arith) (omega arith) (omega arith) ∙ ap (λ (p : ℕ). p + j) (sym (place_decoded a))

  -- and less than two rows on it is another
  pub place_apart : (a b d : ℕ) → 0 < d → d < 64 → image_place s (wrap a (b + d)) ≡ image_place s (wrap a b) → ⊥
  place_apart a b d f l e =
      by_bit s (λ m. (a + (b + d)) % 2 ^ 16 % (2 * 2 ^ m) ≡ (a + b) % 2 ^ 16 % (2 * 2 ^ m) → ⊥) (λ z. omega arith) (λ z. omega arith) (λ z. omega arith)
      (sym (place_decoded (wrap a (b + d))) ∙ e ∙ place_decoded (wrap a b))

  -- the bank of the last address is the last: where it is fitted, every bank is
  pub last_bank : (size a : ℕ) → a < 2 ^ 16 → missing s size 65535 ≡ false → missing s size a ≡ false
  unfolding missing
  last_bank size a h e =
      let k : bank_start s a ≤ bank_start s 65535 = by_bit s (λ b. a / 2 ^ b % 2 * 2 ^ b ≤ 65535 / 2 ^ b % 2 * 2 ^ b) (omega arith) (omega arith) (omega arith) in
      lt-leb size (bank_start s a) (omega (arith, leb-false size (bank_start s 65535) e))

  -- in an image of one bank the bit is 0
  pub first_bank : (a : ℕ) → missing s (bank_size s) a ≡ false → bits a (bank_bit s) 1 ≡ 0
  unfolding missing
  first_bank a e = by_bit s (λ b. a / 2 ^ b % 2 * 2 ^ b < 2 ^ b → a / 2 ^ b % 2 ≡ 0) (λ h. omega arith) (λ h. omega arith) (λ h. omega arith) (leb-false (bank_size s) (bank_start s a) e)

  module _ (n : ℕ) (fits : suited s n ≡ true) where
    pub size_some : 0 < n
    size_some = by_suited s (λ b m. 0 < m) (omega arith) (omega arith) (omega arith) (omega arith) (omega arith) n fits

    -- in a bank that is fitted it is the address modulo the length,
    pub place_modulo : (a : ℕ) → missing s n a ≡ false → image_place s a ≡ a % n
    unfolding missing image_place
    place_modulo a e =
        by_suited s (λ b m. a / 2 ^ b % 2 * 2 ^ b < m → a / 2 ^ b % 2 * 2 ^ b + a % 2 ^ b ≡ a % m)
        (λ h. omega arith) (λ h. omega arith) (λ h. omega arith) (λ h. omega arith) (λ h. omega arith) n fits (leb-false n (bank_start s a) e)

    -- so it lies within the image,
    pub place_below : (a : ℕ) → missing s n a ≡ false → image_place s a < n
    place_below a e = rw (place_modulo a e) (mod-lt a size_some)

    -- and so do v places of one row of 32,
    pub run_within : (a v : ℕ) → a % 32 + v ≤ 32 → missing s n a ≡ false → image_place s a + v ≤ n
    run_within a v l e = rw (place_modulo a e) (by_suited s (λ b m. a % m + v ≤ m) (omega arith) (omega arith) (omega arith) (omega arith) (omega arith) n fits)

    -- and a mask finds it, since the length is a power of two
    pub place_masked : (a : ℕ) → missing s n a ≡ false → bit_and a (n - 1) ≡ image_place s a
    place_masked a e =
        by_suited s (λ b m. bit_and a (m - 1) ≡ a % m) (and_mask a 12) (and_mask a 13) (and_mask a 14) (and_mask a 15) (and_mask a 16) n fits
        ∙ sym (place_modulo a e)
