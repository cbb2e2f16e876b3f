-- The banks of an image by M1, M0 (document 02, CR 7): a table by M1, M0 = 00, 01, 10, 11.
use Rattle.std.specs.Prelude.{ℕ, ◌+◌, ◌*◌, ◌%◌, ◌^◌, Bool, ◌||◌, List, [], ◌∷◌, eqb, leb, get_or}
use Rattle.settings.specs.declared.Settings.{Settings}
use Rattle.settings.specs.Fields.{bits, memory}

-- which bit of an address is its bank: B12 or B14; in the last two no address has such a bit, and all sixteen are the place
abbrev pub bank_bits : List ℕ
bank_bits = 12 ∷ 14 ∷ 16 ∷ 16 ∷ []

-- and the length of an image with every bank
abbrev pub full_sizes : List ℕ
full_sizes = 8192 ∷ 32768 ∷ 65536 ∷ 65536 ∷ []

abbrev pub bank_bit : Settings → ℕ
bank_bit s = get_or bank_bits (memory s) 0

abbrev pub full_size : Settings → ℕ
full_size s = get_or full_sizes (memory s) 0

-- the places of one bank are counted by the bits below: 4,096, 16,384 or 65,536
abbrev pub bank_size : Settings → ℕ
bank_size s = 2 ^ bank_bit s

-- a length is suited to M: that of one bank, or of every bank
unfoldable pub suited : Settings → ℕ → Bool
suited s n = eqb n (bank_size s) || eqb n (full_size s)

-- where the bank of an address begins in an image: two banks lie one after the other
abbrev pub bank_start : Settings → ℕ → ℕ
bank_start s a = bits a (bank_bit s) 1 * bank_size s

-- the place in an image of an address: in its bank, by the bits below
unfoldable pub image_place : Settings → ℕ → ℕ
image_place s a = bank_start s a + a % bank_size s

-- the bank of an address is not fitted: an image of this length ends before it begins
unfoldable pub missing : Settings → ℕ → ℕ → Bool
missing s size a = leb size (bank_start s a)
