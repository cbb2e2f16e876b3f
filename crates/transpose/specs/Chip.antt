-- Images straight from the chips (document 02, CR 4; document 003, figure 6): where each byte lies, what is answered, and every byte afterwards.
use Rattle.std.specs.Prelude.{ℕ, ◌+◌, ◌*◌, ◌/◌, ◌%◌, ◌^◌, Bool, false, not, ◌||◌, List, [], ◌∷◌, eqb, ltb, length, get_or}
use Rattle.promises.specs.Choose.{choose}
use Rattle.promises.specs.Told.{Told, done, refused}
use Rattle.promises.specs.Order.{Check, check, first_of}
use Rattle.promises.specs.Written.{written, leaves}

-- a bank of s rows and s columns has s × s places; the byte of address a in it lies at (a mod s) × s + floor(a / s)
abbrev pub transposed : ℕ → ℕ → ℕ
transposed s a = a % s * s + a / s

-- with several banks each byte stays in its own
unfoldable pub transposed_in : ℕ → ℕ → ℕ
transposed_in s a = a / (s * s) * (s * s) + transposed s (a % (s * s))

-- with k address pins s is 2^k
abbrev pub chip_place : ℕ → ℕ → ℕ
chip_place k a = transposed_in (2 ^ k) a

-- one or two banks for k = 6 and 7 and one for k = 8
abbrev pub chip_fits : ℕ → ℕ → Bool
chip_fits k n =
    choose (eqb k 6) (eqb n 4096 || eqb n 8192)
    (choose (eqb k 7) (eqb n 16384 || eqb n 32768)
    (choose (eqb k 8) (eqb n 65536) false))

-- 13 for another k or length, then 14 for a short destination
abbrev pub chip_order : ℕ → ℕ → ℕ → List Check
chip_order k lent room = check (not (chip_fits k lent)) (refused 13) ∷ check (ltb room lent) (refused 14) ∷ []

unfoldable pub chip_told : ℕ → ℕ → ℕ → Told
chip_told k lent room = first_of (chip_order k lent room) (done 0)

-- the byte that goes to address or place a
abbrev pub transposed_byte : ℕ → List ℕ → ℕ → ℕ
transposed_byte s lent a = get_or lent (transposed_in s a) 0

-- done, as many bytes as are lent are written, each from where it lies. The map is its own inverse
-- (`own_inverse`), so the same holds of both directions
unfoldable pub chip_after : ℕ → List ℕ → List ℕ → List ℕ
chip_after k lent room = leaves (chip_told k (length lent) (length room)) (written (transposed_byte (2 ^ k) lent) (length lent) room) room
