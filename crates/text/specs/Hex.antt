-- Numbers in capital hex digits, over the number of digits.
use Rattle.std.specs.Prelude.{ℕ, zero, suc, ◌+◌, ◌-◌, ◌*◌, ◌/◌, ◌%◌, ◌^◌, ◌<◌, List, [], ◌∷◌, ◌++◌, Bool, ◌&&◌, ◌||◌, leb, ltb}
use Rattle.promises.specs.Choose.{choose}
use Rattle.text.specs.Code.{Code, Reading}
use Rattle.text.specs.Combine.{mapped, read_closed}

-- a byte from a to z
abbrev pub between : ℕ → ℕ → ℕ → Bool
between a z b = leb a b && leb b z

-- 0-9, A-F
abbrev pub hex_byte : ℕ → Bool
hex_byte b = between 48 57 b || between 65 70 b

-- the byte of a digit, and the digit of a byte
abbrev pub hex_digit : ℕ → ℕ
hex_digit d = choose (ltb d 10) (48 + d) (55 + d)

abbrev pub unhex : ℕ → ℕ
unhex b = choose (ltb b 58) (b - 48) (b - 55)

-- the number v in n digits, the highest first
abbrev pub hex : ℕ → ℕ → List ℕ
hex zero v = []
hex (suc n) v = hex_digit (v / 16 ^ n) ∷ hex n (v % 16 ^ n)

-- n digits closed by the byte e
abbrev pub hex_code : ℕ → ℕ → Code ℕ
hex_code n e = record { Valid = λ v. v < 16 ^ n; text = λ v. hex n v ++ (e ∷ []) }

-- the number that digits make after a
abbrev pub hex_from : ℕ → List ℕ → ℕ
hex_from a [] = a
hex_from a (b ∷ u) = hex_from (16 * a + unhex b) u

abbrev pub hex_value : List ℕ → ℕ
hex_value u = hex_from 0 u

abbrev pub read_hex : ℕ → ℕ → List ℕ → Reading ℕ
read_hex n e s = mapped hex_value (read_closed hex_byte n n e s)
