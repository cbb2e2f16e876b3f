-- The check values that are known of the two checksums, held against the definitions.
use Prim.Native.Nat.{ℕ}
use mathlib.Core.List.{List, [], ◌∷◌}
use lib.Dec.{T}
use lib.ListN.{length, get_or}
use Rattle.promises.specs.Figure.{Figure, figure, all_right}
use Rattle.checksum.specs.Crc.{crc_bit, crc_bits, crc_byte, crc_after, crc}
use Rattle.checksum.specs.Adler.{adler_low, adler_high, adler}

abbrev crc_of : List ℕ → List ℕ
crc_of bytes = crc (λ (k : ℕ). get_or bytes k 0) (length bytes) ∷ []

abbrev adler_of : List ℕ → List ℕ
adler_of bytes = adler (λ (k : ℕ). get_or bytes k 0) (length bytes) ∷ []

-- of no bytes 0 and 1; the CRC-32 of `123456789` is CBF43926; that of `IEND` is AE426082, as every PNG file ends; the Adler-32 of `Wikipedia` is 11E60398
pub examples : List Figure
examples =
    figure (crc_of []) (0 ∷ [])
    ∷ figure (adler_of []) (1 ∷ [])
    ∷ figure (crc_of (49 ∷ 50 ∷ 51 ∷ 52 ∷ 53 ∷ 54 ∷ 55 ∷ 56 ∷ 57 ∷ [])) (3421780262 ∷ [])
    ∷ figure (crc_of (73 ∷ 69 ∷ 78 ∷ 68 ∷ [])) (2923585666 ∷ [])
    ∷ figure (adler_of (87 ∷ 105 ∷ 107 ∷ 105 ∷ 112 ∷ 101 ∷ 100 ∷ 105 ∷ 97 ∷ [])) (300286872 ∷ [])
    ∷ []

pub examples_right : T (all_right examples)
unfolding examples crc crc_after crc_byte crc_bits crc_bit adler adler_high adler_low
examples_right = tt
