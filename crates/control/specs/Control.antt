-- The writes to the control word (document 003, the SAM control register; document 01, "The control word").
use Rattle.std.specs.Prelude.{ℕ, suc, ◌+◌, ◌-◌, ◌*◌, ◌/◌, ◌%◌, ◌^◌, Bool, ◌&&◌, List, [], ◌∷◌, leb, ltb, length}
use Rattle.promises.specs.Choose.{choose}
use Rattle.promises.specs.Told.{Told, told, done}
use Rattle.promises.specs.Order.{Check, check, first_of}

-- w with b for its bit k: the bits above k, then b, then the bits below k
unfoldable pub with_bit : ℕ → ℕ → ℕ → ℕ
with_bit w k b = (w / 2 ^ k / 2 * 2 + b) * 2 ^ k + w % 2 ^ k

-- the addresses of the control word
abbrev pub is_control : ℕ → Bool
is_control a = leb 0xFFC0 a && leb a 0xFFDF

-- $FFC0/1 is bit 0 and $FFDE/F is bit 15; an even address clears, an odd one sets
unfoldable pub word_after : ℕ → ℕ → ℕ
word_after w a = with_bit w ((a - 0xFFC0) / 2) (a % 2)

-- the word after a list of writes, one after the other
unfoldable pub played : ℕ → List ℕ → ℕ
played w [] = w
played w (a ∷ writes) = played (word_after w a) writes

-- the index of the first address elsewhere, or the list's length where there is none
unfoldable pub first_elsewhere : List ℕ → ℕ
first_elsewhere [] = 0
first_elsewhere (a ∷ writes) = choose (is_control a) (suc (first_elsewhere writes)) 0

-- a list with an address elsewhere is refused as a whole, and the old word returned
abbrev pub play_order : ℕ → List ℕ → List Check
play_order w writes = check (ltb (first_elsewhere writes) (length writes)) (told 10 (first_elsewhere writes) w) ∷ []

unfoldable pub play_told : ℕ → List ℕ → Told
play_told w writes = first_of (play_order w writes) (done (played w writes))
