-- What the room holds while a loop exchanges the rows and columns of a bank. Only contracts behind the operations name it.
use Rattle.std.specs.Prelude.{ℕ, ◌+◌, ◌*◌, ◌<◌, ◌≡◌, List, get_or}

-- in a bank of s rows, the columns before `column` are transposed in every row
abbrev pub Crossed : List ℕ → ℕ → ℕ → List ℕ → Type 0
Crossed lent s column room = (r c : ℕ) → r < s → c < s → c < column → get_or room (r * s + c) 0 ≡ get_or lent (c * s + r) 0
