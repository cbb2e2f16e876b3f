-- The report's words and numbers, and a text in its array of 32,768 bytes.
use Rattle.std.specs.Prelude.{ℕ, zero, suc, ◌+◌, ◌-◌, ◌/◌, ◌%◌, ◌≡◌, ◌≤◌, List, [], ◌∷◌, ◌++◌, ltb, length, take, replicate}
use Rattle.promises.specs.Choose.{choose}
use Rattle.grammar.specs.Sheet.{eq, nl}
use Rattle.report_text.specs.declared.Text.{Text}

-- status, place, control, mode, start, annotations; deed, pins and rule are the sheet's own words
abbrev pub status_word : List ℕ
status_word = 115 ∷ 116 ∷ 97 ∷ 116 ∷ 117 ∷ 115 ∷ []

abbrev pub place_word : List ℕ
place_word = 112 ∷ 108 ∷ 97 ∷ 99 ∷ 101 ∷ []

abbrev pub control_word : List ℕ
control_word = 99 ∷ 111 ∷ 110 ∷ 116 ∷ 114 ∷ 111 ∷ 108 ∷ []

abbrev pub mode_word : List ℕ
mode_word = 109 ∷ 111 ∷ 100 ∷ 101 ∷ []

abbrev pub start_word : List ℕ
start_word = 115 ∷ 116 ∷ 97 ∷ 114 ∷ 116 ∷ []

abbrev pub annotations_word : List ℕ
annotations_word = 97 ∷ 110 ∷ 110 ∷ 111 ∷ 116 ∷ 97 ∷ 116 ∷ 105 ∷ 111 ∷ 110 ∷ 115 ∷ []

-- a number in decimal, in at most `most` digits
unfoldable pub decimal_in : ℕ → ℕ → List ℕ
decimal_in zero n = []
decimal_in (suc most) n = choose (ltb n 10) ((48 + n) ∷ []) (decimal_in most (n / 10) ++ ((48 + n % 10) ∷ []))

-- any number of 64 bits has at most 20
abbrev pub decimal : ℕ → List ℕ
decimal n = decimal_in 20 n

-- a line: a word, `=`, a value, and byte 10
abbrev pub line_of : List ℕ → List ℕ → List ℕ
line_of word value = (word ++ eq) ++ (value ++ nl)

-- how many bytes a text has room for
abbrev pub room : ℕ
room = 32768

-- a text in its array, the rest 0
unfoldable pub text_of : List ℕ → Text
text_of l = record { bytes = l ++ replicate (room - length l) 0; len = length l }

-- the bytes that a text holds so far, and that the rest of its array is 0
unfoldable pub held : Text → List ℕ
held t = take t.len t.bytes

abbrev pub Holds : Text → Type 0
Holds t = t ≡ text_of (held t)

-- a text has room for n bytes more
pub record HasRoom (t : Text) (n : ℕ) : Type 0 where
  pub holds : Holds t
  pub roomy : t.len + n ≤ room
