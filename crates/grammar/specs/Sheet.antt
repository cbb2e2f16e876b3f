-- What a sheet is (document 01, "The sheet", and CR 6): its lines, what they hold, and the bytes they make.
use Rattle.std.specs.Prelude.{ℕ, ◌+◌, ◌/◌, ◌%◌, ◌≤◌, ◌≡◌, List, [], ◌∷◌, ◌++◌, Bool, true, false, not, ◌&&◌, ◌||◌, length, leb, ltb, eqb}
use Rattle.std.proofs.Math.Option.{Option}
use Rattle.promises.specs.Choose.{choose}
use Rattle.settings.specs.declared.Rule.{Rule}
use Rattle.settings.specs.Fields.{rule_number}
use Rattle.text.specs.Code.{Code}
use Rattle.text.specs.Combine.{led, All, closed, optional, AllValid, texts, up_to}
use Rattle.text.specs.Hex.{between, hex_code}

-- ---- bytes: A-Z, 0-9, hyphen; a-z, hyphen; any byte but 10
abbrev pub deed_byte : ℕ → Bool
deed_byte b = between 65 90 b || (between 48 57 b || eqb b 45)

abbrev pub key_byte : ℕ → Bool
key_byte b = between 97 122 b || eqb b 45

abbrev pub value_byte : ℕ → Bool
value_byte b = leb b 255 && not (eqb b 10)

-- ---- words: deed, pins, rule, writes, at; equals; line end
abbrev pub deed_word : List ℕ
deed_word = 100 ∷ 101 ∷ 101 ∷ 100 ∷ []

abbrev pub pins_word : List ℕ
pins_word = 112 ∷ 105 ∷ 110 ∷ 115 ∷ []

abbrev pub rule_word : List ℕ
rule_word = 114 ∷ 117 ∷ 108 ∷ 101 ∷ []

abbrev pub writes_word : List ℕ
writes_word = 119 ∷ 114 ∷ 105 ∷ 116 ∷ 101 ∷ 115 ∷ []

abbrev pub at_word : List ℕ
at_word = 97 ∷ 116 ∷ []

abbrev pub eq : List ℕ
eq = 61 ∷ []

abbrev pub nl : List ℕ
nl = 10 ∷ []

-- ---- the fixed lines, each closed by byte 10
-- `deed=` and 1 to 16 of A-Z, 0-9, hyphen
abbrev pub deed_line : Code (List ℕ)
deed_line = led (deed_word ++ eq) (closed deed_byte 1 16 10)

-- `pins=` and two hex digits
abbrev pub pins_line : Code ℕ
pins_line = led (pins_word ++ eq) (hex_code 2 10)

-- 1 or 2
abbrev pub rule_digit : Rule → ℕ
rule_digit r = 48 + rule_number r

-- that digit, closed by byte 10
abbrev pub rule_code : Code Rule
rule_code = record { Valid = λ _. Unit {0}; text = λ r. rule_digit r ∷ nl }

-- `rule=` and 1 or 2, directly after pins, if it is given
abbrev pub rule_line : Code Rule
rule_line = led (rule_word ++ eq) rule_code

-- a number below 100 in decimal without leading zero
abbrev pub count_digits : ℕ → List ℕ
count_digits n = choose (ltb n 10) ((48 + n) ∷ []) ((48 + n / 10) ∷ (48 + n % 10) ∷ [])

-- 0 to 64, closed by byte 10
abbrev pub count_code : Code ℕ
count_code = record { Valid = λ n. n ≤ 64; text = λ n. count_digits n ++ nl }

-- `writes=` and the number of writes
abbrev pub writes_line : Code ℕ
writes_line = led (writes_word ++ eq) count_code

-- `at=` and four hex digits
abbrev pub at_line : Code ℕ
at_line = led (at_word ++ eq) (hex_code 4 10)

-- ---- annotations
pub record Annotation : Type 0 where
  pub key : List ℕ
  pub value : List ℕ

abbrev pub same : List ℕ → List ℕ → Bool
same [] [] = true
same [] (c ∷ l) = false
same (b ∷ k) [] = false
same (b ∷ k) (c ∷ l) = eqb b c && same k l

-- none of deed, pins, writes, at; rule stays free
abbrev pub free : List ℕ → Bool
free k = not (same k deed_word || (same k pins_word || (same k writes_word || same k at_word)))

pub record ValidAnnotation (a : Annotation) : Type 0 where
  pub key_bytes : All key_byte a.key
  pub key_some : 1 ≤ length a.key
  pub key_most : length a.key ≤ 16
  pub key_free : free a.key ≡ true
  pub value_bytes : All value_byte a.value
  pub value_most : length a.value ≤ 120

-- the line without its byte 10
abbrev pub line : Annotation → List ℕ
line a = a.key ++ (eq ++ a.value)

abbrev pub annotation_line : Code Annotation
annotation_line = record { Valid = ValidAnnotation; text = λ a. line a ++ nl }

-- ---- the sheet; its rule is what the line `rule=` says, and none where there is no such line
pub record Fields : Type 0 where
  pub deed : List ℕ
  pub pins : ℕ
  pub rule : Option Rule
  pub writes : List ℕ
  pub annotations : List Annotation

pub record ValidSheet (f : Fields) : Type 0 where
  pub deed_valid : deed_line.Valid f.deed
  pub pins_valid : pins_line.Valid f.pins
  pub rule_valid : (optional rule_line).Valid f.rule
  pub count_valid : writes_line.Valid (length f.writes)
  pub writes_valid : AllValid at_line f.writes
  pub annotations_valid : (up_to 200 annotation_line).Valid f.annotations

-- the fixed lines: deed, pins, the rule if it is given, writes, and that many `at` lines
abbrev pub front : Fields → List ℕ
front f = deed_line.text f.deed ++ (pins_line.text f.pins ++ ((optional rule_line).text f.rule ++ (writes_line.text (length f.writes) ++ texts at_line f.writes)))

-- the annotation lines
abbrev pub lines : List Annotation → List ℕ
lines l = texts annotation_line l

-- all lines in their order, and nothing follows
abbrev pub render : Fields → List ℕ
render f = front f ++ lines f.annotations

abbrev pub sheets : Code Fields
sheets = record { Valid = ValidSheet; text = render }
