-- What the functions behind the operations answer of a reading.
use Rattle.std.specs.Prelude.{ℕ, ◌+◌, ◌^◌, ◌<◌, ◌≤◌, List, ◌++◌, Bool, not, ◌||◌, length, Result, Ok, Err}
use Rattle.std.proofs.Math.Option.{Option}
use Rattle.settings.specs.declared.Rule.{Rule}
use Rattle.text.specs.Code.{Reading, got, stuck}
use Rattle.grammar.specs.Sheet.{deed_word, pins_word, writes_word, at_word, eq, same, Fields, front}
use Rattle.grammar.specs.Given.{rule_given, padded}
use Rattle.scan.specs.declared.Found.{Found}
use Rattle.scan.specs.declared.Outline.{Outline}

-- how far a reading goes, with what f makes of what it finds, or where it sticks
abbrev pub read_as : {X Y : Type 0} → (X → Y) → Reading X → Result (Found Y) ℕ
read_as f (got v n) = Ok (record { value = f v; size = n })
read_as f (stuck n) = Err n

-- no more than that it is read, and what is read itself
abbrev pub whole : {X : Type 0} → X → Unit {0}
whole v = tt

abbrev pub itself : {X : Type 0} → X → X
itself v = v

-- the rule, and the number of writes
abbrev pub ruled : Option Rule × ℕ → Rule × ℕ
ruled v = (rule_given v.0, v.1)

-- where a reading goes or sticks lies within n bytes, and n bytes further on is a number of the machine
abbrev pub Within : {Y : Type 0} → ℕ → Result (Found Y) ℕ → Type 0
Within n (Ok found) = found.size ≤ n
Within n (Err place) = place ≤ n

abbrev pub Fits : {Y : Type 0} → ℕ → Result (Found Y) ℕ → Type 0
Fits n (Ok found) = n + found.size < 2 ^ 64
Fits n (Err place) = n + place < 2 ^ 64

-- the same reading behind n bytes
abbrev pub behind : {Y : Type 0} → ℕ → Result (Found Y) ℕ → Result (Found Y) ℕ
behind n (Ok found) = Ok (record { value = found.value; size = n + found.size })
behind n (Err place) = Err (n + place)

-- the fields of a whole sheet, the length of its deed and where its annotations begin, or the place where it is broken
abbrev pub outline_of : Reading Fields → Result Outline ℕ
outline_of (got f n) = Ok (record { deed = length f.deed; pins = f.pins; rule = rule_given f.rule; writes = padded 64 f.writes; write_count = length f.writes; tail = length (front f); annotations = length f.annotations })
outline_of (stuck n) = Err n

-- a key with its `=` that an annotation may have
abbrev pub free_key : List ℕ → Bool
free_key k = not (same k (deed_word ++ eq) || (same k (pins_word ++ eq) || (same k (writes_word ++ eq) || same k (at_word ++ eq))))
