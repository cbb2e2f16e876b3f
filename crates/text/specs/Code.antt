-- What a text may be, its longest beginning, and what a reading finds.
use Rattle.std.specs.Prelude.{ℕ, ◌≤◌, ◌≡◌, List, [], ◌++◌, length, take, drop}

-- A code: which values are valid, and the bytes of each, its text.
pub record Code (X : Type 0) : Type 1 where
  pub Valid : X → Type 0
  pub text : X → List ℕ

-- some valid value's text begins with w
abbrev pub Begins : {X : Type 0} → Code X → List ℕ → Type 0
Begins {X} C w = (v : X) × (t : List ℕ) × C.Valid v × (w ++ t ≡ C.text v)

-- n is the length of the longest beginning of s that some valid value's text also begins with
pub record Longest {X : Type 0} (C : Code X) (s : List ℕ) (n : ℕ) : Type 0 where
  pub within : n ≤ length s
  pub begun : Begins C (take n s)
  pub most : (m : ℕ) → m ≤ length s → Begins C (take m s) → m ≤ n

-- What a reading finds at the start of a list of bytes: a value and how many bytes its text has, or the place where it sticks.
pub data Reading (X : Type 0) : Type 0 where
  got : X → ℕ → Reading X
  stuck : ℕ → Reading X

-- what may follow the text that is read: anything, or nothing
abbrev pub Any : List ℕ → Type 0
Any s = Unit {0}

abbrev pub None : List ℕ → Type 0
None s = s ≡ []

-- Of the bytes s, where R says what may follow: the value v is valid, its text has n bytes, and s is that text and what may follow.
pub record Accepted {X : Type 0} (R : List ℕ → Type 0) (C : Code X) (s : List ℕ) (v : X) (n : ℕ) : Type 0 where
  pub valid : C.Valid v
  pub size : n ≡ length (C.text v)
  pub whole : s ≡ C.text v ++ drop n s
  pub rest : R (drop n s)

-- Of the bytes s: n is their longest beginning, and no valid value's text stands at their start with what may follow.
pub record Refused {X : Type 0} (R : List ℕ → Type 0) (C : Code X) (s : List ℕ) (n : ℕ) : Type 0 where
  pub longest : Longest C s n
  pub never : (v : X) (r : List ℕ) → R r → C.Valid v → s ≡ C.text v ++ r → ⊥

-- a reading is right: what it accepts is the text of a valid value, and what it refuses is refused at the longest beginning
abbrev pub Right : {X : Type 0} → (List ℕ → Type 0) → Code X → List ℕ → Reading X → Type 0
Right R C s (got v n) = Accepted R C s v n
Right R C s (stuck n) = Refused R C s n

-- the value can be told from its text, whatever follows
abbrev pub Prefix : {X : Type 0} → Code X → Type 0
Prefix {X} C = (v v' : X) (x x' : List ℕ) → C.Valid v → C.Valid v' → C.text v ++ x ≡ C.text v' ++ x' → v ≡ v'

-- the value can be told from its text
abbrev pub Exact : {X : Type 0} → Code X → Type 0
Exact {X} C = (v v' : X) → C.Valid v → C.Valid v' → C.text v ≡ C.text v' → v ≡ v'

-- no text is empty
abbrev pub Some : {X : Type 0} → Code X → Type 0
Some {X} C = (v : X) → C.Valid v → C.text v ≡ [] → ⊥
