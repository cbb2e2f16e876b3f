-- Codes made of others, each with its reading: a sequence, a fixed word, a closed run of a class, an option, a count, up to n, an exclusion.
use Rattle.std.specs.Prelude.{ℕ, zero, suc, ◌+◌, ◌-◌, ◌≤◌, ◌≡◌, List, [], ◌∷◌, ◌++◌, Bool, true, ◌&&◌, length, take, drop, get_or, leb, ltb, eqb}
use Rattle.std.proofs.Math.Option.{Option, none, some}
use Rattle.promises.specs.Choose.{choose}
use Rattle.text.specs.Code.{Code, Reading, got, stuck}

-- the same reading under another value
abbrev pub mapped : {X Y : Type 0} → (X → Y) → Reading X → Reading Y
mapped f (got v n) = got (f v) n
mapped f (stuck n) = stuck n

-- one byte further on
abbrev pub bump : {X Y : Type 0} → (Y → X) → Reading Y → Reading X
bump g (got w n) = got (g w) (suc n)
bump g (stuck n) = stuck (suc n)

-- ---- a sequence: one code and then another, which may go by the first's value
abbrev pub both : {X Y : Type 0} → Code X → (X → Code Y) → Code (X × Y)
both A B = record { Valid = λ p. A.Valid p.0 × (B p.0).Valid p.1; text = λ p. A.text p.0 ++ (B p.0).text p.1 }

-- n bytes, the value v, lie before what is read
abbrev pub shift : {X Y : Type 0} → X → ℕ → Reading Y → Reading (X × Y)
shift v n (got w m) = got (v, w) (n + m)
shift v n (stuck m) = stuck (n + m)

abbrev pub and_then : {X Y : Type 0} → List ℕ → Reading X → (X → List ℕ → Reading Y) → Reading (X × Y)
and_then s (got v n) f = shift v n (f v (drop n s))
and_then s (stuck n) f = stuck n

-- ---- a fixed word
abbrev pub fixed : List ℕ → Code (Unit {0})
fixed k = record { Valid = λ _. Unit {0}; text = λ _. k }

-- how many of the bytes of k stand at the start of s
abbrev pub common : List ℕ → List ℕ → ℕ
common [] s = 0
common (k ∷ ks) [] = 0
common (k ∷ ks) (b ∷ s) = choose (eqb b k) (suc (common ks s)) 0

abbrev pub read_fixed : List ℕ → List ℕ → Reading (Unit {0})
read_fixed k s = choose (leb (length k) (common k s)) (got tt (length k)) (stuck (common k s))

-- a fixed word and then a code, whose value it has
abbrev pub led : {X : Type 0} → List ℕ → Code X → Code X
led k C = record { Valid = C.Valid; text = λ v. k ++ C.text v }

abbrev pub second : {X Y : Type 0} → X × Y → Y
second p = p.1

abbrev pub read_led : {X : Type 0} → List ℕ → (List ℕ → Reading X) → List ℕ → Reading X
read_led k f s = mapped second (and_then s (read_fixed k s) (λ _ r. f r))

-- ---- a closed run: bytes of a class, at least lo and at most hi, and then the byte e
abbrev pub All : (ℕ → Bool) → List ℕ → Type 0
All p [] = Unit {0}
All p (b ∷ u) = (p b ≡ true) × All p u

abbrev pub closed : (ℕ → Bool) → ℕ → ℕ → ℕ → Code (List ℕ)
closed p lo hi e = record { Valid = λ u. All p u × (lo ≤ length u) × (length u ≤ hi); text = λ u. u ++ (e ∷ []) }

-- how many bytes of the class stand at the start of s, counting no further than hi
abbrev pub span : (ℕ → Bool) → ℕ → List ℕ → ℕ
span p zero s = 0
span p (suc h) [] = 0
span p (suc h) (b ∷ s) = choose (p b) (suc (span p h s)) 0

-- what is read where n bytes of the class stand
abbrev pub read_closed_at : ℕ → ℕ → List ℕ → ℕ → Reading (List ℕ)
read_closed_at lo e s n = choose (leb lo n && (ltb n (length s) && eqb (get_or s n 0) e)) (got (take n s) (suc n)) (stuck n)

abbrev pub read_closed : (ℕ → Bool) → ℕ → ℕ → ℕ → List ℕ → Reading (List ℕ)
read_closed p lo hi e s = read_closed_at lo e s (span p hi s)

-- ---- an option: a value of the code, or nothing
abbrev pub ValidIf : {X : Type 0} → Code X → Option X → Type 0
ValidIf C none = Unit {0}
ValidIf C (some v) = C.Valid v

abbrev pub text_if : {X : Type 0} → Code X → Option X → List ℕ
text_if C none = []
text_if C (some v) = C.text v

abbrev pub optional : {X : Type 0} → Code X → Code (Option X)
optional C = record { Valid = ValidIf C; text = text_if C }

-- the byte a, with which every text of the code begins, tells whether one stands there
abbrev pub read_optional : {X : Type 0} → ℕ → (List ℕ → Reading X) → List ℕ → Reading (Option X)
read_optional a f [] = got none 0
read_optional a f (b ∷ s) = choose (eqb b a) (mapped some (f (b ∷ s))) (got none 0)

-- ---- several of one code, one after the other: all are valid, and their texts joined
abbrev pub AllValid : {X : Type 0} → Code X → List X → Type 0
AllValid C [] = Unit {0}
AllValid C (v ∷ l) = C.Valid v × AllValid C l

abbrev pub texts : {X : Type 0} → Code X → List X → List ℕ
texts C [] = []
texts C (v ∷ l) = C.text v ++ texts C l

abbrev pub pushed : {X : Type 0} → X × List X → List X
pushed p = p.0 ∷ p.1

-- a count: exactly n
abbrev pub times : {X : Type 0} → ℕ → Code X → Code (List X)
times n C = record { Valid = λ l. AllValid C l × (length l ≡ n); text = texts C }

abbrev pub read_times : {X : Type 0} → (List ℕ → Reading X) → ℕ → List ℕ → Reading (List X)
read_times f zero s = got [] 0
read_times f (suc n) s = mapped pushed (and_then s (f s) (λ _ r. read_times f n r))

-- up to n, to the end of the bytes
abbrev pub up_to : {X : Type 0} → ℕ → Code X → Code (List X)
up_to n C = record { Valid = λ l. AllValid C l × (length l ≤ n); text = texts C }

abbrev pub read_up_to : {X : Type 0} → (List ℕ → Reading X) → ℕ → List ℕ → Reading (List X)
read_up_to f zero [] = got [] 0
read_up_to f zero (b ∷ s) = stuck 0
read_up_to f (suc n) [] = got [] 0
read_up_to f (suc n) (b ∷ s) = mapped pushed (and_then (b ∷ s) (f (b ∷ s)) (λ _ r. read_up_to f n r))

-- ---- an exclusion: the values that pass a test; where one does not, its closing byte is where the reading sticks
abbrev pub only : (List ℕ → Bool) → Code (List ℕ) → Code (List ℕ)
only ok C = record { Valid = λ u. C.Valid u × (ok u ≡ true); text = C.text }

abbrev pub read_only : (List ℕ → Bool) → Reading (List ℕ) → Reading (List ℕ)
read_only ok (got u n) = choose (ok u) (got u n) (stuck (n - 1))
read_only ok (stuck n) = stuck n
