-- CRC-32 by its tables: a byte by the first, the next entry out of those before it, and bytes four at once.
use Prim.Native.Nat.{ℕ, ◌*◌, ◌+◌, ◌-◌, ◌/◌, ◌%◌, ◌^◌, ◌<◌, ◌≤◌}
use mathlib.Core.Path.{◌≡◌, refl, sym, ap, ap₂, ◌∙◌}
use mathlib.Core.List.{List, [], ◌∷◌}
use native.Mathlib.Omega.{arith}
use lib.ListN.{length, get_or, set}
use lib.Seq.{get_or-set_same, get_or-set_other}
use borrow.Author.Count.{below_more}
use lib.Bits.{bit_xor, xor_comm, xor_shifted}
use Rattle.std.specs.List.{fold}
use Rattle.checksum.specs.Crc.{crc_bits, crc_byte}
use Rattle.checksum.specs.Sliced.{sliced, Stored}
use Rattle.checksum.proofs.Xors.{xor_assoc}
use Rattle.checksum.proofs.Crcs.{bits_add, bits_linear, bits_above, bits_past, byte_is}

-- ---- the entries
pub entry : (t m i : ℕ) → i < 256 → m ≡ 8 * (t + 1) → sliced (t * 256 + i) ≡ crc_bits m i
unfolding sliced
entry t m i h e =
    let f : 8 * ((t * 256 + i) / 256 + 1) ≡ m = omega arith in
    let g : (t * 256 + i) % 256 ≡ i = omega arith in
    ap₂ crc_bits f g

pub first_entry : (n r : ℕ) → n < 256 → r ≡ crc_bits 8 n → r ≡ sliced n
first_entry n r h q = let e : 0 + n ≡ n = omega arith in q ∙ sym (entry 0 8 n h refl) ∙ ap sliced e

-- an entry of the table with t bytes behind
pub entry_at : (t x : ℕ) (table : List ℕ) → t < 4 → Stored 1024 table → get_or table (t * 256 + x % 256) 0 ≡ crc_bits (8 * (t + 1)) (x % 256)
entry_at t x table h s = s (t * 256 + x % 256) (omega arith) ∙ entry t (8 * (t + 1)) (x % 256) (omega arith) refl

next_entry : (n : ℕ) → 256 ≤ n → crc_bits 8 (sliced (n - 256)) ≡ sliced n
unfolding sliced
next_entry n h =
    let e : 8 * ((n - 256) / 256 + 1) + 8 ≡ 8 * (n / 256 + 1) = omega arith in
    let f : (n - 256) % 256 ≡ n % 256 = omega arith in
    sym (bits_add (8 * ((n - 256) / 256 + 1)) 8 ((n - 256) % 256)) ∙ ap₂ crc_bits e f

-- one entry more
pub stored_more : (n v : ℕ) (table : List ℕ) → n < length table → v ≡ sliced n → Stored n table → Stored (n + 1) (set table n v)
stored_more n v table h e s =
    below_more (λ (j : ℕ). get_or (set table n v) j 0 ≡ sliced j) n
    (λ j l. get_or-set_other table n j v 0 (λ q. omega arith) ∙ s j l)
    (get_or-set_same table n v 0 h ∙ e)

-- ---- one byte
-- eight bits at once, by the first table
by_first : (x r : ℕ) → r ≡ crc_bits 8 (x % 256) → bit_xor (x / 256) r ≡ crc_bits 8 x
by_first x r e =
    let w : x ≡ x / 256 * 2 ^ 8 + x % 256 = omega arith in
    ap (bit_xor (x / 256)) e
    ∙ sym (ap (crc_bits 8) (w ∙ sym (xor_shifted (x / 256) 8 (x % 256) (omega arith))) ∙ bits_past 8 (x / 256) (x % 256))

-- the next entry, out of those before it
pub next_by : (n x r : ℕ) → 256 ≤ n → x ≡ sliced (n - 256) → r ≡ sliced (x % 256) → bit_xor (x / 256) r ≡ sliced n
next_by n x r h e f =
    let z : x % 256 ≡ 0 + x % 256 = omega arith in
    by_first x r (f ∙ ap sliced z ∙ entry 0 8 (x % 256) (omega arith) refl) ∙ ap (crc_bits 8) e ∙ next_entry n h

-- the register after one byte more
pub byte_by : (c b r : ℕ) → r ≡ crc_bits 8 (bit_xor c b % 256) → bit_xor (bit_xor c b / 256) r ≡ crc_byte c b
byte_by c b r e = by_first (bit_xor c b) r e ∙ sym (byte_is c b)

-- ---- four bytes
-- as a word, the first lowest
abbrev pub word : ℕ → ℕ → ℕ → ℕ → ℕ
word a b c d = a + b * 256 + c * 65536 + d * 16777216

-- a word by its four bytes: each by a table of its own
by_four : (x : ℕ) → x < 4294967296
    → crc_bits 32 x ≡ bit_xor (bit_xor (crc_bits 8 (x / 16777216)) (crc_bits 16 (x / 65536 % 256))) (bit_xor (crc_bits 24 (x / 256 % 256)) (crc_bits 32 (x % 256)))
by_four x h =
    let hi : x ≡ x / 65536 * 2 ^ 16 + x % 65536 = omega arith in
    let top : x / 65536 * 2 ^ 16 ≡ x / 16777216 * 2 ^ 24 + x / 65536 % 256 * 2 ^ 16 = omega arith in
    let low : x % 65536 ≡ x / 256 % 256 * 2 ^ 8 + x % 256 = omega arith in
    ap (crc_bits 32) (hi ∙ sym (xor_shifted (x / 65536) 16 (x % 65536) (omega arith)))
    ∙ bits_linear 32 (x / 65536 * 2 ^ 16) (x % 65536)
    ∙ ap₂ bit_xor
    (ap (crc_bits 32) (top ∙ sym (xor_shifted (x / 16777216) 24 (x / 65536 % 256 * 2 ^ 16) (omega arith)))
    ∙ bits_linear 32 (x / 16777216 * 2 ^ 24) (x / 65536 % 256 * 2 ^ 16)
    ∙ ap₂ bit_xor (above 24 8 (x / 16777216)) (above 16 16 (x / 65536 % 256)))
    (ap (crc_bits 32) (low ∙ sym (xor_shifted (x / 256 % 256) 8 (x % 256) (omega arith)))
    ∙ bits_linear 32 (x / 256 % 256 * 2 ^ 8) (x % 256)
    ∙ ap (λ (u : ℕ). bit_xor u (crc_bits 32 (x % 256))) (above 8 24 (x / 256 % 256)))
  where
    above : (m n b : ℕ) → crc_bits (m + n) (b * 2 ^ m) ≡ crc_bits n b
    above m n b = bits_add m n (b * 2 ^ m) ∙ ap (crc_bits n) (bits_above m b)

-- a byte that comes later stands higher in the word
one_later : (n x b : ℕ) → crc_byte (crc_bits n x) b ≡ crc_bits (n + 8) (bit_xor x (b * 2 ^ n))
one_later n x b =
    byte_is (crc_bits n x) b
    ∙ ap (crc_bits 8) (xor_comm (crc_bits n x) b ∙ sym (bits_past n b x) ∙ ap (crc_bits n) (xor_comm (b * 2 ^ n) x))
    ∙ sym (bits_add n 8 (bit_xor x (b * 2 ^ n)))

is_word : (a b c d : ℕ) → a < 256 → b < 256 → c < 256 → bit_xor (bit_xor (bit_xor a (b * 2 ^ 8)) (c * 2 ^ 16)) (d * 2 ^ 24) ≡ word a b c d
is_word a b c d p q r =
    let e1 : bit_xor a (b * 2 ^ 8) ≡ a + b * 256 = xor_comm a (b * 2 ^ 8) ∙ xor_shifted b 8 a p ∙ omega arith in
    let e2 : bit_xor (a + b * 256) (c * 2 ^ 16) ≡ a + b * 256 + c * 65536 = xor_comm (a + b * 256) (c * 2 ^ 16) ∙ xor_shifted c 16 (a + b * 256) (omega arith) ∙ omega arith in
    let e3 : bit_xor (a + b * 256 + c * 65536) (d * 2 ^ 24) ≡ word a b c d = xor_comm (a + b * 256 + c * 65536) (d * 2 ^ 24) ∙ xor_shifted d 24 (a + b * 256 + c * 65536) (omega arith) ∙ omega arith in
    rw (e1, e2) e3

pub four_bytes : (r a b c d : ℕ) → a < 256 → b < 256 → c < 256 → crc_byte (crc_byte (crc_byte (crc_byte r a) b) c) d ≡ crc_bits 32 (bit_xor r (word a b c d))
four_bytes r a b c d p q s =
    let x = bit_xor r a in
    let y = bit_xor x (b * 2 ^ 8) in
    let z = bit_xor y (c * 2 ^ 16) in
    ap (λ (u : ℕ). crc_byte (crc_byte (crc_byte u b) c) d) (byte_is r a)
    ∙ ap (λ (u : ℕ). crc_byte (crc_byte u c) d) (one_later 8 x b)
    ∙ ap (λ (u : ℕ). crc_byte u d) (one_later 16 y c)
    ∙ one_later 24 z d
    ∙ ap (crc_bits 32)
    (ap (λ (u : ℕ). bit_xor (bit_xor u (c * 2 ^ 16)) (d * 2 ^ 24)) (xor_assoc r a (b * 2 ^ 8))
    ∙ ap (λ (u : ℕ). bit_xor u (d * 2 ^ 24)) (xor_assoc r (bit_xor a (b * 2 ^ 8)) (c * 2 ^ 16))
    ∙ xor_assoc r (bit_xor (bit_xor a (b * 2 ^ 8)) (c * 2 ^ 16)) (d * 2 ^ 24)
    ∙ ap (bit_xor r) (is_word a b c d p q s))

-- the same out of the tables
pub by_parts : (x : ℕ) → x < 4294967296 → (a b c d : ℕ) → a ≡ crc_bits 8 (x / 16777216 % 256) → b ≡ crc_bits 16 (x / 65536 % 256) → c ≡ crc_bits 24 (x / 256 % 256) → d ≡ crc_bits 32 (x % 256)
    → bit_xor (bit_xor a b) (bit_xor c d) ≡ crc_bits 32 x
by_parts x h a b c d p q r s =
    let top : x / 16777216 % 256 ≡ x / 16777216 = omega arith in
    ap₂ bit_xor (ap₂ bit_xor (p ∙ ap (crc_bits 8) top) q) (ap₂ bit_xor r s) ∙ sym (by_four x h)

-- the register after a list of four bytes more
after_four : (r : ℕ) (bytes : List ℕ) → length bytes ≡ 4 → ((i : ℕ) → get_or bytes i 0 < 256)
    → fold crc_byte r bytes ≡ crc_bits 32 (bit_xor r (word (get_or bytes 0 0) (get_or bytes 1 0) (get_or bytes 2 0) (get_or bytes 3 0)))
after_four r [] e s = absurd (omega arith)
after_four r (a ∷ []) e s = absurd (omega arith)
after_four r (a ∷ b ∷ []) e s = absurd (omega arith)
after_four r (a ∷ b ∷ c ∷ []) e s = absurd (omega arith)
after_four r (a ∷ b ∷ c ∷ d ∷ []) e s = four_bytes r a b c d (s 0) (s 1) (s 2)
after_four r (a ∷ b ∷ c ∷ d ∷ x ∷ xs) e s = absurd (omega arith)

pub four_more : (r w : ℕ) (bytes : List ℕ) → length bytes ≡ 4 → ((i : ℕ) → get_or bytes i 0 < 256)
    → w ≡ word (get_or bytes 0 0) (get_or bytes 1 0) (get_or bytes 2 0) (get_or bytes 3 0) → bit_xor r w < 4294967296 → (a b c d : ℕ) → a ≡ crc_bits 8 (bit_xor r w / 16777216 % 256) → b ≡ crc_bits 16 (bit_xor r w / 65536 % 256)
    → c ≡ crc_bits 24 (bit_xor r w / 256 % 256) → d ≡ crc_bits 32 (bit_xor r w % 256) → bit_xor (bit_xor a b) (bit_xor c d) ≡ fold crc_byte r bytes
four_more r w bytes l s e h a b c d p q t u =
    by_parts (bit_xor r w) h a b c d p q t u ∙ ap (λ (x : ℕ). crc_bits 32 (bit_xor r x)) e ∙ sym (after_four r bytes l s)
