-- Numbers in hex are read rightly, whatever the number of digits.
use Prim.Native.Nat.{ℕ, zero, suc, ◌+◌, ◌-◌, ◌*◌, ◌/◌, ◌%◌, ◌^◌, ◌≤◌, ◌<◌}
use native.Mathlib.Omega.{arith}
use native.Mathlib.Nat.{le_refl, le_of_suc-le-suc, pow-le-pow_right, le_of_eq, mod-lt, div-lt_iff_lt-mul, div-add-mod', pow-suc, one-le-pow, mul_assoc, mul_comm, mul-one, zero-lt-suc, add-mul}
use mathlib.Core.Path.{◌≡◌, refl, sym, ◌∙◌, ap, subst}
use mathlib.Core.Logic.{⊎_elim}
use mathlib.Core.List.{List, [], ◌∷◌, ◌++◌}
use mathlib.Core.Bool.{Bool, true, false}
use borrow.Author.Tests.{lt-ltb, le-ltb}
use lib.Arith.{digits_lt, digits_div, digits_mod}
use lib.ListN.{length, drop, get_or, drop_of_length-le}
use lib.Seq.{drop-cons}
use Rattle.promises.proofs.Choices.{either}
use Rattle.text.specs.Code.{Any, Right, Prefix}
use Rattle.text.specs.Combine.{All, closed, read_closed}
use Rattle.text.specs.Hex.{between, hex_byte, hex_digit, unhex, hex, hex_code, hex_from, hex_value, read_hex}
use Rattle.text.proofs.Lists.{le_or_lt}
use Rattle.text.proofs.Tests.{or_left, or_right, between_of, between_le}
use Rattle.text.proofs.Renamed.{Same, same_right, same_prefix}
use Rattle.text.proofs.Runs.{closed_right, closed_prefix}

-- ---- one digit
pub hex_byte_lem : (b : ℕ) → hex_byte b ≡ true → (unhex b < 16) × (hex_digit (unhex b) ≡ b)
hex_byte_lem b h =
    ⊎_elim
    (λ (k : between 48 57 b ≡ true).
    let l = between_le 48 57 b k in
    rw (lt-ltb b 58 (omega arith)) (omega arith, rw (lt-ltb (b - 48) 10 (omega arith)) (omega arith)))
    (λ (k : between 65 70 b ≡ true).
    let l = between_le 65 70 b k in
    rw (le-ltb b 58 (omega arith)) (omega arith, rw (le-ltb (b - 55) 10 (omega arith)) (omega arith)))
    (either (between 48 57 b) (between 65 70 b) h)

pub hex_digit_lem : (n : ℕ) → n < 16 → (hex_byte (hex_digit n) ≡ true) × (unhex (hex_digit n) ≡ n)
hex_digit_lem n h =
    ⊎_elim
    (λ (k : 10 ≤ n).
    rw (le-ltb n 10 k) (or_right (between 48 57 (55 + n)) _ (between_of 65 70 (55 + n) (omega arith) (omega arith)), rw (le-ltb (55 + n) 58 (omega arith)) (omega arith)))
    (λ (k : n < 10).
    rw (lt-ltb n 10 k) (or_left _ (between 65 70 (48 + n)) (between_of 48 57 (48 + n) (omega arith) (omega arith)), rw (lt-ltb (48 + n) 58 (omega arith)) (omega arith)))
    (le_or_lt 10 n)

-- no digit lies below 48
pub lowest : (b : ℕ) → hex_byte b ≡ true → 48 ≤ b
lowest b h =
    ⊎_elim
    (λ (k : between 48 57 b ≡ true). (between_le 48 57 b k).0)
    (λ (k : between 65 70 b ≡ true). let l = between_le 65 70 b k in omega arith)
    (either (between 48 57 b) (between 65 70 b) h)

-- ---- n digits
pow_pos : (n : ℕ) → 0 < 16 ^ n
pow_pos n = one-le-pow n 16 (zero-lt-suc 15)

value_first : (b : ℕ) (u : List ℕ) → hex_value (b ∷ u) ≡ hex_from (unhex b) u
value_first b u = ap (λ (x : ℕ). hex_from x u) (let q : 16 * 0 + unhex b ≡ unhex b = omega arith in q)

-- the digits before count sixteenfold for each digit after them
from_value : (a : ℕ) (u : List ℕ) → hex_from a u ≡ a * 16 ^ length u + hex_value u
from_value a [] = sym (mul-one a) ∙ (let q : a * 1 ≡ a * 1 + 0 = omega arith in q)
from_value a (b ∷ u) =
    let p = 16 ^ length u in
    let d = unhex b in
    from_value (16 * a + d) u
    ∙ ap (λ (x : ℕ). x + hex_value u) (add-mul (16 * a) d p ∙ ap (λ (x : ℕ). x + d * p) (ap (λ (x : ℕ). x * p) (mul_comm 16 a) ∙ mul_assoc a 16 p ∙ ap (λ (x : ℕ). a * x) (mul_comm 16 p ∙ sym (pow-suc 16 (length u)))))
    ∙ plus (a * 16 ^ suc (length u)) (d * p) (hex_value u)
    ∙ ap (λ (x : ℕ). a * 16 ^ suc (length u) + x) (sym (from_value d u) ∙ sym (value_first b u))
  where
    plus : (x y z : ℕ) → x + y + z ≡ x + (y + z)
    plus x y z = omega arith

-- a first digit counts by its place
pub value_cons : (b : ℕ) (u : List ℕ) → hex_value (b ∷ u) ≡ unhex b * 16 ^ length u + hex_value u
value_cons b u = value_first b u ∙ from_value (unhex b) u

pub value_lt : (u : List ℕ) → All hex_byte u → hex_value u < 16 ^ length u
value_lt [] h = le_refl 1
value_lt (b ∷ u) h =
    subst (λ (x : ℕ). hex_value (b ∷ u) < x) (mul_comm 16 (16 ^ length u) ∙ sym (pow-suc 16 (length u)))
    (subst (λ (x : ℕ). x < 16 * 16 ^ length u) (sym (value_cons b u)) (digits_lt (hex_byte_lem b h.0).0 (value_lt u h.1)))

value_text : (u : List ℕ) → All hex_byte u → hex (length u) (hex_value u) ≡ u
value_text [] h = refl
value_text (b ∷ u) h =
    let l = value_lt u h.1 in
    let q : hex_value (b ∷ u) / 16 ^ length u ≡ unhex b = ap (λ (x : ℕ). x / 16 ^ length u) (value_cons b u) ∙ digits_div (unhex b) l in
    let r : hex_value (b ∷ u) % 16 ^ length u ≡ hex_value u = ap (λ (x : ℕ). x % 16 ^ length u) (value_cons b u) ∙ digits_mod (unhex b) l in
    ap (λ (x : ℕ). hex_digit x ∷ hex (length u) (hex_value (b ∷ u) % 16 ^ length u)) q
    ∙ ap (λ (x : ℕ). hex_digit (unhex b) ∷ hex (length u) x) r
    ∙ ap (λ (x : ℕ). x ∷ hex (length u) (hex_value u)) (hex_byte_lem b h.0).1
    ∙ ap (λ (x : List ℕ). b ∷ x) (value_text u h.1)

pub hex_length : (n v : ℕ) → length (hex n v) ≡ n
hex_length zero v = refl
hex_length (suc n) v = ap suc (hex_length n (v % 16 ^ n))

top_lt : (n v : ℕ) → v < 16 ^ suc n → v / 16 ^ n < 16
top_lt n v h = (div-lt_iff_lt-mul (pow_pos n)).1 (subst (λ (x : ℕ). v < x) (pow-suc 16 n ∙ mul_comm (16 ^ n) 16) h)

hex_all : (n v : ℕ) → v < 16 ^ n → All hex_byte (hex n v)
hex_all zero v h = tt
hex_all (suc n) v h = ((hex_digit_lem (v / 16 ^ n) (top_lt n v h)).0, hex_all n (v % 16 ^ n) (mod-lt v (pow_pos n)))

hex_value_lem : (n v : ℕ) → v < 16 ^ n → hex_value (hex n v) ≡ v
hex_value_lem zero v h = omega arith
hex_value_lem (suc n) v h =
    value_cons (hex_digit (v / 16 ^ n)) (hex n (v % 16 ^ n))
    ∙ ap (λ (x : ℕ). x * 16 ^ length (hex n (v % 16 ^ n)) + hex_value (hex n (v % 16 ^ n))) (hex_digit_lem (v / 16 ^ n) (top_lt n v h)).1
    ∙ ap (λ (x : ℕ). v / 16 ^ n * 16 ^ x + hex_value (hex n (v % 16 ^ n))) (hex_length n (v % 16 ^ n))
    ∙ ap (λ (x : ℕ). v / 16 ^ n * 16 ^ n + x) (hex_value_lem n (v % 16 ^ n) (mod-lt v (pow_pos n)))
    ∙ div-add-mod' v (16 ^ n)

hex_same : (n e : ℕ) → Same (closed hex_byte n n e) (hex_code n e) hex_value
hex_same n e =
    record {
      valid = λ u h. subst (λ (k : ℕ). hex_value u < 16 ^ k) (long u h) (value_lt u h.0);
      text = λ u h. ap (λ (x : List ℕ). x ++ (e ∷ [])) (subst (λ (k : ℕ). hex k (hex_value u) ≡ u) (long u h) (value_text u h.0));
      back = λ v h. (hex n v, (hex_all n v h, le_of_eq (sym (hex_length n v)), le_of_eq (hex_length n v)), hex_value_lem n v h);
    }
  where
    long : (u : List ℕ) → (closed hex_byte n n e).Valid u → length u ≡ n
    long u h = omega (arith, h.1, h.2)

module _ (n e : ℕ) (off : hex_byte e ≡ false) where
  pub hex_right : (s : List ℕ) → Right Any (hex_code n e) s (read_hex n e s)
  hex_right s = same_right (closed hex_byte n n e) (hex_code n e) hex_value (hex_same n e) Any s (read_closed hex_byte n n e s) (closed_right hex_byte e off 48 refl n n (le_refl n) s)

  pub hex_prefix : Prefix (hex_code n e)
  hex_prefix = same_prefix (closed hex_byte n n e) (hex_code n e) hex_value (hex_same n e) (closed_prefix hex_byte e off n n)

-- ---- steps of a loop over the digits w
pub value_more : (w : List ℕ) (i v : ℕ) → i < length w → hex_from v (drop i w) ≡ hex_from (16 * v + unhex (get_or w i 0)) (drop (i + 1) w)
value_more w i v h =
    ap (hex_from v) (drop-cons w i 0 h) ∙ ap (λ (j : ℕ). hex_from (16 * v + unhex (get_or w i 0)) (drop j w)) (let q : suc i ≡ i + 1 = omega arith in q)

pub value_all : (w : List ℕ) (i v : ℕ) → length w ≤ i → hex_from v (drop i w) ≡ v
value_all w i v h = ap (hex_from v) (drop_of_length-le w h)

pub bound_more : (v d i : ℕ) → v < 16 ^ i → d < 16 → 16 * v + d < 16 ^ (i + 1)
bound_more v d i h k =
    subst (λ (x : ℕ). 16 * v + d < x) (sym (pow-suc 16 i) ∙ ap (λ (j : ℕ). 16 ^ j) (let q : suc i ≡ i + 1 = omega arith in q))
    (let p = 16 ^ i in let q : 16 * v + d < p * 16 = omega arith in q)

pub bound_four : (v i : ℕ) → i < 4 → v < 16 ^ i → v < 4096
bound_four v i h k = let p : 16 ^ i ≤ 4096 = pow-le-pow_right (zero-lt-suc 15) (let q : i ≤ 3 = omega arith in q) in omega arith

pub all_at : (p : ℕ → Bool) (w : List ℕ) (i : ℕ) → All p w → i < length w → p (get_or w i 0) ≡ true
all_at p [] i h k = absurd (omega arith)
all_at p (b ∷ w) zero h k = h.0
all_at p (b ∷ w) (suc i) h k = all_at p w i h.1 (le_of_suc-le-suc k)
