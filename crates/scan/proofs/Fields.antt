-- What a line with a key holds, where it is read whole.
use Prim.Native.Nat.{ℕ, ◌<◌, ◌^◌}
use native.Mathlib.Omega.{arith}
use native.Mathlib.Nat.{le_refl}
use mathlib.Core.Path.{◌≡◌, refl, sym, ◌∙◌, ap, subst}
use mathlib.Core.List.{List, [], ◌∷◌, ◌++◌, append_assoc}
use mathlib.Core.Bool.{Bool, true, false}
use lib.ListN.{length, take, drop, replicate, length-replicate}
use lib.Seq.{take_at, drop-append_seam}
use Rattle.std.proofs.Common.{Ok}
use Rattle.text.specs.Code.{Reading, got, stuck, Any, Accepted, Right}
use Rattle.text.specs.Combine.{mapped, shift, and_then, All, closed, led, second, read_fixed, read_closed, read_led}
use Rattle.text.specs.Hex.{hex_byte, hex_value, read_hex}
use Rattle.text.proofs.Words.{led_right}
use Rattle.text.proofs.Runs.{closed_right, all_replicate}
use Rattle.text.proofs.Hexes.{value_lt}
use Rattle.scan.specs.Steps.{read_as, itself}
use Rattle.scan.specs.declared.Found.{Found}
use Rattle.scan.proofs.Readings.{ok_got}

-- a value that is made of what is read
led_mapped : {X Y : Type 0} (g : X → Y) (k : List ℕ) (f : List ℕ → Reading X) (l : List ℕ) → read_led k (λ r. mapped g (f r)) l ≡ mapped g (read_led k f l)
led_mapped {X} {Y} g k f l = first (read_fixed k l)
  where
    next : (n : ℕ) (o : Reading X) → mapped second (shift (tt {0}) n (mapped g o)) ≡ mapped g (mapped second (shift (tt {0}) n o))
    next n (got v m) = refl
    next n (stuck m) = refl

    first : (o : Reading (Unit {0})) → mapped second (and_then l o (λ _ r. mapped g (f r))) ≡ mapped g (mapped second (and_then l o (λ _ r. f r)))
    first (got u n) = next n (f (drop n l))
    first (stuck n) = refl

-- after the key k stand n bytes of the class p, and g makes a value of them
pub record Field {Y : Type 0} (g : List ℕ → Y) (p : ℕ → Bool) (k : List ℕ) (n : ℕ) (s : List ℕ) (size : ℕ) : Type 0 where
  pub bytes : All p (take n (drop (length k) s))
  pub many : length (take n (drop (length k) s)) ≡ n
  pub here : read_led k (λ l. mapped g (read_closed p n n 10 l)) s ≡ got (g (take n (drop (length k) s))) size

-- z is a byte of the class, and 10 is none
module _ {Y : Type 0} (g : List ℕ → Y) (p : ℕ → Bool) (z : ℕ) (off : p 10 ≡ false) (on : p z ≡ true) (k : List ℕ) (n : ℕ) (s : List ℕ) (r : Found ℕ) (e : Ok r ≡ read_as length (read_led k (read_closed p n n 10) s)) where
  pub field : Field g p k n s r.size
  field = go (ok_got length (read_led k (read_closed p n n 10) s) r e)
    where
      go : ((u : List ℕ) × (read_led k (read_closed p n n 10) s ≡ got u r.size) × (r.value ≡ length u)) → Field g p k n s r.size
      go (u, q, _) =
          let C = led k (closed p n n 10) in
          let a : Accepted Any C s u r.size =
          subst (Right Any C s) q (led_right k (closed p n n 10) (replicate n z) (all_replicate p z on n, rw length-replicate (le_refl n), rw length-replicate (le_refl n)) (read_closed p n n 10) (closed_right p 10 off z on n n (le_refl n)) s) in
          let rest = drop r.size s in
          let split : s ≡ k ++ (u ++ ((10 ∷ []) ++ rest)) =
          a.whole ∙ append_assoc k (u ++ (10 ∷ [])) rest ∙ ap (λ (l : List ℕ). k ++ l) (append_assoc u (10 ∷ []) rest) in
          let w : length u ≡ n = omega (arith, a.valid.1, a.valid.2) in
          let holds : u ≡ take n (drop (length k) s) =
          sym (ap (take n) (ap (drop (length k)) split ∙ drop-append_seam k (u ++ ((10 ∷ []) ++ rest))) ∙ take_at u ((10 ∷ []) ++ rest) n w) in
          record {
            bytes = subst (All p) holds a.valid.0;
            many = ap length (sym holds) ∙ w;
            here = led_mapped g k (read_closed p n n 10) s ∙ ap (mapped g) q ∙ ap (λ (l : List ℕ). got (g l) r.size) holds;
          }

-- ---- n hex digits after the key, which are taken as m bytes
module _ (k : List ℕ) (n : ℕ) (s : List ℕ) (r : Found ℕ) (e : Ok r ≡ read_as length (read_led k (read_closed hex_byte n n 10) s)) (m : ℕ) (w : m ≡ n) where
  digits : Field hex_value hex_byte k n s r.size
  digits = field hex_value hex_byte 48 refl refl k n s r e

  pub hex_digits : All hex_byte (take m (drop (length k) s))
  hex_digits = subst (λ (j : ℕ). All hex_byte (take j (drop (length k) s))) (sym w) digits.bytes

  module _ (v : ℕ) (q : v ≡ hex_value (take m (drop (length k) s))) where
    number : v ≡ hex_value (take n (drop (length k) s))
    number = q ∙ ap (λ (j : ℕ). hex_value (take j (drop (length k) s))) w

    pub hex_read : Ok (record { value = v; size = r.size }) ≡ read_as itself (read_led k (read_hex n 10) s)
    hex_read = ap (λ (x : ℕ). read_as itself (got x r.size)) number ∙ sym (ap (read_as itself) digits.here)

    pub hex_small : v < 16 ^ n
    hex_small =
        let u = take n (drop (length k) s) in
        subst (λ (x : ℕ). x < 16 ^ n) (sym number) (subst (λ (j : ℕ). hex_value u < 16 ^ j) digits.many (value_lt u digits.bytes))
