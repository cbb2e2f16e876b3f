-- The counter counts alike wherever the window starts: a start that is so many steps of 512 further on shifts every address by as much, with wrap.
use Rattle.std.proofs.Common.{◌≡◌, ℕ, zero, suc, ◌+◌, ◌-◌, ◌*◌, ◌/◌, ◌%◌, ◌^◌, ◌<◌, Bool, ◌&&◌, eqb, ltb, sym, refl, ap, ◌∙◌, ap₂, mod-eq_of_lt, arith}
use native.Mathlib.Nat.{mod-add-mod}
use borrow.Author.Tests.{eqb-false}
use Rattle.promises.specs.Choose.{choose}
use Rattle.promises.proofs.Choices.{by_test}
use Rattle.settings.specs.declared.Settings.{Settings}
use Rattle.settings.specs.Fields.{video_mode, offset}
use Rattle.settings.specs.Modes.{width}
use Rattle.counter.specs.declared.Counter.{Counter}
use Rattle.counter.specs.Counter.{div_x, div_y, wrap, counter, run, b4, fall, carry, advance, clears_set_b4, cleared, clearing_counts, clear, bytes_on, start, line_start, address_of}
use Rattle.counter.proofs.Tables.{by_kept}

-- the counter with its address 512 k further on
abbrev pub shift : ℕ → Counter → Counter
shift k c = counter (wrap c.address (512 * k)) c.x c.y

low16 : (a k : ℕ) → wrap a (512 * k) % 16 ≡ a % 16
low16 a k = omega arith

low32 : (a k : ℕ) → wrap a (512 * k) % 32 ≡ a % 32
low32 a k = omega arith

over : (c d : ℕ) → c % 2 ^ 16 + d < 2 ^ 16 → (c + d) % 2 ^ 16 ≡ c % 2 ^ 16 + d
over c d h = sym (mod-add-mod c (2 ^ 16) d) ∙ mod-eq_of_lt h

-- what is taken off an address may be taken off before or after the shift
less : (a b k m : ℕ) → a ≡ b + m → wrap b (512 * k) + m < 2 ^ 16 → wrap a (512 * k) - m ≡ wrap b (512 * k)
less a b k m e h =
    let f : a + 512 * k ≡ b + 512 * k + m = omega arith in
    rw (f, over (b + 512 * k) m h) (omega arith)

swap : (a k n : ℕ) → wrap (wrap a (512 * k)) n ≡ wrap (wrap a n) (512 * k)
swap a k n = omega arith

run_shift : (a k : ℕ) → wrap a (512 * k) / 16 * 16 ≡ wrap (a / 16 * 16) (512 * k)
run_shift a k = omega arith

-- a run whose B4 is 1 is at least 16
less_run : (r k : ℕ) → r % 16 ≡ 0 → (r % 32 ≡ 0 → ⊥) → wrap r (512 * k) - 16 ≡ wrap (r - 16) (512 * k)
less_run r k h n = less r (r - 16) k 16 (omega arith) (omega (arith, low32 (r - 16) k))

module _ (s : Settings) (k : ℕ) where
  fall_shift : (c : Counter) → fall s (shift k c) ≡ shift k (fall s c)
  unfolding fall
  fall_shift c = by_test (ltb (c.y + 1) (div_y s)) (λ t. simp t) (λ t. simp t (ap (λ (n : ℕ). counter n c.x 0) (swap c.address k 32)))

  carry_shift : (c : Counter) → carry s (shift k c) ≡ shift k (carry s c)
  unfolding carry
  carry_shift c =
      rw (run_shift c.address k, low32 (run c) k)
      (by_test (ltb (c.x + 1) (div_x s))
      (λ t1. simp t1)
      (λ t1.
      by_test (eqb (run c % 32) 0)
      (λ t2. simp (t1, t2) (ap (λ (n : ℕ). counter n 0 c.y) (swap (run c) k 16)))
      (λ t2. simp (t1, t2) (rw (less_run (run c) k (omega arith) (eqb-false _ _ t2)) (fall_shift (counter (run c - 16) 0 c.y))))))

  advance_shift : (c : Counter) → advance s (shift k c) ≡ shift k (advance s c)
  unfolding advance
  advance_shift c =
      rw (low16 c.address k)
      (by_test (eqb (c.address % 16) 15)
      (λ t. simp t (carry_shift c))
      (λ t. simp t (ap (λ (n : ℕ). counter n c.x c.y) (swap c.address k 1))))

  pub bytes_shift : (n : ℕ) (c : Counter) → bytes_on s n (shift k c) ≡ shift k (bytes_on s n c)
  unfolding bytes_on
  bytes_shift zero c = refl
  bytes_shift (suc n) c = rw (bytes_shift n c) (advance_shift (bytes_on s n c))

run_shift32 : (a k : ℕ) → wrap a (512 * k) / 32 * 32 ≡ wrap (a / 32 * 32) (512 * k)
run_shift32 a k = omega arith

low2 : (a k : ℕ) → wrap a (512 * k) % 2 ≡ a % 2
low2 a k = omega arith

-- a bit below a run's weight may be added before or after the shift
add_low : (r k d : ℕ) → r % 16 ≡ 0 → d < 2 → wrap r (512 * k) + d ≡ wrap (r + d) (512 * k)
add_low r k d h l =
    let f : r + d + 512 * k ≡ r + 512 * k + d = omega arith in
    rw (f, over (r + 512 * k) d (omega (arith, low16 r k)))

-- clearing takes the same off before and after the shift, from B5, B4 or B1 on
keep5 : (a k : ℕ) → wrap a (512 * k) / 32 * 32 + wrap a (512 * k) % 2 ≡ wrap (a / 32 * 32 + a % 2) (512 * k)
keep5 a k = rw (run_shift32 a k, low2 a k) (add_low (a / 32 * 32) k (a % 2) (omega arith) (omega arith))

keep4 : (a k : ℕ) → wrap a (512 * k) / 16 * 16 + wrap a (512 * k) % 2 ≡ wrap (a / 16 * 16 + a % 2) (512 * k)
keep4 a k = rw (run_shift a k, low2 a k) (add_low (a / 16 * 16) k (a % 2) (omega arith) (omega arith))

keep1 : (a k : ℕ) → wrap a (512 * k) / 2 * 2 + wrap a (512 * k) % 2 ≡ wrap (a / 2 * 2 + a % 2) (512 * k)
keep1 a k = omega arith

cleared_shift : (s : Settings) (k : ℕ) (c : Counter) → cleared s (shift k c) ≡ shift k (cleared s c)
cleared_shift s k c =
    ap (λ (n : ℕ). counter n c.x c.y)
    (by_kept s (λ b. wrap c.address (512 * k) / 2 ^ b * 2 ^ b + wrap c.address (512 * k) % 2 ≡ wrap (c.address / 2 ^ b * 2 ^ b + c.address % 2) (512 * k))
    (keep5 c.address k) (keep4 c.address k) (keep1 c.address k))

bit4 : (a k : ℕ) → wrap a (512 * k) / 16 % 2 ≡ a / 16 % 2
bit4 a k = omega arith

drop_shift : (s : Settings) (k : ℕ) (c : Counter) → clears_set_b4 s (shift k c) ≡ clears_set_b4 s c
drop_shift s k c = ap₂ (λ (a b : ℕ). eqb a 1 && eqb b 0) (bit4 c.address k) (ap b4 (cleared_shift s k c) ∙ bit4 (cleared s c).address k)

pub clear_shift : (s : Settings) (k : ℕ) (c : Counter) → clear s (shift k c) ≡ shift k (clear s c)
unfolding clear
clear_shift s k c =
    ap₂ (λ (t : Bool) (d : Counter). choose (clearing_counts s.rule && t) (fall s d) d) (drop_shift s k c) (cleared_shift s k c)
    ∙ (by_test (clearing_counts s.rule && clears_set_b4 s c) (λ t. simp t (fall_shift s k (cleared s c))) (λ t. simp t))

-- the settings with the window's start at $0000: V, the look and the rule stay
abbrev pub from_zero : Settings → Settings
from_zero s = record { word = video_mode s; look = s.look; rule = s.rule }

-- in a line the counter reads V alone
module _ (s t : Settings) (e : video_mode s ≡ video_mode t) where
  advance_by_v : (c : Counter) → advance s c ≡ advance t c
  unfolding advance carry fall
  advance_by_v c = rw e

  pub bytes_by_v : (n : ℕ) (c : Counter) → bytes_on s n c ≡ bytes_on t n c
  unfolding bytes_on
  bytes_by_v zero c = refl
  bytes_by_v (suc n) c = rw (bytes_by_v n c) (advance_by_v (bytes_on t n c))

  -- and at its end the rule too
  pub clear_by_v : s.rule ≡ t.rule → (c : Counter) → clear s c ≡ clear t c
  unfolding clear fall
  clear_by_v r c = rw (e, r)

same_v : (s : Settings) → video_mode s ≡ video_mode (from_zero s)
same_v s = omega arith

start_shift : (s : Settings) → start s ≡ shift (offset s) (start (from_zero s))
unfolding start
start_shift s = ap (λ (a : ℕ). counter a 0 0) (omega arith)

-- the shift law, line by line: the window that starts at F is the one that starts at $0000, each address F × 512 further on
pub line_shift : (s : Settings) (n : ℕ) → line_start s n ≡ shift (offset s) (line_start (from_zero s) n)
unfolding line_start
line_shift s zero = start_shift s
line_shift s (suc n) =
    rw (line_shift s n, bytes_shift s (offset s) (width s.look) (line_start (from_zero s) n), clear_shift s (offset s) (bytes_on s (width s.look) (line_start (from_zero s) n)))
    (ap (shift (offset s)) (ap (clear s) (bytes_by_v s (from_zero s) (same_v s) (width s.look) (line_start (from_zero s) n)) ∙ clear_by_v s (from_zero s) (same_v s) refl (bytes_on (from_zero s) (width s.look) (line_start (from_zero s) n))))

-- and of every byte of every line
pub address_shift : (s : Settings) (n c : ℕ) → address_of s n c ≡ wrap (address_of (from_zero s) n c) (512 * offset s)
unfolding address_of
address_shift s n c =
    ap (λ (d : Counter). (bytes_on s c d).address) (line_shift s n)
    ∙ ap (λ (d : Counter). d.address) (bytes_shift s (offset s) c (line_start (from_zero s) n))
    ∙ ap (λ (d : Counter). wrap d.address (512 * offset s)) (bytes_by_v s (from_zero s) (same_v s) c (line_start (from_zero s) n))
