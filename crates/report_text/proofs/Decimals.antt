-- How a number's decimal digits are found, the last one first.
use Prim.Native.Nat.{ℕ, zero, suc, ◌+◌, ◌-◌, ◌/◌, ◌%◌, ◌^◌, ◌≤◌, ◌<◌}
use mathlib.Core.Path.{◌≡◌, refl, sym, ap, ◌∙◌}
use mathlib.Core.List.{List, [], ◌∷◌, ◌++◌, append_assoc, append-nil}
use native.Mathlib.Nat.{pow-suc, div-lt_iff_lt-mul, zero-lt-suc}
use native.Mathlib.Omega.{arith}
use borrow.Author.Tests.{lt-ltb, le-ltb}
use lib.ListN.{length, drop, set, replicate, length-set}
use lib.Seq.{drop-cons, drop-set-lt, get_or-set_same}
use Rattle.report_text.specs.Words.{decimal_in}

-- the digits from `from` on are found, and `rest` is what they leave
pub record Found (n : ℕ) (bytes : List ℕ) (from rest : ℕ) : Type 0 where
  pub long : length bytes ≡ 20
  pub some : 1 ≤ from
  pub within : from ≤ 20
  pub fits : rest < 10 ^ from
  pub so_far : decimal_in 20 n ≡ decimal_in from rest ++ drop from bytes

pub none_found : (n : ℕ) → n < 2 ^ 64 → Found n (replicate 20 0) 20 n
none_found n h = record { long = refl; some = omega arith; within = omega arith; fits = omega arith; so_far = sym (append-nil (decimal_in 20 n)) }

-- what is stored stands before the rest
stored : (bytes : List ℕ) (j d : ℕ) → j < length bytes → drop j (set bytes j d) ≡ d ∷ drop (suc j) bytes
stored bytes j d h =
    drop-cons (set bytes j d) j 0 (rw length-set h)
    ∙ ap (λ (x : ℕ). x ∷ drop (suc j) (set bytes j d)) (get_or-set_same bytes j d 0 h)
    ∙ ap (λ (l : List ℕ). d ∷ l) (drop-set-lt (suc j) bytes j d (omega arith))

two_left : (from rest : ℕ) → 10 ≤ rest → rest < 10 ^ from → 2 ≤ from
two_left zero rest h l = absurd (omega arith)
two_left (suc zero) rest h l = absurd (omega arith)
two_left (suc (suc f)) rest h l = omega arith

more_by : (n : ℕ) (bytes : List ℕ) (f rest : ℕ) → 10 ≤ rest → Found n bytes (suc f) rest → Found n (set bytes f (48 + rest % 10)) f (rest / 10)
unfolding decimal_in
more_by n bytes f rest h w =
    let two = two_left (suc f) rest h w.fits in
    record {
      long = length-set bytes f (48 + rest % 10) ∙ w.long;
      some = omega arith;
      within = omega (arith, w.within);
      fits = (div-lt_iff_lt-mul (zero-lt-suc 9)).1 (rw (← pow-suc) w.fits);
      so_far =
          w.so_far
          ∙ rw (le-ltb rest 10 h) (append_assoc (decimal_in f (rest / 10)) ((48 + rest % 10) ∷ []) (drop (suc f) bytes)
          ∙ ap (λ (l : List ℕ). decimal_in f (rest / 10) ++ l) (sym (stored bytes f (48 + rest % 10) (omega (arith, w.long, w.within)))));
    }

last_by : (n : ℕ) (bytes : List ℕ) (f rest : ℕ) → rest < 10 → Found n bytes (suc f) rest → drop f (set bytes f (48 + rest)) ≡ decimal_in 20 n
unfolding decimal_in
last_by n bytes f rest h w =
    stored bytes f (48 + rest) (omega (arith, w.long, w.within)) ∙ sym (w.so_far ∙ rw (lt-ltb rest 10 h))

-- the same over the place before `from`
pub one_more : {n : ℕ} {bytes : List ℕ} (from : ℕ) {rest : ℕ} → 10 ≤ rest → Found n bytes from rest → Found n (set bytes (from - 1) (48 + rest % 10)) (from - 1) (rest / 10)
one_more zero h w = absurd (omega (arith, w.some))
one_more {n} {bytes} (suc f) {rest} h w = let e : suc f - 1 ≡ f = omega arith in rw e (more_by n bytes f rest h w)

pub last_one : {n : ℕ} {bytes : List ℕ} (from : ℕ) {rest : ℕ} → rest < 10 → Found n bytes from rest → drop (from - 1) (set bytes (from - 1) (48 + rest)) ≡ decimal_in 20 n
last_one zero h w = absurd (omega (arith, w.some))
last_one {n} {bytes} (suc f) {rest} h w = let e : suc f - 1 ≡ f = omega arith in rw e (last_by n bytes f rest h w)
