-- From what the functions answer to what is read, and back.
use Rattle.std.proofs.Common.{ℕ, ◌+◌, ◌-◌, ◌≤◌, List, length, take, drop, length-drop, ◌≡◌, Ok, Err, Result, refl, sym, ap, ◌∙◌, arith}
use lib.Seq.{take_all, length-take-le}
use Rattle.text.specs.Code.{Reading, got, stuck}
use Rattle.scan.specs.Steps.{Within, read_as, behind}
use Rattle.scan.specs.declared.Found.{Found}

module _ {X Y : Type 0} (f : X → Y) where
  pub ok_got : (o : Reading X) (r : Found Y) → Ok r ≡ read_as f o → (v : X) × (o ≡ got v r.size) × (r.value ≡ f v)
  ok_got (got v n) r e = let w : r ≡ record { value = f v; size = n } = cc in (v, ap (got v) (sym (ap (λ (x : Found Y). x.size) w)), ap (λ (x : Found Y). x.value) w)
  ok_got (stuck n) r e = absurd cc

-- behind n bytes o is read as r says
pub record Passes {X Y : Type 0} (f : X → Y) (o : Reading X) (n : ℕ) (r : Found Y) : Type 0 where
  pub value : X
  pub size : ℕ
  pub here : o ≡ got value size
  pub found : r.value ≡ f value
  pub goes : r.size ≡ n + size

-- behind n bytes o sticks at the place
pub record Sticks {X : Type 0} (o : Reading X) (n place : ℕ) : Type 0 where
  pub size : ℕ
  pub here : o ≡ stuck size
  pub goes : place ≡ n + size

module _ {X Y : Type 0} (f : X → Y) (n : ℕ) where
  got_behind : (o : Reading X) (q : Result (Found Y) ℕ) (r : Found Y) → q ≡ read_as f o → Ok r ≡ behind n q → Passes f o n r
  got_behind (got v m) q r e h =
      let w : r ≡ record { value = f v; size = n + m } = let z : Ok r ≡ Ok (record { value = f v; size = n + m }) = h ∙ ap (behind n) e in cc in
      record { value = v; size = m; here = refl; found = ap (λ (x : Found Y). x.value) w; goes = ap (λ (x : Found Y). x.size) w }
  got_behind (stuck m) q r e h = absurd (let z : Ok r ≡ Err (n + m) = h ∙ ap (behind n) e in cc)

  stuck_behind : (o : Reading X) (q : Result (Found Y) ℕ) (place : ℕ) → q ≡ read_as f o → Err place ≡ behind n q → Sticks o n place
  stuck_behind (got v m) q place e h = absurd (let z : Err place ≡ Ok (record { value = f v; size = n + m }) = h ∙ ap (behind n) e in cc)
  stuck_behind (stuck m) q place e h = record { size = m; here = refl; goes = let z : Err place ≡ Err (n + m) = h ∙ ap (behind n) e in cc }

ends_behind : {Y : Type 0} (n m : ℕ) (q : Result (Found Y) ℕ) (r : Found Y) → Within m q → Ok r ≡ behind n q → r.size ≤ n + m
ends_behind n m (Ok found) r h e =
    let w : r ≡ record { value = found.value; size = n + found.size } = cc in
    omega (arith, h, ap (λ (x : Found _). x.size) w)
ends_behind n m (Err place) r h e = absurd cc

-- ---- the bytes s from n on, which the source takes as a slice, where g reads
module _ {X Y : Type 0} (f : X → Y) (g : List ℕ → Reading X) (n : ℕ) (s : List ℕ) (q : Result (Found Y) ℕ) (e : q ≡ read_as f (g (take (length s - n) (drop n s)))) where
  pub there : q ≡ read_as f (g (drop n s))
  there = e ∙ ap (λ (l : List ℕ). read_as f (g l)) (take_all (length s - n) (drop n s) (omega (arith, length-drop n s)))

  pub passes : (r : Found Y) → Ok r ≡ behind n q → Passes f (g (drop n s)) n r
  passes r = got_behind f n (g (drop n s)) q r there

  pub sticks : (place : ℕ) → Err place ≡ behind n q → Sticks (g (drop n s)) n place
  sticks place = stuck_behind f n (g (drop n s)) q place there

pub ends_within : {Y : Type 0} (n : ℕ) (s : List ℕ) (q : Result (Found Y) ℕ) (r : Found Y) → n ≤ length s → Within (length (take (length s - n) (drop n s))) q → Ok r ≡ behind n q → r.size ≤ length s
ends_within n s q r k h e =
    omega (arith, k, ends_behind n (length (take (length s - n) (drop n s))) q r h e, length-take-le (length s - n) (drop n s) (omega (arith, length-drop n s)))
