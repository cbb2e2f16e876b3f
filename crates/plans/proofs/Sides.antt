-- A side of a rectangle against the edges, for columns and lines alike: which of its places lie on the canvas, how many, and which place of the canvas is which of its own.
use Prim.Native.Nat.{ℕ, zero, suc, ◌+◌, ◌-◌, ◌≤◌, ◌<◌, min}
use mathlib.Core.Path.{◌≡◌, refl, sym, ap, ◌∙◌}
use mathlib.Core.Bool.{Bool, true, false, ◌&&◌}
use mathlib.Core.Logic.{⊎_elim}
use native.Mathlib.Omega.{arith}
use borrow.Author.Tests.{ltb-true, ltb-false, leb-true, leb-false, lt-ltb, le-ltb, le-leb, lt-leb}
use lib.Dec.{ltb, leb}
use lib.IntN.{ℤ, pos, negsuc, nat_abs, sub_ℕ, ◌+ℤ◌, ◌-ℤ◌}
use Rattle.promises.specs.Choose.{choose}
use Rattle.promises.proofs.Choices.{by_test, and_false}
use Rattle.promises.proofs.Counts.{same_many}
use Rattle.promises.proofs.Fills.{lt_or_ge}
use Rattle.promises.specs.Count.{how_many}
use Rattle.plans.specs.Canvas.{within}
use Rattle.plans.specs.Cuts.{off_of, start_of, kept_of, amid}

-- one of the places from a on, one before them, and one past them
pub amid_yes : (a n k : ℕ) → a ≤ k → k < a + n → amid a n k ≡ true
amid_yes a n k h l = rw (le-leb a k h, lt-ltb k (a + n) l)

pub amid_before : (a n k : ℕ) → k < a → amid a n k ≡ false
amid_before a n k h = rw (lt-leb a k h)

pub amid_past : (a n k : ℕ) → a + n ≤ k → amid a n k ≡ false
amid_past a n k h = rw (le-ltb k (a + n) h) (and_false (leb a k))

-- none of 0 places
pub amid_none : (a k : ℕ) → amid a 0 k ≡ false
amid_none a k = ⊎_elim (λ h. amid_before a 0 k h) (λ h. amid_past a 0 k (omega arith)) (lt_or_ge k a)

-- a difference that is below 0, and one that isn't
sub_below : (a b n : ℕ) → a < b → within (sub_ℕ a b) n ≡ false
sub_below a b n h = rw (lt-ltb a b h)

sub_is : (a b : ℕ) → b ≤ a → sub_ℕ a b ≡ pos (a - b)
sub_is a b h = rw (le-ltb a b h)

alike : (a b c d : ℕ) → (a < b → c < d) → (c < d → a < b) → ltb a b ≡ ltb c d
alike a b c d f g = by_test (ltb c d) (λ e. lt-ltb a b (g (ltb-true c d e)) ∙ sym e) (λ e. not_lt (ltb a b) refl e)
  where
    not_lt : (t : Bool) → ltb a b ≡ t → ltb c d ≡ false → t ≡ ltb c d
    not_lt true p e = let l = f (ltb-true a b p) in absurd (omega (arith, ltb-false c d e))
    not_lt false p e = sym e

-- place u from z on lies on the canvas where it isn't before 0 and comes before the edge
lies : ℤ → ℕ → ℕ → Bool
lies z edge u = leb (off_of z) u && ltb (start_of z + (u - off_of z)) edge

lies_is : (z : ℤ) (edge u : ℕ) → within (z +ℤ pos u) edge ≡ lies z edge u
unfolding lies
lies_is (pos k) edge u = rw (le-leb 0 u (omega arith)) (alike (k + u) edge (k + (u - 0)) edge (λ h. omega arith) (λ h. omega arith))
lies_is (negsuc k) edge u =
    by_test (ltb u (suc k))
    (λ e. sub_below u (suc k) edge (ltb-true u (suc k) e) ∙ sym (rw (lt-leb (suc k) u (ltb-true u (suc k) e))))
    (λ e. ap (λ (y : ℤ). within y edge) (sub_is u (suc k) (ltb-false u (suc k) e)) ∙ sym (rw (le-leb (suc k) u (ltb-false u (suc k) e)) (alike (0 + (u - suc k)) edge (u - suc k) edge (λ h. omega arith) (λ h. omega arith))))

-- so as many lie there as are kept
step_by : (a b e n : ℕ) (s t : Bool) → leb a n ≡ s → ltb (b + (n - a)) e ≡ t → min (n - a) (e - b) + choose (s && t) 1 0 ≡ min (suc n - a) (e - b)
step_by a b e n true true p q = omega (arith, leb-true a n p, ltb-true (b + (n - a)) e q)
step_by a b e n true false p q = omega (arith, leb-true a n p, ltb-false (b + (n - a)) e q)
step_by a b e n false t p q = omega (arith, leb-false a n p)

pub kept_count : (z : ℤ) (n edge : ℕ) → how_many (λ (u : ℕ). within (z +ℤ pos u) edge) n ≡ kept_of z n edge
unfolding how_many lies
kept_count z zero edge = omega arith
kept_count z (suc n) edge =
    ap (λ (c : ℕ). c + choose (within (z +ℤ pos n) edge) 1 0) (kept_count z n edge)
    ∙ ap (λ (b : Bool). kept_of z n edge + choose b 1 0) (lies_is z edge n)
    ∙ step_by (off_of z) (start_of z) edge n (leb (off_of z) n) (ltb (start_of z + (n - off_of z)) edge) refl refl

-- a place c of the canvas is one of the n from z on where it is amid those kept, and how far it lies from z
covered_pos : (k c n edge : ℕ) → c < edge → k ≤ c → ltb (c - k) n ≡ amid k (min (n - 0) (edge - k)) c
covered_pos k c n edge h l = rw (le-leb k c l) (alike (c - k) n c (k + min (n - 0) (edge - k)) (λ g. omega arith) (λ g. omega arith))

pub covered_is : (z : ℤ) (n edge c : ℕ) → c < edge → within (pos c -ℤ z) n ≡ amid (start_of z) (kept_of z n edge) c
covered_is (pos zero) n edge c h = rw (le-leb 0 c (omega arith)) (alike (c + 0) n c (0 + min (n - 0) (edge - 0)) (λ g. omega arith) (λ g. omega arith))
covered_is (pos (suc k)) n edge c h =
    by_test (ltb c (suc k))
    (λ e. sub_below c (suc k) n (ltb-true c (suc k) e) ∙ sym (rw (lt-leb (suc k) c (ltb-true c (suc k) e))))
    (λ e. ap (λ (y : ℤ). within y n) (sub_is c (suc k) (ltb-false c (suc k) e)) ∙ covered_pos (suc k) c n edge h (ltb-false c (suc k) e))
covered_is (negsuc k) n edge c h = rw (le-leb 0 c (omega arith)) (alike (c + suc k) n c (0 + min (n - suc k) (edge - 0)) (λ g. omega arith) (λ g. omega arith))

pub far_is : (z : ℤ) (c : ℕ) → start_of z ≤ c → nat_abs (pos c -ℤ z) ≡ off_of z + (c - start_of z)
far_is (pos zero) c h = omega arith
far_is (pos (suc k)) c h = ap nat_abs (sub_is c (suc k) h) ∙ omega arith
far_is (negsuc k) c h = omega arith

-- as many places of the canvas are covered as are kept
amid_step : (a n e : ℕ) (s t : Bool) → leb a e ≡ s → ltb e (a + n) ≡ t → min n (e - a) + choose (s && t) 1 0 ≡ min n (suc e - a)
amid_step a n e true true p q = omega (arith, leb-true a e p, ltb-true e (a + n) q)
amid_step a n e true false p q = omega (arith, leb-true a e p, ltb-false e (a + n) q)
amid_step a n e false t p q = omega (arith, leb-false a e p)

amid_count : (a n e : ℕ) → how_many (amid a n) e ≡ min n (e - a)
unfolding how_many
amid_count a n zero = omega arith
amid_count a n (suc e) = ap (λ (c : ℕ). c + choose (amid a n e) 1 0) (amid_count a n e) ∙ amid_step a n e (leb a e) (ltb e (a + n)) refl refl

pub covered_count : (z : ℤ) (n edge : ℕ) → how_many (λ (c : ℕ). within (pos c -ℤ z) n) edge ≡ kept_of z n edge
covered_count z n edge =
    same_many (λ (c : ℕ). within (pos c -ℤ z) n) (amid (start_of z) (kept_of z n edge)) edge (λ c h. covered_is z n edge c h)
    ∙ amid_count (start_of z) (kept_of z n edge) edge ∙ least (n - off_of z) (edge - start_of z)
  where
    least : (a b : ℕ) → min (min a b) b ≡ min a b
    least a b = omega arith

-- a place of the canvas that is covered is where one of the side's own places lies
far_in : (y : ℤ) (n : ℕ) → within y n ≡ true → nat_abs y < n
far_in (pos k) n e = ltb-true k n e
far_in (negsuc k) n e = let z : ◌≡◌ {A = ℕ} 0 1 = cc in absurd (omega arith)

there : (z : ℤ) (n edge c : ℕ) → c < edge → within (pos c -ℤ z) n ≡ true → within (z +ℤ pos (nat_abs (pos c -ℤ z))) edge ≡ true
there (pos zero) n edge c h e = lt-ltb _ edge (omega arith)
there (pos (suc k)) n edge c h e =
    by_test (ltb c (suc k))
    (λ l. let no = sym (sub_below c (suc k) n (ltb-true c (suc k) l)) ∙ e in cc)
    (λ l. let at = sub_is c (suc k) (ltb-false c (suc k) l) in ap (λ (y : ℤ). within (pos (suc k) +ℤ pos (nat_abs y)) edge) at ∙ lt-ltb _ edge (omega (arith, ltb-false c (suc k) l)))
there (negsuc k) n edge c h e = ap (λ (y : ℤ). within y edge) (sub_is (c + suc k) (suc k) (omega arith)) ∙ lt-ltb _ edge (omega arith)

pub covered_lands : (z : ℤ) (n edge c : ℕ) → c < edge → within (pos c -ℤ z) n ≡ true → (nat_abs (pos c -ℤ z) < n) × (within (z +ℤ pos (nat_abs (pos c -ℤ z))) edge ≡ true)
covered_lands z n edge c h e = (far_in (pos c -ℤ z) n e, there z n edge c h e)
