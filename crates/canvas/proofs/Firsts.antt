-- The first placement whose rectangle is outside: where the first one stands that passes the test, and the list's length where none does.
use Rattle.std.proofs.Common.{ℕ, suc, ◌+◌, ◌≤◌, ◌<◌, ◌≡◌, Bool, true, false, List, [], ◌∷◌, length, refl, sym, ap, ◌∙◌, arith, nat_lt, cond, Some, None, MatchOption}
use Rattle.std.proofs.lemmas.Bool.Decides.{nat_tests}
use Rattle.std.specs.List.{position, position_or_len}
use Rattle.promises.specs.Choose.{choose}
use Rattle.promises.specs.First.{first_where}
use Rattle.promises.proofs.Firsts.{first_le}
use Rattle.plans.specs.declared.Placement.{Placement}
use Rattle.plans.specs.Canvas.{outside, outside_at, first_outside}

one_more : (p : Placement) (ps : List Placement) (b : Bool) → outside p ≡ b → position_or_len outside (p ∷ ps) ≡ choose b 0 (suc (position_or_len outside ps))
one_more p ps true e = simp e
one_more p ps false e = let s : 1 + position_or_len outside ps ≡ suc (position_or_len outside ps) = omega arith in simp e s

pub by_place : (ps : List Placement) → position_or_len outside ps ≡ first_outside ps
unfolding first_where
by_place [] = refl
by_place (p ∷ ps) = one_more p ps (outside p) refl ∙ ap (λ (k : ℕ). choose (outside p) 0 (suc k)) (by_place ps)

-- where it is found, and that it is the length where it is not
is_first : (b : Bool) (i f n : ℕ) → nat_lt i n ≡ b → i ≡ f → f ≤ n → MatchOption (cond b (Some i) None) (f ≡ n) (λ k. (f ≡ k) × (k < n))
is_first true i f n t e h = (sym e, grind (arith, nat_tests))
is_first false i f n t e h = grind (arith, nat_tests)

pub found_first : (ps : List Placement) → MatchOption (position outside ps) (first_outside ps ≡ length ps) (λ k. (first_outside ps ≡ k) × (k < length ps))
found_first ps = is_first (nat_lt (position_or_len outside ps) (length ps)) (position_or_len outside ps) (first_outside ps) (length ps) refl (by_place ps) (first_le (outside_at ps) (length ps))
