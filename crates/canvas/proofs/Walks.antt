-- The first placement whose rectangle is outside, by a walk from the list's end: what is found from place i on, and from 0 on.
use Rattle.std.proofs.Common.{ℕ, ◌+◌, ◌-◌, ◌≤◌, ◌≡◌, List, length, ap, ◌∙◌, arith}
use Rattle.promises.specs.First.{first_where}
use Rattle.promises.proofs.Firsts.{same_first}
use Rattle.plans.specs.declared.Placement.{Placement}
use Rattle.plans.specs.Canvas.{outside_at, first_outside}

module _ (ps : List Placement) where
  -- the first of the places from i on, the list's length where there is none
  abbrev pub found : ℕ → ℕ
  found i = i + first_where (λ (k : ℕ). outside_at ps (i + k)) (length ps - i)

  -- and from 0 on it is the first of all
  pub found_all : (i : ℕ) → i ≤ 0 → found i ≡ first_outside ps
  found_all i h =
      let z : i ≡ 0 = omega arith in
      let y : length ps - i ≡ length ps = omega arith in
      let f = same_first (λ (k : ℕ). outside_at ps (i + k)) (outside_at ps) (length ps - i) (λ k _. let x : i + k ≡ k = omega arith in ap (outside_at ps) x) in
      omega (arith, f) ∙ ap (first_where (outside_at ps)) y
