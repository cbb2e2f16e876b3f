-- `canvas::first_outside` meets its contract: the position found is the first place.
use Rattle.std.proofs.Common.{◌≡◌, ◌<◌, length, MatchOption, sym, subst, rules, tests}
use Rattle.std.specs.List.{position}
use Rattle.std.proofs.lemmas.Iterator.{YieldsList-from_slice}
use Rattle.std.proofs.lemmas.Iterator.Search.{position_from_yields_List}
use Rattle.plans.specs.Canvas.{outside, first_outside}
use Rattle.canvas.proofs.Firsts.{found_first}
use Rattle.canvas.proofs.first_outside.Goals as goal

pub returns : goal.returns
returns c =
    let ps = c.args.placements.now in
    let found : c.position.result ≡ position outside ps = position_from_yields_List outside _ _ c.position.result c.position.ensures.ran (YieldsList-from_slice ps cc) (λ x b q k. search (rules, tests)) in
    subst (λ r. MatchOption r (first_outside ps ≡ length ps) (λ k. (first_outside ps ≡ k) × (k < length ps))) (sym found) (found_first ps)
