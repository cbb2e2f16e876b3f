-- `lookup::line_end` meets its contract: block by block, and then to the first line end in the rest.
use Rattle.std.proofs.Common.{◌≡◌, ◌==◌, ◌∙◌, length, ap, arith, rules, tests}
use Rattle.std.specs.List.{position}
use Rattle.std.specs.Option.{unwrap_or}
use Rattle.std.proofs.lemmas.Iterator.{YieldsList-from_slice}
use Rattle.std.proofs.lemmas.Iterator.Search.{position_from_yields_List}
use Rattle.lookup.specs.Steps.{to_line_end}
use Rattle.lookup.proofs.Lines.{end_found}
use Rattle.lookup.proofs.line_end.Goals as goal

pub returns : goal.returns
returns c =
    let rest = c.loop-block.rest.now in
    let found : c.position-near.result ≡ position (λ b. b == 10) rest = position_from_yields_List (λ b. b == 10) _ _ c.position-near.result c.position-near.ensures.ran (YieldsList-from_slice rest cc) (λ x b q k. search (rules, tests)) in
    let near : c.unwrap_or.result ≡ to_line_end rest = c.unwrap_or.ensures ∙ ap (λ r. unwrap_or r (length rest)) found ∙ end_found rest in
    omega (arith, near, c.loop-block.invariant.goes_on)
