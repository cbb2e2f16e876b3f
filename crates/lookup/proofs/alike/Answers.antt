-- `alike`: the chain gives the pairs that go alike.
use Rattle.std.proofs.Common.{◌∙◌, rules, tests}
use Rattle.std.specs.List.{zip}
use Rattle.std.proofs.lemmas.Iterator.{YieldsList-from_slice, YieldsList-from_zip}
use Rattle.std.proofs.lemmas.Iterator.Consumers.{count_from_yields_List, YieldsList-at}
use Rattle.std.proofs.lemmas.Iterator.Search.{YieldsList-from_take_while}
use Rattle.std.proofs.lemmas.List.Folds.{length-prefix_len}
use Rattle.lookup.proofs.Lines.{goes_alike, alike_prefix}
use Rattle.lookup.proofs.alike.Goals as goal

pub returns-clause-value : goal.returns-clause-value
returns-clause-value c =
    let s = c.args.line.now in
    let k = c.args.key.now in
    count_from_yields_List c.take_while.result _ c.count.ensures.ran
    (YieldsList-from_take_while _ goes_alike (YieldsList-at c.take_while.ensures.source (YieldsList-from_zip (YieldsList-from_slice s cc) (YieldsList-from_slice k cc))) c.take_while.ensures.closure c.take_while.ensures.done (λ x b q k. search (rules, tests)))
    ∙ length-prefix_len goes_alike (zip s k) ∙ alike_prefix k s
