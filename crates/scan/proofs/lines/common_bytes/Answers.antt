-- `common_bytes`: the chain gives the pairs that are alike.
use Rattle.std.proofs.Common.{◌∙◌, rules, tests}
use Rattle.std.specs.List.{zip}
use Rattle.std.proofs.lemmas.Iterator.{YieldsList-from_slice, YieldsList-from_zip}
use Rattle.std.proofs.lemmas.Iterator.Consumers.{count_from_yields_List, YieldsList-at}
use Rattle.std.proofs.lemmas.Iterator.Search.{YieldsList-from_take_while}
use Rattle.std.proofs.lemmas.List.Folds.{length-prefix_len}
use Rattle.scan.proofs.Runs.{alike, common_prefix}
use Rattle.scan.proofs.lines.common_bytes.Goals as goal

pub returns : goal.returns
returns c =
    let s = c.args.rest.now in
    let k = c.args.key.now in
    count_from_yields_List c.take_while.result _ c.count.ensures.ran
    (YieldsList-from_take_while _ alike (YieldsList-at c.take_while.ensures.source (YieldsList-from_zip (YieldsList-from_slice s cc) (YieldsList-from_slice k cc))) c.take_while.ensures.closure c.take_while.ensures.done (λ x b q k. search (rules, tests)))
    ∙ length-prefix_len alike (zip s k) ∙ common_prefix k s
