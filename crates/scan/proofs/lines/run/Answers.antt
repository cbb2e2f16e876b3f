-- `run`: the chain gives the bytes of the class.
use Rattle.std.proofs.Common.{◌∙◌, ap, length, min, take, rules, tests}
use Rattle.std.specs.List.{prefix_len}
use Rattle.std.proofs.lemmas.Iterator.{YieldsList-from_slice}
use Rattle.std.proofs.lemmas.Iterator.Consumers.{count_from_yields_List, YieldsList-at}
use Rattle.std.proofs.lemmas.Iterator.Search.{YieldsList-from_take_while}
use Rattle.std.proofs.lemmas.List.Folds.{length-prefix_len}
use Rattle.scan.proofs.Runs.{span_prefix, front}
use Rattle.scan.proofs.lines.run.Goals as goal

pub returns : goal.returns
returns g c =
    let p = g.C.Class.class in
    let s = c.args.rest.now in
    let begin = take (min (length s) c.args.most) s in
    count_from_yields_List c.take_while.result _ c.count.ensures.ran
    (YieldsList-from_take_while _ p (YieldsList-at c.take_while.ensures.source (YieldsList-from_slice begin cc)) c.take_while.ensures.closure c.take_while.ensures.done (λ x b q k. search (rules, tests)))
    ∙ length-prefix_len p begin ∙ ap (prefix_len p) (front c.args.most s) ∙ span_prefix p c.args.most s
