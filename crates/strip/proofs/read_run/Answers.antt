-- `read_run`: the places of the strip are filled with the run that is read.
use Rattle.std.proofs.Common.{◌+◌, ℕ, get_or, ap, ◌∙◌, arith}
use Rattle.promises.proofs.Copied.{part}
use Rattle.strip.proofs.read_run.Goals as goal

pub returns-clause-filled : goal.returns-clause-filled
returns-clause-filled c =
    part c.args.at _ _ _ _ (omega arith) (omega arith) (omega arith)
    (λ j l. c.put_run.ensures j (omega arith) ∙ c.run_at-run.ensures j (omega arith) ∙ ap (λ (i : ℕ). get_or c.args.image.now (c.args.from + i) 0) (omega arith))
