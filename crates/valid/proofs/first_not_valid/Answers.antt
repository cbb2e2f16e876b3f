-- `first_not_valid`: the first byte of 128 or more that external text has.
use Rattle.std.proofs.Common.{ℕ, get_or, sym, ◌∙◌}
use Rattle.valid.proofs.Valids.{not_external, none_seen, found}
use Rattle.valid.proofs.first_not_valid.Goals as goal

pub returns-then-not-external : goal.returns-then-not-external
returns-then-not-external c =
    not_external c.args.look (λ (k : ℕ). get_or c.args.strip.now k 0) (sym c.external.ensures ∙ c.if-not-external.true)

pub returns-then-not-some_high : goal.returns-then-not-some_high
returns-then-not-some_high c =
    none_seen c.args.look c.args.strip.now (rw (c.min.ensures, c.strip_length.ensures) at (sym c.some_high.ensures ∙ c.if-not-some_high.true))

pub returns : goal.returns
returns c =
    rw (c.search.ensures, c.min.ensures, c.strip_length.ensures) (found c.args.look c.args.strip.now (sym c.external.ensures ∙ c.if-not-external.false))
