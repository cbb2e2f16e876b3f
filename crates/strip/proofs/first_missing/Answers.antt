-- `first_missing`: no fetch where the last bank is fitted, the first of all where the start's is not, else the first past the rows that are left before the next bank.
use Rattle.std.proofs.Common.{◌≡◌, ℕ, ◌*◌, sym, ap, ◌∙◌, ap₂, arith}
use Rattle.settings.specs.declared.Settings.{Settings}
use Rattle.settings.specs.Banks.{missing}
use Rattle.settings.specs.Fields.{offset}
use Rattle.settings.proofs.Widths.{width_pos}
use Rattle.counter.specs.declared.Counter.{Counter}
use Rattle.counter.specs.Counter.{start}
use Rattle.counter.specs.Steps.{row_lasts}
use Rattle.strip.specs.Steps.{rows_left}
use Rattle.strip.proofs.Banks.{start_at, none_missing, first_fetch, found, not_found, first_small}
use Rattle.strip.proofs.first_missing.Goals as goal

module _ (s : Settings) {from : Counter} (e : from ≡ start s) where
  -- where the window starts
  from_is : from.address ≡ offset s * 512
  from_is = ap (λ (d : Counter). d.address) e ∙ start_at s

  -- whether an image lacks its bank
  lacks_is : (size : ℕ) → missing s size from.address ≡ missing s size (offset s * 512)
  lacks_is size = ap (missing s size) from_is

  -- the first fetch past the rows that are left before the next bank
  first_is : {rows lasts : ℕ} → rows ≡ rows_left s from.address → lasts ≡ row_lasts s → rows * lasts ≡ rows_left s (offset s * 512) * row_lasts s
  first_is r l = ap₂ ◌*◌ (r ∙ ap (rows_left s) from_is) l

pub returns-then-not-lacks : goal.returns-then-not-lacks
returns-then-not-lacks c = sym (none_missing c.args.settings c.args.size (sym c.lacks.ensures ∙ c.if-not-lacks.true))

pub returns-then-lacks : goal.returns-then-lacks
returns-then-lacks c = (
  sym (first_fetch c.args.settings c.args.size (sym (c.lacks-2.ensures ∙ lacks_is c.args.settings c.start-start.ensures c.args.size) ∙ c.if-lacks.true)),
  omega (arith, width_pos c.args.settings.look),
)

pub overflow_mul-first : goal.overflow_mul-first
overflow_mul-first c =
    rw (first_is c.args.settings c.start-start.ensures c.rows_left.ensures c.row_lasts.ensures) (omega (arith, first_small c.args.settings))

pub returns-then-first-total : goal.returns-then-first-total
returns-then-first-total c =
    let s = c.args.settings in
    let e = first_is s c.start-start.ensures c.rows_left.ensures c.row_lasts.ensures in (
      sym (e ∙ found s c.args.size (sym c.lacks.ensures ∙ c.if-not-lacks.false) (sym (c.lacks-2.ensures ∙ lacks_is s c.start-start.ensures c.args.size) ∙ c.if-lacks.false) (omega (arith, e, c.strip_length-total.ensures, c.if-first-total.true))),
      omega (arith, c.strip_length-total.ensures, c.if-first-total.true),
    )

pub returns-else-first-total : goal.returns-else-first-total
returns-else-first-total c =
    let s = c.args.settings in
    let e = first_is s c.start-start.ensures c.rows_left.ensures c.row_lasts.ensures in
    sym (not_found s c.args.size (sym c.lacks.ensures ∙ c.if-not-lacks.false) (sym (c.lacks-2.ensures ∙ lacks_is s c.start-start.ensures c.args.size) ∙ c.if-lacks.false) (omega (arith, e, c.strip_length-total.ensures, c.if-first-total.false)))
