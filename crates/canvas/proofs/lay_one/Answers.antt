-- `canvas::lay_one` meets its contract: by the laws of a rectangle in the two sides that were measured.
use Rattle.std.proofs.Common.{◌∙◌, arith, rules}
use Rattle.canvas.proofs.Rectangles as law
use Rattle.canvas.proofs.lay_one.Goals as goal

pub overflow_mul-on : goal.overflow_mul-on
overflow_mul-on c = record { fits = omega (arith, law.on_fits (law.measured (search rules) (search rules) c.requires c.clip-h.ensures c.clip-v.ensures)) }

pub counted-requires : goal.counted-requires
counted-requires c = law.none_counted (law.measured (search rules) (search rules) c.requires c.clip-h.ensures c.clip-v.ensures)

pub returns-then-on-eq0-clause-entry : goal.returns-then-on-eq0-clause-entry
returns-then-on-eq0-clause-entry c = c.counted.ensures ∙ law.entry_none (law.measured (search rules) (search rules) c.requires c.clip-h.ensures c.clip-v.ensures) c.if-on-eq0.true

pub returns-then-on-eq0-clause-pixels : goal.returns-then-on-eq0-clause-pixels
returns-then-on-eq0-clause-pixels c = law.pixels_none (law.measured (search rules) (search rules) c.requires c.clip-h.ensures c.clip-v.ensures) c.if-on-eq0.true

-- where something is kept: how near the rectangle's first kept pixel lies
pub overflow_add-patch : goal.overflow_add-patch
overflow_add-patch c = record { fits = omega (arith, law.near (law.measured (search rules) (search rules) c.requires c.clip-h.ensures c.clip-v.ensures) c.if-on-eq0.false) }

pub overflow_mul-patch : goal.overflow_mul-patch
overflow_mul-patch c = record { fits = omega (arith, law.near (law.measured (search rules) (search rules) c.requires c.clip-h.ensures c.clip-v.ensures) c.if-on-eq0.false) }

pub overflow_add-patch-2 : goal.overflow_add-patch-2
overflow_add-patch-2 c = record { fits = omega (arith, law.near (law.measured (search rules) (search rules) c.requires c.clip-h.ensures c.clip-v.ensures) c.if-on-eq0.false) }

pub overflow_add-patch-3 : goal.overflow_add-patch-3
overflow_add-patch-3 c = record { fits = omega (arith, law.near (law.measured (search rules) (search rules) c.requires c.clip-h.ensures c.clip-v.ensures) c.if-on-eq0.false) }

pub copy-requires : goal.copy-requires
copy-requires c = law.asked (law.measured (search rules) (search rules) c.requires c.clip-h.ensures c.clip-v.ensures) c.if-on-eq0.false

pub counted-requires-2 : goal.counted-requires-2
counted-requires-2 c = law.all_counted (law.measured (search rules) (search rules) c.requires c.clip-h.ensures c.clip-v.ensures)

pub returns-clause-entry : goal.returns-clause-entry
returns-clause-entry c = c.counted-2.ensures ∙ law.entry (law.measured (search rules) (search rules) c.requires c.clip-h.ensures c.clip-v.ensures)

pub returns-clause-pixels : goal.returns-clause-pixels
returns-clause-pixels c = law.pixels (law.measured (search rules) (search rules) c.requires c.clip-h.ensures c.clip-v.ensures) c.copy.ensures
