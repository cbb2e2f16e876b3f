-- `shades`: bits in RG modes, and pairs of bits in CG modes.
use borrow.Author.Tests.{eq-eqb, ne_eqb}
use Rattle.std.proofs.Common.{◌∙◌}
use Rattle.pixel.proofs.Pins.{gm_low}
use Rattle.frame.specs.Steps.{shade}
use Rattle.frame.proofs.graphics.shades.Goals as goal

pub returns-then-gm-eq1 : goal.returns-then-gm-eq1
unfolding shade
returns-then-gm-eq1 c =
    λ k l. c.by_bits.ensures k l ∙ simp (eq-eqb _ _ (rw (c.gm.ensures, gm_low _) at c.if-gm-eq1.true), c.css-colour.ensures)

pub returns-else-gm-eq1 : goal.returns-else-gm-eq1
unfolding shade
returns-else-gm-eq1 c =
    λ k l. c.by_pairs.ensures k l ∙ simp (ne_eqb _ _ (rw (c.gm.ensures, gm_low _) at c.if-gm-eq1.false), c.css-colour.ensures)
