-- `shows`: in RG modes one colour and black, in CG modes four by CSS.
use Rattle.std.proofs.Common.{ℕ, ◌*◌, ap, sym, ◌∙◌}
use borrow.Author.Tests.{eq-eqb, ne_eqb}
use Rattle.pixel.proofs.Pins.{gm_low}
use Rattle.back.specs.Stray.{shows}
use Rattle.back.proofs.shows.Goals as goal

pub returns-then-c-css : goal.returns-then-c-css
unfolding shows
returns-then-c-css c =
    simp (eq-eqb _ _ (rw (c.gm.ensures, gm_low _) at c.if-gm-eq1.true), eq-eqb _ _ (c.if-c-css.true ∙ ap (λ (n : ℕ). 4 * n) c.css-css.ensures))
    (eq-eqb _ _ c.if-c-css.true)

pub returns-else-c-css : goal.returns-else-c-css
unfolding shows
returns-else-c-css c =
    simp (eq-eqb _ _ (rw (c.gm.ensures, gm_low _) at c.if-gm-eq1.true), ne_eqb _ _ (λ e. c.if-c-css.false (e ∙ ap (λ (n : ℕ). 4 * n) (sym c.css-css.ensures))))

pub returns : goal.returns
unfolding shows
returns c = simp (ne_eqb _ _ (rw (c.gm.ensures, gm_low _) at c.if-gm-eq1.false), c.css-css.ensures)
