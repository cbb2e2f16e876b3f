-- `plot`: W is 32 or 16, and what is drawn by the table is the picture.
use Rattle.std.proofs.Common.{◌≡◌, ℕ, ◌/◌, refl, sym, ap, ◌∙◌, arith}
use mathlib.Core.Logic.{inl, inr, ⊎_elim}
use Rattle.settings.specs.Modes.{width}
use Rattle.settings.proofs.Widths.{width_cases}
use Rattle.promises.proofs.Fills.{by}
use Rattle.frame.proofs.Plots.{plotted_graphic}
use Rattle.frame.proofs.graphics.plot.Goals as goal

pub plot_lines-requires-else-width-eq32 : goal.plot_lines-requires-else-width-eq32
plot_lines-requires-else-width-eq32 c = (inr refl, ⊎_elim (λ e. omega arith) (λ e. omega arith) (width_cases c.args.look), omega arith)

pub returns-then-width-eq32 : goal.returns-then-width-eq32
returns-then-width-eq32 c =
    let n : width c.args.look ≡ 32 = sym c.width.ensures ∙ c.if-width-eq32.true in
    by (λ k _ _. plotted_graphic c.args.look c.requires.0 1 (inl refl) (ap (λ (m : ℕ). 256 / m) n) c.args.strip.now _ c.shades-table.ensures (λ j. (c.type_inv.strip j).fits) k)
    c.plot_lines.ensures

pub returns-else-width-eq32 : goal.returns-else-width-eq32
returns-else-width-eq32 c =
    let n : width c.args.look ≡ 16 = ⊎_elim (λ e. e) (λ e. absurd (c.if-width-eq32.false (c.width.ensures ∙ e))) (width_cases c.args.look) in
    by (λ k _ _. plotted_graphic c.args.look c.requires.0 2 (inr refl) (ap (λ (m : ℕ). 256 / m) n) c.args.strip.now _ c.shades-table.ensures (λ j. (c.type_inv.strip j).fits) k)
    c.plot_lines-else-width-eq32.ensures
