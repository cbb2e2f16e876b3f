-- `paint`: what fits is drawn as graphics or as text, by A/G.
use Rattle.std.proofs.Common.{sym, ◌∙◌, arith}
use Rattle.pixel.proofs.Letters.{text_width}
use Rattle.pixel.proofs.Owners.{in_graphics}
use Rattle.promises.proofs.Fills.{by}
use Rattle.frame.proofs.paint.Goals as goal

pub plot-requires : goal.plot-requires
plot-requires c = (sym c.graphics.ensures ∙ c.if-graphics.true, c.requires.strip_long, c.requires.frame_long)

pub text-requires : goal.text-requires
text-requires c =
    let g = sym c.graphics.ensures ∙ c.if-graphics.false in
    (g, c.requires.font_whole g, omega (arith, text_width c.args.look g, c.requires.strip_long), c.requires.frame_long)

pub returns-then-graphics : goal.returns-then-graphics
returns-then-graphics c =
    by (λ k _ _. sym (in_graphics c.args.look c.args.font.now c.args.strip.now k (sym c.graphics.ensures ∙ c.if-graphics.true))) c.plot.ensures
