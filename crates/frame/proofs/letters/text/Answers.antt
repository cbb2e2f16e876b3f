-- `text`: what is drawn by the tables is the picture.
use Rattle.std.proofs.Common.{arith}
use Rattle.promises.proofs.Fills.{by, upto}
use Rattle.frame.proofs.Tints.{typed_picture}
use Rattle.frame.proofs.letters.text.Goals as goal

pub returns : goal.returns
returns c =
    by (λ k _ _. typed_picture c.args.look _ c.args.strip.now c.args.font.now c.requires.0 c.glyphs.ensures (λ j. (c.type_inv.strip j).fits) k)
    (upto (omega arith) c.loop-n.invariant)
