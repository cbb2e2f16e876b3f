-- The placements before the one in turn are laid and entered, and the others are as they were.
use Rattle.std.proofs.Common.{◌≡◌}
use Rattle.plans.specs.Canvas.{entered}
use Rattle.canvas.proofs.Turns.{upto, after}
use Rattle.canvas.proofs.lay_all.Given as goal

abbrev pub invariant-loop-p : goal.invariant-loop-p
invariant-loop-p l = record {
  are_entered : l.placements ≡ upto (entered l.width l.height) l.p-index l.fn.placements;
  are_laid : l.canvas ≡ after l.frame l.width l.p-index l.fn.placements l.fn.canvas;
}
