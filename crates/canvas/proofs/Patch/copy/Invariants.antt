-- The first i rows are copied.
use Rattle.canvas.specs.Patch.{Patched}
use Rattle.canvas.proofs.Patch.copy.Given as goal

abbrev pub invariant-loop-i : goal.invariant-loop-i
invariant-loop-i l = Patched l.frame (record l.self { lines = l.i }) l.width l.fn.canvas l.canvas
