-- `glyphs`: the rows of each byte so far.
use Rattle.std.proofs.Common.{ℕ, ◌*◌, ◌/◌, ◌%◌}
use Rattle.promises.specs.Written.{Filled}
use Rattle.pixel.specs.Text.{lit}
use Rattle.frame.proofs.letters.Font.glyphs.Given as goal

abbrev pub invariant-loop-b : goal.invariant-loop-b
invariant-loop-b l = Filled (λ (n : ℕ). lit l.self.look l.self.patterns.now (n / 12) (n % 12)) 0 (l.b * 12) l.initial.rows l.rows
