-- `glyph`: the rows so far.
use Rattle.std.proofs.Common.{◌≡◌, ℕ, ◌<◌, get_or}
use Rattle.pixel.specs.Text.{lit}
use Rattle.frame.proofs.letters.Font.glyph.Given as goal

abbrev pub invariant-loop-row : goal.invariant-loop-row
invariant-loop-row l = (k : ℕ) → k < l.row → get_or l.dots-items k 0 ≡ lit l.self.look l.self.patterns.now l.b k
