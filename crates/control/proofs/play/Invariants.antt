-- The loop of `control::play`: the word after the writes before i, none of which is elsewhere.
use Rattle.std.proofs.Common.{◌<◌, ◌^◌}
use Rattle.control.proofs.Plays.{Upto}
use Rattle.control.proofs.play.Given as goal

abbrev pub invariant-loop-i : goal.invariant-loop-i
invariant-loop-i l = (l.now < 2 ^ 16) × Upto l.word l.writes l.i l.now
