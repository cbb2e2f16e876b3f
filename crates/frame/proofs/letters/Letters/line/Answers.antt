-- `line`: one byte more.
use Rattle.std.proofs.Common.{ℕ, ◌+◌, ◌*◌, ◌%◌, get_or, arith, ap}
use Rattle.promises.proofs.Fills.{join, by, upto}
use Rattle.frame.proofs.Tints.{typed_cell}
use Rattle.frame.proofs.letters.Letters.line.Goals as goal

pub loop-c-preserved : goal.loop-c-preserved
loop-c-preserved c =
    let l = c.args.self.now in
    upto (omega arith)
    (join {n = c.args.n * 256 + c.loop-c.c * 8 + 8} (omega arith) (omega arith) c.loop-c.invariant
    (by (typed_cell l.look l.rows c.args.strip.now c.args.n c.loop-c.c c.ink.result (get_or l.rows (c.from.result * 12 + c.args.n % 12) 0) (omega arith) c.ink.ensures.0 (ap (λ (j : ℕ). get_or l.rows (j * 12 + c.args.n % 12) 0) c.from.ensures)) c.tint.ensures))
