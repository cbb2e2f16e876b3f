-- `columns`: a piece brings what its row was to get.
use Rattle.std.proofs.Common.{arith, refl}
use Rattle.transpose.proofs.Transposings.{piece_more}
use Rattle.transpose.proofs.columns.Goals as goal

pub loop-row-preserved : goal.loop-row-preserved
loop-row-preserved c =
    piece_more c.args.lent.now c.args.column c.loop-row.row _ _ _ _ _ (omega arith) c.loop-row-test.true refl (omega arith)
    (omega (arith, c.loop-row.auto.room, c.requires.banks)) (omega arith) refl c.piece.ensures c.loop-row.invariant
