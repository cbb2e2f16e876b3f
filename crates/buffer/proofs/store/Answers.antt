-- What the two buffers hold and the copy between them is what the promise writes.
use Rattle.std.proofs.Common.{arith}
use Rattle.promises.proofs.Copied.{copied_front}
use Rattle.buffer.proofs.store.Goals as goal

pub returns : goal.returns
returns c = copied_front _ _ _ _ _ c.copy_from_slice.ensures.after (omega arith) (omega arith) (omega arith)
