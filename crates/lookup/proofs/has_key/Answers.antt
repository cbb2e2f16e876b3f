-- `has_key`: what follows the bytes that go alike decides, where they are the whole key.
use Rattle.lookup.proofs.Lines.{key_there, key_other}
use Rattle.lookup.proofs.has_key.Goals as goal

pub returns-then-same-key : goal.returns-then-same-key
returns-then-same-key c = key_there c.args.key.now c.args.line.now c.alike-same.result c.alike-same.ensures.value c.equals_first.result c.if-same-key.true c.equals_first.ensures

pub returns-else-same-key : goal.returns-else-same-key
returns-else-same-key c = key_other c.args.key.now c.args.line.now c.alike-same.result c.alike-same.ensures.value c.if-same-key.false
