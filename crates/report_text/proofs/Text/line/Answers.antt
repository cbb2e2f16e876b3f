-- `report_text::Text::line` meets its contract: part by part.
use Rattle.std.proofs.Common.{◌+◌, length, arith}
use Rattle.grammar.specs.Sheet.{nl}
use Rattle.report_text.proofs.Texts.{grows_on, room_left}
use Rattle.report_text.proofs.Text.line.Goals as goal

pub append-requires-2 : goal.append-requires-2
append-requires-2 c = room_left _ _ _ c.args.word.now c.requires c.append.ensures (omega arith)

pub append-requires-3 : goal.append-requires-3
append-requires-3 c =
    room_left _ _ _ c.args.value.now (room_left _ _ (length c.args.value.now + 1) c.args.word.now c.requires c.append.ensures (omega arith)) c.append-2.ensures (omega arith)

pub returns : goal.returns
returns c = grows_on _ _ _ c.args.word.now _ c.append.ensures (grows_on _ _ _ c.args.value.now nl c.append-2.ensures c.append-3.ensures)
