-- `frame::draw` draws where nothing is refused, and else leaves the frame as it was.
use Rattle.std.proofs.Common.{rules, refl}
use Rattle.answer.proofs.Answers.{not_done}
use Rattle.frame.proofs.Draws.{kept, all_drawn}
use Rattle.frame.proofs.draw.Goals as goal

pub returns-in_err-border-clause-answer : goal.returns-in_err-border-clause-answer
returns-in_err-border-clause-answer c =
    let k = kept c.args.look c.args.font.now c.args.strip.now c.args.frame.now c.in_err-border.ensures (not_done c.in_err-border.field-0.0) in
    search (rules, k.0)

pub returns-in_err-border-clause-frame : goal.returns-in_err-border-clause-frame
returns-in_err-border-clause-frame c = (kept _ _ _ _ c.in_err-border.ensures (not_done _)).1

pub returns-clause-answer : goal.returns-clause-answer
returns-clause-answer c = (all_drawn _ _ _ _ c.in_ok-border.ensures refl c.paint.ensures).0

pub returns-clause-frame : goal.returns-clause-frame
returns-clause-frame c = (all_drawn _ _ _ _ c.in_ok-border.ensures refl c.paint.ensures).1
