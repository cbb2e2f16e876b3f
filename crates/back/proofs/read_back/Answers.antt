-- `back::read_back` reads where no length is refused, and else leaves the strip as it was.
use Rattle.std.proofs.Common.{rules, ap, sym}
use Rattle.promises.specs.Told.{Told}
use Rattle.answer.proofs.Answers.{not_done}
use Rattle.back.proofs.Backs.{length_refused}
use Rattle.back.proofs.read_back.Goals as goal

pub returns-in_err-length_answer-clause-answer : goal.returns-in_err-length_answer-clause-answer
returns-in_err-length_answer-clause-answer c =
    let k = length_refused c.args.look c.args.frame.now c.args.strip.now c.in_err-length_answer.ensures (not_done c.in_err-length_answer.field-0.0) in
    search (rules, k.0)

pub returns-in_err-length_answer-clause-strip : goal.returns-in_err-length_answer-clause-strip
returns-in_err-length_answer-clause-strip c = (length_refused c.args.look c.args.frame.now c.args.strip.now c.in_err-length_answer.ensures (not_done _)).1

pub take-requires : goal.take-requires
take-requires c = ap (λ (t : Told). t.number) (sym c.in_ok-length_answer.ensures)
