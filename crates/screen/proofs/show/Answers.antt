-- `screen::show` renders where no length is refused, and else leaves both buffers as they were.
use Rattle.std.proofs.Common.{rules, ap, sym, ◌∙◌}
use Rattle.promises.specs.Told.{Told}
use Rattle.answer.proofs.Answers.{not_done}
use Rattle.screen.proofs.Shows.{length_refused}
use Rattle.screen.proofs.show.Goals as goal

pub returns-in_err-length_answer-clause-answer : goal.returns-in_err-length_answer-clause-answer
returns-in_err-length_answer-clause-answer c =
    let k = length_refused c.args.settings c.args.image.now c.args.font.now c.args.strip.now c.args.frame.now c.in_err-length_answer.ensures (not_done c.in_err-length_answer.field-0.0) in
    search (rules, k.0)

pub returns-in_err-length_answer-clause-bytes : goal.returns-in_err-length_answer-clause-bytes
returns-in_err-length_answer-clause-bytes c = (length_refused c.args.settings c.args.image.now c.args.font.now c.args.strip.now c.args.frame.now c.in_err-length_answer.ensures (not_done _)).1.0

pub returns-in_err-length_answer-clause-pixels : goal.returns-in_err-length_answer-clause-pixels
returns-in_err-length_answer-clause-pixels c = (length_refused c.args.settings c.args.image.now c.args.font.now c.args.strip.now c.args.frame.now c.in_err-length_answer.ensures (not_done _)).1.1

pub render-requires : goal.render-requires
render-requires c = ap (λ (t : Told). t.number) (sym c.in_ok-length_answer.ensures)
