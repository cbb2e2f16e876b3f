-- `strip::fetch` fetches where nothing is refused, and else leaves all as it is.
use Rattle.std.proofs.Common.{refl}
use Rattle.answer.proofs.Answers.{not_done}
use Rattle.strip.proofs.Fetches.{kept, all_fits, all_fetched}
use Rattle.strip.proofs.fetch.Goals as goal

pub all_lines-requires : goal.all_lines-requires
all_lines-requires c =
    let f = all_fits _ _ _ c.in-Ok.ensures refl in
    (f.image_suits, f.strip_long, f.banks)

pub returns-in-Ok-clause-answer : goal.returns-in-Ok-clause-answer
returns-in-Ok-clause-answer c = (all_fetched _ _ _ c.in-Ok.ensures refl c.all_lines.ensures.value c.all_lines.ensures.filled).0

pub returns-in-Ok-clause-count : goal.returns-in-Ok-clause-count
returns-in-Ok-clause-count c = (all_fetched _ _ _ c.in-Ok.ensures refl c.all_lines.ensures.value c.all_lines.ensures.filled).1.0

pub returns-in-Ok-clause-bytes : goal.returns-in-Ok-clause-bytes
returns-in-Ok-clause-bytes c = (all_fetched _ _ _ c.in-Ok.ensures refl c.all_lines.ensures.value c.all_lines.ensures.filled).1.1

pub returns-in-Err-clause-answer : goal.returns-in-Err-clause-answer
returns-in-Err-clause-answer c = (kept _ _ _ c.in-Err.ensures (not_done c.in-Err.refusal)).0

pub returns-in-Err-clause-count : goal.returns-in-Err-clause-count
returns-in-Err-clause-count c = (kept _ _ _ c.in-Err.ensures (not_done c.in-Err.refusal)).1.0

pub returns-in-Err-clause-bytes : goal.returns-in-Err-clause-bytes
returns-in-Err-clause-bytes c = (kept _ _ _ c.in-Err.ensures (not_done c.in-Err.refusal)).1.1
