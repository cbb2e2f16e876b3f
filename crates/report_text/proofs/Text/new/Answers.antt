-- `report_text::Text::new` meets its contract.
use Rattle.std.proofs.Common.{refl}
use Rattle.report_text.specs.Words.{text_of}
use Rattle.report_text.proofs.Text.new.Goals as goal

pub returns : goal.returns
unfolding text_of
returns c = refl
