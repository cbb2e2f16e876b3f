-- `report_text::Text::append` meets its contract: the part is copied behind what the text holds.
use Rattle.report_text.proofs.Texts.{pasted}
use Rattle.report_text.proofs.Text.append.Goals as goal

pub returns : goal.returns
returns c = pasted c.args.self.now c.args.part.now c.requires c.copy_from_slice.ensures.after
