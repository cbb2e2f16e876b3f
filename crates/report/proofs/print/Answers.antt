-- `report::print` writes no more than the text's place holds: every report fits it.
use Rattle.report_text.proofs.Fits.{text_held}
use Rattle.report.proofs.print.Goals as goal

pub slice_bounds-write_all-end : goal.slice_bounds-write_all-end
slice_bounds-write_all-end g c = text_held _ _ c.report-text.result c.report-text.ensures
