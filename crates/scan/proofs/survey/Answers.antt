-- `survey`: what the lines so far say of the sheet where one sticks, and where all are read.
use Rattle.std.proofs.Common.{◌≡◌, ◌∙◌, Err, rules}
use Rattle.scan.proofs.Surveyed.{begun, count_most, writes_stick, notes_stick, outlined}
use Rattle.scan.proofs.survey.Goals as goal

pub write_lines-requires : goal.write_lines-requires
write_lines-requires c =
    let s = c.args.s.now in
    let b = begun s c.in_ok-deed.deed c.in_ok-deed.ensures.value c.in_ok-pins.pins c.hex_line.result c.hex_line.ensures.value c.in_ok-pins.ensures c.in_ok-ruled.ruled c.ruled_count.result c.ruled_count.ensures.value c.in_ok-ruled.ensures in
    count_most s c.in_ok-deed.deed c.in_ok-pins.pins c.in_ok-ruled.ruled b

pub returns-in_err-lines : goal.returns-in_err-lines
returns-in_err-lines c =
    let s = c.args.s.now in
    let b = begun s c.in_ok-deed.deed c.in_ok-deed.ensures.value c.in_ok-pins.pins c.hex_line.result c.hex_line.ensures.value c.in_ok-pins.ensures c.in_ok-ruled.ruled c.ruled_count.result c.ruled_count.ensures.value c.in_ok-ruled.ensures in
    let place = c.in_err-lines.field-0.0 in
    let q : c.from_residual-in_err-lines.result ≡ Err place = search rules in
    q ∙ writes_stick s c.in_ok-deed.deed c.in_ok-pins.pins c.in_ok-ruled.ruled b c.write_lines.result c.write_lines.ensures.value place c.in_err-lines.ensures

pub returns-in_err-notes : goal.returns-in_err-notes
returns-in_err-notes c =
    let s = c.args.s.now in
    let b = begun s c.in_ok-deed.deed c.in_ok-deed.ensures.value c.in_ok-pins.pins c.hex_line.result c.hex_line.ensures.value c.in_ok-pins.ensures c.in_ok-ruled.ruled c.ruled_count.result c.ruled_count.ensures.value c.in_ok-ruled.ensures in
    let place = c.in_err-notes.field-0.0 in
    let q : c.from_residual-in_err-notes.result ≡ Err place = search rules in
    q ∙ notes_stick s c.in_ok-deed.deed c.in_ok-pins.pins c.in_ok-ruled.ruled b c.write_lines.result c.write_lines.ensures.value c.in_ok-lines.lines c.in_ok-lines.ensures c.annotation_lines.result c.annotation_lines.ensures.value place c.in_err-notes.ensures

pub returns : goal.returns
returns c =
    let s = c.args.s.now in
    let b = begun s c.in_ok-deed.deed c.in_ok-deed.ensures.value c.in_ok-pins.pins c.hex_line.result c.hex_line.ensures.value c.in_ok-pins.ensures c.in_ok-ruled.ruled c.ruled_count.result c.ruled_count.ensures.value c.in_ok-ruled.ensures in
    outlined s c.in_ok-deed.deed c.in_ok-pins.pins c.in_ok-ruled.ruled b c.write_lines.result c.write_lines.ensures.value c.in_ok-lines.lines c.in_ok-lines.ensures c.annotation_lines.result c.annotation_lines.ensures.value c.in_ok-notes.notes c.in_ok-notes.ensures
