-- `report_text::Text::annotations` meets its contract: the number's line, and the sheet's last part as it stands.
use Rattle.std.proofs.Common.{ℕ, List, ◌++◌, length, ap, ◌∙◌, arith}
use Rattle.grammar.specs.Sheet.{eq, lines}
use Rattle.grammar.specs.Given.{fields_in}
use Rattle.sheet.proofs.Annotations.{tail_holds}
use Rattle.report_text.specs.Words.{annotations_word, decimal, line_of, text_of, held}
use Rattle.report_text.proofs.Texts.{grows_on, line_left}
use Rattle.report_text.proofs.Longs.{decimal_small}
use Rattle.report_text.proofs.Values.{tail_small}
use Rattle.report_text.proofs.Text.annotations.Goals as goal

pub append-requires : goal.append-requires
append-requires c =
    line_left _ _ _ (annotations_word ++ eq) (decimal c.args.count) c.requires.room c.number_line.ensures (omega (arith, decimal_small 20 c.args.count, ap length (tail_holds _ c.tail.lifetimes _ c.tail.ensures), tail_small c.args.sheet.now))

pub returns : goal.returns
returns c =
    let s = c.args.sheet.now in
    grows_on _ _ _ (line_of annotations_word (decimal c.args.count)) c.tail.result.now c.number_line.ensures c.append.ensures
    ∙ ap (λ (x : List ℕ). text_of (held c.args.self.now ++ (line_of annotations_word (decimal c.args.count) ++ x))) (tail_holds _ c.tail.lifetimes _ c.tail.ensures)
    ∙ ap (λ (n : ℕ). text_of (held c.args.self.now ++ (line_of annotations_word (decimal n) ++ lines (fields_in s).annotations))) c.requires.count_value
