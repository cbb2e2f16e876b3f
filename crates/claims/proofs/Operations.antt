-- Every public operation of every library, in one list: its contract, as the source has it, takes every input and allows one outcome.
use mathlib.Core.Path.{◌≡◌, refl}
use mathlib.Core.List.{List, [], ◌∷◌, map}
use Rattle.promises.specs.Fixes.{Fixed, fixed}
use Rattle.answer.proofs.Unique as answer
use Rattle.buffer.proofs.Unique as buffer
use Rattle.settings.proofs.Unique as settings
use Rattle.control.proofs.Unique as control
use Rattle.counter.proofs.Unique as counter
use Rattle.strip.proofs.Unique as strip
use Rattle.valid.proofs.Unique as valid
use Rattle.frame.proofs.Unique as frame
use Rattle.screen.proofs.Unique as screen
use Rattle.back.proofs.Unique as back
use Rattle.transpose.proofs.Unique as transpose
use Rattle.canvas.proofs.Unique as canvas
use Rattle.checksum.proofs.Unique as checksum
use Rattle.picture.proofs.Unique as picture
use Rattle.picture_back.proofs.Unique as picture-back
use Rattle.scan.proofs.Unique as scan
use Rattle.sheet.proofs.Unique as sheet
use Rattle.intake.proofs.Unique as intake
use Rattle.lookup.proofs.Unique as lookup
use Rattle.report_text.proofs.Unique as report-text
use Rattle.trial.proofs.Unique as trial

-- each operation with the theorem that it is fixed
pub operations : List Fixed
operations =
    fixed answer.number_fixes
    ∷ fixed answer.place_fixes
    ∷ fixed answer.value_fixes
    ∷ fixed answer.refuse_fixes
    ∷ fixed answer.check_fixes
    ∷ fixed buffer.store_fixes
    ∷ fixed settings.video_mode_fixes
    ∷ fixed settings.offset_fixes
    ∷ fixed settings.bank_bit_fixes
    ∷ fixed settings.graphics_fixes
    ∷ fixed settings.external_fixes
    ∷ fixed settings.gm_fixes
    ∷ fixed settings.css_fixes
    ∷ fixed settings.width_fixes
    ∷ fixed settings.dots_fixes
    ∷ fixed settings.border_fixes
    ∷ fixed settings.mode_name_fixes
    ∷ fixed settings.strip_length_fixes
    ∷ fixed settings.pins_above_fixes
    ∷ fixed settings.text_back_fixes
    ∷ fixed settings.fast_rate_fixes
    ∷ fixed settings.image_length_fixes
    ∷ fixed settings.not_suited_fixes
    ∷ fixed settings.font_length_fixes
    ∷ fixed settings.short_strip_fixes
    ∷ fixed settings.short_frame_fixes
    ∷ fixed control.play_fixes
    ∷ fixed counter.line_lasts_fixes
    ∷ fixed counter.one_stretch_fixes
    ∷ fixed counter.line_step_fixes
    ∷ fixed counter.row_lasts_fixes
    ∷ fixed counter.start_fixes
    ∷ fixed counter.carry_fixes
    ∷ fixed counter.advance_fixes
    ∷ fixed counter.clear_fixes
    ∷ fixed strip.not_fitted_fixes
    ∷ fixed strip.fetch_fixes
    ∷ fixed valid.not_valid_fixes
    ∷ fixed frame.draw_fixes
    ∷ fixed screen.show_fixes
    ∷ fixed back.read_back_fixes
    ∷ fixed transpose.to_image_fixes
    ∷ fixed transpose.to_chip_fixes
    ∷ fixed canvas.lay_fixes
    ∷ fixed checksum.crc_fixes
    ∷ fixed checksum.adler_fixes
    ∷ fixed picture.encode_fixes
    ∷ fixed picture-back.decode_fixes
    ∷ fixed scan.survey_fixes
    ∷ fixed scan.annotation_fixes
    ∷ fixed sheet.read_fixes
    ∷ fixed sheet.deed_fixes
    ∷ fixed sheet.annotation_fixes
    ∷ fixed sheet.tail_fixes
    ∷ fixed intake.settings_of_fixes
    ∷ fixed lookup.holder_fixes
    ∷ fixed lookup.value_fixes
    ∷ fixed report-text.report_fixes
    ∷ fixed report-text.report_after_fixes
    ∷ fixed trial.look_of_fixes
    ∷ fixed trial.settings_of_fixes
    ∷ fixed trial.cut_fixes
    ∷ fixed trial.byte_at_fixes
    ∷ fixed trial.put_fixes
    ∷ fixed trial.lay_fixes
    ∷ fixed trial.mark_fixes
    ∷ fixed trial.unchanged_from_fixes
    ∷ fixed trial.sum_fixes
    ∷ []

-- the functions that the list is of, by the names that the compiler has for them
pub named : map (λ o. o.operation.key) operations
    ≡ "answer::number"
    ∷ "answer::place"
    ∷ "answer::value"
    ∷ "answer::refuse"
    ∷ "answer::check"
    ∷ "buffer::store"
    ∷ "settings::video_mode"
    ∷ "settings::offset"
    ∷ "settings::bank_bit"
    ∷ "settings::graphics"
    ∷ "settings::external"
    ∷ "settings::gm"
    ∷ "settings::css"
    ∷ "settings::width"
    ∷ "settings::dots"
    ∷ "settings::border"
    ∷ "settings::mode_name"
    ∷ "settings::strip_length"
    ∷ "settings::pins_above"
    ∷ "settings::text_back"
    ∷ "settings::fast_rate"
    ∷ "settings::image_length"
    ∷ "settings::not_suited"
    ∷ "settings::font_length"
    ∷ "settings::short_strip"
    ∷ "settings::short_frame"
    ∷ "control::play"
    ∷ "counter::line_lasts"
    ∷ "counter::one_stretch"
    ∷ "counter::line_step"
    ∷ "counter::row_lasts"
    ∷ "counter::start"
    ∷ "counter::Counter::carry"
    ∷ "counter::Counter::advance"
    ∷ "counter::Counter::clear"
    ∷ "strip::not_fitted"
    ∷ "strip::fetch"
    ∷ "valid::not_valid"
    ∷ "frame::draw"
    ∷ "screen::show"
    ∷ "back::read_back"
    ∷ "transpose::to_image"
    ∷ "transpose::to_chip"
    ∷ "canvas::lay"
    ∷ "checksum::crc"
    ∷ "checksum::adler"
    ∷ "picture::encode"
    ∷ "picture_back::decode"
    ∷ "scan::survey"
    ∷ "scan::annotation"
    ∷ "sheet::read"
    ∷ "sheet::deed"
    ∷ "sheet::annotation"
    ∷ "sheet::tail"
    ∷ "intake::settings_of"
    ∷ "lookup::holder"
    ∷ "lookup::value"
    ∷ "report_text::report"
    ∷ "report_text::report_after"
    ∷ "trial::look_of"
    ∷ "trial::settings_of"
    ∷ "trial::cut"
    ∷ "trial::byte_at"
    ∷ "trial::put"
    ∷ "trial::lay"
    ∷ "trial::mark"
    ∷ "trial::unchanged_from"
    ∷ "trial::sum"
    ∷ []
unfolding operations
named = refl
