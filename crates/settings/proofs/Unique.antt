-- Every public operation of `settings`: its contract, as the source has it, takes every input and allows one outcome.
use mathlib.Core.Path.{refl, sym, ◌∙◌}
use base.Logic.{emp, id⊢}
use Rattle.promises.specs.Fixes.{Operation, Fixes, whole, one_tells}
use Rattle.answer.proofs.Answers.{one_says}
use Rattle.settings.proofs.video_mode as video_mode
use Rattle.settings.specs.contracts.video_mode as video_mode_contract
use Rattle.settings.proofs.offset as offset
use Rattle.settings.specs.contracts.offset as offset_contract
use Rattle.settings.proofs.bank_bit as bank_bit
use Rattle.settings.specs.contracts.bank_bit as bank_bit_contract
use Rattle.settings.proofs.graphics as graphics
use Rattle.settings.specs.contracts.graphics as graphics_contract
use Rattle.settings.proofs.external as external
use Rattle.settings.specs.contracts.external as external_contract
use Rattle.settings.proofs.gm as gm
use Rattle.settings.specs.contracts.gm as gm_contract
use Rattle.settings.proofs.css as css
use Rattle.settings.specs.contracts.css as css_contract
use Rattle.settings.proofs.width as width
use Rattle.settings.specs.contracts.width as width_contract
use Rattle.settings.proofs.strip_length as strip_length
use Rattle.settings.specs.contracts.strip_length as strip_length_contract
use Rattle.settings.proofs.dots as dots
use Rattle.settings.specs.contracts.dots as dots_contract
use Rattle.settings.proofs.border as border
use Rattle.settings.specs.contracts.border as border_contract
use Rattle.settings.proofs.mode_name as mode_name
use Rattle.settings.specs.contracts.mode_name as mode_name_contract
use Rattle.settings.proofs.pins_above as pins_above
use Rattle.settings.specs.contracts.pins_above as pins_above_contract
use Rattle.settings.proofs.text_back as text_back
use Rattle.settings.specs.contracts.text_back as text_back_contract
use Rattle.settings.proofs.fast_rate as fast_rate
use Rattle.settings.specs.contracts.fast_rate as fast_rate_contract
use Rattle.settings.proofs.image_length as image_length
use Rattle.settings.specs.contracts.image_length as image_length_contract
use Rattle.settings.proofs.not_suited as not_suited
use Rattle.settings.specs.contracts.not_suited as not_suited_contract
use Rattle.settings.proofs.font_length as font_length
use Rattle.settings.specs.contracts.font_length as font_length_contract
use Rattle.settings.proofs.short_strip as short_strip
use Rattle.settings.specs.contracts.short_strip as short_strip_contract
use Rattle.settings.proofs.short_frame as short_frame
use Rattle.settings.specs.contracts.short_frame as short_frame_contract

abbrev pub video_mode_op : Operation
video_mode_op = record { key = video_mode.Symbol.symbol; T = video_mode_contract.ended; clauses = λ M 𝓤 𝓛. video_mode_contract.clauses 𝓛; Says = video_mode.Reads.Learnt; O = _; seen = λ κs. whole }

pub video_mode_fixes : Fixes video_mode_op
video_mode_fixes = record {
  takes_all = λ w κs a g. id⊢ w.𝓤 (emp w.𝓤);
  tells = λ w κs a g z e. one_tells w.𝓤 _;
  one_outcome = λ κs a z z' ws ws' p q. (p ∙ sym q, refl);
}

abbrev pub offset_op : Operation
offset_op = record { key = offset.Symbol.symbol; T = offset_contract.ended; clauses = λ M 𝓤 𝓛. offset_contract.clauses 𝓛; Says = offset.Reads.Learnt; O = _; seen = λ κs. whole }

pub offset_fixes : Fixes offset_op
offset_fixes = record {
  takes_all = λ w κs a g. id⊢ w.𝓤 (emp w.𝓤);
  tells = λ w κs a g z e. one_tells w.𝓤 _;
  one_outcome = λ κs a z z' ws ws' p q. (p ∙ sym q, refl);
}

abbrev pub bank_bit_op : Operation
bank_bit_op = record { key = bank_bit.Symbol.symbol; T = bank_bit_contract.ended; clauses = λ M 𝓤 𝓛. bank_bit_contract.clauses 𝓛; Says = bank_bit.Reads.Learnt; O = _; seen = λ κs. whole }

pub bank_bit_fixes : Fixes bank_bit_op
bank_bit_fixes = record {
  takes_all = λ w κs a g. id⊢ w.𝓤 (emp w.𝓤);
  tells = λ w κs a g z e. one_tells w.𝓤 _;
  one_outcome = λ κs a z z' ws ws' p q. (p ∙ sym q, refl);
}

abbrev pub graphics_op : Operation
graphics_op = record { key = graphics.Symbol.symbol; T = graphics_contract.ended; clauses = λ M 𝓤 𝓛. graphics_contract.clauses 𝓛; Says = graphics.Reads.Learnt; O = _; seen = λ κs. whole }

pub graphics_fixes : Fixes graphics_op
graphics_fixes = record {
  takes_all = λ w κs a g. id⊢ w.𝓤 (emp w.𝓤);
  tells = λ w κs a g z e. one_tells w.𝓤 _;
  one_outcome = λ κs a z z' ws ws' p q. (p ∙ sym q, refl);
}

abbrev pub external_op : Operation
external_op = record { key = external.Symbol.symbol; T = external_contract.ended; clauses = λ M 𝓤 𝓛. external_contract.clauses 𝓛; Says = external.Reads.Learnt; O = _; seen = λ κs. whole }

pub external_fixes : Fixes external_op
external_fixes = record {
  takes_all = λ w κs a g. id⊢ w.𝓤 (emp w.𝓤);
  tells = λ w κs a g z e. one_tells w.𝓤 _;
  one_outcome = λ κs a z z' ws ws' p q. (p ∙ sym q, refl);
}

abbrev pub gm_op : Operation
gm_op = record { key = gm.Symbol.symbol; T = gm_contract.ended; clauses = λ M 𝓤 𝓛. gm_contract.clauses 𝓛; Says = gm.Reads.Learnt; O = _; seen = λ κs. whole }

pub gm_fixes : Fixes gm_op
gm_fixes = record {
  takes_all = λ w κs a g. id⊢ w.𝓤 (emp w.𝓤);
  tells = λ w κs a g z e. one_tells w.𝓤 _;
  one_outcome = λ κs a z z' ws ws' p q. (p ∙ sym q, refl);
}

abbrev pub css_op : Operation
css_op = record { key = css.Symbol.symbol; T = css_contract.ended; clauses = λ M 𝓤 𝓛. css_contract.clauses 𝓛; Says = css.Reads.Learnt; O = _; seen = λ κs. whole }

pub css_fixes : Fixes css_op
css_fixes = record {
  takes_all = λ w κs a g. id⊢ w.𝓤 (emp w.𝓤);
  tells = λ w κs a g z e. one_tells w.𝓤 _;
  one_outcome = λ κs a z z' ws ws' p q. (p ∙ sym q, refl);
}

abbrev pub width_op : Operation
width_op = record { key = width.Symbol.symbol; T = width_contract.ended; clauses = λ M 𝓤 𝓛. width_contract.clauses 𝓛; Says = width.Reads.Learnt; O = _; seen = λ κs. whole }

pub width_fixes : Fixes width_op
width_fixes = record {
  takes_all = λ w κs a g. id⊢ w.𝓤 (emp w.𝓤);
  tells = λ w κs a g z e. one_tells w.𝓤 _;
  one_outcome = λ κs a z z' ws ws' p q. (p ∙ sym q, refl);
}

abbrev pub strip_length_op : Operation
strip_length_op = record { key = strip_length.Symbol.symbol; T = strip_length_contract.ended; clauses = λ M 𝓤 𝓛. strip_length_contract.clauses 𝓛; Says = strip_length.Reads.Learnt; O = _; seen = λ κs. whole }

pub strip_length_fixes : Fixes strip_length_op
strip_length_fixes = record {
  takes_all = λ w κs a g. id⊢ w.𝓤 (emp w.𝓤);
  tells = λ w κs a g z e. one_tells w.𝓤 _;
  one_outcome = λ κs a z z' ws ws' p q. (p ∙ sym q, refl);
}

abbrev pub dots_op : Operation
dots_op = record { key = dots.Symbol.symbol; T = dots_contract.ended; clauses = λ M 𝓤 𝓛. dots_contract.clauses 𝓛; Says = dots.Reads.Learnt; O = _; seen = λ κs. whole }

pub dots_fixes : Fixes dots_op
dots_fixes = record {
  takes_all = λ w κs a g. id⊢ w.𝓤 (emp w.𝓤);
  tells = λ w κs a g z e. one_tells w.𝓤 _;
  one_outcome = λ κs a z z' ws ws' p q. (p ∙ sym q, refl);
}

abbrev pub border_op : Operation
border_op = record { key = border.Symbol.symbol; T = border_contract.ended; clauses = λ M 𝓤 𝓛. border_contract.clauses 𝓛; Says = border.Reads.Learnt; O = _; seen = λ κs. whole }

pub border_fixes : Fixes border_op
border_fixes = record {
  takes_all = λ w κs a g. id⊢ w.𝓤 (emp w.𝓤);
  tells = λ w κs a g z e. one_tells w.𝓤 _;
  one_outcome = λ κs a z z' ws ws' p q. (p ∙ sym q, refl);
}

abbrev pub mode_name_op : Operation
mode_name_op = record { key = mode_name.Symbol.symbol; T = mode_name_contract.ended; clauses = λ M 𝓤 𝓛. mode_name_contract.clauses 𝓛; Says = mode_name.Reads.Learnt; O = _; seen = λ κs. whole }

pub mode_name_fixes : Fixes mode_name_op
mode_name_fixes = record {
  takes_all = λ w κs a g. id⊢ w.𝓤 (emp w.𝓤);
  tells = λ w κs a g z e. one_tells w.𝓤 _;
  one_outcome = λ κs a z z' ws ws' p q. (p ∙ sym q, refl);
}

abbrev pub pins_above_op : Operation
pins_above_op = record { key = pins_above.Symbol.symbol; T = pins_above_contract.ended; clauses = λ M 𝓤 𝓛. pins_above_contract.clauses 𝓛; Says = pins_above.Reads.Learnt; O = _; seen = λ κs. whole }

pub pins_above_fixes : Fixes pins_above_op
pins_above_fixes = record {
  takes_all = λ w κs a g. id⊢ w.𝓤 (emp w.𝓤);
  tells = λ w κs a g z e. one_tells w.𝓤 _;
  one_outcome = λ κs a z z' ws ws' p q. (one_says _ _ _ p q, refl);
}

abbrev pub text_back_op : Operation
text_back_op = record { key = text_back.Symbol.symbol; T = text_back_contract.ended; clauses = λ M 𝓤 𝓛. text_back_contract.clauses 𝓛; Says = text_back.Reads.Learnt; O = _; seen = λ κs. whole }

pub text_back_fixes : Fixes text_back_op
text_back_fixes = record {
  takes_all = λ w κs a g. id⊢ w.𝓤 (emp w.𝓤);
  tells = λ w κs a g z e. one_tells w.𝓤 _;
  one_outcome = λ κs a z z' ws ws' p q. (one_says _ _ _ p q, refl);
}

abbrev pub fast_rate_op : Operation
fast_rate_op = record { key = fast_rate.Symbol.symbol; T = fast_rate_contract.ended; clauses = λ M 𝓤 𝓛. fast_rate_contract.clauses 𝓛; Says = fast_rate.Reads.Learnt; O = _; seen = λ κs. whole }

pub fast_rate_fixes : Fixes fast_rate_op
fast_rate_fixes = record {
  takes_all = λ w κs a g. id⊢ w.𝓤 (emp w.𝓤);
  tells = λ w κs a g z e. one_tells w.𝓤 _;
  one_outcome = λ κs a z z' ws ws' p q. (one_says _ _ _ p q, refl);
}

abbrev pub image_length_op : Operation
image_length_op = record { key = image_length.Symbol.symbol; T = image_length_contract.ended; clauses = λ M 𝓤 𝓛. image_length_contract.clauses 𝓛; Says = image_length.Reads.Learnt; O = _; seen = λ κs. whole }

pub image_length_fixes : Fixes image_length_op
image_length_fixes = record {
  takes_all = λ w κs a g. id⊢ w.𝓤 (emp w.𝓤);
  tells = λ w κs a g z e. one_tells w.𝓤 _;
  one_outcome = λ κs a z z' ws ws' p q. (one_says _ _ _ p q, refl);
}

abbrev pub not_suited_op : Operation
not_suited_op = record { key = not_suited.Symbol.symbol; T = not_suited_contract.ended; clauses = λ M 𝓤 𝓛. not_suited_contract.clauses 𝓛; Says = not_suited.Reads.Learnt; O = _; seen = λ κs. whole }

pub not_suited_fixes : Fixes not_suited_op
not_suited_fixes = record {
  takes_all = λ w κs a g. id⊢ w.𝓤 (emp w.𝓤);
  tells = λ w κs a g z e. one_tells w.𝓤 _;
  one_outcome = λ κs a z z' ws ws' p q. (one_says _ _ _ p q, refl);
}

abbrev pub font_length_op : Operation
font_length_op = record { key = font_length.Symbol.symbol; T = font_length_contract.ended; clauses = λ M 𝓤 𝓛. font_length_contract.clauses 𝓛; Says = font_length.Reads.Learnt; O = _; seen = λ κs. whole }

pub font_length_fixes : Fixes font_length_op
font_length_fixes = record {
  takes_all = λ w κs a g. id⊢ w.𝓤 (emp w.𝓤);
  tells = λ w κs a g z e. one_tells w.𝓤 _;
  one_outcome = λ κs a z z' ws ws' p q. (one_says _ _ _ p q, refl);
}

abbrev pub short_strip_op : Operation
short_strip_op = record { key = short_strip.Symbol.symbol; T = short_strip_contract.ended; clauses = λ M 𝓤 𝓛. short_strip_contract.clauses 𝓛; Says = short_strip.Reads.Learnt; O = _; seen = λ κs. whole }

pub short_strip_fixes : Fixes short_strip_op
short_strip_fixes = record {
  takes_all = λ w κs a g. id⊢ w.𝓤 (emp w.𝓤);
  tells = λ w κs a g z e. one_tells w.𝓤 _;
  one_outcome = λ κs a z z' ws ws' p q. (one_says _ _ _ p q, refl);
}

abbrev pub short_frame_op : Operation
short_frame_op = record { key = short_frame.Symbol.symbol; T = short_frame_contract.ended; clauses = λ M 𝓤 𝓛. short_frame_contract.clauses 𝓛; Says = short_frame.Reads.Learnt; O = _; seen = λ κs. whole }

pub short_frame_fixes : Fixes short_frame_op
short_frame_fixes = record {
  takes_all = λ w κs a g. id⊢ w.𝓤 (emp w.𝓤);
  tells = λ w κs a g z e. one_tells w.𝓤 _;
  one_outcome = λ κs a z z' ws ws' p q. (one_says _ _ _ p q, refl);
}
