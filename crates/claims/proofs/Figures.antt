-- Document 01, "Figures to check by": the figures marked P, as one list with a single claim over it, about the definitions; and the one that CR 6 adds.
use Prim.Native.Nat.{ℕ, zero, suc}
use mathlib.Core.List.{List, [], ◌∷◌, ◌++◌}
use lib.Dec.{T}
use Rattle.promises.specs.Told.{Told}
use Rattle.promises.specs.Figure.{Figure, figure, all_right}
use Rattle.settings.specs.declared.Rule.TheVariants.{One, Two}
use Rattle.settings.specs.Fields.{look_of, settings_of}
use Rattle.settings.specs.Modes.{width, dots as elementDots}
use Rattle.counter.specs.Counter.{address_of, line_start, bytes_on, advance, carry, fall, clear, start}
use Rattle.pixel.specs.Dots.{bit, one_bit, two_bits}
use Rattle.pixel.specs.Graphics.{element, graphic}
use Rattle.pixel.specs.Text.{lit, ink, block, letter, pattern, inverted}
use Rattle.pixel.specs.Picture.{pixel}
use Rattle.control.specs.Control.{with_bit, word_after, played, first_elsewhere, play_told}

-- what is told, as numbers
abbrev numbers : Told → List ℕ
numbers t = t.number ∷ t.place ∷ t.value ∷ []

-- the pins of CG1, RG6 and text with CSS 0
abbrev cg1 : ℕ
cg1 = 0x20

abbrev rg6 : ℕ
rg6 = 0x2E

abbrev text : ℕ
text = 0x00

-- RG6 with CSS 1
abbrev rg6buff : ℕ
rg6buff = 0x2F

-- the first n dots of a byte on a line, the font empty
abbrev dots : ℕ → ℕ → ℕ → ℕ → List ℕ
dots p b line zero = []
dots p b line (suc n) = dots p b line n ++ (pixel (look_of p) [] b line n ∷ [])

pub figures : List Figure
figures =
    -- P1 to P4: writes played
    figure (numbers (play_told 0x0000 (0xFFC1 ∷ 0xFFC9 ∷ 0xFFD6 ∷ []))) (0 ∷ 0 ∷ 0x0011 ∷ [])
    ∷ figure (numbers (play_told 0x0000 (0xFFDF ∷ []))) (0 ∷ 0 ∷ 0x8000 ∷ [])
    ∷ figure (numbers (play_told 0xFFFF (0xFFC0 ∷ []))) (0 ∷ 0 ∷ 0xFFFE ∷ [])
    ∷ figure (numbers (play_told 0x0000 (0xFFC1 ∷ 0xFFBF ∷ []))) (10 ∷ 1 ∷ 0x0000 ∷ [])
    -- P5 to P9: addresses, under rule 1
    ∷ figure (address_of (settings_of 0x0011 cg1 One) 2 15 ∷ address_of (settings_of 0x0011 cg1 One) 3 0 ∷ address_of (settings_of 0x0011 cg1 One) 191 15 ∷ []) (0x040F ∷ 0x0410 ∷ 0x07FF ∷ [])
    ∷ figure (address_of (settings_of 0x0000 text One) 12 0 ∷ address_of (settings_of 0x0000 text One) 191 31 ∷ []) (0x0020 ∷ 0x01FF ∷ [])
    ∷ figure (address_of (settings_of 0x03FE rg6 One) 15 31 ∷ address_of (settings_of 0x03FE rg6 One) 16 0 ∷ []) (0xFFFF ∷ 0x0000 ∷ [])
    ∷ figure (address_of (settings_of 0x0000 cg1 One) 100 0 ∷ []) (0x0000 ∷ [])
    ∷ figure (address_of (settings_of 0x0001 text One) 0 16 ∷ address_of (settings_of 0x0001 text One) 1 16 ∷ []) (0x0000 ∷ 0x0010 ∷ [])
    -- P10 to P12: the dots of a byte
    ∷ figure (dots cg1 0x1B 0 16) (0 ∷ 0 ∷ 0 ∷ 0 ∷ 1 ∷ 1 ∷ 1 ∷ 1 ∷ 2 ∷ 2 ∷ 2 ∷ 2 ∷ 3 ∷ 3 ∷ 3 ∷ 3 ∷ [])
    ∷ figure (dots rg6buff 0xA5 0 8) (4 ∷ 8 ∷ 4 ∷ 8 ∷ 8 ∷ 4 ∷ 8 ∷ 4 ∷ [])
    ∷ figure (dots text 0xB9 5 8 ++ dots text 0xB9 6 8) (3 ∷ 3 ∷ 3 ∷ 3 ∷ 8 ∷ 8 ∷ 8 ∷ 8 ∷ 8 ∷ 8 ∷ 8 ∷ 8 ∷ 3 ∷ 3 ∷ 3 ∷ 3 ∷ [])
    ∷ []

pub figures_right : T (all_right figures)
unfolding figures play_told played first_elsewhere word_after with_bit address_of line_start bytes_on advance carry fall clear start width elementDots pixel graphic element one_bit bit two_bits lit ink block letter pattern inverted
figures_right = tt

-- and CR 6's figure beside them: P8 under rule 2
pub rule_2_right : T (all_right (figure (address_of (settings_of 0x0000 cg1 Two) 100 0 ∷ []) (0x0100 ∷ []) ∷ []))
unfolding address_of line_start bytes_on advance carry fall clear start width
rule_2_right = tt
