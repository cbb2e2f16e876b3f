-- The dots of text bytes: document 01's figure, CR 2's case, and a case for each rule of letters, of external text and of Semigraphics, computed from the definitions.
use Prim.Native.Nat.{ℕ, zero, suc}
use mathlib.Core.List.{List, [], ◌∷◌, ◌++◌}
use lib.Dec.{T}
use lib.ListN.{replicate}
use Rattle.promises.specs.Figure.{Figure, figure, all_right}
use Rattle.settings.specs.Fields.{look_of}
use Rattle.pixel.specs.Dots.{bit, one_bit}
use Rattle.pixel.specs.Text.{pattern, inverted, letter, block, lit, ink}
use Rattle.pixel.specs.Picture.{pixel}

-- a font whose pattern 1 has 18 in its first row, and patterns 65 and 97 have 3C
abbrev font : List ℕ
font = replicate 12 0 ++ (0x18 ∷ []) ++ replicate 767 0 ++ (0x3C ∷ []) ++ replicate 383 0 ++ (0x3C ∷ [])

-- the eight dots of a byte on a line, by the pins
abbrev dots_from : ℕ → ℕ → ℕ → ℕ → List ℕ
dots_from p b line zero = []
dots_from p b line (suc n) = dots_from p b line n ++ (pixel (look_of p) font b line n ∷ [])

abbrev dots : ℕ → ℕ → ℕ → List ℕ
dots p b line = dots_from p b line 8

-- which pattern a letter shows, and 1 where it is inverted
abbrev shown : ℕ → ℕ → List ℕ
shown p b = pattern (look_of p) b ∷ inverted (look_of p) b ∷ []

pub examples : List Figure
examples =
    -- GM0 = 0: DD6 inverts; a line later the row is empty; GM1 exchanges once more; CSS 1 shows orange
    figure (dots 0x00 0x41 0) (0 ∷ 0 ∷ 0 ∷ 8 ∷ 8 ∷ 0 ∷ 0 ∷ 0 ∷ [])
    ∷ figure (dots 0x00 0x01 0) (8 ∷ 8 ∷ 8 ∷ 0 ∷ 0 ∷ 8 ∷ 8 ∷ 8 ∷ [])
    ∷ figure (dots 0x00 0x01 1) (8 ∷ 8 ∷ 8 ∷ 8 ∷ 8 ∷ 8 ∷ 8 ∷ 8 ∷ [])
    ∷ figure (dots 0x04 0x41 12) (8 ∷ 8 ∷ 8 ∷ 0 ∷ 0 ∷ 8 ∷ 8 ∷ 8 ∷ [])
    ∷ figure (dots 0x01 0x41 0) (7 ∷ 7 ∷ 7 ∷ 8 ∷ 8 ∷ 7 ∷ 7 ∷ 7 ∷ [])
    -- GM0 = 1, CR 2's case: byte 01 is pattern 65 and byte 61 pattern 33, both inverted
    ∷ figure (shown 0x02 0x01 ++ shown 0x02 0x61) (65 ∷ 1 ∷ 33 ∷ 1 ∷ [])
    -- the first and last byte of lower case, and the byte after; then bytes 1F and 61 with GM0 = 0
    ∷ figure (shown 0x02 0x00 ++ shown 0x02 0x1F ++ shown 0x02 0x20) (64 ∷ 1 ∷ 95 ∷ 1 ∷ 32 ∷ 0 ∷ [])
    ∷ figure (shown 0x00 0x1F ++ shown 0x00 0x61) (31 ∷ 0 ∷ 33 ∷ 1 ∷ [])
    -- lower case is dark on colour, and GM1 exchanges it; a byte from 32 on looks as it does with GM0 = 0
    ∷ figure (dots 0x02 0x01 0) (0 ∷ 0 ∷ 8 ∷ 8 ∷ 8 ∷ 8 ∷ 0 ∷ 0 ∷ [])
    ∷ figure (dots 0x07 0x01 0) (8 ∷ 8 ∷ 7 ∷ 7 ∷ 7 ∷ 7 ∷ 8 ∷ 8 ∷ [])
    ∷ figure (dots 0x02 0x41 0) (0 ∷ 0 ∷ 0 ∷ 8 ∷ 8 ∷ 0 ∷ 0 ∷ 0 ∷ [])
    -- CR 5: in external text the pattern is the whole byte and DD6 inverts, from 64 on; GM0 is not read
    ∷ figure (shown 0x10 0x00 ++ shown 0x10 0x3F) (0 ∷ 0 ∷ 63 ∷ 0 ∷ [])
    ∷ figure (shown 0x10 0x40 ++ shown 0x10 0x7F) (64 ∷ 1 ∷ 127 ∷ 1 ∷ [])
    ∷ figure (shown 0x12 0x01 ++ shown 0x1F 0x61) (1 ∷ 0 ∷ 97 ∷ 1 ∷ [])
    -- so patterns 1, 65 and 97 are shown by their own bytes; GM1 exchanges, and CSS 1 shows orange
    ∷ figure (dots 0x10 0x01 0) (8 ∷ 8 ∷ 8 ∷ 0 ∷ 0 ∷ 8 ∷ 8 ∷ 8 ∷ [])
    ∷ figure (dots 0x10 0x41 0 ++ dots 0x14 0x61 0) (0 ∷ 0 ∷ 8 ∷ 8 ∷ 8 ∷ 8 ∷ 0 ∷ 0 ∷ 8 ∷ 8 ∷ 0 ∷ 0 ∷ 0 ∷ 0 ∷ 8 ∷ 8 ∷ [])
    ∷ figure (dots 0x13 0x41 0) (7 ∷ 7 ∷ 8 ∷ 8 ∷ 8 ∷ 8 ∷ 7 ∷ 7 ∷ [])
    -- Semigraphics: bits 3, 2, 1, 0 light top left, top right, bottom left, bottom right, in the colour of bits 6-4
    ∷ figure (dots 0x00 0x98 5 ++ dots 0x00 0x98 6) (1 ∷ 1 ∷ 1 ∷ 1 ∷ 8 ∷ 8 ∷ 8 ∷ 8 ∷ 8 ∷ 8 ∷ 8 ∷ 8 ∷ 8 ∷ 8 ∷ 8 ∷ 8 ∷ [])
    ∷ figure (dots 0x00 0xA4 0 ++ dots 0x00 0xA4 11) (8 ∷ 8 ∷ 8 ∷ 8 ∷ 2 ∷ 2 ∷ 2 ∷ 2 ∷ 8 ∷ 8 ∷ 8 ∷ 8 ∷ 8 ∷ 8 ∷ 8 ∷ 8 ∷ [])
    ∷ figure (dots 0x0F 0xB2 5 ++ dots 0x0F 0xB2 6) (8 ∷ 8 ∷ 8 ∷ 8 ∷ 8 ∷ 8 ∷ 8 ∷ 8 ∷ 3 ∷ 3 ∷ 3 ∷ 3 ∷ 8 ∷ 8 ∷ 8 ∷ 8 ∷ [])
    ∷ figure (dots 0x04 0xF1 17 ++ dots 0x04 0xF1 18) (8 ∷ 8 ∷ 8 ∷ 8 ∷ 8 ∷ 8 ∷ 8 ∷ 8 ∷ 8 ∷ 8 ∷ 8 ∷ 8 ∷ 7 ∷ 7 ∷ 7 ∷ 7 ∷ [])
    ∷ []

pub examples_right : T (all_right examples)
unfolding examples pixel one_bit bit lit ink block letter pattern inverted
examples_right = tt
