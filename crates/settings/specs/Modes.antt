-- What the pins say of a frame: document 01's table by GM2-0, in its order, and its rules for the border and the font.
use Rattle.std.specs.Prelude.{ℕ, ◌+◌, ◌*◌, ◌%◌, ◌||◌, List, [], ◌∷◌, ◌++◌, eqb, length, take, get_or, replicate}
use Rattle.promises.specs.Choose.{choose}
use Rattle.settings.specs.declared.Look.{Look}
use Rattle.settings.specs.declared.Name.{Name}
use Rattle.settings.specs.Fields.{graphics, external, gm, gm2, gm1, css}

-- CG1, RG1, CG2, RG2, CG3, RG3, CG6, RG6: bytes a line W
abbrev pub widths : List ℕ
widths = 16 ∷ 16 ∷ 32 ∷ 16 ∷ 32 ∷ 16 ∷ 32 ∷ 32 ∷ []

-- and dots per element
abbrev pub elements : List ℕ
elements = 4 ∷ 2 ∷ 2 ∷ 2 ∷ 2 ∷ 2 ∷ 2 ∷ 1 ∷ []

-- and the two bytes of a name that change: C or R, and the digit after G
abbrev pub mode_kinds : List ℕ
mode_kinds = 67 ∷ 82 ∷ 67 ∷ 82 ∷ 67 ∷ 82 ∷ 67 ∷ 82 ∷ []

abbrev pub mode_digits : List ℕ
mode_digits = 49 ∷ 49 ∷ 50 ∷ 50 ∷ 51 ∷ 51 ∷ 54 ∷ 54 ∷ []

-- W; text has 32 bytes a line
unfoldable pub width : Look → ℕ
width l = choose (graphics l) (get_or widths (gm l) 0) 32

-- dots per element; in text each dot stands for itself
unfoldable pub dots : Look → ℕ
dots l = choose (graphics l) (get_or elements (gm l) 0) 1

-- the name: C or R, G and the digit; text is EXT where its characters are external, else A1, A2, A3, A4 by GM1, GM0
unfoldable pub mode_name : Look → List ℕ
mode_name l =
    choose (graphics l) (get_or mode_kinds (gm l) 0 ∷ 71 ∷ get_or mode_digits (gm l) 0 ∷ [])
    (choose (external l) (69 ∷ 88 ∷ 84 ∷ []) (65 ∷ (49 + gm l % 4) ∷ []))

-- a name of two or three bytes in an array of three, the rest 0
abbrev pub named : List ℕ → Name
named s = record { bytes = take 3 (s ++ replicate 3 0); len = length s }

-- graphics: green or buff by CSS; text: black if GM2 = 0 or GM1 = 1, else green or orange by CSS
unfoldable pub border : Look → ℕ
border l = choose (graphics l) (4 * css l) (choose (eqb (gm2 l) 0 || eqb (gm1 l) 1) 8 (7 * css l))

-- the font that text asks for: 96 patterns of 12 bytes, and of external characters 256
unfoldable pub font_size : Look → ℕ
font_size l = choose (external l) 3072 1152
