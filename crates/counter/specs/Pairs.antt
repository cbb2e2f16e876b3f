-- Document 003's table of modes, "VDG Addressing Mode": which pins it pairs with which SAM mode.
use Rattle.std.specs.Prelude.{ℕ, Bool, true, false, ◌&&◌, ◌||◌, List, [], ◌∷◌, ◌==◌}
use Rattle.promises.specs.Choose.{choose}
use Rattle.settings.specs.declared.Settings.{Settings}
use Rattle.settings.specs.Fields.{bits, graphics, gm2, gm1, gm0, css}

-- what a column says of its pin or bit: 0, 1, or X, either
abbrev pub X : ℕ
X = 2

-- the table in its order; the columns are G/A, GM2, GM1, GM0 or EXT/INT, CSS, and V2, V1, V0
abbrev pub mode_table : List (List ℕ)
mode_table =
    -- Internal Alphanumerics
    (0 ∷ X ∷ X ∷ 0 ∷ X ∷ 0 ∷ 0 ∷ 0 ∷ [])
    -- External Alphanumerics
    ∷ (0 ∷ X ∷ X ∷ 1 ∷ X ∷ 0 ∷ 0 ∷ 0 ∷ [])
    -- Semigraphics 4
    ∷ (0 ∷ X ∷ X ∷ 0 ∷ X ∷ 0 ∷ 0 ∷ 0 ∷ [])
    -- Semigraphics 6
    ∷ (0 ∷ X ∷ X ∷ 1 ∷ X ∷ 0 ∷ 0 ∷ 0 ∷ [])
    -- Semigraphics 8
    ∷ (0 ∷ X ∷ X ∷ 0 ∷ X ∷ 0 ∷ 1 ∷ 0 ∷ [])
    -- Semigraphics 12
    ∷ (0 ∷ X ∷ X ∷ 0 ∷ X ∷ 1 ∷ 0 ∷ 0 ∷ [])
    -- Semigraphics 24
    ∷ (0 ∷ X ∷ X ∷ 0 ∷ X ∷ 1 ∷ 1 ∷ 0 ∷ [])
    -- Full Graphics 1C
    ∷ (1 ∷ 0 ∷ 0 ∷ 0 ∷ X ∷ 0 ∷ 0 ∷ 1 ∷ [])
    -- Full Graphics 1R
    ∷ (1 ∷ 0 ∷ 0 ∷ 1 ∷ X ∷ 0 ∷ 0 ∷ 1 ∷ [])
    -- Full Graphics 2C
    ∷ (1 ∷ 0 ∷ 1 ∷ 0 ∷ X ∷ 0 ∷ 1 ∷ 0 ∷ [])
    -- Full Graphics 2R
    ∷ (1 ∷ 0 ∷ 1 ∷ 1 ∷ X ∷ 0 ∷ 1 ∷ 1 ∷ [])
    -- Full Graphics 3C
    ∷ (1 ∷ 1 ∷ 0 ∷ 0 ∷ X ∷ 1 ∷ 0 ∷ 0 ∷ [])
    -- Full Graphics 3R
    ∷ (1 ∷ 1 ∷ 0 ∷ 1 ∷ X ∷ 1 ∷ 0 ∷ 1 ∷ [])
    -- Full Graphics 6C
    ∷ (1 ∷ 1 ∷ 1 ∷ 0 ∷ X ∷ 1 ∷ 1 ∷ 0 ∷ [])
    -- Full Graphics 6R
    ∷ (1 ∷ 1 ∷ 1 ∷ 1 ∷ X ∷ 1 ∷ 1 ∷ 0 ∷ [])
    -- Direct Memory Access
    ∷ (X ∷ X ∷ X ∷ X ∷ X ∷ 1 ∷ 1 ∷ 1 ∷ [])
    ∷ []

-- the pins and bits of settings in the same columns; in the fourth, text has INT/EXT and graphics GM0
abbrev pub columns : Settings → List ℕ
columns s =
    bits s.look.pins 5 1
    ∷ gm2 s.look
    ∷ gm1 s.look
    ∷ choose (graphics s.look) (gm0 s.look) (bits s.look.pins 4 1)
    ∷ css s.look
    ∷ bits s.word 2 1
    ∷ bits s.word 1 1
    ∷ bits s.word 0 1
    ∷ []

-- a row has these pins and bits
abbrev pub has : List ℕ → List ℕ → Bool
has [] [] = true
has [] (b ∷ bs) = false
has (x ∷ xs) [] = false
has (x ∷ xs) (b ∷ bs) = (x == X || x == b) && has xs bs

-- some row of a table has them
abbrev pub some_row : List (List ℕ) → List ℕ → Bool
some_row [] bs = false
some_row (r ∷ rs) bs = has r bs || some_row rs bs

-- the table pairs the pins with the SAM mode
unfoldable pub paired : Settings → Bool
paired s = some_row mode_table (columns s)
