-- The border of all 64 pin bytes, by one computed test: document 01's rule is document 000's table 3, and in graphics green or buff by CSS.
use Prim.Native.Nat.{ℕ, ◌+◌, ◌*◌, ◌/◌, ◌%◌, ◌<◌}
use mathlib.Core.Path.{◌≡◌}
use mathlib.Core.List.{List, [], ◌∷◌}
use lib.Dec.{eqb, ltb, eqb→eq}
use lib.ListN.{get_or}
use Rattle.promises.specs.Choose.{choose}
use Rattle.promises.proofs.Tables.{each_below}
use Rattle.settings.specs.declared.Look.{Look}
use Rattle.settings.specs.Modes.{border}

-- document 000, table 3, by GM2, GM1, CSS = 000, 001, .. 111: black 8, green 0, orange 7
abbrev table_three : List ℕ
table_three = 8 ∷ 8 ∷ 8 ∷ 8 ∷ 0 ∷ 7 ∷ 8 ∷ 8 ∷ []

-- and of table 5's graphics rows, by CSS: green 0, buff 4
abbrev graphic_borders : List ℕ
graphic_borders = 0 ∷ 4 ∷ []

abbrev look : ℕ → Look
look p = record { pins = p }

-- the pin byte p as the two tables read it: bits 3, 2 and 0 below 32, and bit 0 from 32 on
abbrev by_tables : ℕ → ℕ
by_tables p = choose (ltb p 32) (get_or table_three (p / 8 % 2 * 4 + p / 4 % 2 * 2 + p % 2) 0) (get_or graphic_borders (p % 2) 0)

pub border_right : (p : ℕ) → p < 64 → border (look p) ≡ by_tables p
unfolding border
border_right p h = eqb→eq (border (look p)) (by_tables p) (each_below (λ q. eqb (border (look q)) (by_tables q)) 64 tt p h)
