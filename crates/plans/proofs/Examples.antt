-- Placements counted by hand, against the definitions: cut at each edge and corner, off each side, at the ends of the range, one over another, and the order of the refusals.
use Prim.Native.Nat.{ℕ}
use mathlib.Core.List.{List, [], ◌∷◌, ◌++◌}
use lib.Dec.{T}
use lib.IntN.{ℤ, pos, negsuc}
use Rattle.promises.specs.Told.{Told}
use Rattle.promises.specs.First.{first_where}
use Rattle.promises.specs.Count.{how_many}
use Rattle.promises.specs.Figure.{Figure, figure, all_right}
use Rattle.plans.specs.declared.Placement.{Placement}
use Rattle.plans.specs.Canvas.{canvas_fits, outside, first_outside, order_told, pixels_on, pixels_cut, seen}

-- a rectangle of 30 columns and 40 lines, its corner at column x, line y
abbrev at : ℤ → ℤ → Placement
at x y = record { left = 10; top = 20; across = 30; down = 40; x = x; y = y; on = 7; cut = 8 }

-- its pixels on a canvas and its pixels cut: 1,200 in all
abbrev counts : ℕ → ℕ → ℤ → ℤ → List ℕ
counts width height x y = pixels_on width height (at x y) ∷ pixels_cut width height (at x y) ∷ []

-- a rectangle at a column and a line of the frame
abbrev rectangle : ℕ → ℕ → ℕ → ℕ → Placement
rectangle left top across down = record { left = left; top = top; across = across; down = down; x = pos 0; y = pos 0; on = 0; cut = 0 }

-- one line of a frame's first pixels, laid with its corner at column x
abbrev row : ℕ → ℕ → ℤ → Placement
row left across x = record { left = left; top = 0; across = across; down = 1; x = x; y = pos 0; on = 0; cut = 0 }

abbrev numbers : Told → List ℕ
numbers t = t.number ∷ t.place ∷ t.value ∷ []

-- what is seen at column c, line r over a canvas of 5, and at four columns of that line
abbrev look : List Placement → ℕ → ℕ → ℕ
look ps c r = seen (1 ∷ 2 ∷ 3 ∷ 4 ∷ []) ps c r 5

abbrev four : List Placement → ℕ → List ℕ
four ps r = look ps 0 r ∷ look ps 1 r ∷ look ps 2 r ∷ look ps 3 r ∷ []

pub examples : List Figure
examples =
    -- on a canvas of 256 by 256: whole, cut at the left, right, top and bottom edge
    figure (counts 256 256 (pos 10) (pos 10)) (1200 ∷ 0 ∷ [])
    ∷ figure (counts 256 256 (negsuc 4) (pos 10) ++ counts 256 256 (pos 240) (pos 10)) (1000 ∷ 200 ∷ 640 ∷ 560 ∷ [])
    ∷ figure (counts 256 256 (pos 10) (negsuc 6) ++ counts 256 256 (pos 10) (pos 230)) (990 ∷ 210 ∷ 780 ∷ 420 ∷ [])
    -- cut at each corner
    ∷ figure (counts 256 256 (negsuc 4) (negsuc 6) ++ counts 256 256 (pos 240) (negsuc 6)) (825 ∷ 375 ∷ 528 ∷ 672 ∷ [])
    ∷ figure (counts 256 256 (negsuc 4) (pos 230) ++ counts 256 256 (pos 240) (pos 230)) (650 ∷ 550 ∷ 416 ∷ 784 ∷ [])
    -- the last column or line on it, and wholly off on each side
    ∷ figure (counts 256 256 (negsuc 28) (pos 0) ++ counts 256 256 (negsuc 29) (pos 0)) (40 ∷ 1160 ∷ 0 ∷ 1200 ∷ [])
    ∷ figure (counts 256 256 (pos 255) (pos 0) ++ counts 256 256 (pos 256) (pos 0)) (40 ∷ 1160 ∷ 0 ∷ 1200 ∷ [])
    ∷ figure (counts 256 256 (pos 0) (negsuc 38) ++ counts 256 256 (pos 0) (negsuc 39)) (30 ∷ 1170 ∷ 0 ∷ 1200 ∷ [])
    ∷ figure (counts 256 256 (pos 0) (pos 255) ++ counts 256 256 (pos 0) (pos 256)) (30 ∷ 1170 ∷ 0 ∷ 1200 ∷ [])
    -- -32,768 and 32,767
    ∷ figure (counts 256 256 (negsuc 32767) (pos 0) ++ counts 256 256 (pos 0) (negsuc 32767)) (0 ∷ 1200 ∷ 0 ∷ 1200 ∷ [])
    ∷ figure (counts 256 256 (pos 32767) (pos 0) ++ counts 256 256 (pos 0) (pos 32767)) (0 ∷ 1200 ∷ 0 ∷ 1200 ∷ [])
    -- canvases of one column and of one line
    ∷ figure (counts 1 65536 (negsuc 2) (pos 32767) ++ counts 65536 1 (pos 32767) (negsuc 4)) (40 ∷ 1160 ∷ 30 ∷ 1170 ∷ [])
    -- the later of two covers the earlier, what is before the edge is not seen, and where none lies 5 stays
    ∷ figure (four (row 0 3 (pos 0) ∷ row 2 2 (pos 1) ∷ []) 0) (1 ∷ 3 ∷ 4 ∷ 5 ∷ [])
    ∷ figure (four (row 2 2 (pos 1) ∷ row 0 3 (pos 0) ∷ []) 0) (1 ∷ 2 ∷ 3 ∷ 5 ∷ [])
    ∷ figure (four (row 0 4 (negsuc 2) ∷ []) 0 ++ four (row 0 4 (negsuc 2) ∷ []) 1) (4 ∷ 5 ∷ 5 ∷ 5 ∷ 5 ∷ 5 ∷ 5 ∷ 5 ∷ [])
    -- rectangles at the end of the frame, one past it, empty; and the first of several
    ∷ figure (first_outside (rectangle 255 191 1 1 ∷ rectangle 0 0 256 192 ∷ []) ∷ first_outside [] ∷ []) (2 ∷ 0 ∷ [])
    ∷ figure (first_outside (rectangle 0 0 1 1 ∷ rectangle 0 0 257 1 ∷ rectangle 0 0 0 1 ∷ []) ∷ first_outside (rectangle 0 191 1 2 ∷ []) ∷ first_outside (rectangle 0 0 1 0 ∷ []) ∷ []) (1 ∷ 0 ∷ 0 ∷ [])
    -- the order: 8 before 18, 18 before 19, 19 before 20; 32 placements and none
    ∷ figure (numbers (order_told 49151 0 5 0 33 0) ++ numbers (order_told 49152 0 5 0 33 0)) (8 ∷ 0 ∷ 0 ∷ 18 ∷ 0 ∷ 0 ∷ [])
    ∷ figure (numbers (order_told 49152 5 4 20 33 7) ++ numbers (order_told 49152 5 4 20 32 7)) (19 ∷ 0 ∷ 0 ∷ 20 ∷ 7 ∷ 0 ∷ [])
    ∷ figure (numbers (order_told 49153 256 256 65536 32 32) ++ numbers (order_told 49152 1 65536 65536 0 0)) (0 ∷ 0 ∷ 0 ∷ 0 ∷ 0 ∷ 0 ∷ [])
    -- 18: one pixel more or less than stated, a side of 0, and one line more than there may be
    ∷ figure (numbers (order_told 49152 5 4 19 0 0) ++ numbers (order_told 49152 5 4 21 0 0)) (18 ∷ 0 ∷ 0 ∷ 18 ∷ 0 ∷ 0 ∷ [])
    ∷ figure (numbers (order_told 49152 5 0 0 0 0) ++ numbers (order_told 49152 256 257 65792 0 0)) (18 ∷ 0 ∷ 0 ∷ 18 ∷ 0 ∷ 0 ∷ [])
    ∷ []

pub examples_right : T (all_right examples)
unfolding examples how_many first_where canvas_fits outside order_told pixels_on pixels_cut seen
examples_right = tt
