-- Adjoining plans on one canvas (document 02, CR 9): what is told, every pixel afterwards, and what each entry receives.
use Rattle.std.specs.Prelude.{ℕ, ◌+◌, ◌*◌, ◌/◌, ◌%◌, Bool, false, not, ◌&&◌, ◌||◌, List, [], ◌∷◌, map, eqb, ltb, leb, ℤ, pos, negsuc, nat_abs, ◌+ℤ◌, ◌-ℤ◌, length, get_or}
use Rattle.promises.specs.Choose.{choose}
use Rattle.promises.specs.Told.{Told, told, done, refused}
use Rattle.promises.specs.Order.{Check, check, first_of}
use Rattle.promises.specs.First.{first_where}
use Rattle.promises.specs.Count.{how_many}
use Rattle.promises.specs.Written.{written, leaves}
use Rattle.settings.specs.Refusals.{short_frame}
use Rattle.plans.specs.declared.Placement.{Placement}

-- whether a signed place is one of the n from 0 on
abbrev pub within : ℤ → ℕ → Bool
within (pos k) n = ltb k n
within (negsuc k) n = false

-- right and down count up: the pixel u columns right of the rectangle's corner and v lines below it goes to column x + u, line y + v; whether the canvas has that pixel
abbrev pub lands : ℕ → ℕ → Placement → ℕ → ℕ → Bool
lands width height p u v = within (p.x +ℤ pos u) width && within (p.y +ℤ pos v) height

-- the rectangle's area, and whether the canvas has its pixel k, counted line by line
abbrev pub area : Placement → ℕ
area p = p.across * p.down

abbrev pub lands_at : ℕ → ℕ → Placement → ℕ → Bool
lands_at width height p k = lands width height p (k % p.across) (k / p.across)

-- a placement's pixels on the canvas, also those that a later one covers
unfoldable pub pixels_on : ℕ → ℕ → Placement → ℕ
pixels_on width height p = how_many (lands_at width height p) (area p)

-- and its pixels cut
unfoldable pub pixels_cut : ℕ → ℕ → Placement → ℕ
pixels_cut width height p = how_many (λ (k : ℕ). not (lands_at width height p k)) (area p)

-- its entry with two counts, and with those that it receives
abbrev pub with_counts : Placement → ℕ → ℕ → Placement
with_counts p on cut = record { left = p.left; top = p.top; across = p.across; down = p.down; x = p.x; y = p.y; on = on; cut = cut }

unfoldable pub entered : ℕ → ℕ → Placement → Placement
entered width height p = with_counts p (pixels_on width height p) (pixels_cut width height p)

-- column c, line r of the canvas lies c - x columns right of the corner and r - y lines below it: whether the rectangle covers that pixel
abbrev pub covers : Placement → ℕ → ℕ → Bool
covers p c r = within (pos c -ℤ p.x) p.across && within (pos r -ℤ p.y) p.down

-- the frame's pixel u columns right of the corner and v lines below it, and the one that goes to column c, line r of the canvas
abbrev pub pixel_at : List ℕ → Placement → ℕ → ℕ → ℕ
pixel_at frame p u v = get_or frame (256 * (p.top + v) + (p.left + u)) 0

abbrev pub pixel_of : List ℕ → Placement → ℕ → ℕ → ℕ
pixel_of frame p c r = pixel_at frame p (nat_abs (pos c -ℤ p.x)) (nat_abs (pos r -ℤ p.y))

-- what is seen at column c, line r when the placements are laid in order over `under`: later ones cover earlier ones, and where none covers it `under` stays
unfoldable pub seen : List ℕ → List Placement → ℕ → ℕ → ℕ → ℕ
seen frame [] c r under = under
seen frame (p ∷ ps) c r under = seen frame ps c r (choose (covers p c r) (pixel_of frame p c r) under)

-- the canvas, line by line, with the placements laid on it
abbrev pub laid : List ℕ → ℕ → List Placement → List ℕ → List ℕ
laid frame width ps canvas = written (λ (k : ℕ). seen frame ps (k % width) (k / width) (get_or canvas k 0)) (length canvas) canvas

-- a canvas has its stated width times height, no side of 0, and at most 65,536 pixels
unfoldable pub canvas_fits : ℕ → ℕ → ℕ → Bool
canvas_fits width height room = eqb room (width * height) && (not (eqb width 0) && (not (eqb height 0) && leb room 65536))

-- a rectangle is empty, or outside the frame of 256 × 192 even in part
unfoldable pub outside : Placement → Bool
outside p = (eqb p.across 0 || eqb p.down 0) || (ltb 256 (p.left + p.across) || ltb 192 (p.top + p.down))

-- the index of the first placement with such a rectangle, the list's length where there is none
abbrev pub outside_at : List Placement → ℕ → Bool
outside_at ps k = get_or (map outside ps) k false

abbrev pub first_outside : List Placement → ℕ
first_outside ps = first_where (outside_at ps) (length ps)

-- the refusals in order: 8; 18 for a canvas that does not fit; 19 for more than 32 placements; 20, with its index, for the first such rectangle
abbrev pub lay_order : ℕ → ℕ → ℕ → ℕ → ℕ → ℕ → List Check
lay_order frame width height room count first =
    short_frame frame
    ∷ check (not (canvas_fits width height room)) (refused 18)
    ∷ check (ltb 32 count) (refused 19)
    ∷ check (ltb first count) (told 20 first 0)
    ∷ []

unfoldable pub order_told : ℕ → ℕ → ℕ → ℕ → ℕ → ℕ → Told
order_told frame width height room count first = first_of (lay_order frame width height room count first) (done 0)

abbrev pub lay_told : List ℕ → List Placement → ℕ → ℕ → List ℕ → Told
lay_told frame ps width height canvas = order_told (length frame) width height (length canvas) (length ps) (first_outside ps)

-- the entries and the canvas afterwards; on a refusal both stay
unfoldable pub entries_after : List ℕ → List Placement → ℕ → ℕ → List ℕ → List Placement
entries_after frame ps width height canvas = leaves (lay_told frame ps width height canvas) (map (entered width height) ps) ps

unfoldable pub canvas_after : List ℕ → List Placement → ℕ → ℕ → List ℕ → List ℕ
canvas_after frame ps width height canvas = leaves (lay_told frame ps width height canvas) (laid frame width ps canvas) canvas
