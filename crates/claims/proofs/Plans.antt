-- CR 9, adjoining plans on one canvas. "Later placements cover earlier ones; what falls off any edge is cut; other pixels stay. Each placement's
-- entry receives its pixels on the canvas and pixels cut, each defined by itself, their sum being the rectangle's area."
use Prim.Native.Nat.{ℕ, ◌+◌, ◌*◌, ◌/◌, ◌%◌, ◌<◌}
use mathlib.Core.Path.{◌≡◌, sym, ap, ◌∙◌}
use mathlib.Core.Bool.{true, false}
use mathlib.Core.List.{List, ◌∷◌, ◌++◌, map}
use contract.Lifetimes.{Lfts}
use lib.ListN.{length, get_or}
use Rattle.promises.specs.Told.{Told}
use Rattle.promises.specs.Count.{how_many}
use Rattle.promises.proofs.Tables.{Each}
use Rattle.answer.specs.Told.{Answer}
use Rattle.plans.specs.declared.Placement.{Placement}
use Rattle.plans.specs.Canvas.{area, pixels_on, entered, covers, pixel_of, laid, canvas_fits, lay_told}
use Rattle.plans.proofs.Refusals.{fits, entries_done, canvas_done}
use Rattle.plans.proofs.Layers.{laid_at}
use Rattle.plans.proofs.Covers.{stays, last, LandAlike, laid_alike, laid_without, each_entry, entry_sum, entry_on}
use Rattle.claims.proofs.Calls.{Lent, Room, Listed, Lays}
use Rattle.claims.proofs.Demand2.{Done}

-- ==== A call that is done. Pixel k of the canvas lies at column k mod width, line k / width.
module _ (κs : Lfts 3) (frame : Lent) (ps : Listed) (width height : ℕ) (canvas : Room) (z : Answer) (entries : List Placement) (out : List ℕ)
    (p : Lays κs frame ps width height canvas z entries out) (d : Done z) where
  accepted : (lay_told frame.now ps.now width height canvas.now).number ≡ 0
  accepted = ap (λ (t : Told). t.number) (sym p.0) ∙ d

  sized : canvas_fits width height (length canvas.now) ≡ true
  sized = fits frame.now ps.now width height canvas.now accepted

  laid_on : out ≡ laid frame.now width ps.now canvas.now
  laid_on = p.1.1 ∙ canvas_done frame.now ps.now width height canvas.now accepted

  pixel : (k : ℕ) → get_or out k 0 ≡ get_or (laid frame.now width ps.now canvas.now) k 0
  pixel k = ap (λ (l : List ℕ). get_or l k 0) laid_on

  -- each entry is its placement with its own two counts: no other placement plays a part in them, also not one that covers it
  pub entries_are : entries ≡ map (entered width height) ps.now
  entries_are = p.1.0 ∙ entries_done frame.now ps.now width height canvas.now accepted

  -- their sum is the rectangle's area,
  pub sums : Each (λ (q : Placement). q.on + q.cut ≡ area q) entries
  sums = rw entries_are (each_entry (λ (q : Placement). q.on + q.cut ≡ area q) width height (entry_sum width height) ps.now)

  -- and those on the canvas are as many as the canvas has pixels that the placement covers
  pub covered : Each (λ (q : Placement). q.on ≡ how_many (λ (k : ℕ). covers q (k % width) (k / width)) (width * height)) entries
  covered = rw entries_are (each_entry (λ (q : Placement). q.on ≡ how_many (λ (k : ℕ). covers q (k % width) (k / width)) (width * height)) width height (entry_on width height) ps.now)

  -- "Later placements cover earlier ones": the last placement that covers a pixel is seen there
  pub later_covers : (xs : List Placement) (q : Placement) (ys : List Placement) → ps.now ≡ xs ++ (q ∷ ys) → (k : ℕ) → k < length canvas.now
      → covers q (k % width) (k / width) ≡ true → Each (λ (y : Placement). covers y (k % width) (k / width) ≡ false) ys
      → get_or out k 0 ≡ pixel_of frame.now q (k % width) (k / width)
  later_covers xs q ys e k h on off =
      pixel k ∙ laid_at frame.now width ps.now canvas.now k h ∙ rw e (last frame.now (k % width) (k / width) xs q ys (get_or canvas.now k 0) on off)

  -- "other pixels stay"
  pub others_stay : (k : ℕ) → k < length canvas.now → Each (λ (y : Placement). covers y (k % width) (k / width) ≡ false) ps.now → get_or out k 0 ≡ get_or canvas.now k 0
  others_stay k h off = pixel k ∙ laid_at frame.now width ps.now canvas.now k h ∙ stays frame.now (k % width) (k / width) ps.now (get_or canvas.now k 0) off

-- ==== "What falls off any edge is cut": it changes nothing. Two calls that are done leave the same canvas
module _ (κs κs' : Lfts 3) (frame frame' : Lent) (ps ps' : Listed) (width height : ℕ) (canvas canvas' : Room) (z z' : Answer) (entries entries' : List Placement) (out out' : List ℕ)
    (p : Lays κs frame ps width height canvas z entries out) (d : Done z) (p' : Lays κs' frame' ps' width height canvas' z' entries' out') (d' : Done z') (same : canvas.now ≡ canvas'.now) where
  abbrev before : List ℕ
  before = canvas'.now

  fits_both : canvas_fits width height (length before) ≡ true
  fits_both = sized κs' frame' ps' width height canvas' z' entries' out' p' d'

  one : out ≡ laid frame.now width ps.now before
  one = rw (← same) (laid_on κs frame ps width height canvas z entries out p d)

  other : out' ≡ laid frame'.now width ps'.now before
  other = laid_on κs' frame' ps' width height canvas' z' entries' out' p' d'

  -- where the lists are one and the frames are alike in the pixels that land on the canvas,
  pub off_unfelt : ps.now ≡ ps'.now → Each (LandAlike width height frame.now frame'.now) ps'.now → out ≡ out'
  off_unfelt list alike = one ∙ rw list (laid_alike width height before fits_both frame.now frame'.now ps'.now alike) ∙ sym other

  -- and where one list has a placement more, no pixel of which is on the canvas
  pub wholly_off : frame.now ≡ frame'.now → (xs : List Placement) (q : Placement) (ys : List Placement) → ps.now ≡ xs ++ (q ∷ ys) → ps'.now ≡ xs ++ ys → pixels_on width height q ≡ 0 → out ≡ out'
  wholly_off alike xs q ys e e' off =
      let with_it : out ≡ laid frame'.now width (xs ++ (q ∷ ys)) before = rw (← alike, ← e) one in
      let without-it : out' ≡ laid frame'.now width (xs ++ ys) before = rw (← e') other in
      with_it ∙ laid_without width height before fits_both frame'.now xs q ys off ∙ sym without-it
