-- One rectangle, cut at the edges: where its rows come from and go to, what its entry receives, and that every pixel afterwards is as it is defined.
use Prim.Native.Nat.{ℕ, zero, suc, ◌+◌, ◌-◌, ◌*◌, ◌/◌, ◌%◌, ◌≤◌, ◌<◌, min}
use mathlib.Core.Path.{◌≡◌, refl, sym, ap, ap₂, ◌∙◌}
use mathlib.Core.Bool.{Bool, true, false, ◌&&◌}
use mathlib.Core.List.{List, [], ◌∷◌}
use native.Mathlib.Omega.{arith}
use native.Mathlib.Nat.{mul-le-mul, mul_comm, mul-le-mul_right, div-lt_iff_lt-mul, mod-lt, le_trans, le_of_eq, le-add_right}
use borrow.Author.Tests.{leb-true}
use lib.Dec.{leb, ltb}
use lib.IntN.{ℤ, pos, nat_abs, ◌-ℤ◌}
use mir.Syntax.{w16}
use mir.Val.{SFits, to_z, of_z}
use mir.ValLaws.{to_z-of_z}
use lib.ListN.{length, get_or, get_or-eq_default}
use Rattle.promises.specs.Choose.{choose}
use Rattle.promises.proofs.Choices.{both_pass}
use Rattle.promises.proofs.Fills.{filled_written}
use Rattle.plans.specs.declared.Placement.{Placement}
use Rattle.plans.specs.Canvas.{area, pixel_of, seen, laid, with_counts, entered, pixels_cut}
use Rattle.plans.specs.Cuts.{off_of, start_of, kept_of, amid}
use Rattle.plans.proofs.Sides.{far_is}
use Rattle.plans.proofs.Pixels.{sum_is_area, on_is, covers_is, none_amid}
use Rattle.plans.proofs.Refusals.{Sized, sized, short, Inside, inside}
use Rattle.canvas.specs.declared.Side.{Side}
use Rattle.canvas.specs.declared.Patch.{Patch}
use Rattle.canvas.specs.Patch.{side_of, patched, Patched, Lies, Ready}

-- past its end a list has only what stands for nothing
past : (l : List ℕ) (k : ℕ) → length l ≤ k → get_or l k 0 ≡ 0
past l k h = get_or-eq_default l 0 h

factors : (n m : ℕ) → (n * m ≡ 0 → ⊥) → (0 < n) × (0 < m)
factors zero m f = absurd (f (omega arith))
factors (suc n) zero f = absurd (f (omega arith))
factors (suc n) (suc m) f = (omega arith, omega arith)

-- the places kept of a side lie on it and before the edge
kept_fits : (a b n e : ℕ) → 0 < min (n - a) (e - b) → (a + min (n - a) (e - b) ≤ n) × (b + min (n - a) (e - b) ≤ e)
kept_fits a b n e h = (omega arith, omega arith)

-- and so do the rows in the frame
rows_fit : (top left above off across down columns lines : ℕ) → 0 < lines → off + columns ≤ across → above + lines ≤ down → left + across ≤ 256 → top + down ≤ 192
    → ((top + above) * 256 + (left + off) + 256 * (lines - 1) + columns ≤ 49152) × (top + above ≤ 192) × (left + off ≤ 256)
rows_fit top left above off across down columns lines z h v r b = (omega arith, omega arith, omega arith)

-- the patch of a placement, by its two sides
abbrev pub patch : Placement → Side → Side → Patch
patch p h v = record { from = (p.top + v.cut) * 256 + (p.left + h.cut); columns = h.kept; lines = v.kept; column = h.start; line = v.start }

module _ (frame : List ℕ) (p : Placement) (width height : ℕ) (canvas : List ℕ) (ready : Ready (length frame) p width height (length canvas)) where
  abbrev columns : ℕ
  columns = kept_of p.x p.across width

  abbrev lines : ℕ
  lines = kept_of p.y p.down height

  abbrev column : ℕ
  column = start_of p.x

  abbrev line : ℕ
  line = start_of p.y

  abbrev cut : Patch
  cut = patch p (side_of p.x p.across width) (side_of p.y p.down height)

  abbrev from : ℕ
  from = cut.from

  inner : Inside p
  inner = inside p ready.inside

  size : Sized width height (length canvas)
  size = sized width height (length canvas) ready.sized

  area_small : area p ≤ 65536
  area_small = let h : p.across ≤ 256 = omega (arith, inner.right) in let v : p.down ≤ 256 = omega (arith, inner.below) in omega (arith, mul-le-mul h v)

  on_le : columns * lines ≤ area p
  on_le = omega (arith, on_is width height p, sum_is_area width height p)

  entry_is : with_counts p (columns * lines) (area p - columns * lines) ≡ entered width height p
  unfolding entered
  entry_is =
      let cut-is : area p - columns * lines ≡ pixels_cut width height p = omega (arith, on_is width height p, sum_is_area width height p) in
      ap₂ (with_counts p) (sym (on_is width height p)) cut-is

  -- the pixel of the frame that is copied to column c, line r is the one that goes there
  from_is : (c r : ℕ) → column ≤ c → line ≤ r → get_or frame (from + 256 * (r - line) + (c - column)) 0 ≡ pixel_of frame p c r
  from_is c r h l =
      let e : from + 256 * (r - line) + (c - column) ≡ 256 * (p.top + nat_abs (pos r -ℤ p.y)) + (p.left + nat_abs (pos c -ℤ p.x)) = omega (arith, far_is p.x c h, far_is p.y r l) in
      ap (λ (k : ℕ). get_or frame k 0) e

  pixel_by : (c r o : ℕ) (s t : Bool) → amid column columns c ≡ s → amid line lines r ≡ t
      → choose (s && t) (get_or frame (from + 256 * (r - line) + (c - column)) 0) o ≡ choose (s && t) (pixel_of frame p c r) o
  pixel_by c r o true true e f = from_is c r (leb-true _ c (both_pass (leb column c) (ltb c (column + columns)) e).0) (leb-true _ r (both_pass (leb line r) (ltb r (line + lines)) f).0)
  pixel_by c r o true false e f = refl
  pixel_by c r o false t e f = refl

  pixel_is : (k : ℕ) → k < length canvas → patched frame cut width canvas k ≡ seen frame (p ∷ []) (k % width) (k / width) (get_or canvas k 0)
  unfolding seen
  pixel_is k h =
      let s = size in
      let row_in : k / width < height = (div-lt_iff_lt-mul s.wide).1 (omega (arith, s.is, mul_comm width height)) in
      pixel_by (k % width) (k / width) (get_or canvas k 0) (amid column columns (k % width)) (amid line lines (k / width)) refl refl
      ∙ ap (λ (b : Bool). choose b (pixel_of frame p (k % width) (k / width)) (get_or canvas k 0)) (sym (covers_is p width height (k % width) (k / width) (mod-lt k s.wide) row_in))

  -- rows copied are the rectangle laid
  laid_is : {new : List ℕ} → Patched frame cut width canvas new → new ≡ laid frame width (p ∷ []) canvas
  laid_is {new} h =
      filled_written (omega arith) (record {
        long = h.long;
        is = λ k _ l. h.is k ∙ pixel_is k l;
        before = λ k l. absurd (omega arith);
        after = λ k l. past new k (omega (arith, h.long)) ∙ sym (past canvas k l);
      })

  -- and where none is kept the canvas is as it was
  none_laid : columns * lines ≡ 0 → canvas ≡ laid frame width (p ∷ []) canvas
  none_laid e = laid_is (record { long = refl; is = λ k. sym (rw (none_amid column columns line lines (k % width) (k / width) e)) })

  -- what copying the patch asks, and that its corner lies near
  record Copies : Type 0 where
    pub lies : Lies cut (length frame) width (length canvas)
    pub near : (p.top + off_of p.y ≤ 192) × (p.left + off_of p.x ≤ 256)

  copies : (columns * lines ≡ 0 → ⊥) → Copies
  copies f =
      let b = factors columns lines f in
      let h = kept_fits (off_of p.x) column p.across width b.0 in
      let v = kept_fits (off_of p.y) line p.down height b.1 in
      let far = rows_fit p.top p.left (off_of p.y) (off_of p.x) p.across p.down columns lines b.1 h.0 v.0 inner.right inner.below in
      record {
        lies = record {
          some = b;
          low = le_trans (le_trans (le-add_right line lines) v.1) (short size).1;
          broad = h.1;
          framed = le_trans far.0 ready.framed;
          roomy = le_trans (mul-le-mul_right width v.1) (le_of_eq (mul_comm height width ∙ sym size.is));
        };
        near = (far.1, far.2);
      }

-- The same in the two sides that the code has measured: the proof of `lay_one` cites these.
pub record Measured (frame : List ℕ) (p : Placement) (width height : ℕ) (canvas : List ℕ) (h v : Side) : Type 0 where
  pub ready : Ready (length frame) p width height (length canvas)
  pub h_is : h ≡ side_of p.x p.across width
  pub v_is : v ≡ side_of p.y p.down height

-- the corner was passed on in 16 bits, and is read back from them as it is
pub measured : {frame : List ℕ} {p : Placement} {width height : ℕ} {canvas : List ℕ} {h v : Side} → SFits w16 p.x → SFits w16 p.y → Ready (length frame) p width height (length canvas)
    → h ≡ side_of (to_z w16 (of_z w16 p.x)) p.across width → v ≡ side_of (to_z w16 (of_z w16 p.y)) p.down height → Measured frame p width height canvas h v
measured {p = p} {width = width} {height = height} f g r e d =
    record { ready = r; h_is = e ∙ ap (λ (z : ℤ). side_of z p.across width) (to_z-of_z w16 p.x f); v_is = d ∙ ap (λ (z : ℤ). side_of z p.down height) (to_z-of_z w16 p.y g) }

module _ {frame : List ℕ} {p : Placement} {width height : ℕ} {canvas : List ℕ} {h v : Side} (m : Measured frame p width height canvas h v) where
  pub on_fits : h.kept * v.kept ≤ 65536
  on_fits = rw (m.h_is, m.v_is) (le_trans (on_le frame p width height canvas m.ready) (area_small frame p width height canvas m.ready))

  pub none_counted : (area p ≤ 65536) × (0 ≤ area p)
  none_counted = (area_small frame p width height canvas m.ready, omega arith)

  pub all_counted : (area p ≤ 65536) × (h.kept * v.kept ≤ area p)
  all_counted = (area_small frame p width height canvas m.ready, rw (m.h_is, m.v_is) (on_le frame p width height canvas m.ready))

  pub entry : with_counts p (h.kept * v.kept) (area p - h.kept * v.kept) ≡ entered width height p
  entry = rw (m.h_is, m.v_is) (entry_is frame p width height canvas m.ready)

  pub pixels : {new : List ℕ} → Patched frame (patch p h v) width canvas new → new ≡ laid frame width (p ∷ []) canvas
  pixels patch = laid_is frame p width height canvas m.ready (rw (m.h_is, m.v_is) at patch)

  -- where nothing is kept
  module _ (none : h.kept * v.kept ≡ 0) where
    pub entry_none : with_counts p 0 (area p - 0) ≡ entered width height p
    entry_none = ap (λ (k : ℕ). with_counts p k (area p - k)) (sym none) ∙ entry

    pub pixels_none : canvas ≡ laid frame width (p ∷ []) canvas
    pixels_none = none_laid frame p width height canvas m.ready (rw (m.h_is, m.v_is) at none)

  -- and where something is
  module _ (some : h.kept * v.kept ≡ 0 → ⊥) where
    all : Copies frame p width height canvas m.ready
    all = copies frame p width height canvas m.ready (rw (m.h_is, m.v_is) at some)

    pub asked : Lies (patch p h v) (length frame) width (length canvas)
    asked = rw (m.h_is, m.v_is) all.lies

    pub near : (p.top + v.cut ≤ 192) × (p.left + h.cut ≤ 256)
    near = rw (m.h_is, m.v_is) all.near
