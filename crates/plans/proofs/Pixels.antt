-- A placement's pixels: those on the canvas and those cut are the area, and those on it are the columns kept times the lines kept.
use Prim.Native.Nat.{ℕ, zero, suc, ◌+◌, ◌*◌, ◌<◌}
use mathlib.Core.Path.{◌≡◌, ap₂, ◌∙◌}
use mathlib.Core.Bool.{false, ◌&&◌}
use native.Mathlib.Omega.{arith}
use native.Mathlib.Nat.{mul-pos}
use lib.IntN.{pos, ◌+ℤ◌}
use Rattle.promises.proofs.Choices.{and_false}
use Rattle.promises.proofs.Counts.{or_not, by_rows}
use Rattle.plans.specs.declared.Placement.{Placement}
use Rattle.plans.specs.Canvas.{within, area, lands_at, pixels_on, pixels_cut, covers}
use Rattle.plans.specs.Cuts.{start_of, kept_of, amid}
use Rattle.plans.proofs.Sides.{amid_none, kept_count, covered_is}

-- a placement's pixels on the canvas and its pixels cut are the rectangle's area
pub sum_is_area : (width height : ℕ) (p : Placement) → pixels_on width height p + pixels_cut width height p ≡ area p
unfolding pixels_on pixels_cut
sum_is_area width height p = or_not (lands_at width height p) (area p)

-- and those on it are the columns kept times the lines kept
pub on_is : (width height : ℕ) (p : Placement) → pixels_on width height p ≡ kept_of p.x p.across width * kept_of p.y p.down height
unfolding pixels_on
on_is width height p =
    by_rows (λ (u : ℕ). within (p.x +ℤ pos u) width) (λ (v : ℕ). within (p.y +ℤ pos v) height) p.across p.down
    ∙ ap₂ ◌*◌ (kept_count p.x p.across width) (kept_count p.y p.down height)

-- column c, line r of the canvas is covered where it is amid the columns and lines that are kept
pub covers_is : (p : Placement) (width height c r : ℕ) → c < width → r < height
    → covers p c r ≡ amid (start_of p.x) (kept_of p.x p.across width) c && amid (start_of p.y) (kept_of p.y p.down height) r
covers_is p width height c r h l = rw (covered_is p.x p.across width c h, covered_is p.y p.down height r l)

-- a product is 0 where a factor is, and no place is then amid both
pub none_amid : (a n b m u v : ℕ) → n * m ≡ 0 → amid a n u && amid b m v ≡ false
none_amid a zero b m u v e = rw (amid_none a u)
none_amid a (suc n) b zero u v e = rw (amid_none b v) (and_false (amid a (suc n) u))
none_amid a (suc n) b (suc m) u v e = let h : 0 < suc n * suc m = mul-pos (omega arith) (omega arith) in absurd (omega arith)
