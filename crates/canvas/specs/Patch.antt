-- A rectangle's two sides, and rows of it copied: what the routines say on the way. Nothing that is promised outside depends on it.
use Rattle.std.specs.Prelude.{ℕ, ◌+◌, ◌-◌, ◌*◌, ◌/◌, ◌%◌, ◌≤◌, ◌<◌, ◌≡◌, true, false, ◌&&◌, List, ℤ, length, get_or}
use Rattle.promises.specs.Choose.{choose}
use Rattle.settings.specs.Refusals.{frame_length}
use Rattle.plans.specs.declared.Placement.{Placement}
use Rattle.plans.specs.Canvas.{outside, canvas_fits}
use Rattle.plans.specs.Cuts.{off_of, start_of, kept_of, amid}
use Rattle.canvas.specs.declared.Side.{Side}
use Rattle.canvas.specs.declared.Patch.{Patch}

-- a side of n places from z on, against an edge
abbrev pub side_of : ℤ → ℕ → ℕ → Side
side_of z n edge = record { cut = off_of z; start = start_of z; kept = kept_of z n edge }

-- place k of a canvas that was `old`, when a patch is copied to it
abbrev pub patched : List ℕ → Patch → ℕ → List ℕ → ℕ → ℕ
patched frame p width old k =
    choose (amid p.column p.columns (k % width) && amid p.line p.lines (k / width)) (get_or frame (p.from + 256 * (k / width - p.line) + (k % width - p.column)) 0) (get_or old k 0)

-- the same at every place
pub record Patched (frame : List ℕ) (p : Patch) (width : ℕ) (old new : List ℕ) : Type 0 where
  pub long : length new ≡ length old
  pub is : (k : ℕ) → get_or new k 0 ≡ patched frame p width old k

-- what copying a patch asks: it isn't empty, and its rows lie in the frame and on the canvas
pub record Lies (p : Patch) (frame width room : ℕ) : Type 0 where
  pub some : (0 < p.columns) × (0 < p.lines)
  pub low : p.line ≤ 65536
  pub broad : p.column + p.columns ≤ width
  pub framed : p.from + 256 * (p.lines - 1) + p.columns ≤ frame
  pub roomy : (p.line + p.lines) * width ≤ room

-- what laying one rectangle asks: the frame is whole, the rectangle lies in it, and the canvas has its stated size
pub record Ready (frame : ℕ) (p : Placement) (width height room : ℕ) : Type 0 where
  pub framed : frame_length ≤ frame
  pub inside : outside p ≡ false
  pub sized : canvas_fits width height room ≡ true
