-- `canvas::Patch::copy` meets its contract: row by row by the law of patches.
use Rattle.std.proofs.Common.{ℕ, ◌+◌, ◌*◌, ◌-◌, ◌<◌, ◌≤◌, ◌≡◌, length, ap, ◌∙◌, arith}
use native.Mathlib.Nat.{mul-le-mul_right, add-mul}
use lib.ListN.{drop, length-drop}
use lib.Seq.{length-take-le}
use Rattle.promises.proofs.Copied.{copied_range}
use Rattle.canvas.proofs.Patches.{row_more}
use Rattle.canvas.proofs.Patch.copy.Goals as goal

-- the row of this turn ends on the canvas
ends : (line i lines width column n room : ℕ) → i < lines → column + n ≤ width → (line + lines) * width ≤ room → (line + i) * width + column + n ≤ room
ends line i lines width column n room h l r =
    let k : line + i + 1 ≤ line + lines = omega arith in
    omega (arith, mul-le-mul_right width k, add-mul (line + i) 1 width)

pub loop-i-preserved : goal.loop-i-preserved
loop-i-preserved c =
    let a = c.args in
    let p = a.self in
    let at = (p.line + c.loop-i.i) * a.width + p.column in
    let from = p.from + c.loop-i.i * 256 in
    let n = p.columns in
    let room : at + n ≤ length c.loop-i.canvas =
    omega (arith, ends p.line c.loop-i.i p.lines a.width p.column n _ c.loop-i-test.true c.requires.broad c.requires.roomy, c.loop-i.invariant.long) in
    let wide : from + n - from ≡ at + n - at = omega arith in
    let lent : from + n - from ≤ length (drop from a.frame.now) = omega (arith, length-drop from a.frame.now) in
    let long = ap length c.copy_from_slice.ensures.after ∙ length-take-le (from + n - from) (drop from a.frame.now) lent ∙ wide in
    row_more a.frame.now p a.width c.loop-i.i (omega arith) c.requires.broad c.loop-i.invariant
    (copied_range at (at + n - at) (at + n) from (from + n - from) c.loop-i.canvas a.frame.now c.copy_from_slice.new.self c.copy_from_slice.ensures.after long wide (omega arith) room)
