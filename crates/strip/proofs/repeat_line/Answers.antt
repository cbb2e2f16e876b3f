-- `repeat_line`: each run has a place of its own in what is to be made, and is that of the first line.
use Rattle.std.proofs.Common.{ℕ, ◌≤◌, ◌+◌, ap, arith}
use Rattle.strip.proofs.Columns.{column_masked, whole_runs, run_more}
use Rattle.strip.proofs.repeat_line.Goals as goal

pub loop-to-preserved : goal.loop-to-preserved
loop-to-preserved c =
    let a = c.args in
    let b = c.requires in
    let l = c.loop-to.invariant in
    let left : c.loop-to.to + 16 ≤ a.end = omega (arith, l.0, whole_runs a.wide b.0 a.end b.2) in (
      omega (arith, l.0),
      omega arith,
      left,
      run_more a.wide b.0 a.at c.loop-to.to _ _ _ c.loop-to.strip c.run_at-run.result _ l.0 l.1 (omega (arith, left, l.3.long, b.4)) (omega arith) (omega arith) c.put_run.ensures (ap (λ (i : ℕ). a.at + i) (column_masked a.wide b.0 c.loop-to.to)) c.run_at-run.ensures l.3,
    )
