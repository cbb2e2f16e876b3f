-- `runs`: each run lies within the image and the strip, and after the last of them the frame is whole.
use Rattle.std.proofs.Common.{◌≡◌, ℕ, ◌*◌, ◌≤◌, length, refl, sym, ap, ◌∙◌, subst, arith}
use Rattle.settings.specs.Banks.{missing}
use Rattle.counter.specs.declared.Counter.{Counter}
use Rattle.counter.proofs.Lines.{not_stretch}
use Rattle.promises.proofs.Fills.{upto}
use Rattle.strip.proofs.Places.{run_within}
use Rattle.strip.proofs.Walks.{run_room, run_fitted, first_run, next_run}
use Rattle.strip.proofs.Touched.{runs_count}
use Rattle.strip.proofs.runs.Goals as goal

pub loop-run-init : goal.loop-run-init
loop-run-init c = (refl, first_run c.args.settings c.requires.3 c.args.image.now c.start-counter.ensures)

pub place-from-requires : goal.place-from-requires
place-from-requires c =
    let s = c.args.settings in
    let size = length c.args.image.now in
    (c.requires.0, ap (λ (d : Counter). missing s size d.address) c.loop-run.invariant.1.here ∙ run_fitted s c.requires.3 size (c.loop-run.run * 16) c.requires.2 (omega (arith, c.loop-run-test.true)))

pub read_run-touched-requires : goal.read_run-touched-requires
read_run-touched-requires c =
    let s = c.args.settings in
    let size = length c.args.image.now in
    let l = c.loop-run.invariant.1 in
    let fitted = ap (λ (d : Counter). missing s size d.address) l.here ∙ run_fitted s c.requires.3 size (c.loop-run.run * 16) c.requires.2 (omega (arith, c.loop-run-test.true)) in
    let low = run_room s c.requires.3 (c.loop-run.run * 16) l.whole in
    let room : 192 * 32 ≤ length c.args.strip.now = subst (λ (w : ℕ). 192 * w ≤ length c.args.strip.now) (not_stretch s c.requires.3).0 c.requires.1 in (
      rw c.place-from.ensures (run_within s _ c.requires.0 c.loop-run.counter.address 16 (rw l.here low) fitted),
      omega (arith, c.loop-run-test.true, room, l.stored.long),
    )

pub loop-run-preserved : goal.loop-run-preserved
loop-run-preserved c = (
  omega (arith, c.loop-run.invariant.0, c.read_run-touched.ensures.value),
  next_run c.args.settings c.requires.3 c.args.image.now c.loop-run.invariant.1 (omega (arith, c.loop-run-test.true)) c.place-from.ensures c.read_run-touched.ensures.filled c.carry-counter.ensures (omega arith),
)

pub returns-clause-value : goal.returns-clause-value
returns-clause-value c =
    let e : c.loop-run.touched ≡ 192 * 32 = omega (arith, c.loop-run.invariant.0, c.loop-run-test.false, c.loop-run.auto.run-end) in
    e ∙ sym (runs_count c.args.settings c.requires.3)

pub returns-clause-filled : goal.returns-clause-filled
returns-clause-filled c =
    let e : c.loop-run.run * 16 ≡ 192 * 32 = omega (arith, c.loop-run-test.false, c.loop-run.auto.run-end) in
    upto (e ∙ ap (λ (w : ℕ). 192 * w) (sym (not_stretch c.args.settings c.requires.3).0)) c.loop-run.invariant.1.stored
