-- `canvas::lay_all` meets its contract: turn by turn by the laws of turns.
use Rattle.std.proofs.Common.{◌∙◌, arith}
use Rattle.plans.specs.Canvas.{entered}
use Rattle.canvas.proofs.Entries.{none}
use Rattle.canvas.proofs.Turns.{upto_all, after_all, ready_now, entered_more, laid_more}
use Rattle.canvas.proofs.lay_all.Goals as goal

pub lay_one-requires : goal.lay_one-requires
lay_one-requires c =
    let a = c.args in
    ready_now a.frame.now a.placements.now a.width a.height a.canvas.now c.requires c.loop-p.p-index none (omega arith) c.loop-p.invariant.are_entered c.loop-p.invariant.are_laid

pub loop-p-preserved : goal.loop-p-preserved
loop-p-preserved c =
    let a = c.args in
    record {
      are_entered = entered_more a.frame.now a.placements.now a.width a.height a.canvas.now c.requires c.loop-p.p-index none (omega arith) c.loop-p.invariant.are_entered c.loop-p.invariant.are_laid c.lay_one.ensures.entry;
      are_laid = laid_more a.frame.now a.placements.now a.width a.height a.canvas.now c.requires c.loop-p.p-index none (omega arith) c.loop-p.invariant.are_entered c.loop-p.invariant.are_laid c.lay_one.ensures.pixels;
    }

pub returns-clause-entries : goal.returns-clause-entries
returns-clause-entries c = c.loop-p.invariant.are_entered ∙ upto_all (entered c.args.width c.args.height) c.loop-p.p-index c.args.placements.now (omega arith)

pub returns-clause-pixels : goal.returns-clause-pixels
returns-clause-pixels c = c.loop-p.invariant.are_laid ∙ after_all c.args.frame.now c.args.width c.loop-p.p-index c.args.placements.now c.args.canvas.now (omega arith)
