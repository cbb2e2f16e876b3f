-- `lookup::seek` meets its contract: line by line, by the laws of the line in hand.
use Rattle.std.proofs.Common.{sym, ◌∙◌, arith}
use Rattle.lookup.proofs.Seeks.{line_here, none_left}
use Rattle.lookup.proofs.seek.Goals as goal

pub overflow_sub-result : goal.overflow_sub-result
overflow_sub-result c =
    let this = line_here c.args.s.now c.args.key.now c.requires.s_value c.loop-at.at c.loop-at.invariant (omega arith) in
    omega (arith, this.long (sym c.has_key.ensures ∙ c.if-has_key.true), c.line_end-size.ensures ∙ this.ends)

pub returns-then-has_key : goal.returns-then-has_key
returns-then-has_key c =
    let this = line_here c.args.s.now c.args.key.now c.requires.s_value c.loop-at.at c.loop-at.invariant (omega arith) in
    this.found c.line_end-size.result (c.line_end-size.ensures ∙ this.ends) (sym c.has_key.ensures ∙ c.if-has_key.true)

pub overflow_add-at : goal.overflow_add-at
overflow_add-at c =
    let this = line_here c.args.s.now c.args.key.now c.requires.s_value c.loop-at.at c.loop-at.invariant (omega arith) in
    omega (arith, this.within, c.line_end-size.ensures ∙ this.ends)

pub overflow_add-at-in-loop-at : goal.overflow_add-at-in-loop-at
overflow_add-at-in-loop-at c =
    let this = line_here c.args.s.now c.args.key.now c.requires.s_value c.loop-at.at c.loop-at.invariant (omega arith) in
    omega (arith, this.within, c.line_end-size.ensures ∙ this.ends)

pub loop-at-preserved : goal.loop-at-preserved
loop-at-preserved c =
    let this = line_here c.args.s.now c.args.key.now c.requires.s_value c.loop-at.at c.loop-at.invariant (omega arith) in
    this.missed c.line_end-size.result (c.line_end-size.ensures ∙ this.ends) (sym c.has_key.ensures ∙ c.if-has_key.false)

pub returns : goal.returns
returns c = none_left c.args.s.now c.args.key.now c.requires.s_value c.loop-at.at c.loop-at.invariant (omega arith)
