-- `tint`: one dot more, and the part with its dots in the frame.
use Rattle.std.proofs.Common.{◌≡◌, ℕ, ◌+◌, ◌-◌, ◌*◌, get_or, slice_set, bit_and, arith, ap, ◌∙◌}
use borrow.Author.Count.{below_more}
use lib.Seq.{get_or-set_same, get_or-set_other}
use Rattle.promises.proofs.Copied.{part}
use Rattle.pixel.specs.Dots.{black, one_bit}
use Rattle.frame.proofs.Tints.{masked}
use Rattle.frame.proofs.letters.Masks.tint.Goals as goal

pub loop-t-preserved : goal.loop-t-preserved
loop-t-preserved c =
    let l = c.loop-t in
    let m = masked c.args.self.now.of_bits c.args.self.now.by_index c.args.ink c.args.lit c.from-from.result l.t (omega arith) (omega arith) (omega arith) c.from-from.ensures in
    let v = 8 - bit_and (8 - c.args.ink) (get_or c.args.self.now.of_bits (c.from-from.result * 8 + l.t) 0) in
    λ k h. below_more (λ (j : ℕ). get_or (slice_set l.pixel-items l.t v) j 0 ≡ one_bit c.args.ink black c.args.lit j) l.t
    (λ j n. get_or-set_other l.pixel-items l.t j v 0 (λ q. omega arith) ∙ l.invariant j n)
    (get_or-set_same l.pixel-items l.t v 0 (omega arith) ∙ m.1) k h

pub returns : goal.returns
returns c =
    part c.args.at _ _ _ c.loop-t.pixel-items (omega arith) (omega arith) (omega arith)
    (λ j l. c.loop-t.invariant j (omega arith) ∙ ap (one_bit c.args.ink black c.args.lit) (omega arith))
