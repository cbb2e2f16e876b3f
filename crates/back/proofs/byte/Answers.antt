-- `byte`: the number so far is small, and in the end is that of all elements.
use Rattle.std.proofs.Common.{◌≡◌, ℕ, ◌+◌, ◌*◌, ◌≤◌, ◌<◌, get_or, ap, ◌∙◌, arith}
use Rattle.pixel.specs.Dots.{digits}
use Rattle.back.specs.Read.{value, read}
use Rattle.back.proofs.Shapes.{values_le, number_small}
use Rattle.back.proofs.byte.Goals as goal

-- a number below 256, before one digit more
low : {r : ℕ} (v : ℕ) → v < 256 → r ≤ 4 → v * r ≤ 1020
low v l h = grind arith

pub overflow_mul-v : goal.overflow_mul-v
overflow_mul-v g c =
    let s = number_small c.requires.0 (λ (i : ℕ). get_or c.args.frame.now (c.args.at + i * g.row.DOTS) 0) c.loop-j.j (omega arith) in
    omega (arith, low {r = g.row.VALUES} c.loop-j.v (omega (arith, s, c.loop-j.invariant)) (values_le c.requires.0).1)

pub overflow_add-v : goal.overflow_add-v
overflow_add-v g c =
    let s = number_small c.requires.0 (λ (i : ℕ). get_or c.args.frame.now (c.args.at + i * g.row.DOTS) 0) c.loop-j.j (omega arith) in
    omega (arith, low {r = g.row.VALUES} c.loop-j.v (omega (arith, s, c.loop-j.invariant)) (values_le c.requires.0).1, c.value.ensures.1)

pub overflow_cast-result : goal.overflow_cast-result
overflow_cast-result g c =
    omega (arith, c.loop-j.invariant, number_small c.requires.0 (λ (i : ℕ). get_or c.args.frame.now (c.args.at + i * g.row.DOTS) 0) c.loop-j.j (omega arith))

pub returns : goal.returns
unfolding read
returns g c =
    let e : c.loop-j.j ≡ g.row.COUNT = omega arith in
    c.loop-j.invariant ∙ ap (digits g.row.VALUES (λ (i : ℕ). value g.row.VALUES (get_or c.args.frame.now (c.args.at + i * g.row.DOTS) 0))) e
