-- `gather`: what is gathered by the look's shape is what it shows.
use Rattle.std.proofs.Common.{◌≡◌, ℕ, ◌*◌, ◌/◌, sym, ap, ◌∙◌, arith}
use mathlib.Core.Logic.{⊎_elim}
use borrow.Author.Tests.{eq-eqb, ne_eqb}
use Rattle.pixel.proofs.Pins.{gm_low}
use Rattle.settings.specs.declared.Look.{Look}
use Rattle.settings.proofs.Widths.{width_cases}
use Rattle.settings.specs.Modes.{width}
use Rattle.promises.proofs.Fills.{by, upto}
use Rattle.back.proofs.Shapes.{bits_two, pairs_four, as_bits, as_pairs}
use Rattle.back.proofs.gather.Goals as goal

-- W is 16 where it is not 32
narrow : (l : Look) (w : ℕ) → w ≡ width l → (w ≡ 32 → ⊥) → width l ≡ 16
narrow l w e h = ⊎_elim (λ k. k) (λ k. absurd (h (e ∙ k))) (width_cases l)

pub lines-requires-then-bits-2 : goal.lines-requires-then-bits-2
lines-requires-then-bits-2 c = (bits_two, c.requires.1, omega (arith, narrow c.args.look c.width.result c.width.ensures c.if-width-eq32.false, c.requires.2))

pub lines-requires-else-bits-2 : goal.lines-requires-else-bits-2
lines-requires-else-bits-2 c = (pairs_four, c.requires.1, omega (arith, narrow c.args.look c.width.result c.width.ensures c.if-width-eq32.false, c.requires.2))

pub returns-then-bits : goal.returns-then-bits
returns-then-bits c =
    let w = sym c.width.ensures ∙ c.if-width-eq32.true in
    by (λ i _ _. as_bits c.args.look c.requires.0 1 (eq-eqb _ _ (rw (c.gm.ensures, gm_low c.args.look) at c.if-bits.true)) (ap (λ (m : ℕ). 256 / m) w) c.args.frame.now i)
    (upto (ap (λ (m : ℕ). 192 * m) (sym w)) c.lines.ensures)

pub returns-else-bits : goal.returns-else-bits
returns-else-bits c =
    let w = sym c.width.ensures ∙ c.if-width-eq32.true in
    by (λ i _ _. as_pairs c.args.look c.requires.0 2 (ne_eqb _ _ (rw (c.gm.ensures, gm_low c.args.look) at c.if-bits.false)) (ap (λ (m : ℕ). 256 / m) w) c.args.frame.now i)
    (upto (ap (λ (m : ℕ). 192 * m) (sym w)) c.lines-else-bits.ensures)

pub returns-then-bits-2 : goal.returns-then-bits-2
returns-then-bits-2 c =
    let w = narrow c.args.look c.width.result c.width.ensures c.if-width-eq32.false in
    by (λ i _ _. as_bits c.args.look c.requires.0 2 (eq-eqb _ _ (rw (c.gm.ensures, gm_low c.args.look) at c.if-bits-2.true)) (ap (λ (m : ℕ). 256 / m) w) c.args.frame.now i)
    (upto (ap (λ (m : ℕ). 192 * m) (sym w)) c.lines-then-bits-2.ensures)

pub returns-else-bits-2 : goal.returns-else-bits-2
returns-else-bits-2 c =
    let w = narrow c.args.look c.width.result c.width.ensures c.if-width-eq32.false in
    by (λ i _ _. as_pairs c.args.look c.requires.0 4 (ne_eqb _ _ (rw (c.gm.ensures, gm_low c.args.look) at c.if-bits-2.false)) (ap (λ (m : ℕ). 256 / m) w) c.args.frame.now i)
    (upto (ap (λ (m : ℕ). 192 * m) (sym w)) c.lines-else-bits-2.ensures)
