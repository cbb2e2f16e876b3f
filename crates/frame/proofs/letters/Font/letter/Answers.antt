-- `letter`: the row lies within the font, and is inverted as the look says.
use Rattle.std.proofs.Common.{◌≡◌, ℕ, ◌+◌, ◌*◌, ◌<◌, arith}
use borrow.Author.Tests.{eq-eqb, ne_eqb}
use Rattle.settings.specs.declared.Look.{Look}
use Rattle.settings.specs.Modes.{font_size}
use Rattle.pixel.specs.Text.{pattern, letter}
use Rattle.pixel.proofs.Letters.{pattern_fits, font_small}
use Rattle.pixel.proofs.Pins.{gm_middle}
use Rattle.frame.proofs.letters.Font.letter.Goals as goal

-- the row lies within a font that is small
within : (l : Look) (b row p : ℕ) → p ≡ pattern l b → b < 256 → row < 12 → (p * 12 + row < font_size l) × (p * 12 + row < 3072)
within l b row p e h r = rw e (pattern_fits l b row h r, omega (arith, pattern_fits l b row h r, font_small l))

pub overflow_mul-dots : goal.overflow_mul-dots
overflow_mul-dots c = omega (arith, within _ _ c.args.row c.pattern.result c.pattern.ensures (omega arith) c.requires)

pub overflow_add-dots : goal.overflow_add-dots
overflow_add-dots c = omega (arith, within _ _ c.args.row c.pattern.result c.pattern.ensures (omega arith) c.requires)

pub bounds-self-pattern : goal.bounds-self-pattern
bounds-self-pattern c = omega (arith, within _ _ c.args.row c.pattern.result c.pattern.ensures (omega arith) c.requires, c.args.self.now.whole)

pub returns-then-inverted-gm : goal.returns-then-inverted-gm
unfolding letter
returns-then-inverted-gm c = simp (eq-eqb _ _ (rw (c.inverted.ensures, c.gm.ensures, gm_middle _) at c.if-inverted-gm.true), c.pattern.ensures)

pub returns-else-inverted-gm : goal.returns-else-inverted-gm
unfolding letter
returns-else-inverted-gm c = simp (ne_eqb _ _ (rw (c.inverted.ensures, c.gm.ensures, gm_middle _) at c.if-inverted-gm.false), c.pattern.ensures)
