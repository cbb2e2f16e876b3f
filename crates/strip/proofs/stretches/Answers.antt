-- `stretches`: each stretch lies within the image and its lines within the strip, and after the last of them the frame is whole.
use Rattle.std.proofs.Common.{◌≡◌, ℕ, ◌+◌, ◌*◌, ◌/◌, ◌%◌, ◌≤◌, ◌⊎◌, List, length, refl, sym, ap, ◌∙◌, subst, arith}
use native.Mathlib.Nat.{mul-mod_left}
use Rattle.promises.specs.Written.{Filled}
use Rattle.promises.proofs.Fills.{upto}
use Rattle.settings.specs.declared.Settings.{Settings}
use Rattle.settings.specs.Modes.{width}
use Rattle.settings.specs.Banks.{missing}
use Rattle.settings.proofs.Widths.{width_cases}
use Rattle.counter.specs.Steps.{line_lasts}
use Rattle.counter.proofs.Lines.{lines_some, lines_le}
use Rattle.strip.specs.Fetch.{fetched_byte}
use Rattle.strip.specs.Touched.{touched_bytes}
use Rattle.strip.proofs.Places.{run_within}
use Rattle.strip.proofs.Walks.{Stretched, group_fits, stretch_room, stretch_fitted, first_stretch, next_stretch}
use Rattle.strip.proofs.Touched.{touched_count}
use Rattle.strip.proofs.stretches.Goals as goal

-- W is one run or two
two_widths : (s : Settings) (wide : ℕ) → wide ≡ width s.look → (wide ≡ 16) ⊎ (wide ≡ 32)
two_widths s wide e = subst (λ (w : ℕ). (w ≡ 16) ⊎ (w ≡ 32)) (sym e) (width_cases s.look)

-- the stretches of the whole frame
module _ (s : Settings) (image : List ℕ) {old new : List ℕ} {address touched n : ℕ} (x : Stretched s image old new address touched n) (h : 192 ≤ n) where
  all_lines : n ≡ 192
  all_lines = omega (arith, x.within)

  all_read : touched ≡ touched_bytes s
  all_read = x.read ∙ ap (λ (m : ℕ). width s.look * (m / line_lasts s)) all_lines ∙ sym (touched_count s)

  all_stored : Filled (fetched_byte s image) 0 (192 * width s.look) old new
  all_stored = upto (ap (λ (m : ℕ). m * width s.look) all_lines) x.stored

pub loop-n-init : goal.loop-n-init
loop-n-init c = first_stretch c.args.settings c.requires.3 c.args.image.now c.start-start.ensures

pub place-from-requires : goal.place-from-requires
place-from-requires c =
    let s = c.args.settings in
    let size = length c.args.image.now in
    (c.requires.0, ap (missing s size) c.loop-n.invariant.here ∙ stretch_fitted s c.requires.3 size c.loop-n.n c.requires.2 c.loop-n-test.true)

pub read_line-touched-requires : goal.read_line-touched-requires
read_line-touched-requires c =
    let s = c.args.settings in
    let size = length c.args.image.now in
    let l = c.loop-n.invariant in
    let fits = group_fits s c.loop-n.n c.width-wide.ensures c.line_lasts-lasts.ensures c.loop-n-test.true l.whole c.requires.1 in
    let fitted = ap (missing s size) l.here ∙ stretch_fitted s c.requires.3 size c.loop-n.n c.requires.2 c.loop-n-test.true in
    let room = subst (λ (a : ℕ). a % 32 + width s.look ≤ 32) (sym l.here) (stretch_room s c.requires.3 c.loop-n.n) in
    let inside = run_within s _ c.requires.0 c.loop-n.address (width s.look) room fitted in (
      omega (arith, inside, c.place-from.ensures, c.width-wide.ensures),
      omega (arith, fits, l.stored.long),
      two_widths s _ c.width-wide.ensures,
    )

pub overflow_mul-n-in-loop-n-2 : goal.overflow_mul-n-in-loop-n-2
overflow_mul-n-in-loop-n-2 c = omega (arith, group_fits c.args.settings c.loop-n.n c.width-wide.ensures c.line_lasts-lasts.ensures c.loop-n-test.true c.loop-n.invariant.whole c.requires.1)

pub repeat_line-requires : goal.repeat_line-requires
repeat_line-requires c =
    let fits = group_fits c.args.settings c.loop-n.n c.width-wide.ensures c.line_lasts-lasts.ensures c.loop-n-test.true c.loop-n.invariant.whole c.requires.1 in (
      two_widths c.args.settings _ c.width-wide.ensures,
      mul-mod_left c.loop-n.n c.width-wide.result,
      mul-mod_left (c.loop-n.n + c.line_lasts-lasts.result) c.width-wide.result,
      fits.0,
      omega (arith, fits, c.loop-n.invariant.stored.long, c.read_line-touched.ensures.filled.long),
    )

pub loop-n-preserved : goal.loop-n-preserved
loop-n-preserved c =
    next_stretch c.args.settings c.requires.3 c.args.image.now c.width-wide.ensures c.line_lasts-lasts.ensures c.place-from.ensures c.line_step-step.ensures
    c.loop-n.invariant c.loop-n-test.true c.read_line-touched.ensures.filled c.repeat_line.ensures refl (ap (λ (k : ℕ). c.loop-n.touched + k) c.read_line-touched.ensures.value)

pub returns-clause-value : goal.returns-clause-value
returns-clause-value c = all_read c.args.settings c.args.image.now c.loop-n.invariant c.loop-n-test.false

pub returns-clause-filled : goal.returns-clause-filled
returns-clause-filled c = all_stored c.args.settings c.args.image.now c.loop-n.invariant c.loop-n-test.false

pub overflow_add-n : goal.overflow_add-n
overflow_add-n c = omega (arith, c.loop-n-test.true, c.line_lasts-lasts.ensures, lines_le c.args.settings)

pub overflow_add-n-in-loop-n : goal.overflow_add-n-in-loop-n
overflow_add-n-in-loop-n c = omega (arith, c.loop-n-test.true, c.line_lasts-lasts.ensures, lines_le c.args.settings)

pub loop-n-smaller : goal.loop-n-smaller
loop-n-smaller c = omega (arith, c.loop-n-test.true, c.line_lasts-lasts.ensures, lines_some c.args.settings)
