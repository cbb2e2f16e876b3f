-- `stray_at`: the leftmost pixel of an element lies before its others.
use Rattle.std.proofs.Common.{◌≡◌, ℕ, ◌-◌, ◌%◌, Bool, true, false, not, ◌&&◌, nat_eq, List, get_or, refl, ◌∙◌}
use native.Mathlib.Nat.{mod-le}
use Rattle.settings.specs.declared.Look.{Look}
use Rattle.settings.specs.Fields.{graphics}
use Rattle.settings.specs.Modes.{dots}
use Rattle.pixel.proofs.Elements.{dots_pos}
use Rattle.back.specs.Stray.{shows, stray}
use Rattle.back.proofs.RoundTrip.{left_of}
use Rattle.back.proofs.stray_at.Goals as goal

not_shown : (b x : Bool) → b ≡ false → not b ≡ not (b && x)
not_shown b x n = rw n refl

other : (b x : Bool) → b ≡ true → not x ≡ not (b && x)
other b x n = rw n refl

-- in plain terms
told : (l : Look) → graphics l ≡ true → (frame : List ℕ) (k d : ℕ) (s : Bool) → d ≡ dots l → s ≡ shows l (get_or frame k 0) → not (s && nat_eq (get_or frame k 0) (get_or frame (k - k % d) 0)) ≡ stray l frame k
unfolding stray
told l g frame k d s e f = simp (f, e, (left_of l g k).0)

pub nonzero_rem-left : goal.nonzero_rem-left
nonzero_rem-left c = rw c.dots.ensures (dots_pos c.args.look c.requires.0)

pub overflow_sub-left : goal.overflow_sub-left
overflow_sub-left c = mod-le _ _

pub returns-then-not-shows : goal.returns-then-not-shows
returns-then-not-shows c =
    not_shown c.shows.result _ c.if-not-shows.true ∙ told c.args.look c.requires.0 c.args.frame.now c.args.k c.dots.result c.shows.result c.dots.ensures c.shows.ensures

pub returns-else-not-shows : goal.returns-else-not-shows
returns-else-not-shows c =
    other c.shows.result _ c.if-not-shows.false ∙ told c.args.look c.requires.0 c.args.frame.now c.args.k c.dots.result c.shows.result c.dots.ensures c.shows.ensures
