-- `canvas::lay` meets its contract: an accepted call lays all placements, and a refused one nothing.
use Rattle.std.proofs.Common.{ℕ, ◌≡◌, List, map, refl, sym, ap, ◌∙◌}
use Rattle.promises.specs.Told.{Told}
use Rattle.promises.proofs.Fills.{leaves_done, leaves_refused}
use Rattle.answer.proofs.Answers.{not_done}
use Rattle.plans.specs.declared.Placement.{Placement}
use Rattle.plans.specs.Canvas.{entered, laid, lay_told, entries_after, canvas_after}
use Rattle.canvas.proofs.lay.Goals as goal

-- in plain terms
module _ (frame : List ℕ) (ps : List Placement) (width height : ℕ) (canvas : List ℕ) {t : Told} (told_is : t ≡ lay_told frame ps width height canvas) where
  number : (lay_told frame ps width height canvas).number ≡ t.number
  number = sym (ap (λ (t : Told). t.number) told_is)

  entries_done : t.number ≡ 0 → {new : List Placement} → new ≡ map (entered width height) ps → new ≡ entries_after frame ps width height canvas
  unfolding entries_after
  entries_done z e = e ∙ sym (leaves_done _ _ _ (number ∙ z))

  pixels_done : t.number ≡ 0 → {new : List ℕ} → new ≡ laid frame width ps canvas → new ≡ canvas_after frame ps width height canvas
  unfolding canvas_after
  pixels_done z e = e ∙ sym (leaves_done _ _ _ (number ∙ z))

  entries_kept : (t.number ≡ 0 → ⊥) → ps ≡ entries_after frame ps width height canvas
  unfolding entries_after
  entries_kept f = sym (leaves_refused _ _ _ (λ e. f (sym number ∙ e)))

  pixels_kept : (t.number ≡ 0 → ⊥) → canvas ≡ canvas_after frame ps width height canvas
  unfolding canvas_after
  pixels_kept f = sym (leaves_refused _ _ _ (λ e. f (sym number ∙ e)))

pub returns-in_err-done-clause-entries : goal.returns-in_err-done-clause-entries
returns-in_err-done-clause-entries c =
    entries_kept c.args.frame.now c.args.placements.now c.args.width c.args.height c.args.canvas.now c.in_err-done.ensures (not_done _)

pub returns-in_err-done-clause-pixels : goal.returns-in_err-done-clause-pixels
returns-in_err-done-clause-pixels c =
    pixels_kept c.args.frame.now c.args.placements.now c.args.width c.args.height c.args.canvas.now c.in_err-done.ensures (not_done _)

pub lay_all-requires : goal.lay_all-requires
lay_all-requires c =
    number c.args.frame.now c.args.placements.now c.args.width c.args.height c.args.canvas.now c.in_ok-done.ensures

pub returns-clause-entries : goal.returns-clause-entries
returns-clause-entries c =
    entries_done c.args.frame.now c.args.placements.now c.args.width c.args.height c.args.canvas.now c.in_ok-done.ensures refl c.lay_all.ensures.entries

pub returns-clause-pixels : goal.returns-clause-pixels
returns-clause-pixels c =
    pixels_done c.args.frame.now c.args.placements.now c.args.width c.args.height c.args.canvas.now c.in_ok-done.ensures refl c.lay_all.ensures.pixels
