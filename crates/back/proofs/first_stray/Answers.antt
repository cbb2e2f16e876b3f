-- `first_stray`: a frame that is like a drawing has no stray pixel.
use Rattle.std.proofs.Common.{◌≡◌, ℕ, List, take, get_or, sym, ap, ◌∙◌, arith}
use Rattle.std.proofs.lemmas.Bool.Decides.{Decides-eqb}
use Rattle.std.proofs.lemmas.List.{get_or-take}
use Rattle.std.proofs.lemmas.Slice.Eq.{slice_eq-Decides}
use lib.ListN.{length-replicate}
use Rattle.settings.specs.Refusals.{frame_length}
use Rattle.back.proofs.Backs.{drawing_clean}
use Rattle.back.proofs.first_stray.Goals as goal

pub returns-then-eq : goal.returns-then-eq
returns-then-eq c =
    let f = c.args.frame.now in
    let e : take frame_length f ≡ c.draw.new.frame = (slice_eq-Decides Decides-eqb _ _ c.eq.result c.eq.ensures).0 c.if-eq.true in
    (drawing_clean c.args.look c.args.strip.now c.args.strip.now f _ _ c.requires.0 c.requires.1 c.requires.2 (omega (arith, length-replicate {A = ℕ} frame_length 0)) c.draw.ensures.frame
    (λ k h. sym (get_or-take frame_length f k 0 h) ∙ ap (λ (x : List ℕ). get_or x k 0) e))
