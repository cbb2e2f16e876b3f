-- Graphics by a table: the eight dots of a byte, stretched, are the dots that the look shows.
use Prim.Native.Nat.{ℕ, ◌+◌, ◌*◌, ◌/◌, ◌%◌, ◌<◌}
use mathlib.Core.Path.{◌≡◌, sym, ap, ◌∙◌}
use mathlib.Core.Bool.{true}
use mathlib.Core.List.{List}
use mathlib.Core.Logic.{⊎_elim}
use native.Mathlib.Omega.{arith}
use lib.ListN.{get_or}
use Rattle.settings.specs.declared.Look.{Look}
use Rattle.settings.specs.Fields.{graphics, css}
use Rattle.settings.specs.Modes.{dots}
use Rattle.pixel.specs.Dots.{two_bits}
use Rattle.pixel.specs.Graphics.{element, graphic}
use Rattle.pixel.specs.Picture.{breadth, owner, dot}
use Rattle.pixel.proofs.Elements.{by_mode, by_elements}
use Rattle.pixel.proofs.Owners.{owner_div, dot_mod}
use Rattle.frame.specs.Steps.{shade, Stretch, plotted}
use Rattle.frame.proofs.Stretches.{dot_of_lem}

module _ (l : Look) (g : graphics l ≡ true) (s : ℕ) (h : Stretch s) (w : breadth l ≡ 8 * s) where
  -- dot t of 8 × s is dot t / s of eight
  pub stretched : (b t : ℕ) → graphic l b t ≡ shade l b (t / s)
  unfolding graphic element shade
  stretched b t =
      by_mode l
      (λ m n.
      let d : 8 * s ≡ 8 * dots l = sym w ∙ rw n at (by_elements l g) in
      let e : dots l ≡ s = omega arith in
      simp (m, e))
      (λ m n.
      let d : 8 * s ≡ 4 * dots l = sym w ∙ rw n at (by_elements l g) in
      let e : dots l ≡ 2 * s = omega arith in
      simp (m, e) (ap (λ (j : ℕ). 4 * css l + two_bits b j) (halves t)))
    where
      halves : (t : ℕ) → t / (2 * s) ≡ t / s / 2
      halves t = ⊎_elim (λ e. rw e (omega arith)) (λ e. rw e (omega arith)) h

  -- so a table of shades, by way of the strip, is the picture
  pub plotted_graphic : (S T : List ℕ) → ((n : ℕ) → n < 2048 → get_or T n 0 ≡ shade l (n / 8) (n % 8)) → ((j : ℕ) → get_or S j 0 < 256)
      → (k : ℕ) → plotted s T S k ≡ graphic l (get_or S (owner l k) 0) (dot l k)
  unfolding plotted
  plotted_graphic S T f byte k =
      let i : owner l k ≡ k / (8 * s) = owner_div l k ∙ ap (λ (d : ℕ). k / d) w in
      let t : dot l k ≡ k % (8 * s) = dot_mod l k ∙ ap (λ (d : ℕ). k % d) w in
      rw (i, t) (entry (get_or S (k / (8 * s)) 0) (k % (8 * s) / s) (byte (k / (8 * s))) (dot_of_lem h k) ∙ sym (stretched (get_or S (k / (8 * s)) 0) (k % (8 * s))))
    where
      entry : (b u : ℕ) → b < 256 → u < 8 → get_or T (b * 8 + u) 0 ≡ shade l b u
      entry b u m n =
          let q : (b * 8 + u) / 8 ≡ b = omega arith in
          let r : (b * 8 + u) % 8 ≡ u = omega arith in
          f (b * 8 + u) (omega arith) ∙ rw (q, r)
