-- How long a row of 32 places lasts: B5-B15 of every fetch, whatever the settings.
use Rattle.std.proofs.Common.{◌≡◌, ℕ, ◌+◌, ◌*◌, ◌/◌, ◌%◌, ◌<◌, ◌≤◌, Bool, true, false, eqb, sym, ap, ◌∙◌, ⊎_elim, mul-le-mul, mul-pos, arith, eq-eqb, eqb-true}
use native.Mathlib.Nat.{div-div-eq-div-mul}
use lib.Arith.{digits_div}
use Rattle.promises.specs.Choose.{choose}
use Rattle.promises.proofs.Choices.{of_both, by_test}
use Rattle.settings.specs.declared.Settings.{Settings}
use Rattle.settings.specs.Fields.{offset}
use Rattle.settings.specs.Modes.{width}
use Rattle.settings.proofs.Widths.{width_cases, width_pos, width_le}
use Rattle.counter.specs.Counter.{div_x, wrap, address_of}
use Rattle.counter.specs.Steps.{clears_b4, one_stretch, line_step, line_lasts, row_lasts}
use Rattle.counter.proofs.Tables.{div_x_le, div_x_pos, by_x}
use Rattle.counter.proofs.Ends.{x_one}
use Rattle.counter.proofs.Lines.{endless, endless_at, lines_some, lines_le, stretch}

module _ (s : Settings) where
  abbrev w : ℕ
  w = width s.look

  -- B5-B15 of the address b past the start
  row_past : (b : ℕ) → wrap (offset s * 512) b / 32 ≡ (offset s * 16 + b / 32) % 2048
  row_past b = omega arith

  pub lasts : (b : Bool) → clears_b4 s ≡ b → row_lasts s ≡ choose b (w * line_lasts s) (32 * div_x s)
  lasts b e = ap (λ (x : Bool). choose x (w * line_lasts s) (32 * div_x s)) e

  abbrev Row : ℕ → ℕ → Type 0
  Row n c = address_of s n c / 32 ≡ (offset s * 16 + (n * w + c) / row_lasts s) % 2048

  -- ---- where a line's end clears B4
  line_row : clears_b4 s ≡ true → (n c : ℕ) → n < 192 → c < w → Row n c
  line_row t n c m l =
      let o : one_stretch s ≡ true = by_test (eqb w 16) (λ u. simp u) (λ u. simp (u, eq-eqb (div_x s) 1 (x_one s (eqb-true _ _ t)))) in
      let small : c < 32 = ⊎_elim (λ (e : w ≡ 16). omega (arith, l)) (λ (e : w ≡ 32). omega (arith, l)) (width_cases s.look) in
      let step : line_step s ≡ 32 = simp t in
      let q : ℕ = n / line_lasts s in
      let k : (32 * q + c) / 32 ≡ q = omega arith in
      let e : (n * w + c) / row_lasts s ≡ q = ap (λ (d : ℕ). (n * w + c) / d) (lasts true t) ∙ sym (div-div-eq-div-mul (n * w + c) w (line_lasts s)) ∙ ap (λ (i : ℕ). i / line_lasts s) (digits_div n l) in
      ap (λ (a : ℕ). a / 32) (stretch s n c m l o ∙ ap (λ (d : ℕ). wrap (offset s * 512) (d * q + c)) step) ∙ row_past (32 * q + c) ∙ ap (λ (i : ℕ). (offset s * 16 + i) % 2048) (k ∙ sym e)

  -- ---- and where it keeps B4
  kept_row : clears_b4 s ≡ false → (n c : ℕ) → Row n c
  kept_row f n c =
      let k : ℕ = n * w + c in
      let r : (16 * (k / 16 / div_x s) + k % 16) / 32 ≡ k / (32 * div_x s) = by_x s (λ d. (16 * (k / 16 / d) + k % 16) / 32 ≡ k / (32 * d)) (omega arith) (omega arith) (omega arith) in
      ap (λ (a : ℕ). a / 32) (endless s f n c ∙ endless_at s f k) ∙ row_past (16 * (k / 16 / div_x s) + k % 16) ∙ ap (λ (i : ℕ). (offset s * 16 + i) % 2048) (r ∙ ap (λ (d : ℕ). k / d) (sym (lasts false f)))

  -- ---- some fetches, no more than a frame has, and a number of runs
  pub lasts_some : 0 < row_lasts s
  lasts_some = of_both (λ (n : ℕ). 0 < n) (clears_b4 s) (mul-pos (width_pos s.look) (lines_some s)) (omega (arith, div_x_pos s))

  pub places_le : w * line_lasts s ≤ 32 * 192
  places_le = mul-le-mul (width_le s.look) (lines_le s)

  pub lasts_le : row_lasts s ≤ 32 * 192
  lasts_le = of_both (λ (n : ℕ). n ≤ 32 * 192) (clears_b4 s) places_le (omega (arith, div_x_le s))

  pub lasts_runs : row_lasts s ≡ 16 * (row_lasts s / 16)
  lasts_runs =
      of_both (λ (n : ℕ). n ≡ 16 * (n / 16)) (clears_b4 s)
      (⊎_elim (λ (e : w ≡ 16). rw e (omega arith)) (λ (e : w ≡ 32). rw e (omega arith)) (width_cases s.look))
      (omega arith)

  -- B5-B15 of every fetch: those of the start, and one more each time that a row has lasted
  pub row_of : (n c : ℕ) → n < 192 → c < w → Row n c
  row_of n c m l = by_test (clears_b4 s) (λ t. line_row t n c m l) (λ f. kept_row f n c)
