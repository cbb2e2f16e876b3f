-- Which lines are touched: those that begin a stretch, and all where no line is one; so the count in plain numbers.
use Rattle.std.proofs.Common.{◌≡◌, ℕ, zero, suc, ◌+◌, ◌-◌, ◌*◌, ◌/◌, ◌%◌, ◌<◌, ◌≤◌, true, false, not, ◌||◌, eqb, ltb, ◌⊎◌, sym, refl, ap, ◌∙◌, ap₂, inl, inr, ⊎_elim, add-zero, mul-suc, add-one, arith, ltb-false, ltb-true, eq-eqb, ne_eqb}
use native.Mathlib.Nat.{zero-mod, mod-one}
use Rattle.promises.specs.Count.{how_many}
use Rattle.promises.proofs.Choices.{of_both, by_test, and_false}
use Rattle.promises.proofs.Counts.{same_many, fails, holds}
use Rattle.promises.proofs.Fills.{lt_or_ge}
use Rattle.settings.specs.declared.Settings.{Settings}
use Rattle.settings.specs.Fields.{offset}
use Rattle.settings.specs.Modes.{width}
use Rattle.settings.specs.Banks.{image_place}
use Rattle.settings.proofs.Widths.{width_pos}
use Rattle.counter.specs.Counter.{div_x, wrap}
use Rattle.counter.specs.Steps.{clears_b4, one_stretch, line_step, line_lasts}
use Rattle.counter.proofs.Tables.{by_x}
use Rattle.counter.proofs.Lines.{Counts, counts, by_lasts, lines_some, not_ends, uncounted_lasts, stretch, not_stretch, endless, endless_at}
use Rattle.strip.specs.Fetch.{place_of}
use Rattle.strip.specs.Touched.{line_touched, touched_bytes}
use Rattle.strip.proofs.Places.{place_apart}

module _ (s : Settings) where
  abbrev w : ℕ
  w = width s.look

  abbrev from : ℕ
  from = offset s * 512

  abbrev L : ℕ
  L = line_lasts s

  -- line n + 1 is touched where one of its places is another than that of line n, and is not where none is
  other : (n c : ℕ) → c < w → (place_of s (n + 1) c ≡ place_of s n c → ⊥) → line_touched s (n + 1) ≡ true
  unfolding line_touched
  other n c h e = rw (add-one n) (holds _ w c h (ap not (ne_eqb _ _ (rw (add-one n) at e))))

  same : (n : ℕ) → ((c : ℕ) → c < w → place_of s (n + 1) c ≡ place_of s n c) → line_touched s (n + 1) ≡ false
  unfolding line_touched
  same n e = rw (add-one n) (fails _ w (λ c l. ap not (eq-eqb _ _ (rw (add-one n) at (e c l)))))

  -- ---- where each line is one stretch
  module _ (o : one_stretch s ≡ true) (n : ℕ) (h : n + 1 < 192) where
    at : (i c : ℕ) → i < 192 → c < w → place_of s i c ≡ image_place s (wrap from (line_step s * (i / L) + c))
    at i c m l = ap (image_place s) (stretch s i c m l o)

    goes_on : (n + 1) / L ≡ n / L → line_touched s (n + 1) ≡ false
    goes_on e = same n (λ c l. at (n + 1) c h l ∙ ap (λ (q : ℕ). image_place s (wrap from (line_step s * q + c))) e ∙ sym (at n c (omega arith) l))

    ends : n / L + 1 ≡ (n + 1) / L → line_touched s (n + 1) ≡ true
    ends e =
        let next : line_step s * ((n + 1) / L) + 0 ≡ line_step s * (n / L) + 0 + line_step s =
        ap (λ (q : ℕ). line_step s * q + 0) (sym e ∙ add-one (n / L)) ∙ ap (λ (i : ℕ). i + 0) (mul-suc (line_step s) (n / L)) ∙ omega arith in
        other n 0 (width_pos s.look)
        (λ z.
        place_apart s from (line_step s * (n / L) + 0) (line_step s)
        (of_both (λ (d : ℕ). 0 < d) (clears_b4 s || eqb w 32) (omega arith) (omega arith))
        (of_both (λ (d : ℕ). d < 64) (clears_b4 s || eqb w 32) (omega arith) (omega arith))
        (sym (at (n + 1) 0 h (width_pos s.look) ∙ ap (λ (i : ℕ). image_place s (wrap from i)) next) ∙ z ∙ at n 0 (omega arith) (width_pos s.look)))

    stretch_line : line_touched s (n + 1) ≡ eqb ((n + 1) % L) 0
    stretch_line =
        let k : Counts L n = counts L n (lines_some s) in
        by_test (ltb (n % L + 1) L)
        (λ t. let e = k.on (ltb-true _ _ t) in goes_on (sym e.0) ∙ sym (ne_eqb _ _ (λ (z : (n + 1) % L ≡ 0). omega (arith, e.1))))
        (λ t. let e = k.over (ltb-false _ _ t) in ends e.0 ∙ sym (eq-eqb _ _ (sym e.1)))

  -- ---- where it is not: a line has two runs, and each run is fetched X times before the next
  module _ (o : one_stretch s ≡ false) where
    two : w ≡ 32
    two = (not_stretch s o).0

    f : clears_b4 s ≡ false
    f = (not_stretch s o).1

    abbrev run_place : ℕ → ℕ
    run_place j = image_place s (wrap from (16 * (j / div_x s)))

    at_run : (i r : ℕ) → r < 2 → place_of s i (16 * r) ≡ run_place (2 * i + r)
    at_run i r h =
        let p : (i * 32 + 16 * r) / 16 ≡ 2 * i + r = omega arith in
        let q : (i * 32 + 16 * r) % 16 ≡ 0 = omega arith in
        ap (image_place s)
        (endless s f i (16 * r) ∙ endless_at s f (i * w + 16 * r) ∙ ap (λ (v : ℕ). wrap from (16 * ((i * v + 16 * r) / 16 / div_x s) + (i * v + 16 * r) % 16)) two
        ∙ ap₂ (λ (j m : ℕ). wrap from (16 * (j / div_x s) + m)) p q ∙ ap (wrap from) (add-zero (16 * ((2 * i + r) / div_x s))))

    -- two runs on the place is the same, or one or two runs on
    moved : (j : ℕ) → j / div_x s < (j + 2) / div_x s → run_place (j + 2) ≡ run_place j → ⊥
    moved j h z =
        let far : (j + 2) / div_x s ≤ j / div_x s + 2 = by_x s (λ d. (j + 2) / d ≤ j / d + 2) (omega arith) (omega arith) (omega arith) in
        let d : ℕ = (j + 2) / div_x s - j / div_x s in
        let e : 16 * (j / div_x s) + 16 * d ≡ 16 * ((j + 2) / div_x s) = omega arith in
        place_apart s from (16 * (j / div_x s)) (16 * d) (omega arith) (omega arith) (ap (λ (i : ℕ). image_place s (wrap from i)) e ∙ z)

    -- of a line's two runs one has moved
    three : (m : ℕ) → (m / 3 < (m + 2) / 3) ⊎ ((m + 1) / 3 < (m + 1 + 2) / 3)
    three m =
        let next : (m + 1 + 2) / 3 ≡ m / 3 + 1 = omega arith in
        let up : (m + 1) / 3 ≤ (m + 2) / 3 = omega arith in
        ⊎_elim (λ (l : m / 3 < (m + 2) / 3). inl l) (λ (l : (m + 2) / 3 ≤ m / 3). inr (omega arith)) (lt_or_ge (m / 3) ((m + 2) / 3))

    one_moved : (n : ℕ) → (2 * n / div_x s < (2 * n + 2) / div_x s) ⊎ ((2 * n + 1) / div_x s < (2 * n + 1 + 2) / div_x s)
    one_moved n =
        by_x s (λ d. (2 * n / d < (2 * n + 2) / d) ⊎ ((2 * n + 1) / d < (2 * n + 1 + 2) / d)) (inl (omega arith)) (inl (omega arith)) (three (2 * n))

    run_line : (n : ℕ) → line_touched s (n + 1) ≡ true
    run_line n =
        let on : (r : ℕ) → 2 * (n + 1) + r ≡ 2 * n + r + 2 = λ r. omega arith in
        let differs : (r : ℕ) → r < 2 → (2 * n + r) / div_x s < (2 * n + r + 2) / div_x s → line_touched s (n + 1) ≡ true =
        λ r h l. other n (16 * r) (omega (arith, two)) (λ z. moved (2 * n + r) l (ap run_place (sym (on r)) ∙ sym (at_run (n + 1) r h) ∙ z ∙ at_run n r h)) in
        ⊎_elim (λ l. differs 0 (omega arith) (rw add-zero l)) (λ l. differs 1 (omega arith) l) (one_moved n)

    run_lasts : L ≡ 1
    run_lasts = uncounted_lasts s false false (not_ends s f) (simp (f, and_false (eqb w 16))) o

  -- ---- so a line is touched where L lines have passed
  touched_line : (n : ℕ) → n < 192 → line_touched s n ≡ eqb (n % L) 0
  unfolding line_touched
  touched_line zero h = sym (eq-eqb (0 % L) 0 (zero-mod L))
  touched_line (suc n) h =
      ap (line_touched s) (sym (add-one n))
      ∙ by_test (one_stretch s)
      (λ o. stretch_line o n (omega arith))
      (λ o. run_line o n ∙ sym (eq-eqb _ _ (ap (λ (d : ℕ). (n + 1) % d) (run_lasts o) ∙ mod-one (n + 1))))
      ∙ ap (λ (i : ℕ). eqb (i % L) 0) (add-one n)

  -- and the count is W times 192 by L
  pub touched_count : touched_bytes s ≡ w * (192 / L)
  unfolding touched_bytes how_many
  touched_count =
      ap (λ (m : ℕ). w * m)
      (same_many (line_touched s) (λ (n : ℕ). eqb (n % L) 0) 192 touched_line ∙ by_lasts s (λ l. how_many (λ (n : ℕ). eqb (n % l) 0) 192 ≡ 192 / l) refl refl refl refl refl)

  -- in a frame of runs every line is
  pub runs_count : one_stretch s ≡ false → touched_bytes s ≡ 192 * 32
  runs_count o = touched_count ∙ ap₂ (λ (v l : ℕ). v * (192 / l)) (two o) (run_lasts o)
