-- How lines end: where B4 is cleared at their end, two runs have brought it back to 0, and one run has left it set.
use Rattle.std.proofs.Common.{◌≡◌, ℕ, zero, suc, ◌+◌, ◌-◌, ◌*◌, ◌/◌, ◌%◌, ◌^◌, true, false, not, ◌&&◌, ◌||◌, eqb, ltb, ◌⊎◌, get_or, sym, refl, ap, ◌∙◌, inl, inr, ⊎_elim, true≢false, mod-lt, arith, lit<, eqb→eq, le-ltb, eq-eqb, ne_eqb, eqb-true}
use Rattle.promises.specs.Choose.{choose}
use Rattle.promises.proofs.Choices.{of_both, by_test, both_pass, and_false}
use Rattle.promises.proofs.Tables.{each_below}
use Rattle.settings.specs.declared.Settings.{Settings}
use Rattle.settings.specs.Fields.{video_mode}
use Rattle.settings.specs.Modes.{width}
use Rattle.settings.proofs.Widths.{width_cases}
use Rattle.counter.specs.declared.Counter.{Counter}
use Rattle.counter.specs.Counter.{times_x, kept_from, div_x, div_y, kept, wrap, counter, run, b4, fall, carry, cleared, clears_set_b4, clearing_counts, clear, bytes_on, start, line_start}
use Rattle.counter.specs.Steps.{clears_b4, ends_count}
use Rattle.counter.proofs.Wraps.{wrap_small}
use Rattle.counter.proofs.Tables.{by_kept}
use Rattle.counter.proofs.Walks.{bytes_on_on, line_start_more}
use Rattle.counter.proofs.Runs.{Aligned, run_end, carry_aligned, line_aligned, line_end_aligned}

-- a counter whose B0-B4 are 0, and whose X divider is at 0
pub record Level (c : Counter) : Type 0 where
  pub low : c.address % 32 ≡ 0
  pub rest : c.x ≡ 0

-- its B4 is 0, and 16 on it is 1
unset : (a : ℕ) → a % 32 ≡ 0 → a / 16 % 2 ≡ 0
unset a h = omega arith

set : (a : ℕ) → a % 32 ≡ 0 → (a + 16) / 16 % 2 ≡ 1
set a h = let q : (a + 16) / 16 ≡ a / 16 + 1 = omega arith in rw q (omega (arith, unset a h))

-- no number is both 1 and 0
not_both : (n : ℕ) → eqb n 1 && eqb n 0 ≡ false
not_both n = by_test (eqb n 1) (λ t. rw (eqb-true n 1 t)) (λ t. simp t)

module _ (s : Settings) where
  -- where B4 is not cleared none is dropped
  kept_b4 : clears_b4 s ≡ false → (c : Counter) → b4 (cleared s c) ≡ b4 c
  kept_b4 f c =
      by_kept s (λ k. eqb k 5 ≡ false → (c.address / 2 ^ k * 2 ^ k + c.address % 2) / 16 % 2 ≡ c.address / 16 % 2)
      (λ z. absurd (true≢false z)) (λ _. omega arith) (λ _. omega arith) f

  none_dropped : clears_b4 s ≡ false → (c : Counter) → clears_set_b4 s c ≡ false
  none_dropped f c = ap (λ (n : ℕ). eqb (b4 c) 1 && eqb n 0) (kept_b4 f c) ∙ not_both (b4 c)

  fall_level : (c : Counter) → Level c → Level (fall s c)
  unfolding fall
  fall_level c l = of_both Level (ltb (c.y + 1) (div_y s)) (record { low = l.low; rest = l.rest }) (record { low = omega (arith, l.low); rest = l.rest })

  -- where it is cleared, X is 1: each run flips it
  module _ (five : kept s ≡ 5) where
    pub x_one : div_x s ≡ 1
    x_one =
        let t = each_below (λ v. not (eqb (get_or kept_from v 0) 5) || eqb (get_or times_x v 0) 1) 8 tt (video_mode s) (mod-lt _ (lit< tt)) in
        eqb→eq (div_x s) 1 (rw (eq-eqb (kept s) 5 five) at t)

    x_full : (x : ℕ) → ltb (x + 1) (div_x s) ≡ false
    x_full x = rw x_one (le-ltb (x + 1) 1 (omega arith))

    -- from 0 to 1,
    pub rises : (c : Counter) → Level c → carry s c ≡ counter (wrap c.address 16) 0 c.y
    unfolding carry
    rises c l =
        let r : run c ≡ c.address = omega (arith, l.low) in
        rw r (simp (x_full c.x, eq-eqb (c.address % 32) 0 l.low))

    -- and from 1 to 0
    falls_to : (c : Counter) → c.address % 32 ≡ 16 → carry s c ≡ fall s (counter (c.address - 16) 0 c.y)
    unfolding carry
    falls_to c h =
        let r : run c ≡ c.address = omega arith in
        rw r (simp (x_full c.x, ne_eqb (c.address % 32) 0 (λ z. omega arith)))

    falls : (c : Counter) → c.address % 32 ≡ 16 → Level (carry s c)
    falls c h = rw (falls_to c h) (fall_level (counter (c.address - 16) 0 c.y) (record { low = omega arith; rest = refl }))

    -- a line's last run leaves the X divider at 0
    carry_rest : (c : Counter) → (carry s c).x ≡ 0
    unfolding carry fall
    carry_rest c =
        simp (x_full c.x)
        (of_both (λ (d : Counter). d.x ≡ 0) (eqb (run c % 32) 0) refl
        (of_both (λ (d : Counter). d.x ≡ 0) (ltb (c.y + 1) (div_y s)) refl refl))

    two_runs : (c : Counter) → Aligned c → bytes_on s 32 c ≡ carry s (carry s c)
    two_runs c al = bytes_on_on s 16 16 c ∙ ap (bytes_on s 16) (run_end s c al) ∙ run_end s (carry s c) (carry_aligned s c al)

    end_rest : (n : ℕ) → (bytes_on s (width s.look) (line_start s n)).x ≡ 0
    end_rest n =
        let c = line_start s n in
        let al = line_aligned s n in
        ⊎_elim
        (λ (e : width s.look ≡ 16). ap (λ (w : ℕ). (bytes_on s w c).x) e ∙ ap (λ (d : Counter). d.x) (run_end s c al) ∙ carry_rest c)
        (λ (e : width s.look ≡ 32). ap (λ (w : ℕ). (bytes_on s w c).x) e ∙ ap (λ (d : Counter). d.x) (two_runs c al) ∙ carry_rest (carry s c))
        (width_cases s.look)

    -- so every line starts level
    line_level : (n : ℕ) → Level (line_start s n)
    unfolding line_start start clear
    line_level zero = record { low = omega arith; rest = refl }
    line_level (suc n) =
        let c : Counter = bytes_on s (width s.look) (line_start s n) in
        let l : Level (cleared s c) = record { low = rw five (omega (arith, (line_end_aligned s n).low)); rest = end_rest n } in
        of_both Level (clearing_counts s.rule && clears_set_b4 s c) (fall_level (cleared s c) l) l

    -- two runs bring B4 back to 0
    back_low : (n : ℕ) → b4 (bytes_on s 32 (line_start s n)) ≡ 0
    back_low n =
        let c = line_start s n in
        let up : (carry s c).address % 32 ≡ 16 = rw (rises c (line_level n)) (omega (arith, (line_level n).low)) in
        rw (two_runs c (line_aligned s n)) (unset _ (falls (carry s c) up).low)

  -- B4 is kept at a line's end, or two runs have brought it back to 0
  abbrev pub Steady : Type 0
  Steady = (clears_b4 s ≡ false) ⊎ (width s.look ≡ 32)

  -- then no line's end drops it
  pub steady_end : Steady → (n : ℕ) → clears_set_b4 s (bytes_on s (width s.look) (line_start s n)) ≡ false
  steady_end (inl f) n = none_dropped f (bytes_on s (width s.look) (line_start s n))
  steady_end (inr w) n =
      by_test (clears_b4 s)
      (λ t. rw (w, back_low (eqb-true (kept s) 5 t) n))
      (λ t. none_dropped t (bytes_on s (width s.look) (line_start s n)))

  -- the two ways in which the code ends lines: nothing counts at any line's end,
  pub plain_end : ends_count s ≡ false → (n : ℕ) → line_start s (n + 1) ≡ cleared s (bytes_on s (width s.look) (line_start s n))
  unfolding clear
  plain_end f n = line_start_more s n ∙ by_test (clearing_counts s.rule) (λ t. simp (t, steady_end (steady (rw t at f)) n)) (λ t. simp t)
    where
      steady : eqb (width s.look) 16 && clears_b4 s ≡ false → Steady
      steady h = by_test (clears_b4 s) (λ t. inr (wide (width_cases s.look) t)) (λ t. inl t)
        where
          wide : (width s.look ≡ 16) ⊎ (width s.look ≡ 32) → clears_b4 s ≡ true → width s.look ≡ 32
          wide (inl e) t = absurd (true≢false (rw (e, t) at h))
          wide (inr e) t = e

  -- a line of two runs, whose end clears B4: it falls once
  module _ (five : kept s ≡ 5) (two : width s.look ≡ 32) where
    level_cleared : (c : Counter) → Level c → cleared s c ≡ c
    level_cleared c l =
        let e : (cleared s c).address ≡ c.address = rw five (omega (arith, l.low)) in
        λ i. record { address = e i; x = c.x; y = c.y }

    run_on : (n : ℕ) → carry s (line_start s n) ≡ counter ((line_start s n).address + 16) 0 (line_start s n).y
    run_on n =
        let c = line_start s n in
        let l = line_level five n in
        rises five c l ∙ ap (λ (a : ℕ). counter a 0 c.y) (wrap_small c.address 16 (omega (arith, l.low, (line_aligned s n).fits)))

    pub wide_end : (n : ℕ) → line_start s (n + 1) ≡ fall s (line_start s n)
    wide_end n =
        let c = line_start s n in
        let l = line_level five n in
        let low : c.address + 16 - 16 ≡ c.address = omega arith in
        let rest : 0 ≡ c.x = sym l.rest in
        let back : counter (c.address + 16 - 16) 0 c.y ≡ c = λ i. record { address = low i; x = rest i; y = c.y } in
        let not_16 : ends_count s ≡ false = rw two (and_false (clearing_counts s.rule)) in
        plain_end not_16 n
        ∙ ap (cleared s)
        (ap (λ (w : ℕ). bytes_on s w c) two ∙ two_runs five c (line_aligned s n) ∙ ap (carry s) (run_on n)
        ∙ falls_to five (counter (c.address + 16) 0 c.y) (omega (arith, l.low)) ∙ ap (fall s) back)
        ∙ level_cleared (fall s c) (fall_level c l)

  -- a line of one run leaves B4 set; cleared, the counter is where the line started
  module _ (five : kept s ≡ 5) (one : width s.look ≡ 16) (n : ℕ) where
    abbrev c : Counter
    c = line_start s n

    risen : bytes_on s (width s.look) c ≡ counter (c.address + 16) 0 c.y
    risen =
        ap (λ (w : ℕ). bytes_on s w c) one ∙ run_end s c (line_aligned s n) ∙ rises five c (line_level five n)
        ∙ ap (λ (a : ℕ). counter a 0 c.y) (wrap_small c.address 16 (omega (arith, (line_level five n).low, (line_aligned s n).fits)))

    back_down : cleared s (counter (c.address + 16) 0 c.y) ≡ c
    back_down =
        let l = line_level five n in
        let low : (cleared s (counter (c.address + 16) 0 c.y)).address ≡ c.address = rw five (omega (arith, l.low)) in
        let rest : 0 ≡ c.x = sym l.rest in
        λ i. record { address = low i; x = rest i; y = c.y }

  -- so where nothing counts such a line is fetched over and over,
  pub same_row : ends_count s ≡ false → kept s ≡ 5 → width s.look ≡ 16 → (n : ℕ) → line_start s (n + 1) ≡ line_start s n
  same_row f five one n = plain_end f n ∙ ap (cleared s) (risen five one n) ∙ back_down five one n

  -- or the Y divider counts at each line's end
  pub row_end : ends_count s ≡ true → (n : ℕ) → line_start s (n + 1) ≡ fall s (line_start s n)
  unfolding clear
  row_end h n =
      let a = both_pass (clearing_counts s.rule) (eqb (width s.look) 16 && clears_b4 s) h in
      let b = both_pass (eqb (width s.look) 16) (clears_b4 s) a.1 in
      let five = eqb-true (kept s) 5 b.1 in
      let one = eqb-true (width s.look) 16 b.0 in
      let c = line_start s n in
      let l = line_level five n in
      let up = counter (c.address + 16) 0 c.y in
      line_start_more s n ∙ ap (clear s) (risen five one n)
      ∙ ap (λ (d : Counter). choose (clearing_counts s.rule && (eqb (b4 up) 1 && eqb (b4 d) 0)) (fall s d) d) (back_down five one n)
      ∙ simp (a.0, eq-eqb (b4 up) 1 (set c.address l.low), eq-eqb (b4 c) 0 (unset c.address l.low))
