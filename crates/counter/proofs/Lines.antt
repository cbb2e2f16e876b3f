-- Where each line lies, whatever the settings and the start: one stretch of places, or run after run through the frame.
use Rattle.std.proofs.Common.{◌≡◌, ℕ, zero, suc, ◌+◌, ◌-◌, ◌*◌, ◌/◌, ◌%◌, ◌^◌, ◌<◌, ◌≤◌, Bool, true, false, ◌&&◌, ◌||◌, eqb, ltb, get_or, sym, refl, ap, ◌∙◌, subst, ap₂, ⊎_elim, true≢false, mod-lt, suc-mul, one-mul, div-add-mod', zero-mul, mul-one, add-one, arith, lit<, eqb→eq, ltb-false, ltb-true, eq-eqb, ne_eqb, eqb-true}
use lib.Arith.{digits_div, digits_mod}
use borrow.Author.Tests.{eqb-false}
use Rattle.promises.specs.Choose.{choose}
use Rattle.promises.proofs.Choices.{of_both, by_test, and_false, neither}
use Rattle.promises.proofs.Fills.{lt_or_ge}
use Rattle.promises.proofs.Tables.{each_below}
use Rattle.settings.specs.declared.Settings.{Settings}
use Rattle.settings.specs.Fields.{video_mode, offset}
use Rattle.settings.specs.Modes.{width}
use Rattle.settings.proofs.Widths.{width_cases}
use Rattle.counter.specs.declared.Counter.{Counter}
use Rattle.counter.specs.Counter.{times_y, kept_from, div_x, div_y, kept, wrap, counter, run, fall, carry, cleared, clearing_counts, bytes_on, start, line_start, address_of}
use Rattle.counter.specs.Steps.{clears_b4, ends_count, one_stretch, line_step, line_lasts}
use Rattle.counter.proofs.Wraps.{wrap_wrap, wrap_lt, wrap_fall}
use Rattle.counter.proofs.Tables.{div_x_pos, div_y_pos, by_x, by_y, by_both, by_kept}
use Rattle.counter.proofs.Walks.{bytes_on_none, bytes_on_on, line_start_none}
use Rattle.counter.proofs.Runs.{Aligned, in_run, run_end, line_end_aligned}
use Rattle.counter.proofs.Ends.{Level, x_one, rises, plain_end, wide_end, same_row, row_end}

-- one count more on a divider of d: below d it goes on, else it returns to 0 and carries
pub record Counts (d n : ℕ) : Type 0 where
  pub on : n % d + 1 < d → (n / d ≡ (n + 1) / d) × (n % d + 1 ≡ (n + 1) % d)
  pub over : d ≤ n % d + 1 → (n / d + 1 ≡ (n + 1) / d) × (0 ≡ (n + 1) % d)

pub counts : (d n : ℕ) → 0 < d → Counts d n
counts d n h =
    let whole = div-add-mod' n d in
    record {
      on = λ l.
          let e : n + 1 ≡ n / d * d + (n % d + 1) = omega (arith, whole) in
          (sym (ap (λ (m : ℕ). m / d) e ∙ digits_div (n / d) l), sym (ap (λ (m : ℕ). m % d) e ∙ digits_mod (n / d) l));
      over = λ l.
          let full : n % d + 1 ≡ d = omega (arith, mod-lt n h) in
          let next : (n / d + 1) * d ≡ n / d * d + d = rw (add-one, suc-mul) in
          let e : n + 1 ≡ (n / d + 1) * d + 0 = omega (arith, whole) in
          (sym (ap (λ (m : ℕ). m / d) e ∙ digits_div (n / d + 1) h), sym (ap (λ (m : ℕ). m % d) e ∙ digits_mod (n / d + 1) h));
    }

module _ (s : Settings) where
  abbrev w : ℕ
  w = width s.look

  -- where the window starts
  abbrev from : ℕ
  from = offset s * 512

  -- the counter that stands q runs of 16 places past it
  abbrev past : ℕ → ℕ → ℕ → Counter
  past q x y = counter (wrap from (16 * q)) x y

  past_aligned : (q x y : ℕ) → Aligned (past q x y)
  past_aligned q x y = record { low = omega arith; fits = wrap_lt from (16 * q) }

  start_past : start s ≡ past 0 0 0
  unfolding start
  start_past = ap (λ (a : ℕ). counter a 0 0) (omega arith)

  -- byte j of that run
  in_past : (q x y j : ℕ) → j < 16 → (bytes_on s j (past q x y)).address ≡ wrap from (16 * q + j)
  in_past q x y j h = ap (λ (c : Counter). c.address) (in_run s (past q x y) (past_aligned q x y) j h) ∙ wrap_wrap from (16 * q) j

  -- ---- where each line's end finds the counter one fall on
  next_fall : (n : ℕ) → fall s (past (2 * (n / div_y s)) 0 (n % div_y s)) ≡ past (2 * ((n + 1) / div_y s)) 0 ((n + 1) % div_y s)
  unfolding fall
  next_fall n =
      let k : Counts (div_y s) n = counts (div_y s) n (div_y_pos s) in
      by_test (ltb (n % div_y s + 1) (div_y s))
      (λ t. let e = k.on (ltb-true _ _ t) in simp t (ap₂ (λ (q y : ℕ). past (2 * q) 0 y) e.0 e.1))
      (λ t. let e = k.over (ltb-false _ _ t) in
      let r : 16 * (2 * (n / div_y s)) + 32 ≡ 16 * (2 * ((n + 1) / div_y s)) = omega (arith, e.0) in
      simp t (ap₂ (λ (a y : ℕ). counter a 0 y) (wrap_wrap from (16 * (2 * (n / div_y s))) 32 ∙ ap (wrap from) r) e.1))

  line_past : ((n : ℕ) → line_start s (n + 1) ≡ fall s (line_start s n)) → (n : ℕ) → line_start s n ≡ past (2 * (n / div_y s)) 0 (n % div_y s)
  line_past each zero = line_start_none s ∙ start_past ∙ by_y s (λ d. past 0 0 0 ≡ past (2 * (0 / d)) 0 (0 % d)) refl refl refl refl
  line_past each (suc n) = rw (← add-one) (each n ∙ ap (fall s) (line_past each n) ∙ next_fall n)

  -- ---- where it clears B4: a line's two runs lie side by side
  module _ (five : kept s ≡ 5) where
    second : (q y : ℕ) → bytes_on s 16 (past (2 * q) 0 y) ≡ past (2 * q + 1) 0 y
    second q y =
        let l : Level (past (2 * q) 0 y) = record { low = omega arith; rest = refl } in
        let r : 16 * (2 * q) + 16 ≡ 16 * (2 * q + 1) = omega arith in
        run_end s (past (2 * q) 0 y) (past_aligned (2 * q) 0 y) ∙ rises s five (past (2 * q) 0 y) l
        ∙ ap (λ (a : ℕ). counter a 0 y) (wrap_wrap from (16 * (2 * q)) 16 ∙ ap (wrap from) r)

    side_by_side : (q y c : ℕ) → c < 32 → (bytes_on s c (past (2 * q) 0 y)).address ≡ wrap from (32 * q + c)
    side_by_side q y c h =
        ⊎_elim
        (λ (l : c < 16). in_past (2 * q) 0 y c l ∙ ap (wrap from) (let e : 16 * (2 * q) + c ≡ 32 * q + c = omega arith in e))
        (λ (l : 16 ≤ c).
        let k : 16 + (c - 16) ≡ c = omega arith in
        let e : 16 * (2 * q + 1) + (c - 16) ≡ 32 * q + c = omega arith in
        ap (λ (d : Counter). d.address)
        (ap (λ (i : ℕ). bytes_on s i (past (2 * q) 0 y)) (sym k) ∙ bytes_on_on s 16 (c - 16) (past (2 * q) 0 y) ∙ ap (bytes_on s (c - 16)) (second q y))
        ∙ in_past (2 * q + 1) 0 y (c - 16) (omega arith) ∙ ap (wrap from) e)
        (lt_or_ge c 16)

    -- a line that starts in row n div L
    row_stretch : (n c : ℕ) {y L : ℕ} → c < 32 → line_lasts s ≡ L → line_start s n ≡ past (2 * (n / L)) 0 y → address_of s n c ≡ wrap from (32 * (n / line_lasts s) + c)
    unfolding address_of
    row_stretch n c {y} {L} h e p =
        ap (λ (d : Counter). (bytes_on s c d).address) p ∙ side_by_side (n / L) y c h ∙ ap (λ (m : ℕ). wrap from (32 * (n / m) + c)) (sym e)

  -- ---- where it keeps B4: the frame is one line, run after run
  module _ (f : clears_b4 s ≡ false) where
    y_one : div_y s ≡ 1
    y_one =
        let t = each_below (λ v. eqb (get_or kept_from v 0) 5 || eqb (get_or times_y v 0) 1) 8 tt (video_mode s) (mod-lt _ (lit< tt)) in
        eqb→eq (div_y s) 1 (rw f at t)

    abbrev at : ℕ → Counter
    at j = past (j / div_x s) (j % div_x s) 0

    -- one run more
    next_run : (j : ℕ) → carry s (at j) ≡ at (j + 1)
    unfolding carry fall
    next_run j =
        let k : Counts (div_x s) j = counts (div_x s) j (div_x_pos s) in
        let a : ℕ = wrap from (16 * (j / div_x s)) in
        let r : run (at j) ≡ a = omega arith in
        let one : ltb (0 + 1) (div_y s) ≡ false = rw y_one in
        by_test (ltb (j % div_x s + 1) (div_x s))
        (λ t. let e = k.on (ltb-true _ _ t) in rw r (simp t (ap₂ (λ (q x : ℕ). past q x 0) e.0 e.1)))
        (λ t. let e = k.over (ltb-false _ _ t) in
        let b : wrap a 16 ≡ wrap from (16 * ((j + 1) / div_x s)) = wrap_wrap from (16 * (j / div_x s)) 16 ∙ ap (wrap from) (omega (arith, e.0)) in
        let z : counter (wrap a 16) 0 0 ≡ at (j + 1) = ap₂ (λ (b x : ℕ). counter b x 0) b e.1 in
        rw r
        (by_test (eqb (a % 32) 0)
        (λ u. simp (t, u) z)
        (λ u. simp (t, u, one) (ap (λ (b : ℕ). counter b 0 0) (sym (wrap_fall a (omega arith) (eqb-false _ _ u))) ∙ z))))

    runs_on : (j : ℕ) → bytes_on s (16 * j) (start s) ≡ at j
    runs_on zero = bytes_on_none s (start s) ∙ start_past ∙ by_x s (λ d. past 0 0 0 ≡ past (0 / d) (0 % d) 0) refl refl refl
    runs_on (suc j) =
        let e : 16 * suc j ≡ 16 * j + 16 = omega arith in
        ap (λ (i : ℕ). bytes_on s i (start s)) e ∙ bytes_on_on s (16 * j) 16 (start s) ∙ ap (bytes_on s 16) (runs_on j)
        ∙ run_end s (at j) (past_aligned (j / div_x s) (j % div_x s) 0) ∙ next_run j ∙ ap at (add-one j)

    still : (c : Counter) → Aligned c → cleared s c ≡ c
    still c al =
        let e : (cleared s c).address ≡ c.address =
        by_kept s (λ k. eqb k 5 ≡ false → c.address / 2 ^ k * 2 ^ k + c.address % 2 ≡ c.address) (λ z. absurd (true≢false z)) (λ _. omega (arith, al.low)) (λ _. omega (arith, al.low)) f in
        λ i. record { address = e i; x = c.x; y = c.y }

    pub not_ends : ends_count s ≡ false
    not_ends = rw f (simp (and_false (eqb w 16), and_false (clearing_counts s.rule)))

    one_line : (n : ℕ) → line_start s n ≡ bytes_on s (n * w) (start s)
    one_line zero = line_start_none s ∙ sym (ap (λ (k : ℕ). bytes_on s k (start s)) (zero-mul w) ∙ bytes_on_none s (start s))
    one_line (suc n) =
        let k : n * w + w ≡ (n + 1) * w = rw (add-one, suc-mul) in
        rw (← add-one)
        (plain_end s not_ends n ∙ still (bytes_on s w (line_start s n)) (line_end_aligned s n) ∙ ap (bytes_on s w) (one_line n) ∙ sym (bytes_on_on s (n * w) w (start s))
        ∙ ap (λ (i : ℕ). bytes_on s i (start s)) k)

    -- the address of each byte is that of a line without an end
    pub endless : (n c : ℕ) → address_of s n c ≡ (bytes_on s (n * w + c) (start s)).address
    unfolding address_of
    endless n c = ap (λ (d : Counter). d.address) (ap (bytes_on s c) (one_line n) ∙ sym (bytes_on_on s (n * w) c (start s)))

    -- in which each run is fetched X times
    pub endless_at : (k : ℕ) → (bytes_on s k (start s)).address ≡ wrap from (16 * (k / 16 / div_x s) + k % 16)
    endless_at k =
        let j = k / 16 in
        let e : 16 * j + k % 16 ≡ k = omega arith in
        ap (λ (d : Counter). d.address) (ap (λ (i : ℕ). bytes_on s i (start s)) (sym e) ∙ bytes_on_on s (16 * j) (k % 16) (start s) ∙ ap (bytes_on s (k % 16)) (runs_on j))
        ∙ in_past (j / div_x s) (j % div_x s) 0 (k % 16) (omega arith)

  -- ---- how many lines have the places of one, in each case
  pub uncounted_lasts : (b d : Bool) → ends_count s ≡ false → eqb w 16 && clears_b4 s ≡ b → one_stretch s ≡ d → line_lasts s ≡ choose b 192 (choose d (div_x s * div_y s) 1)
  uncounted_lasts b d h p q =
      ap₂ (λ (x y : Bool). choose x (div_y s) (choose y 192 (choose (one_stretch s) (div_x s * div_y s) 1))) h p
      ∙ ap (λ (z : Bool). choose b 192 (choose z (div_x s * div_y s) 1)) q

  pub counted_lasts : ends_count s ≡ true → line_lasts s ≡ div_y s
  counted_lasts h = simp h

  -- the five numbers that it can be
  pub by_lasts : (P : ℕ → Type 0) → P 1 → P 2 → P 3 → P 12 → P 192 → P (line_lasts s)
  by_lasts P a b c d e = of_both P (ends_count s) (by_y s P a b c d) (of_both P (eqb w 16 && clears_b4 s) e (of_both P (one_stretch s) (by_both s P a b c d) a))

  pub lines_some : 0 < line_lasts s
  lines_some = by_lasts (λ n. 0 < n) (omega arith) (omega arith) (omega arith) (omega arith) (omega arith)

  pub lines_le : line_lasts s ≤ 192
  lines_le = by_lasts (λ n. n ≤ 192) (omega arith) (omega arith) (omega arith) (omega arith) (omega arith)

  same_line : ends_count s ≡ false → kept s ≡ 5 → w ≡ 16 → (n : ℕ) → line_start s n ≡ start s
  same_line h five one zero = line_start_none s
  same_line h five one (suc n) = rw (← add-one) (same_row s h five one n ∙ same_line h five one n)

  -- ---- so where each line is one stretch, byte c of line n lies c past the start of stretch n div L
  module _ (n c : ℕ) (m : n < 192) (l : c < w) where
    abbrev Stretch : ℕ → Type 0
    Stretch step = address_of s n c ≡ wrap from (step * (n / line_lasts s) + c)

    narrow_stretch : kept s ≡ 5 → w ≡ 16 → Stretch 32
    narrow_stretch five one =
        by_test (ends_count s)
        (λ h. row_stretch five n c (omega (arith, l, one)) (counted_lasts h) (line_past (row_end s h) n))
        (λ h.
        let e : line_lasts s ≡ 192 = uncounted_lasts true true h (simp (eq-eqb w 16 one, eq-eqb (kept s) 5 five)) (simp (eq-eqb w 16 one)) in
        let q : 0 ≡ 2 * (n / 192) = omega (arith, m) in
        row_stretch five n c (omega (arith, l, one)) e (same_line h five one n ∙ start_past ∙ ap (λ (i : ℕ). past i 0 0) q))

    wide_lasts : kept s ≡ 5 → w ≡ 32 → line_lasts s ≡ div_y s
    wide_lasts five two =
        let no : eqb w 16 ≡ false = ne_eqb w 16 (λ z. omega arith) in
        uncounted_lasts false true (simp (no, and_false (clearing_counts s.rule))) (simp no) (simp (no, eq-eqb (div_x s) 1 (x_one s five))) ∙ ap (λ (x : ℕ). x * div_y s) (x_one s five) ∙ one-mul (div_y s)

    wide_stretch : kept s ≡ 5 → w ≡ 32 → Stretch 32
    wide_stretch five two = row_stretch five n c (omega (arith, l, two)) (wide_lasts five two) (line_past (wide_end s five two) n)

    kept_stretch : clears_b4 s ≡ false → w ≡ 16 → Stretch 16
    kept_stretch f one =
        let e : line_lasts s ≡ div_x s =
        uncounted_lasts false true (not_ends f) (simp (f, and_false (eqb w 16))) (simp (eq-eqb w 16 one)) ∙ ap (λ (y : ℕ). div_x s * y) (y_one f) ∙ mul-one (div_x s) in
        let p : (n * 16 + c) / 16 ≡ n = omega (arith, l, one) in
        let r : (n * 16 + c) % 16 ≡ c = omega (arith, l, one) in
        endless f n c ∙ endless_at f (n * w + c) ∙ ap (λ (v : ℕ). wrap from (16 * ((n * v + c) / 16 / div_x s) + (n * v + c) % 16)) one
        ∙ ap₂ (λ (i j : ℕ). wrap from (16 * (i / div_x s) + j)) p r ∙ ap (λ (d : ℕ). wrap from (16 * (n / d) + c)) (sym e)

    -- with X = 1 its two runs lie side by side, and the next line's behind them
    kept_wide : clears_b4 s ≡ false → w ≡ 32 → div_x s ≡ 1 → Stretch 32
    kept_wide f two one =
        let e : line_lasts s ≡ 1 =
        uncounted_lasts false true (not_ends f) (simp (f, and_false (eqb w 16))) (simp (ne_eqb w 16 (λ z. omega arith), eq-eqb (div_x s) 1 one)) ∙ ap₂ ◌*◌ one (y_one f) in
        let k : 16 * ((n * 32 + c) / 16 / 1) + (n * 32 + c) % 16 ≡ 32 * (n / 1) + c = omega arith in
        endless f n c ∙ endless_at f (n * w + c) ∙ ap₂ (λ (v d : ℕ). wrap from (16 * ((n * v + c) / 16 / d) + (n * v + c) % 16)) two one
        ∙ ap (wrap from) k ∙ ap (λ (d : ℕ). wrap from (32 * (n / d) + c)) (sym e)

    pub stretch : one_stretch s ≡ true → address_of s n c ≡ wrap from (line_step s * (n / line_lasts s) + c)
    stretch o =
        by_test (clears_b4 s)
        (λ t. subst Stretch (sym (simp t)) (⊎_elim (narrow_stretch (eqb-true _ _ t)) (wide_stretch (eqb-true _ _ t)) (width_cases s.look)))
        (λ f.
        ⊎_elim
        (λ (one : w ≡ 16). subst Stretch (sym (simp (f, ne_eqb w 32 (λ z. omega arith)))) (kept_stretch f one))
        (λ (two : w ≡ 32). subst Stretch (sym (simp (f, eq-eqb w 32 two))) (kept_wide f two (eqb-true (div_x s) 1 (sym (simp (ne_eqb w 16 (λ z. omega arith))) ∙ o))))
        (width_cases s.look))

  -- ---- and where it is not, a line has two runs, X is not 1, and B4 is kept
  pub not_stretch : one_stretch s ≡ false → (w ≡ 32) × (clears_b4 s ≡ false)
  not_stretch o =
      let n = neither (eqb w 16) (eqb (div_x s) 1) o in (
        ⊎_elim (λ (one : w ≡ 16). absurd (eqb-false w 16 n.0 one)) (λ (two : w ≡ 32). two) (width_cases s.look),
        by_test (clears_b4 s) (λ t. absurd (eqb-false (div_x s) 1 n.1 (x_one s (eqb-true _ _ t)))) (λ f. f),
      )
