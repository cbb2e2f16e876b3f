-- A line is made of aligned runs of 16 bytes: inside a run the address goes on by wrap alone, and at its end B0-B3 pass 15.
use Rattle.std.proofs.Common.{◌≡◌, ℕ, zero, suc, ◌+◌, ◌-◌, ◌*◌, ◌/◌, ◌%◌, ◌^◌, ◌<◌, ◌&&◌, eqb, ltb, sym, ap, ◌∙◌, ⊎_elim, add-zero, arith, eq-eqb, ne_eqb}
use Rattle.promises.proofs.Choices.{of_both}
use Rattle.settings.specs.declared.Settings.{Settings}
use Rattle.settings.specs.Modes.{width}
use Rattle.settings.proofs.Widths.{width_cases}
use Rattle.counter.specs.declared.Counter.{Counter}
use Rattle.counter.specs.Counter.{div_x, div_y, wrap, counter, run, fall, carry, advance, clears_set_b4, cleared, clearing_counts, clear, bytes_on, start, line_start}
use Rattle.counter.proofs.Wraps.{wrap_wrap, wrap_small, wrap_lt}
use Rattle.counter.proofs.Tables.{by_kept, cleared_le}
use Rattle.counter.proofs.Walks.{bytes_on_on}

-- a 16-bit address whose B0-B3 are 0
pub record Aligned (c : Counter) : Type 0 where
  pub low : c.address % 16 ≡ 0
  pub fits : c.address < 2 ^ 16

fall_aligned : (s : Settings) (c : Counter) → Aligned c → Aligned (fall s c)
unfolding fall
fall_aligned s c al = of_both Aligned (ltb (c.y + 1) (div_y s)) (record { low = al.low; fits = al.fits }) (record { low = omega (arith, al.low); fits = wrap_lt c.address 32 })

module _ (s : Settings) (c : Counter) (al : Aligned c) where
  -- the last four bits of the address inside the run count the bytes
  low_in : (j : ℕ) → j < 16 → wrap c.address j % 16 ≡ j
  low_in j h = rw (wrap_small c.address j (omega (arith, al.low, al.fits))) (omega (arith, al.low))

  -- j bytes on in a run, its 16 bytes not yet passed
  pub in_run : (j : ℕ) → j < 16 → bytes_on s j c ≡ counter (wrap c.address j) c.x c.y
  unfolding bytes_on advance
  in_run zero h = let e : c.address ≡ wrap c.address 0 = sym (wrap_small c.address 0 (omega (arith, al.fits)) ∙ add-zero c.address) in
      λ i. record { address = e i; x = c.x; y = c.y }
  in_run (suc j) h =
      rw (in_run j (omega arith), ne_eqb (wrap c.address j % 16) 15 (λ e. omega (arith, low_in j (omega arith))))
      (ap (λ (a : ℕ). counter a c.x c.y) (wrap_wrap c.address j 1 ∙ ap (wrap c.address) (omega arith)))

  -- at its end they pass 15
  pub run_end : bytes_on s 16 c ≡ carry s c
  unfolding bytes_on advance carry
  run_end =
      let e : wrap c.address 15 / 16 * 16 ≡ c.address / 16 * 16 = rw (wrap_small c.address 15 (omega (arith, al.low, al.fits))) (omega (arith, al.low)) in
      rw (in_run 15 (omega arith), eq-eqb (wrap c.address 15 % 16) 15 (low_in 15 (omega arith)), e)

  run_low : run c % 16 ≡ 0
  run_low = omega arith

  pub carry_aligned : Aligned (carry s c)
  unfolding carry
  carry_aligned =
      of_both Aligned (ltb (c.x + 1) (div_x s)) (record { low = run_low; fits = omega (arith, al.fits) })
      (of_both Aligned (eqb (run c % 32) 0) (record { low = omega arith; fits = wrap_lt (run c) 16 })
      (fall_aligned s (counter (run c - 16) 0 c.y) (record { low = omega arith; fits = omega (arith, al.fits) })))

  cleared_aligned : Aligned (cleared s c)
  cleared_aligned = record {
    low = by_kept s (λ k. (c.address / 2 ^ k * 2 ^ k + c.address % 2) % 16 ≡ 0) (omega (arith, al.low)) (omega (arith, al.low)) (omega (arith, al.low));
    fits = omega (arith, al.fits, cleared_le s c.address);
  }

  pub clear_aligned : Aligned (clear s c)
  unfolding clear
  clear_aligned = of_both Aligned (clearing_counts s.rule && clears_set_b4 s c) (fall_aligned s (cleared s c) cleared_aligned) cleared_aligned

pub start_aligned : (s : Settings) → Aligned (start s)
unfolding start
start_aligned s = record { low = omega arith; fits = omega arith }

-- n runs on
pub runs_aligned : (s : Settings) (c : Counter) → Aligned c → (n : ℕ) → Aligned (bytes_on s (16 * n) c)
unfolding bytes_on
runs_aligned s c al zero = al
runs_aligned s c al (suc n) =
    let n16 : 16 * suc n ≡ 16 * n + 16 = omega arith in
    let e : bytes_on s (16 * suc n) c ≡ bytes_on s 16 (bytes_on s (16 * n) c) = ap (λ (k : ℕ). bytes_on s k c) n16 ∙ bytes_on_on s (16 * n) 16 c in
    rw (e, run_end s (bytes_on s (16 * n) c) (runs_aligned s c al n)) (carry_aligned s (bytes_on s (16 * n) c) (runs_aligned s c al n))

-- a line has one or two runs
width_aligned : (s : Settings) (c : Counter) → Aligned c → Aligned (bytes_on s (width s.look) c)
width_aligned s c al = ⊎_elim (λ e. rw e (runs_aligned s c al 1)) (λ e. rw e (runs_aligned s c al 2)) (width_cases s.look)

-- so every line starts aligned, and ends so
pub line_aligned : (s : Settings) (n : ℕ) → Aligned (line_start s n)
unfolding line_start
line_aligned s zero = start_aligned s
line_aligned s (suc n) = clear_aligned s (bytes_on s (width s.look) (line_start s n)) (width_aligned s (line_start s n) (line_aligned s n))

pub line_end_aligned : (s : Settings) (n : ℕ) → Aligned (bytes_on s (width s.look) (line_start s n))
line_end_aligned s n = width_aligned s (line_start s n) (line_aligned s n)

-- every address has sixteen bits
pub byte_fits : (s : Settings) (c : Counter) → Aligned c → (j : ℕ) → (bytes_on s j c).address < 2 ^ 16
byte_fits s c al j =
    let d : Counter = bytes_on s (16 * (j / 16)) c in
    let k : 16 * (j / 16) + j % 16 ≡ j = omega arith in
    let e : bytes_on s j c ≡ counter (wrap d.address (j % 16)) d.x d.y =
    ap (λ (i : ℕ). bytes_on s i c) (sym k) ∙ bytes_on_on s (16 * (j / 16)) (j % 16) c ∙ in_run s d (runs_aligned s c al (j / 16)) (j % 16) (omega arith) in
    rw e (wrap_lt d.address (j % 16))
