-- Both fetch rules give the same addresses where document 003's table of modes pairs the pins with the SAM mode, whatever the start; and where they differ.
use Rattle.std.proofs.Common.{◌≡◌, ℕ, zero, suc, ◌+◌, ◌-◌, ◌*◌, ◌/◌, ◌%◌, ◌<◌, Bool, true, false, not, ◌||◌, T, eqb, ◌⊎◌, List, get_or, sym, refl, ap, ◌∙◌, subst, ap₂, inl, inr, mod-lt, add-one, arith, lit<, eqb→eq, le-ltb, lt-ltb, eq-eqb}
use Rattle.promises.specs.Choose.{choose}
use Rattle.promises.proofs.Choices.{of_both, by_test}
use Rattle.promises.proofs.Tables.{Bits, each_bits}
use Rattle.settings.specs.declared.Rule.{Rule}
use Rattle.settings.specs.declared.Rule.TheVariants.{One, Two}
use Rattle.settings.specs.declared.Settings.{Settings}
use Rattle.settings.specs.Fields.{under, bits, video_mode, offset, graphics, gm, gm2, gm1, gm0}
use Rattle.settings.specs.Modes.{widths, width}
use Rattle.counter.specs.declared.Counter.{Counter}
use Rattle.counter.specs.Counter.{kept_from, div_y, kept, wrap, counter, fall, cleared, clears_set_b4, clear, bytes_on, start, line_start, address_of}
use Rattle.counter.specs.Pairs.{mode_table, columns, some_row, paired}
use Rattle.counter.specs.Steps.{clears_b4, ends_count}
use Rattle.counter.proofs.Tables.{div_y_pos}
use Rattle.counter.proofs.Walks.{line_start_none}
use Rattle.counter.proofs.Shifts.{bytes_by_v}
use Rattle.counter.proofs.Ends.{Steady, steady_end, same_row, row_end}

-- ---- where no line's end drops a set B4, the rules give the same
module _ (s : Settings) (h : Steady s) (r : Rule) where
  clear_steady : (q : Rule) (c : Counter) → clears_set_b4 s c ≡ false → clear (under q s) c ≡ cleared s c
  unfolding clear
  clear_steady One c f = refl
  clear_steady Two c f = rw f

  lines_agree : (n : ℕ) → line_start (under r s) n ≡ line_start s n
  unfolding line_start start
  lines_agree zero = refl
  lines_agree (suc n) =
      let c : Counter = bytes_on s (width s.look) (line_start s n) in
      let f = steady_end s h n in
      rw (lines_agree n, bytes_by_v (under r s) s refl (width s.look) (line_start s n)) (clear_steady r c f ∙ sym (clear_steady s.rule c f))

  pub steady_agree : (n c : ℕ) → address_of (under r s) n c ≡ address_of s n c
  unfolding address_of
  steady_agree n c = ap (λ (d : Counter). d.address) (bytes_by_v (under r s) s refl c (line_start (under r s) n) ∙ ap (bytes_on s c) (lines_agree n))

-- ---- every row of the table is such, by one computed test over all pins and bits in its columns
-- V2-V0 keep B4, or W is 32
abbrev steady_at : List ℕ → Bool
steady_at l =
    not (eqb (get_or kept_from (4 * get_or l 5 0 + 2 * get_or l 6 0 + get_or l 7 0) 0) 5)
    || eqb (choose (eqb (get_or l 0 0) 1) (get_or widths (4 * get_or l 1 0 + 2 * get_or l 2 0 + get_or l 3 0) 0) 32) 32

all_steady : (l : List ℕ) → Bits 8 l → T (not (some_row mode_table l) || steady_at l)
all_steady = each_bits 8 (λ l. not (some_row mode_table l) || steady_at l) tt

bit : (n : ℕ) → n % 2 < 2
bit n = mod-lt n (lit< tt)

columns_bits : (s : Settings) → Bits 8 (columns s)
columns_bits s = (bit _, (bit _, (bit _, (of_both (λ (n : ℕ). n < 2) (graphics s.look) (bit _) (bit _), (bit _, (bit _, (bit _, (bit _, tt))))))))

-- three bits make a number
three : (w : ℕ) {h m : ℕ} → h ≡ w / 4 % 2 → m ≡ w / 2 % 2 → 4 * h + 2 * m + w % 2 ≡ w % 8
three w p q =
    let a : w % 8 ≡ 4 * (w / 4 % 2) + w % 4 = omega arith in
    let b : w % 4 ≡ 2 * (w / 2 % 2) + w % 2 = omega arith in
    omega arith

-- one of the two is so
one_of : (b : Bool) (w : ℕ) → T (not b || eqb w 32) → (b ≡ false) ⊎ (w ≡ 32)
one_of true w t = inr (eqb→eq w 32 t)
one_of false w t = inl refl

-- in graphics the columns are V and GM, and text has W = 32
paired_steady : (s : Settings) → paired s ≡ true → Steady s
unfolding paired width
paired_steady s p = by_test (graphics s.look) (λ g. by_columns g (rw p at (all_steady (columns s) (columns_bits s)))) (λ g. inr (rw g))
  where
    mode : 4 * bits s.word 2 1 + 2 * bits s.word 1 1 + bits s.word 0 1 ≡ video_mode s
    mode = three (s.word / 1) (omega arith) (omega arith)

    number : graphics s.look ≡ true → 4 * gm2 s.look + 2 * gm1 s.look + choose (graphics s.look) (gm0 s.look) (bits s.look.pins 4 1) ≡ gm s.look
    number g = rw g (three (s.look.pins / 2) (omega arith) (omega arith))

    by_columns : graphics s.look ≡ true → T (steady_at (columns s)) → Steady s
    by_columns g t =
        one_of (clears_b4 s) (width s.look)
        (subst T (ap₂ (λ (v n : ℕ). not (eqb (get_or kept_from v 0) 5) || eqb (choose (graphics s.look) (get_or widths n 0) 32) 32) mode (number g)) t)

-- where the table pairs the pins with the SAM mode, every address of every line is the same under both rules, for every start
pub paired_agree : (s : Settings) → paired s ≡ true → (r : Rule) (n c : ℕ) → address_of (under r s) n c ≡ address_of s n c
paired_agree s p = steady_agree s (paired_steady s p)

-- ---- where a line has one run and B4 is cleared, they differ at line Y
module _ (s : Settings) (five : kept s ≡ 5) (one : width s.look ≡ 16) where
  -- under rule 1 every line is the first,
  first_row : (n : ℕ) → line_start (under One s) n ≡ start s
  unfolding start
  first_row zero = line_start_none (under One s)
  first_row (suc n) = ap (line_start (under One s)) (sym (add-one n)) ∙ same_row (under One s) refl five one n ∙ first_row n

  -- under rule 2 the Y divider counts the lines,
  counts : ends_count (under Two s) ≡ true
  counts = simp (eq-eqb (width s.look) 16 one, eq-eqb (kept s) 5 five)

  rows_counted : (n : ℕ) → n < div_y s → line_start (under Two s) n ≡ counter (offset s * 512) 0 n
  unfolding start fall
  rows_counted zero h = line_start_none (under Two s)
  rows_counted (suc n) h =
      ap (line_start (under Two s)) (sym (add-one n)) ∙ row_end (under Two s) counts n ∙ ap (fall s) (rows_counted n (omega arith))
      ∙ simp (lt-ltb (n + 1) (div_y s) (omega arith)) (ap (counter (offset s * 512) 0) (add-one n))

  -- and line Y is the next row
  next_row : line_start (under Two s) (div_y s) ≡ counter (wrap (offset s * 512) 32) 0 0
  unfolding fall
  next_row =
      let n = div_y s - 1 in
      let e : n + 1 ≡ div_y s = omega (arith, div_y_pos s) in
      ap (line_start (under Two s)) (sym e) ∙ row_end (under Two s) counts n ∙ ap (fall s) (rows_counted n (omega (arith, div_y_pos s)))
      ∙ simp (le-ltb (n + 1) (div_y s) (omega arith))

  pub line_differs : address_of (under One s) (div_y s) 0 ≡ address_of (under Two s) (div_y s) 0 → ⊥
  unfolding address_of bytes_on start
  line_differs e =
      let a : address_of (under One s) (div_y s) 0 ≡ offset s * 512 = ap (λ (c : Counter). c.address) (first_row (div_y s)) in
      let b : address_of (under Two s) (div_y s) 0 ≡ wrap (offset s * 512) 32 = ap (λ (c : Counter). c.address) next_row in
      omega (arith, a, b)
