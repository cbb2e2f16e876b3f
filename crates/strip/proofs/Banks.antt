-- Where the first fetch from a bank that is not fitted lies: found by rows of 32 places, without a walk of the counter.
use Rattle.std.proofs.Common.{◌≡◌, ℕ, ◌+◌, ◌-◌, ◌*◌, ◌/◌, ◌%◌, ◌^◌, ◌<◌, ◌≤◌, true, false, ltb, ◌⊎◌, sym, refl, ap, ◌∙◌, ap₂, inl, inr, ⊎_elim, mod-lt, mod-eq_of_lt, suc-mul, div-lt_iff_lt-mul, mul-le-mul, le_antisymm, div-add-mod', zero-mul, mul-div_cancel, mul_left_comm, add-one, arith, lit<, le-ltb, le-leb, leb-false, leb-true}
use native.Mathlib.Nat.{mul-mul-mul_comm, div-div-eq-div-mul, zero-mod, mul-mod_left}
use lib.Arith.{digits_div, digits_mod}
use borrow.Author.Tests.{lt-leb}
use Rattle.promises.proofs.Choices.{by_test}
use Rattle.promises.proofs.Fills.{lt_or_ge}
use Rattle.promises.proofs.Firsts.{first_le, first_none, first_at, nowhere}
use Rattle.settings.specs.declared.Settings.{Settings}
use Rattle.settings.specs.Fields.{offset}
use Rattle.settings.specs.Modes.{width}
use Rattle.settings.specs.Banks.{bank_size, missing}
use Rattle.settings.proofs.Banks.{by_bit}
use Rattle.settings.proofs.Widths.{width_cases, width_pos}
use Rattle.counter.specs.declared.Counter.{Counter}
use Rattle.counter.specs.Counter.{start, line_start, address_of}
use Rattle.counter.specs.Steps.{row_lasts}
use Rattle.counter.proofs.Walks.{bytes_on_none, line_start_none}
use Rattle.counter.proofs.Runs.{line_aligned, byte_fits}
use Rattle.counter.proofs.Rows.{lasts_some, lasts_le, lasts_runs, row_of}
use Rattle.strip.specs.Fetch.{fetch_address, first_missing}
use Rattle.strip.specs.Steps.{rows_left, Fitted}
use Rattle.strip.proofs.Places.{last_bank}
use Rattle.strip.proofs.Walks.{address_of_line}

-- ---- in numbers: a window starts in step f of 512 places, and an address a lies in its row q of 32
even_or_odd : (k : ℕ) → (k % 2 ≡ 0) ⊎ (k % 2 ≡ 1)
even_or_odd k = ⊎_elim (λ (h : k % 2 < 1). inl (omega arith)) (λ (h : 1 ≤ k % 2). inr (omega arith)) (lt_or_ge (k % 2) 1)

next_odd : (k : ℕ) → k % 2 ≡ 0 → (k + 1) % 2 ≡ 1
next_odd k h = omega arith

-- banks of B places: up to the last row that is left in it the bank is that of the start, and then the next
abbrev Left : ℕ → ℕ → ℕ
Left B f = (B - f * 512 % B) / 32

abbrev Reaches : ℕ → ℕ → Type 0
Reaches B f = (a q : ℕ) → a / 32 ≡ (f * 16 + q) % 2048 → (q < Left B f → a / B ≡ f * 512 / B) × (q ≡ Left B f → a / B ≡ f * 512 / B + 1)

-- a bank of m steps has 16 × m rows, and ends below the last address
reach : (m f : ℕ) → 0 < m → (f / m + 1) * m < 128 → Reaches (512 * m) f
reach m f some top a q e =
    let whole = div-add-mod' f m in
    let small = mod-lt f some in
    let next : (f / m + 1) * m ≡ f / m * m + m = rw (add-one, suc-mul) in
    let places : f / m * (512 * m) ≡ 512 * (f / m * m) = mul_left_comm (f / m) 512 m in
    let from : f * 512 ≡ f / m * (512 * m) + f % m * 512 = omega (arith, whole, places) in
    let k : f * 512 / (512 * m) ≡ f / m = ap (λ (x : ℕ). x / (512 * m)) from ∙ digits_div (f / m) (omega arith) in
    let r : f * 512 % (512 * m) ≡ f % m * 512 = ap (λ (x : ℕ). x % (512 * m)) from ∙ digits_mod (f / m) (omega arith) in
    let left : Left (512 * m) f ≡ 16 * m - 16 * (f % m) = ap (λ (x : ℕ). (512 * m - x) / 32) r ∙ omega arith in
    let rows : 32 * (16 * m) ≡ 512 * m = omega arith in
    let bank : a / (512 * m) ≡ (f * 16 + q) % 2048 / (16 * m) = sym (div-div-eq-div-mul a 32 (16 * m) ∙ ap (λ (x : ℕ). a / x) rows) ∙ ap (λ (x : ℕ). x / (16 * m)) e in
    let here : f / m * (16 * m) ≡ 16 * (f / m * m) = mul_left_comm (f / m) 16 m in
    let there : (f / m + 1) * (16 * m) ≡ 16 * ((f / m + 1) * m) = mul_left_comm (f / m + 1) 16 m in (
      λ l.
          let row : (f * 16 + q) % 2048 ≡ f / m * (16 * m) + (16 * (f % m) + q) = mod-eq_of_lt (omega arith) ∙ omega arith in
          bank ∙ ap (λ (x : ℕ). x / (16 * m)) row ∙ digits_div (f / m) (omega arith) ∙ sym k,
      λ l.
          let row : (f * 16 + q) % 2048 ≡ (f / m + 1) * (16 * m) + 0 = mod-eq_of_lt (omega arith) ∙ omega arith in
          bank ∙ ap (λ (x : ℕ). x / (16 * m)) row ∙ digits_div (f / m + 1) (omega arith) ∙ ap (λ (x : ℕ). x + 1) (sym k),
    )

-- of 8 steps or 32, where it is a first bank
reach_8 : (f : ℕ) → f < 128 → f * 512 / 4096 % 2 ≡ 0 → Reaches 4096 f
reach_8 f h z = reach 8 f (omega arith) (omega (arith, z))

reach_32 : (f : ℕ) → f < 128 → f * 512 / 16384 % 2 ≡ 0 → Reaches 16384 f
reach_32 f h z = reach 32 f (omega arith) (omega (arith, z))

-- so where an image lacks the last bank and has that of the start, it has that of every row before the last that is left, and lacks the next
abbrev Across : ℕ → ℕ → ℕ → Type 0
Across B size f =
    size ≤ 65535 / B % 2 * B → f * 512 / B % 2 * B < size → (a q : ℕ) → a / 32 ≡ (f * 16 + q) % 2048
    → (q < Left B f → a / B % 2 * B < size) × (q ≡ Left B f → size ≤ a / B % 2 * B)

across : (B size f : ℕ) → 65535 / B % 2 ≡ 1 → (f * 512 / B % 2 ≡ 0 → Reaches B f) → Across B size f
across B size f last reaches p q a r e =
    let p1 : size ≤ 1 * B = rw last at p in
    let z : f * 512 / B % 2 ≡ 0 = ⊎_elim (λ x. x) (λ o. let q1 : 1 * B < size = rw o at q in absurd (omega arith)) (even_or_odd (f * 512 / B)) in
    let k = reaches z a r e in (
      λ l. rw (k.0 l) q,
      λ l. rw (k.1 l, next_odd (f * 512 / B) z) p1,
    )

-- where all bits are the place, no bank is lacked alone
never : (size f : ℕ) → f < 128 → Across 65536 size f
never size f h p q a r e = absurd (omega arith)

-- sixteens by sixteens
sixteens : (a b : ℕ) → 16 * a * (16 * b) ≡ 256 * (a * b)
sixteens a b = mul-mul-mul_comm 16 a 16 b

-- ---- of a frame
module _ (s : Settings) where
  abbrev w : ℕ
  w = width s.look

  abbrev from : ℕ
  from = offset s * 512

  pub start_at : (start s).address ≡ from
  unfolding start
  start_at = refl

  first_at_start : fetch_address s 0 ≡ from
  first_at_start =
      let z : 0 ≡ 0 * w + 0 = rw zero-mul in
      ap (fetch_address s) z ∙ address_of_line s 0 0 (width_pos s.look) ∙ ap (λ (c : Counter). c.address) (bytes_on_none s (line_start s 0) ∙ line_start_none s) ∙ start_at

  fetch_fits : (k : ℕ) → fetch_address s k < 2 ^ 16
  unfolding fetch_address address_of
  fetch_fits k = byte_fits s (line_start s (k / w)) (line_aligned s (k / w)) (k % w)

  -- B5-B15 of fetch k
  row_of_fetch : (k : ℕ) → k < 192 * w → fetch_address s k / 32 ≡ (offset s * 16 + k / row_lasts s) % 2048
  unfolding fetch_address
  row_of_fetch k h =
      let e : k / w * w + k % w ≡ k = div-add-mod' k w in
      row_of s (k / w) (k % w) ((div-lt_iff_lt-mul (width_pos s.look)).1 h) (mod-lt k (width_pos s.look)) ∙ ap (λ (i : ℕ). (offset s * 16 + i / row_lasts s) % 2048) e

  -- a number that 64 bits hold
  pub first_small : rows_left s from * row_lasts s ≤ 2048 * (32 * 192)
  first_small = mul-le-mul (by_bit s (λ b. (2 ^ b - from % 2 ^ b) / 32 ≤ 2048) (omega arith) (omega arith) (omega arith)) (lasts_le s)

  module _ (size : ℕ) where
    -- where the last bank is fitted
    pub none_missing : missing s size 65535 ≡ false → 192 * w ≡ first_missing s size
    unfolding first_missing
    none_missing e = sym (first_none _ (192 * w) (λ k l. last_bank s size (fetch_address s k) (fetch_fits k) e))

    -- where that of the start is not
    pub first_fetch : missing s size from ≡ true → 0 ≡ first_missing s size
    unfolding first_missing
    first_fetch e = sym (first_at _ 0 (192 * w) (λ j l. absurd (omega arith)) (ap (missing s size) first_at_start ∙ e) (omega (arith, width_pos s.look)))

    -- else the rows that are left are fetched, and the next row is not
    module _ (last : missing s size 65535 ≡ true) (fitted : missing s size from ≡ false) where
      both : Across (bank_size s) size (offset s)
      both =
          by_bit s (λ b. Across (2 ^ b) size (offset s))
          (across 4096 size (offset s) refl (reach_8 (offset s) (mod-lt _ (lit< tt))))
          (across 16384 size (offset s) refl (reach_32 (offset s) (mod-lt _ (lit< tt))))
          (never size (offset s) (mod-lt _ (lit< tt)))

      abbrev first : ℕ
      first = rows_left s from * row_lasts s

      before : (k : ℕ) → k < 192 * w → k < first → missing s size (fetch_address s k) ≡ false
      unfolding missing
      before k h l =
          lt-leb _ _
          ((both (leb-true _ _ last) (leb-false _ _ fitted) (fetch_address s k) (k / row_lasts s) (row_of_fetch k h)).0 ((div-lt_iff_lt-mul (lasts_some s)).1 l))

      there : first < 192 * w → missing s size (fetch_address s first) ≡ true
      unfolding missing
      there h =
          le-leb _ _
          ((both (leb-true _ _ last) (leb-false _ _ fitted) (fetch_address s first) (first / row_lasts s) (row_of_fetch first h)).1 (mul-div_cancel (rows_left s from) (lasts_some s)))

      pub found : first < 192 * w → first ≡ first_missing s size
      unfolding first_missing
      found h = sym (first_at _ first (192 * w) (λ j l. before j (omega arith) l) (there h) h)

      pub not_found : 192 * w ≤ first → 192 * w ≡ first_missing s size
      unfolding first_missing
      not_found h = sym (first_none _ (192 * w) (λ j l. before j l (omega arith)))

    -- where no fetch is missing 17 is not given, and then the banks of the frame are fitted
    pub none_refused : 192 * w ≡ first_missing s size → ltb (first_missing s size) (192 * w) ≡ false
    none_refused e = le-ltb (first_missing s size) (192 * w) (omega (arith, e))

    pub all_fitted : 192 * w ≤ first_missing s size → Fitted s size
    unfolding first_missing
    all_fitted h = nowhere _ (192 * w) (le_antisymm (first_le _ (192 * w)) h)

    -- a row lasts a number of runs, and a step has 16 rows: so the first fetch from a bank that is not fitted begins a line
    whole : (n : ℕ) → 256 * n % w ≡ 0
    whole n = ⊎_elim (λ (e : w ≡ 16). rw e (omega arith)) (λ (e : w ≡ 32). rw e (omega arith)) (width_cases s.look)

    first_whole : rows_left s from * row_lasts s % w ≡ 0
    first_whole =
        let a : rows_left s from ≡ 16 * (rows_left s from / 16) = by_bit s (λ b. (2 ^ b - from % 2 ^ b) / 32 ≡ 16 * ((2 ^ b - from % 2 ^ b) / 32 / 16)) (omega arith) (omega arith) (omega arith) in
        let e : rows_left s from * row_lasts s ≡ 256 * (rows_left s from / 16 * (row_lasts s / 16)) = ap₂ ◌*◌ a (lasts_runs s) ∙ sixteens (rows_left s from / 16) (row_lasts s / 16) in
        rw e (whole (rows_left s from / 16 * (row_lasts s / 16)))

    pub at_line_start : first_missing s size % w ≡ 0
    at_line_start =
        by_test (missing s size 65535)
        (λ t.
        by_test (missing s size from)
        (λ u. ap (λ (n : ℕ). n % w) (sym (first_fetch u)) ∙ zero-mod w)
        (λ u. ⊎_elim
        (λ (h : rows_left s from * row_lasts s < 192 * w). ap (λ (n : ℕ). n % w) (sym (found t u h)) ∙ first_whole)
        (λ (h : 192 * w ≤ rows_left s from * row_lasts s). ap (λ (n : ℕ). n % w) (sym (not_found t u h)) ∙ mul-mod_left 192 w)
        (lt_or_ge (rows_left s from * row_lasts s) (192 * w))))
        (λ t. ap (λ (n : ℕ). n % w) (sym (none_missing t)) ∙ mul-mod_left 192 w)
