-- Laws of the two walks through a frame: stretch by stretch, and run by run.
use Rattle.std.proofs.Common.{◌≡◌, ℕ, ◌+◌, ◌-◌, ◌*◌, ◌/◌, ◌%◌, ◌<◌, ◌≤◌, true, false, ◌||◌, eqb, List, get_or, sym, refl, ap, ◌∙◌, subst, ap₂, ⊎_elim, zero-le, le_trans, add-zero, mul-le-mul_right, mod-lt, suc-mul, div-lt_iff_lt-mul, mul-le-mul, mul-zero, div-add-mod', le-div_iff_mul-le, zero-mul, mul-suc, mul-div_cancel, add-one, arith, eq-eqb}
use native.Mathlib.Nat.{mul-mod_left, zero-mod, zero-div}
use lib.Arith.{digits_div, digits_mod}
use Rattle.promises.specs.Written.{Filled}
use Rattle.promises.proofs.Choices.{of_both, by_test}
use Rattle.promises.proofs.Fills.{none, by, join, upto}
use Rattle.settings.specs.declared.Settings.{Settings}
use Rattle.settings.specs.Fields.{offset}
use Rattle.settings.specs.Modes.{width}
use Rattle.settings.specs.Banks.{image_place, missing}
use Rattle.settings.proofs.Widths.{width_cases, width_pos, width_le}
use Rattle.counter.specs.declared.Counter.{Counter}
use Rattle.counter.specs.Counter.{wrap, carry, bytes_on, start, line_start, address_of}
use Rattle.counter.specs.Steps.{clears_b4, one_stretch, line_step, line_lasts}
use Rattle.counter.proofs.Walks.{bytes_on_none, bytes_on_on}
use Rattle.counter.proofs.Wraps.{wrap_wrap, wrap_small, wrap_lt}
use Rattle.counter.proofs.Runs.{Aligned, in_run, run_end, start_aligned, runs_aligned}
use Rattle.counter.proofs.Lines.{by_lasts, lines_some, stretch, not_stretch, endless}
use Rattle.strip.specs.Fetch.{fetch_address, fetch_place, fetched_byte}
use Rattle.strip.specs.Steps.{Fitted}
use Rattle.strip.proofs.Places.{place_moves}

-- byte j of line n is fetch n × W + j
pub address_of_line : (s : Settings) (n j : ℕ) → j < width s.look → fetch_address s (n * width s.look + j) ≡ (bytes_on s j (line_start s n)).address
unfolding address_of fetch_address
address_of_line s n j h = rw (digits_div n h, digits_mod n h)

module _ (s : Settings) where
  abbrev w : ℕ
  w = width s.look

  abbrev L : ℕ
  L = line_lasts s

  -- line n ends within the frame's 192 lines
  line_within : (n : ℕ) → n < 192 → n * w + w ≤ 192 * w
  line_within n h = rw (← suc-mul n w) (mul-le-mul_right w h)

  -- ---- stretch by stretch: where the stretch of line n begins
  abbrev pub stretch_at : ℕ → ℕ
  stretch_at n = wrap (offset s * 512) (line_step s * (n / L))

  -- the first line of the next stretch, within the frame
  record Next (l n : ℕ) : Type 0 where
    pub within : n + l ≤ 192
    pub low : (n + l) % l ≡ 0
    pub high : (n + l) / l ≡ n / l + 1

  next : (n : ℕ) → n < 192 → n % L ≡ 0 → Next L n
  next n h e =
      by_lasts s (λ l. n % l ≡ 0 → Next l n)
      (λ z. record { within = omega arith; low = omega arith; high = omega arith })
      (λ z. record { within = omega arith; low = omega arith; high = omega arith })
      (λ z. record { within = omega arith; low = omega arith; high = omega arith })
      (λ z. record { within = omega arith; low = omega arith; high = omega arith })
      (λ z. record { within = omega arith; low = omega arith; high = omega arith }) e

  -- in bytes of the strip: the lines of a stretch end within the frame, and the first of them ends before the others
  group_end : (n : ℕ) → n < 192 → n % L ≡ 0 → (n + L) * w ≤ 192 * w
  group_end n h e = mul-le-mul_right w (next n h e).within

  group_first : (n : ℕ) → n * w + w ≤ (n + L) * w
  group_first n = rw (← suc-mul n w) (mul-le-mul_right w (omega (arith, lines_some s)))

  pub group_fits : (n : ℕ) {wide lasts room : ℕ} → wide ≡ w → lasts ≡ L → n < 192 → n % L ≡ 0 → 192 * w ≤ room → (n * wide + wide ≤ (n + lasts) * wide) × ((n + lasts) * wide ≤ room)
  group_fits n ew el h e r = rw (ew, el) (group_first n, le_trans (group_end n h e) r)

  -- no more bytes are read than a frame has
  pub read_small : (n : ℕ) → n ≤ 192 → w * (n / L) ≤ 32 * 192
  read_small n h = mul-le-mul (width_le s.look) (by_lasts s (λ l. n / l ≤ 192) (omega arith) (omega arith) (omega arith) (omega arith) (omega arith))

  -- the lines from there on are of one stretch
  same_stretch : (n i : ℕ) → n % L ≡ 0 → n ≤ i → i < n + L → stretch_at i ≡ stretch_at n
  same_stretch n i z h l =
      let e : i ≡ n / L * L + (i - n) = omega (arith, div-add-mod' n L) in
      ap (λ (q : ℕ). wrap (offset s * 512) (line_step s * q)) (ap (λ (m : ℕ). m / L) e ∙ digits_div (n / L) (omega arith))

  -- what the loop over stretches knows before line n: the address of the next, the bytes that were read, and those that are stored
  pub record Stretched (image old new : List ℕ) (address touched n : ℕ) : Type 0 where
    pub within : n ≤ 192
    pub whole : n % L ≡ 0
    pub here : address ≡ stretch_at n
    pub read : touched ≡ w * (n / L)
    pub stored : Filled (fetched_byte s image) 0 (n * w) old new

  module _ (o : one_stretch s ≡ true) where
    -- a stretch lies in one row of 32 places
    pub stretch_room : (n : ℕ) → stretch_at n % 32 + w ≤ 32
    stretch_room n =
        ⊎_elim
        (λ (one : w ≡ 16). of_both (λ (d : ℕ). wrap (offset s * 512) (d * (n / L)) % 32 + w ≤ 32) (clears_b4 s || eqb w 32) (omega (arith, one)) (omega (arith, one)))
        (λ (two : w ≡ 32).
        let e : line_step s ≡ 32 = by_test (clears_b4 s) (λ t. simp t) (λ t. simp (t, eq-eqb w 32 two)) in
        subst (λ (d : ℕ). wrap (offset s * 512) (d * (n / L)) % 32 + w ≤ 32) (sym e) (omega (arith, two)))
        (width_cases s.look)

    fetch_stretch : (k : ℕ) → k < 192 * w → fetch_address s k ≡ wrap (stretch_at (k / w)) (k % w)
    unfolding fetch_address
    fetch_stretch k h =
        stretch s (k / w) (k % w) ((div-lt_iff_lt-mul (width_pos s.look)).1 h) (mod-lt k (width_pos s.look)) o
        ∙ sym (wrap_wrap (offset s * 512) (line_step s * (k / w / L)) (k % w))

    -- so the place of a byte on such a line is its column past the stretch's first
    stretch_place : (n k : ℕ) → n % L ≡ 0 → n * w ≤ k → k < (n + L) * w → k < 192 * w → fetch_place s k ≡ image_place s (stretch_at n) + k % w
    stretch_place n k z h l m =
        let i = same_stretch n (k / w) z ((le-div_iff_mul-le (width_pos s.look)).1 h) ((div-lt_iff_lt-mul (width_pos s.look)).1 l) in
        ap (image_place s) (fetch_stretch k m ∙ ap (λ (a : ℕ). wrap a (k % w)) i)
        ∙ place_moves s (stretch_at n) (k % w) (wrap_lt (offset s * 512) (line_step s * (n / L))) (omega (arith, stretch_room n, mod-lt k (width_pos s.look)))

    -- its bank is fitted where the frame's are
    pub stretch_fitted : (size n : ℕ) → Fitted s size → n < 192 → missing s size (stretch_at n) ≡ false
    stretch_fitted size n f h =
        let inside : n * w < 192 * w = omega (arith, line_within n h, width_pos s.look) in
        let e : fetch_address s (n * w) ≡ stretch_at n =
        fetch_stretch (n * w) inside ∙ ap₂ (λ (i j : ℕ). wrap (stretch_at i) j) (mul-div_cancel n (width_pos s.look)) (mul-mod_left n w)
        ∙ wrap_small (stretch_at n) 0 (omega (arith, wrap_lt (offset s * 512) (line_step s * (n / L)))) ∙ add-zero (stretch_at n) in
        ap (missing s size) (sym e) ∙ f (n * w) inside

    module _ (image : List ℕ) where
      pub first_stretch : {old : List ℕ} {c : Counter} → c ≡ start s → Stretched image old old c.address 0 0
      unfolding start
      first_stretch e = record {
        within = zero-le;
        whole = zero-mod L;
        here = ap (λ (d : Counter). d.address) e ∙ let z : offset s * 512 ≡ wrap (offset s * 512) 0 = omega arith in z ∙ ap (wrap (offset s * 512)) (sym (ap (λ (q : ℕ). line_step s * q) (zero-div L) ∙ mul-zero (line_step s)));
        read = sym (ap (λ (q : ℕ). w * q) (zero-div L) ∙ mul-zero w);
        stored = upto (sym (zero-mul w)) (none _ _ _);
      }

      -- the bytes of the lines that have the places of line n, its own first
      module _ (n : ℕ) (h : n < 192) (whole : n % L ≡ 0) where
        byte_at : (k : ℕ) → n * w ≤ k → k < (n + L) * w → fetched_byte s image k ≡ get_or image (image_place s (stretch_at n) + k % w) 0
        byte_at k a b = ap (λ (p : ℕ). get_or image p 0) (stretch_place n k whole a b (omega (arith, group_end n h whole)))

        column : (k : ℕ) → n * w ≤ k → k < n * w + w → k % w ≡ k - n * w
        column k a b = let e : n * w + (k - n * w) ≡ k = omega arith in ap (λ (i : ℕ). i % w) (sym e) ∙ digits_mod n (omega arith)

        abbrev Read : List ℕ → List ℕ → Type 0
        Read y z = Filled (λ k. get_or image (image_place s (stretch_at n) + (k - n * w)) 0) (n * w) (n * w + w) y z

        like_first : {y z : List ℕ} → Read y z → (k : ℕ) → n * w + w ≤ k → k < (n + L) * w → get_or z (n * w + k % w) 0 ≡ fetched_byte s image k
        like_first read k a b =
            let c = mod-lt k (width_pos s.look) in
            let e : n * w + k % w - n * w ≡ k % w = omega arith in
            read.is (n * w + k % w) (omega arith) (omega arith) ∙ ap (λ (j : ℕ). get_or image (image_place s (stretch_at n) + j) 0) e ∙ sym (byte_at k (omega arith) b)

        group : {x y z u : List ℕ} → Filled (fetched_byte s image) 0 (n * w) x y → Read y z → Filled (λ k. get_or z (n * w + k % w) 0) (n * w + w) ((n + L) * w) z u
            → Filled (fetched_byte s image) 0 ((n + L) * w) x u
        group {y = y} {z = z} f read made =
            let first : Filled (fetched_byte s image) (n * w) (n * w + w) y z =
            by (λ k a b. sym (byte_at k a (omega (arith, group_first n)) ∙ ap (λ (j : ℕ). get_or image (image_place s (stretch_at n) + j) 0) (column k a b))) read in
            join zero-le (group_first n) (join zero-le (omega arith) f first) (by (like_first read) made)

      -- one stretch more: `wide`, `lasts`, `from` and `step` stand for W, L, the stretch's place and the way to the next
      pub next_stretch : {x y z u : List ℕ} {address after touched more n wide lasts from step : ℕ} → wide ≡ w → lasts ≡ L → from ≡ image_place s address → step ≡ line_step s
          → Stretched image x y address touched n → n < 192
          → Filled (λ k. get_or image (from + (k - n * wide)) 0) (n * wide) (n * wide + wide) y z
          → Filled (λ k. get_or z (n * wide + k % wide) 0) (n * wide + wide) ((n + lasts) * wide) z u
          → after ≡ wrap address step → more ≡ touched + wide → Stretched image x u after more (n + lasts)
      next_stretch {x} {y} {z} {u} {address} {after} {touched} {more} {n} {wide} {lasts} {from} {step} ew el ef es b h read made a t =
          let e = next n h b.whole in
          let on : (d : ℕ) → d * (n / L) + d ≡ d * ((n + L) / L) = λ d. sym (ap (λ (q : ℕ). d * q) (e.high ∙ add-one (n / L)) ∙ mul-suc d (n / L)) in
          let here : from ≡ image_place s (stretch_at n) = ef ∙ ap (image_place s) b.here in
          rw el
          record {
            within = e.within;
            whole = e.low;
            here = a ∙ ap₂ wrap b.here es ∙ wrap_wrap (offset s * 512) (line_step s * (n / L)) (line_step s) ∙ ap (wrap (offset s * 512)) (on (line_step s));
            read = t ∙ ap₂ ◌+◌ b.read ew ∙ on w;
            stored = group n h b.whole b.stored (rw (here, ew) at read) (rw (el, ew) at made);
          }

  -- ---- run by run, on through the lines' ends
  -- what the loop over runs knows where t bytes are read: the counter, and that they are stored
  pub record Walked (image old new : List ℕ) (c : Counter) (t : ℕ) : Type 0 where
    pub within : t ≤ 192 * 32
    pub whole : t % 16 ≡ 0
    pub here : c ≡ bytes_on s t (start s)
    pub stored : Filled (fetched_byte s image) 0 t old new

  module _ (o : one_stretch s ≡ false) where
    wide : w ≡ 32
    wide = (not_stretch s o).0

    fetch_run : (k : ℕ) → fetch_address s k ≡ (bytes_on s k (start s)).address
    unfolding fetch_address
    fetch_run k = endless s (not_stretch s o).1 (k / w) (k % w) ∙ ap (λ (i : ℕ). (bytes_on s i (start s)).address) (div-add-mod' k w)

    run_aligned : (t : ℕ) → t % 16 ≡ 0 → Aligned (bytes_on s t (start s))
    run_aligned t z = let e : 16 * (t / 16) ≡ t = omega arith in subst (λ (i : ℕ). Aligned (bytes_on s i (start s))) e (runs_aligned s (start s) (start_aligned s) (t / 16))

    pub run_room : (t : ℕ) → t % 16 ≡ 0 → (bytes_on s t (start s)).address % 32 + 16 ≤ 32
    run_room t z = omega (arith, (run_aligned t z).low)

    run_place_lem : (t k : ℕ) → t % 16 ≡ 0 → t ≤ k → k < t + 16 → fetch_place s k ≡ image_place s (bytes_on s t (start s)).address + (k - t)
    run_place_lem t k z h l =
        let c : Counter = bytes_on s t (start s) in
        let e : t + (k - t) ≡ k = omega arith in
        ap (image_place s)
        (fetch_run k ∙ ap (λ (d : Counter). d.address) (ap (λ (i : ℕ). bytes_on s i (start s)) (sym e) ∙ bytes_on_on s t (k - t) (start s) ∙ in_run s c (run_aligned t z) (k - t) (omega arith)))
        ∙ place_moves s c.address (k - t) (run_aligned t z).fits (omega (arith, run_room t z))

    pub run_fitted : (size t : ℕ) → Fitted s size → t < 192 * 32 → missing s size (bytes_on s t (start s)).address ≡ false
    run_fitted size t f h = ap (missing s size) (sym (fetch_run t)) ∙ f t (omega (arith, wide))

    module _ (image : List ℕ) where
      pub first_run : {old : List ℕ} {c : Counter} → c ≡ start s → Walked image old old c 0
      first_run e = record { within = zero-le; whole = refl; here = e ∙ sym (bytes_on_none s (start s)); stored = none _ _ _ }

      -- one run more
      pub next_run : {x y z : List ℕ} {c d : Counter} {t p more : ℕ} → Walked image x y c t → t < 192 * 32 → p ≡ image_place s c.address
          → Filled (λ k. get_or image (p + (k - t)) 0) t (t + 16) y z → d ≡ carry s c → more ≡ t + 16 → Walked image x z d more
      next_run {t = t} {p = p} b h q read e m =
          let at : p ≡ image_place s (bytes_on s t (start s)).address = q ∙ ap (λ (a : Counter). image_place s a.address) b.here in
          record {
            within = omega (arith, m, b.whole);
            whole = omega (arith, m, b.whole);
            here = e ∙ ap (carry s) b.here ∙ sym (run_end s (bytes_on s t (start s)) (run_aligned t b.whole)) ∙ sym (bytes_on_on s t 16 (start s)) ∙ ap (λ (i : ℕ). bytes_on s i (start s)) (sym m);
            stored = upto (sym m)
                (join zero-le (omega arith) b.stored
                (by (λ k a l. ap (λ (i : ℕ). get_or image i 0) (ap (λ (i : ℕ). i + (k - t)) at ∙ sym (run_place_lem t k b.whole a l))) read));
          }
