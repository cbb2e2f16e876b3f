-- CR 8, how many image bytes were touched. "It reports a count: W times the number of lines that are first or whose places differ somewhere from
-- the line before. The count equals that definition, never exceeds 6,144, and is 1,024 for CG1 with SAM mode 1, M1 set and an image of 65,536."
-- "Refusals: none new; a refused call reports 0."
use Prim.Native.Nat.{ℕ, suc, ◌*◌, ◌/◌, ◌<◌, ◌≤◌, zero-le}
use mathlib.Core.Path.{◌≡◌, refl, sym, ap, ap₂, ◌∙◌}
use mathlib.Core.Bool.{true, false, not, true≢false}
use mathlib.Core.List.{List}
use mathlib.Core.Logic.{◌↔◌}
use native.Mathlib.Nat.{mod-lt}
use native.Mathlib.Omega.{arith}
use contract.Lifetimes.{Lfts}
use lib.Dec.{lit<, eqb, ltb}
use lib.ListN.{length, get_or}
use borrow.Author.Tests.{eq-eqb, eqb-true, le-ltb}
use Rattle.promises.specs.Count.{how_many}
use Rattle.promises.proofs.Choices.{of_both, by_test}
use Rattle.promises.proofs.Counts.{fails, holds}
use Rattle.answer.specs.Told.{Answer}
use Rattle.settings.specs.declared.Rule.TheVariants.{One, Two}
use Rattle.settings.specs.declared.Settings.{Settings}
use Rattle.settings.specs.Fields.{bits, video_mode, fast, memory, graphics, gm}
use Rattle.settings.specs.Modes.{width}
use Rattle.settings.specs.Banks.{suited, missing}
use Rattle.settings.specs.Refusals.{image_fits}
use Rattle.settings.proofs.Banks.{other_rows}
use Rattle.counter.specs.Counter.{times_x, times_y, kept_from}
use Rattle.counter.specs.Steps.{clears_b4, line_lasts}
use Rattle.counter.proofs.Lines.{uncounted_lasts, counted_lasts, not_ends}
use Rattle.strip.specs.Fetch.{place_of, fetch_told}
use Rattle.strip.specs.Touched.{line_touched, touched_bytes, fetch_touched}
use Rattle.strip.proofs.Banks.{none_missing, none_refused}
use Rattle.strip.proofs.Fetches.{touched_done, touched_refused}
use Rattle.strip.proofs.Walks.{read_small}
use Rattle.strip.proofs.Touched.{touched_count}
use Rattle.claims.proofs.Calls.{Lent, Room, Touches}
use Rattle.claims.proofs.Demand2.{Done}
use Rattle.claims.proofs.Unfit.{fetch_accepts}

-- ==== The definition in plain words: the first line is counted, and a later one is not exactly where each of its places is that of the line before.
pub first_counted : (s : Settings) → line_touched s 0 ≡ true
unfolding line_touched
first_counted s = refl

pub not_counted : (s : Settings) (n : ℕ) → (line_touched s (suc n) ≡ false) ↔ ((c : ℕ) → c < width s.look → place_of s (suc n) c ≡ place_of s n c)
unfolding line_touched
not_counted s n = (
  λ e c l.
      by_test (eqb (place_of s (suc n) c) (place_of s n c))
      (λ t. eqb-true _ _ t)
      (λ f. absurd (true≢false (sym (holds _ (width s.look) c l (ap not f)) ∙ e))),
  λ e. fails _ (width s.look) (λ c l. ap not (eq-eqb _ _ (e c l))),
)

-- ==== The count of a call.
module _ (κs : Lfts 2) (s : Settings) (image : Lent) (strip : Room) (z : Answer) (t : ℕ) (out : List ℕ) (p : Touches κs s image strip z t out) where
  -- done, it is W times the number of those lines, and in plain numbers W times 192 by the lines that have the places of one
  pub counts_lines : Done z → t ≡ width s.look * how_many (line_touched s) 192
  unfolding touched_bytes
  counts_lines d = p.1.0 ∙ touched_done s image.now strip.now (rw p.0 at d)

  pub counts_stretches : Done z → t ≡ width s.look * (192 / line_lasts s)
  counts_stretches d = p.1.0 ∙ touched_done s image.now strip.now (rw p.0 at d) ∙ touched_count s

  -- refused, 0
  pub refused_none : (Done z → ⊥) → t ≡ 0
  refused_none h = p.1.0 ∙ touched_refused s image.now strip.now (λ e. h (rw p.0 e))

  -- never above 6,144
  pub at_most : t ≤ 6144
  unfolding fetch_touched
  at_most = rw p.1.0 (of_both (λ (n : ℕ). n ≤ 6144) (eqb (fetch_told s image.now strip.now).number 0) (rw (touched_count s) (read_small s 192 (omega arith))) zero-le)

-- No byte of an image is felt by it: two calls with the same settings, images of one length and strips of one length report the same.
-- So do images that agree at the fetched places (demand 3).
pub count_window : (s : Settings) (κs κs' : Lfts 2) (image image' : Lent) (strip strip' : Room) (z z' : Answer) (t t' : ℕ) (out out' : List ℕ)
    → length image.now ≡ length image'.now → length strip.now ≡ length strip'.now
    → Touches κs s image strip z t out → Touches κs' s image' strip' z' t' out' → t ≡ t'
unfolding fetch_touched fetch_told
count_window s κs κs' image image' strip strip' z z' t t' out out' i b p q = p.1.0 ∙ rw (i, b) (sym q.1.0)

-- ==== CG1 with SAM mode 1, for every start, under both rules, with any M and any image that is accepted: 1,024.
module _ (s : Settings) (picture : graphics s.look ≡ true) (one : gm s.look ≡ 0) where
  narrow : width s.look ≡ 16
  unfolding width
  narrow = rw (picture, one)

  -- done, with L lines of one line's places
  count_of : (L : ℕ) → line_lasts s ≡ L → (κs : Lfts 2) (image : Lent) (strip : Room) (z : Answer) (t : ℕ) (out : List ℕ) → Touches κs s image strip z t out → Done z → t ≡ 16 * (192 / L)
  count_of L e κs image strip z t out p d = counts_stretches κs s image strip z t out p d ∙ ap₂ (λ (w l : ℕ). w * (192 / l)) narrow e

  module _ (mode : video_mode s ≡ 1) where
    kept : clears_b4 s ≡ false
    kept = ap (λ (v : ℕ). eqb (get_or kept_from v 0) 5) mode

    three_lines : line_lasts s ≡ 3
    three_lines =
        uncounted_lasts s false true (not_ends s kept) (simp (eq-eqb (width s.look) 16 narrow, kept)) (simp (eq-eqb (width s.look) 16 narrow))
        ∙ ap (λ (v : ℕ). get_or times_x v 0 * get_or times_y v 0) mode

    pub cg1_count : (κs : Lfts 2) (image : Lent) (strip : Room) (z : Answer) (t : ℕ) (out : List ℕ) → Touches κs s image strip z t out → Done z → t ≡ 1024
    cg1_count = count_of 3 three_lines

    -- "M1 set and an image of 65,536": then a call is done unless the pin byte is above 63, R1 is 1 or the strip is short
    pub cg1_done : bits s.word 14 1 ≡ 1 → ltb 63 s.look.pins ≡ false → fast s ≡ false → (κs : Lfts 2) (image : Lent) (strip : Room) (z : Answer) (t : ℕ) (out : List ℕ)
        → length image.now ≡ 65536 → 3072 ≤ length strip.now → Touches κs s image strip z t out → Done z
    unfolding image_fits suited missing
    cg1_done m1 low slow κs image strip z t out long room p =
        let all = other_rows (memory s) (mod-lt _ (lit< tt)) (λ e. omega arith) (λ e. omega arith) in
        let fits : suited s 65536 ≡ true = rw (← all.0) in
        let last : missing s 65536 65535 ≡ false = rw (← all.0) in
        let wide : 192 * width s.look ≤ length strip.now = rw narrow room in
        (fetch_accepts κs s image strip z out (record { count = t; call = p })).1
        (low, (slow, (rw long, (rw long (rw fits), (le-ltb _ _ wide, (rw long (none_refused s 65536 (none_missing s 65536 last)), tt))))))

  -- Figure P8: with SAM mode 0 one line is fetched over and over under rule 1, and each row of 16 bytes for twelve lines under rule 2.
  module _ (mode : video_mode s ≡ 0) where
    cleared : clears_b4 s ≡ true
    cleared = ap (λ (v : ℕ). eqb (get_or kept_from v 0) 5) mode

    pub p8_count : s.rule ≡ One → (κs : Lfts 2) (image : Lent) (strip : Room) (z : Answer) (t : ℕ) (out : List ℕ) → Touches κs s image strip z t out → Done z → t ≡ 16
    p8_count r =
        let wide = eq-eqb (width s.look) 16 narrow in
        count_of 192 (uncounted_lasts s true true (rw r) (simp (wide, cleared)) (simp wide))

    pub p8_count_2 : s.rule ≡ Two → (κs : Lfts 2) (image : Lent) (strip : Room) (z : Answer) (t : ℕ) (out : List ℕ) → Touches κs s image strip z t out → Done z → t ≡ 256
    p8_count_2 r = count_of 12 (counted_lasts s (rw r (simp (eq-eqb (width s.look) 16 narrow, cleared))) ∙ ap (λ (v : ℕ). get_or times_y v 0) mode)
