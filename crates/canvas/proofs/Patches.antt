-- Laws of `Patched`: rows of a rectangle copied one after the other.
use Prim.Native.Nat.{ℕ, ◌+◌, ◌-◌, ◌*◌, ◌/◌, ◌%◌, ◌≤◌, ◌<◌}
use mathlib.Core.Path.{◌≡◌, refl, sym, ap, ◌∙◌}
use mathlib.Core.Bool.{true, false, ◌&&◌}
use mathlib.Core.List.{List}
use mathlib.Core.Logic.{⊎_elim}
use native.Mathlib.Omega.{arith}
use native.Mathlib.Nat.{mul-le-mul_right, add-mul, div-add-mod', mod-lt}
use borrow.Author.Tests.{lt-ltb}
use lib.Arith.{digits_lt}
use lib.ListN.{get_or}
use Rattle.promises.specs.Choose.{choose}
use Rattle.promises.specs.Written.{Filled}
use Rattle.promises.proofs.Choices.{and_false}
use Rattle.promises.proofs.Fills.{lt_or_ge}
use Rattle.plans.specs.Cuts.{amid}
use Rattle.plans.proofs.Sides.{amid_yes, amid_before, amid_past, amid_none}
use Rattle.canvas.specs.Patch.{Patched}
use Rattle.canvas.specs.declared.Patch.{Patch}

module _ (frame : List ℕ) (p : Patch) (width : ℕ) where
  abbrev from : ℕ
  from = p.from

  abbrev column : ℕ
  column = p.column

  abbrev line : ℕ
  line = p.line

  abbrev n : ℕ
  n = p.columns

  -- the first i rows of the patch
  abbrev pub rows : ℕ → Patch
  rows i = record p { lines = i }

  -- the pixel at line q, column m, where o stood
  abbrev pixel : ℕ → ℕ → ℕ → ℕ → ℕ
  pixel some q m o = choose (amid column n m && amid line some q) (get_or frame (from + 256 * (q - line) + (m - column)) 0) o

  same : (r s q m o : ℕ) → amid line r q ≡ amid line s q → pixel r q m o ≡ pixel s q m o
  same r s q m o e = rw e

  out_line : (r q m o : ℕ) → amid line r q ≡ false → pixel r q m o ≡ o
  out_line r q m o e = rw (e, and_false (amid column n m))

  out_column : (r q m o : ℕ) → amid column n m ≡ false → pixel r q m o ≡ o
  out_column r q m o e = rw e

  covered : (r q m o : ℕ) → amid column n m ≡ true → amid line r q ≡ true → pixel r q m o ≡ get_or frame (from + 256 * (q - line) + (m - column)) 0
  covered r q m o e f = rw (e, f)

  module _ (i : ℕ) {mid new : List ℕ} (filled : Filled (λ (k : ℕ). get_or frame (from + i * 256 + (k - ((line + i) * width + column))) 0) ((line + i) * width + column) ((line + i) * width + column + n) mid new) (fits : column + n ≤ width) where
    abbrev at : ℕ
    at = (line + i) * width + column

    -- at line q, column m
    module _ (o k q m : ℕ) (is : k ≡ q * width + m) (within : m < width) (old : get_or mid k 0 ≡ pixel i q m o) where
      line_alike : q < line + i → amid line i q ≡ amid line (i + 1) q
      line_alike h = rw (lt-ltb q (line + i) h, lt-ltb q (line + (i + 1)) (omega arith))

      above : q < line + i → get_or new k 0 ≡ pixel (i + 1) q m o
      above h =
          let l = digits_lt {q = q} {m = line + i} {r = m} {c = width} h within in
          filled.before k (omega arith) ∙ old ∙ same i (i + 1) q m o (line_alike h)

      below : line + i < q → get_or new k 0 ≡ pixel (i + 1) q m o
      below h =
          let l = mul-le-mul_right width h in
          filled.after k (omega (arith, l, add-mul (line + i) 1 width)) ∙ old ∙ out_line i q m o (amid_past line i q (omega arith)) ∙ sym (out_line (i + 1) q m o (amid_past line (i + 1) q (omega arith)))

      module _ (same_line : q ≡ line + i) where
        row_is : q * width ≡ (line + i) * width
        row_is = ap (λ (x : ℕ). x * width) same_line

        left_of : m < column → get_or new k 0 ≡ pixel (i + 1) q m o
        left_of h = filled.before k (omega (arith, row_is)) ∙ old ∙ out_column i q m o (amid_before column n m h) ∙ sym (out_column (i + 1) q m o (amid_before column n m h))

        right_of : column + n ≤ m → get_or new k 0 ≡ pixel (i + 1) q m o
        right_of h = filled.after k (omega (arith, row_is)) ∙ old ∙ out_column i q m o (amid_past column n m h) ∙ sym (out_column (i + 1) q m o (amid_past column n m h))

        on : column ≤ m → m < column + n → get_or new k 0 ≡ pixel (i + 1) q m o
        on h l =
            let e : from + i * 256 + (k - at) ≡ from + 256 * (q - line) + (m - column) = omega (arith, row_is) in
            filled.is k (omega (arith, row_is)) (omega (arith, row_is)) ∙ ap (λ (x : ℕ). get_or frame x 0) e
            ∙ sym (covered (i + 1) q m o (amid_yes column n m h l) (amid_yes line (i + 1) q (omega arith) (omega arith)))

        in_line : get_or new k 0 ≡ pixel (i + 1) q m o
        in_line = ⊎_elim left_of (λ h. ⊎_elim (λ l. on h l) right_of (lt_or_ge m (column + n))) (lt_or_ge m column)

      pub at_place : get_or new k 0 ≡ pixel (i + 1) q m o
      at_place = ⊎_elim above (λ h. ⊎_elim below (λ l. in_line (omega arith)) (lt_or_ge (line + i) q)) (lt_or_ge q (line + i))

  -- no row is copied yet
  pub begun : (old : List ℕ) → Patched frame (rows 0) width old old
  begun old = record { long = refl; is = λ k. sym (out_line 0 (k / width) (k % width) (get_or old k 0) (amid_none line (k / width))) }

  -- one row more
  pub row_more : (i : ℕ) {old mid new : List ℕ} → 0 < width → column + n ≤ width → Patched frame (rows i) width old mid
      → Filled (λ (k : ℕ). get_or frame (from + i * 256 + (k - ((line + i) * width + column))) 0) ((line + i) * width + column) ((line + i) * width + column + n) mid new
      → Patched frame (rows (i + 1)) width old new
  row_more i {old} {mid} {new} wide fits q f =
      record { long = f.long ∙ q.long; is = λ k. at_place i f fits (get_or old k 0) k (k / width) (k % width) (sym (div-add-mod' k width)) (mod-lt k wide) (q.is k) }
