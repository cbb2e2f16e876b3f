-- A bank transposed piece by piece: how the loops go on and end, and how one bank follows another.
use Prim.Native.Nat.{ℕ, ◌+◌, ◌-◌, ◌*◌, ◌/◌, ◌%◌, ◌<◌, ◌≤◌}
use mathlib.Core.Path.{◌≡◌, sym, ap, ◌∙◌, subst}
use mathlib.Core.Logic.{◌⊎◌, inl, inr, ⊎_elim}
use mathlib.Core.List.{List}
use native.Mathlib.Omega.{arith}
use native.Mathlib.Nat.{div-add-mod', mod-lt, div-lt_iff_lt-mul, le_trans, le_of_eq, suc-mul, add-mul, one-mul, mul-le-mul_right, mul-mod_left, lt_of_mul-lt-mul_right}
use lib.Arith.{digits_lt}
use lib.ListN.{length, get_or, drop, take}
use borrow.Rule.Slice.PartMut.{put_mid}
use Rattle.std.proofs.lemmas.List.{get_or-drop, get_or-take, take_rest}
use Rattle.promises.specs.Written.{Filled}
use Rattle.promises.proofs.Fills.{lt_or_ge, join}
use Rattle.promises.proofs.Copied.{part}
use Rattle.transpose.specs.Chip.{transposed, transposed_in, transposed_byte}
use Rattle.transpose.specs.Transposing.{Crossed}
use Rattle.transpose.proofs.Places.{whole_times, in_bank, stays}

-- a row ends before the next begins
pub rows_apart : {r r' : ℕ} (s : ℕ) → r < r' → r * s + s ≤ r' * s
rows_apart {r} s h = le_trans (le_of_eq (sym (suc-mul r s))) (mul-le-mul_right s h)

-- what the room holds within 64 columns: those before `column` are transposed, and the next 64 in the rows before `row`
abbrev pub Reached : ℕ → ℕ → ℕ → ℕ → Type 0
Reached column row r c = (c < column) ⊎ ((c < column + 64) × (r < row))

abbrev pub Crossing : List ℕ → ℕ → ℕ → ℕ → List ℕ → Type 0
Crossing lent s column row room = (r c : ℕ) → r < s → c < s → Reached column row r c → get_or room (r * s + c) 0 ≡ get_or lent (c * s + r) 0

module _ (lent : List ℕ) {s : ℕ} where
  -- the loop over the rows begins and ends
  pub begun : (column : ℕ) (room : List ℕ) → Crossed lent s column room → Crossing lent s column 0 room
  begun column room x r c hr hc d = x r c hr hc (⊎_elim (λ (l : c < column). l) (λ (l : (c < column + 64) × (r < 0)). absurd (omega (arith, l.1))) d)

  pub ended : (column : ℕ) (room : List ℕ) → Crossing lent s column s room → Crossed lent s (column + 64) room
  ended column room x r c hr hc l = x r c hr hc (inr (l, hr))

  -- one piece more, by what it fills
  filled_more : (column row at : ℕ) (room new : List ℕ) → column + 64 ≤ s → row < s → at ≡ row * s + column
      → Filled (λ k. get_or lent (column * s + row + (k - at) * s) 0) at (at + 64) room new
      → Crossing lent s column row room → Crossing lent s column (row + 1) new
  filled_more column row at room new wide below here f x = is
    where
      earlier : {r c : ℕ} → r < s → c < s → r * s + c < at → Reached column row r c → get_or new (r * s + c) 0 ≡ get_or lent (c * s + r) 0
      earlier {r} {c} hr hc l d = f.before (r * s + c) l ∙ x r c hr hc d

      row_before : (r c : ℕ) → r < s → c < s → r < row → Reached column (row + 1) r c → get_or new (r * s + c) 0 ≡ get_or lent (c * s + r) 0
      row_before r c hr hc l d =
          earlier hr hc (omega (arith, rows_apart s l)) (⊎_elim (λ (q : c < column). inl q) (λ (q : (c < column + 64) × (r < row + 1)). inr (q.0, l)) d)

      row_after : (r c : ℕ) → r < s → c < s → row < r → Reached column (row + 1) r c → get_or new (r * s + c) 0 ≡ get_or lent (c * s + r) 0
      row_after r c hr hc l d =
          f.after (r * s + c) (omega (arith, rows_apart s l)) ∙ x r c hr hc (⊎_elim (λ (q : c < column). inl q) (λ (q : (c < column + 64) × (r < row + 1)). absurd (omega (arith, q.1))) d)

      same_row : (c : ℕ) → c < s → Reached column (row + 1) row c → get_or new (row * s + c) 0 ≡ get_or lent (c * s + row) 0
      same_row c hc d = ⊎_elim (λ (l : c < column). earlier below hc (omega arith) (inl l)) (λ (l : column ≤ c). in_piece l d) (lt_or_ge c column)
        where
          in_piece : column ≤ c → Reached column (row + 1) row c → get_or new (row * s + c) 0 ≡ get_or lent (c * s + row) 0
          in_piece l d =
              let w : c < column + 64 = ⊎_elim (λ (q : c < column). omega arith) (λ (q : (c < column + 64) × (row < row + 1)). q.0) d in
              let i = row * s + c - at in
              let c-is : column + i ≡ c = omega arith in
              f.is (row * s + c) (omega arith) (omega arith)
              ∙ ap (λ (j : ℕ). get_or lent j 0) (omega (arith, add-mul column i s))
              ∙ ap (λ (j : ℕ). get_or lent (j * s + row) 0) c-is

      is : Crossing lent s column (row + 1) new
      is r c hr hc d =
          ⊎_elim (λ (l : r < row). row_before r c hr hc l d)
          (λ (l : row ≤ r). ⊎_elim (λ (m : row < r). row_after r c hr hc m d)
          (λ (m : r ≤ row). let q : row ≡ r = omega arith in subst (λ (j : ℕ). Reached column (row + 1) j c → get_or new (j * s + c) 0 ≡ get_or lent (c * s + j) 0) q (same_row c hc) d)
          (lt_or_ge row r))
          (lt_or_ge r row)

  -- and by what the piece holds now: `at` is where it lies, and ys its bytes
  pub piece_more : (column row at m n : ℕ) (room ys : List ℕ) → column + 64 ≤ s → row < s → at ≡ row * s + column → m ≡ 64 → length room ≡ s * s → length ys ≡ 64
      → n ≡ length lent - (column * s + row) → ((k : ℕ) → k < 64 → get_or ys k 0 ≡ get_or (take n (drop (column * s + row) lent)) (k * s) 0)
      → Crossing lent s column row room → Crossing lent s column (row + 1) (put_mid at m room ys)
  piece_more column row at m n room ys wide below here e size long e-n brings =
      let from = column * s + row in
      let rest : take n (drop from lent) ≡ drop from lent = rw e-n (take_rest lent from) in
      let fits : row * s + (column + 63) < s * s = digits_lt {q = row} {m = s} {r = column + 63} {c = s} below (omega arith) in
      filled_more column row at room (put_mid at m room ys) wide below here
      (part at m (at + 64) room ys (omega arith) (omega arith) (omega arith)
      (λ k l.
      brings k (omega arith)
      ∙ ap (λ (x : List ℕ). get_or x (k * s) 0) rest
      ∙ get_or-drop from lent (k * s) 0
      ∙ ap (λ (i : ℕ). get_or lent (from + i * s) 0) (omega arith)))

  -- all columns: the bank is transposed
  pub bank_crossed : 0 < s → (column : ℕ) (room : List ℕ) → s ≤ column → Crossed lent s column room → (k : ℕ) → k < s * s → get_or room k 0 ≡ get_or lent (transposed s k) 0
  bank_crossed some column room all x k l =
      let r : k / s < s = (div-lt_iff_lt-mul some).1 l in
      let c : k % s < s = mod-lt k some in
      ap (λ (j : ℕ). get_or room j 0) (sym (div-add-mod' k s)) ∙ x (k / s) (k % s) r c (omega arith)

-- ---- bank after bank
module _ (b base : ℕ) (whole : base % b ≡ 0) where
  base_is : base ≡ base / b * b
  base_is = whole_times base b whole

  -- a bank that begins before the end of whole banks ends no later
  pub bank_within : {n : ℕ} → n % b ≡ 0 → base < n → base + b ≤ n
  bank_within {n} e l =
      let n-is = whole_times n b e in
      let q : base / b < n / b = lt_of_mul-lt-mul_right b (omega (arith, base_is, n-is, l)) in
      omega (arith, base_is, n-is, rows_apart b q)

  -- and the next begins where it ends
  pub bank_next : (base + b) % b ≡ 0
  bank_next =
      let next : base + b ≡ (base / b + 1) * b = omega (arith, base_is, add-mul (base / b) 1 b, one-mul b) in
      ap (λ (x : ℕ). x % b) next ∙ mul-mod_left (base / b + 1) b

-- one bank more: base is where it begins, and ys what it holds now
pub bank_more : {s : ℕ} (base m m' : ℕ) (lent old room ys : List ℕ) → 0 < s → base % (s * s) ≡ 0 → length lent % (s * s) ≡ 0 → base < length lent → length lent ≤ length room
    → m ≡ s * s → m' ≡ s * s → length ys ≡ s * s
    → ((k : ℕ) → k < s * s → get_or ys k 0 ≡ get_or (take m' (drop base lent)) (transposed s k) 0)
    → Filled (transposed_byte s lent) 0 base old room → Filled (transposed_byte s lent) 0 (base + s * s) old (put_mid base m room ys)
bank_more {s} base m m' lent old room ys some whole whole' below wide e e' long brings before =
    let fits = bank_within (s * s) base whole whole' below in
    let n-is = whole_times base (s * s) whole in
    join (omega arith) (omega arith) before
    (part base m (base + s * s) room ys (omega arith) (omega arith) (omega arith)
    (λ k l.
    let here : k < s * s = omega arith in
    brings k here
    ∙ get_or-take m' (drop base lent) (transposed s k) 0 (omega (arith, stays s some here, e'))
    ∙ get_or-drop base lent (transposed s k) 0
    ∙ ap (λ (j : ℕ). get_or lent (j + transposed s k) 0) n-is
    ∙ ap (λ (j : ℕ). get_or lent j 0) (sym (in_bank s some (base / (s * s)) here))
    ∙ ap (λ (j : ℕ). get_or lent (transposed_in s (j + k)) 0) (sym n-is)))
