-- Text by tables: the lit dots of a byte's rows, tinted, are the dots that the look shows.
use Prim.Native.Nat.{ℕ, ◌+◌, ◌-◌, ◌*◌, ◌/◌, ◌%◌, ◌≤◌, ◌<◌}
use mathlib.Core.Path.{◌≡◌, refl, sym, ap, ◌∙◌}
use mathlib.Core.Bool.{Bool, true, false}
use mathlib.Core.List.{List}
use native.Mathlib.Omega.{arith}
use lib.Bits.{bit_and, and_mask}
use lib.Dec.{eqb}
use lib.ListN.{get_or}
use Rattle.promises.specs.Choose.{choose}
use Rattle.settings.specs.declared.Look.{Look}
use Rattle.settings.specs.Fields.{graphics}
use Rattle.pixel.specs.Dots.{black, bit, one_bit}
use Rattle.pixel.specs.Text.{lit, ink}
use Rattle.pixel.specs.Picture.{breadth, owner, dot, picture}
use Rattle.pixel.proofs.Owners.{owner_div, dot_mod, in_text}
use Rattle.pixel.proofs.Letters.{text_width}
use Rattle.frame.specs.Steps.{typed}

-- a mask of 255 keeps a small number, and one of 0 drops it
module _ (i : ℕ) (h : i < 8) where
  kept : bit_and (8 - i) 255 ≡ 8 - i
  kept = and_mask (8 - i) 8 ∙ omega arith

  dropped : bit_and (8 - i) 0 ≡ 0
  dropped = and_mask (8 - i) 0 ∙ omega arith

  tint_by : (a : Bool) → (bit_and (8 - i) (choose a 255 0) ≤ 8) × (8 - bit_and (8 - i) (choose a 255 0) ≡ choose a i 8)
  tint_by true = rw kept (omega arith, omega arith)
  tint_by false = rw dropped (omega arith, refl)

  -- eight less what is kept is the ink, or black
  pub tinted : (b j : ℕ) → (bit_and (8 - i) (one_bit 255 0 b j) ≤ 8) × (8 - bit_and (8 - i) (one_bit 255 0 b j) ≡ one_bit i black b j)
  unfolding one_bit
  tinted b j = tint_by (eqb (bit b j) 1)

-- an entry of a table of eight dots a byte
pub entry : (T : List ℕ) (on off : ℕ) → ((n : ℕ) → n < 2048 → get_or T n 0 ≡ one_bit on off (n / 8) (n % 8))
    → (b u : ℕ) → b < 256 → u < 8 → get_or T (b * 8 + u) 0 ≡ one_bit on off b u
entry T on off f b u m n =
    let q : (b * 8 + u) / 8 ≡ b = omega arith in
    let r : (b * 8 + u) % 8 ≡ u = omega arith in
    f (b * 8 + u) (omega arith) ∙ rw (q, r)

-- a dot by the table of masks
pub masked : (T : List ℕ) → ((n : ℕ) → n < 2048 → get_or T n 0 ≡ one_bit 255 0 (n / 8) (n % 8)) → (i b r t : ℕ) → i < 8 → b < 256 → t < 8 → r ≡ b
    → (bit_and (8 - i) (get_or T (r * 8 + t) 0) ≤ 8) × (8 - bit_and (8 - i) (get_or T (r * 8 + t) 0) ≡ one_bit i black b t)
masked T f i b r t h m n e = rw (e, entry T 255 0 f b t m n) (tinted i h b t)

module _ (l : Look) (G S : List ℕ) where
  -- the pixels of byte c of line n
  pub typed_cell : (n c a m : ℕ) → c < 32 → a ≡ ink l (get_or S (n * 32 + c) 0) → m ≡ get_or G (get_or S (n * 32 + c) 0 * 12 + n % 12) 0
      → (k : ℕ) → n * 256 + c * 8 ≤ k → k < n * 256 + c * 8 + 8 → one_bit a black m (k - (n * 256 + c * 8)) ≡ typed l G S k
  unfolding typed
  typed_cell n c a m h ha hm k x y =
      let q : k / 8 ≡ n * 32 + c = omega arith in
      let r : k / 256 % 12 ≡ n % 12 = omega arith in
      let t : k - (n * 256 + c * 8) ≡ k % 8 = omega arith in
      rw (q, r, t, ha, hm)

  -- so the table of rows, by way of the strip, is the picture
  pub typed_picture : (font : List ℕ) → graphics l ≡ false → ((n : ℕ) → n < 3072 → get_or G n 0 ≡ lit l font (n / 12) (n % 12)) → ((j : ℕ) → get_or S j 0 < 256)
      → (k : ℕ) → typed l G S k ≡ picture l font S k
  unfolding typed
  typed_picture font g f byte k =
      let w : breadth l ≡ 8 = ap (λ (n : ℕ). 256 / n) (text_width l g) in
      let i : owner l k ≡ k / 8 = owner_div l k ∙ ap (λ (d : ℕ). k / d) w in
      let t : dot l k ≡ k % 8 = dot_mod l k ∙ ap (λ (d : ℕ). k % d) w in
      rw row (sym (in_text l font S k g ∙ rw (i, t)))
    where
      row : get_or G (get_or S (k / 8) 0 * 12 + k / 256 % 12) 0 ≡ lit l font (get_or S (k / 8) 0) (k / 256 % 12)
      row =
          let h : get_or S (k / 8) 0 < 256 = byte (k / 8) in
          let q : (get_or S (k / 8) 0 * 12 + k / 256 % 12) / 12 ≡ get_or S (k / 8) 0 = omega arith in
          let r : (get_or S (k / 8) 0 * 12 + k / 256 % 12) % 12 ≡ k / 256 % 12 = omega arith in
          f (get_or S (k / 8) 0 * 12 + k / 256 % 12) (omega arith) ∙ rw (q, r)

-- row `row` of byte b in the table of rows
pub row_of : (l : Look) (font : List ℕ) (b r row : ℕ) → row < 12 → r ≡ b → lit l font b row ≡ lit l font ((r * 12 + row) / 12) ((r * 12 + row) % 12)
row_of l font b r row h e =
    let q : (r * 12 + row) / 12 ≡ b = omega arith in
    let p : (r * 12 + row) % 12 ≡ row = omega arith in
    rw (q, p)
