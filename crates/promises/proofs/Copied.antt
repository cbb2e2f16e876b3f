-- The laws of `copy_from_slice` into a part of a slice: the part is filled from what was copied, and the rest is as before.
use Prim.Native.Nat.{ℕ, ◌+◌, ◌-◌, ◌≤◌, ◌<◌}
use mathlib.Core.Path.{◌≡◌, ap, ◌∙◌}
use mathlib.Core.List.{List, ◌++◌}
use native.Mathlib.Omega.{arith}
use lib.ListN.{length, get_or, drop, take}
use borrow.Rule.Slice.PartMut.{put_mid}
use Rattle.std.proofs.lemmas.List.{get_or_append_left, get_or-append_right, get_or-drop, get_or-take, length-take-le, length-append, length-drop}
use Rattle.promises.specs.Written.{written, Filled}
use Rattle.promises.proofs.Fills.{filled_written}

-- after a write through `room[a..e]`: k is e - a, `old` is what the room held, and `ys` is what the part holds now
pub part : {g : ℕ → ℕ} (a k e : ℕ) (old ys : List ℕ) → length ys ≡ k → a + k ≡ e → e ≤ length old → ((j : ℕ) → j < k → get_or ys j 0 ≡ g (a + j)) → Filled g a e old (put_mid a k old ys)
part {g} a k e old ys w s h f =
    let rest = drop k (drop a old) in
    let front : length (take a old) ≡ a = length-take-le a old (omega arith) in
    record {
      long = simp (length-append, length-drop, front) (omega arith);
      is = λ j l m.
          get_or-append_right (take a old) (ys ++ rest) a j 0 front l
          ∙ get_or_append_left ys rest 0 (j - a) (omega arith)
          ∙ f (j - a) (omega arith)
          ∙ ap g (omega arith);
      before = λ j l. get_or_append_left (take a old) (ys ++ rest) 0 j (omega arith) ∙ get_or-take a old j 0 l;
      after = λ j l.
          get_or-append_right (take a old) (ys ++ rest) a j 0 front (omega arith)
          ∙ get_or-append_right ys rest k (j - a) 0 w (omega arith)
          ∙ get_or-drop k (drop a old) (j - a - k) 0
          ∙ get_or-drop a old (k + (j - a - k)) 0
          ∙ ap (λ (i : ℕ). get_or old i 0) (omega arith);
    }

-- after `room[a..e].copy_from_slice(src)`
pub copied : (a k e : ℕ) (old src ys : List ℕ) → ys ≡ src → length src ≡ k → a + k ≡ e → e ≤ length old → Filled (λ j. get_or src (j - a) 0) a e old (put_mid a k old ys)
copied a k e old src ys q w s h =
    part a k e old ys (ap length q ∙ w) s h (λ j l. ap (λ (x : List ℕ). get_or x j 0) q ∙ ap (λ (i : ℕ). get_or src i 0) (omega arith))

-- after `room[a..e].copy_from_slice(&src[f..f + k])`: m is k, as the goal has it
pub copied_range : (a k e f m : ℕ) (old src ys : List ℕ) → ys ≡ take m (drop f src) → length ys ≡ k → m ≡ k → a + k ≡ e → e ≤ length old → Filled (λ j. get_or src (f + (j - a)) 0) a e old (put_mid a k old ys)
copied_range a k e f m old src ys q w u s h =
    part a k e old ys w s h
    (λ j l.
    ap (λ (x : List ℕ). get_or x j 0) q
    ∙ get_or-take m (drop f src) j 0 (omega arith)
    ∙ get_or-drop f src j 0
    ∙ ap (λ (i : ℕ). get_or src (f + i) 0) (omega arith))

-- after `room[..m].copy_from_slice(&src[..m])`, where n is how the promise has m
pub copied_front : (m n : ℕ) (old src ys : List ℕ) → ys ≡ take m src → m ≡ n → n ≤ length src → n ≤ length old → ys ++ drop m old ≡ written (λ j. get_or src j 0) n old
copied_front m n old src ys q e w h =
    let long : length ys ≡ m = ap length q ∙ length-take-le m src (omega arith) in
    filled_written h (part 0 m n old ys long (omega arith) h (λ j l. ap (λ (x : List ℕ). get_or x j 0) q ∙ get_or-take m src j 0 l ∙ ap (λ (i : ℕ). get_or src i 0) (omega arith)))
