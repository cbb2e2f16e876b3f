-- The loop of `play`: the word after the whole list is the word after the rest of it, played from what the loop has so far.
use Prim.Native.Nat.{ℕ, suc, ◌+◌, ◌-◌, ◌/◌, ◌%◌, ◌^◌, ◌≤◌, ◌<◌}
use mathlib.Core.Path.{◌≡◌, refl, ap, ◌∙◌}
use mathlib.Core.Bool.{Bool, true, false}
use mathlib.Core.List.{List, [], ◌∷◌, ◌++◌}
use native.Mathlib.Nat.{add-zero}
use native.Mathlib.Numerals.{add-one}
use native.Mathlib.Omega.{arith}
use borrow.Author.Tests.{lt-ltb, le-ltb, ltb-false}
use lib.ListN.{length, drop, get_or, drop_of_length-le}
use lib.Seq.{drop-cons}
use Rattle.promises.specs.Choose.{choose}
use Rattle.promises.specs.Told.{told, done}
use Rattle.promises.proofs.Choices.{of_both}
use Rattle.promises.proofs.Orders.{done_when, done_says}
use Rattle.control.specs.Control.{is_control, word_after, played, first_elsewhere, play_order, play_told}
use Rattle.control.proofs.Addresses.{in_word}
use Rattle.control.proofs.Masks.{with_bit_small}

-- i writes of the list are played, and `now` is the word after them
pub record Upto (word : ℕ) (writes : List ℕ) (i now : ℕ) : Type 0 where
  pub within : i ≤ length writes
  pub same_end : played word writes ≡ played now (drop i writes)
  pub none_yet : first_elsewhere writes ≡ i + first_elsewhere (drop i writes)

module _ (word : ℕ) (writes : List ℕ) where
  pub from_start : Upto word writes 0 word
  from_start = record { within = omega arith; same_end = refl; none_yet = omega arith }

  module _ (i now : ℕ) (u : Upto word writes i now) (h : i < length writes) where
    abbrev a : ℕ
    a = get_or writes i 0

    rest : drop i writes ≡ a ∷ drop (i + 1) writes
    rest = rw (add-one, drop-cons writes i 0)

    -- the first elsewhere, seen from this write
    from_here : first_elsewhere writes ≡ i + first_elsewhere (a ∷ drop (i + 1) writes)
    from_here = u.none_yet ∙ ap (λ (l : List ℕ). i + first_elsewhere l) rest

    -- one write more
    pub turn : is_control a ≡ true → Upto word writes (i + 1) (word_after now a)
    unfolding played first_elsewhere
    turn p = record {
      within = omega arith;
      same_end = u.same_end ∙ ap (played now) rest;
      none_yet = let g = rw p at from_here in omega arith;
    }

    -- the write at i is the first elsewhere
    pub stop : is_control a ≡ false → told 10 i word ≡ play_told word writes
    unfolding play_told first_elsewhere
    stop n =
        let g : first_elsewhere writes ≡ i = rw n at from_here ∙ add-zero i in
        simp (g, lt-ltb i (length writes) h)

  -- past the last write
  pub at_end : (i now : ℕ) → Upto word writes i now → length writes ≤ i → done now ≡ play_told word writes
  unfolding play_told first_elsewhere played
  at_end i now u h =
      let e : played word writes ≡ now = rw (drop_of_length-le writes h) at u.same_end in
      let f : first_elsewhere writes ≡ i = rw (drop_of_length-le writes h) at u.none_yet ∙ add-zero i in
      simp (f, le-ltb i (length writes) h, e)

-- a list one longer is one write more
pub played_more : (w : ℕ) (writes : List ℕ) (a : ℕ) → played w (writes ++ (a ∷ [])) ≡ word_after (played w writes) a
unfolding played
played_more w [] a = refl
played_more w (b ∷ writes) a = played_more (word_after w b) writes a

elsewhere_le : (writes : List ℕ) → first_elsewhere writes ≤ length writes
unfolding first_elsewhere
elsewhere_le [] = omega arith
elsewhere_le (a ∷ writes) = of_both (λ (n : ℕ). n ≤ suc (length writes)) (is_control a) (omega (arith, elsewhere_le writes)) (omega arith)

played_by : (w a : ℕ) (writes : List ℕ) (t : Bool) → is_control a ≡ t → w < 2 ^ 16 → choose t (suc (first_elsewhere writes)) 0 ≡ suc (length writes)
    → ((v : ℕ) → v < 2 ^ 16 → first_elsewhere writes ≡ length writes → played v writes < 2 ^ 16) → played (word_after w a) writes < 2 ^ 16
unfolding word_after
played_by w a writes true e h p more = more (word_after w a) (with_bit_small w ((a - 0xFFC0) / 2) (a % 2) h (in_word a e) (omega arith)) (omega arith)
played_by w a writes false e h p more = absurd (omega arith)

-- a list that is not refused leaves a word of sixteen bits
pub played_small : (writes : List ℕ) (w : ℕ) → w < 2 ^ 16 → first_elsewhere writes ≡ length writes → played w writes < 2 ^ 16
unfolding played first_elsewhere
played_small [] w h e = h
played_small (a ∷ writes) w h e = played_by w a writes (is_control a) refl h e (λ v k q. played_small writes v k q)

-- and such a list is told done with it
pub played_done : (w : ℕ) (writes : List ℕ) → w < 2 ^ 16 → (play_told w writes).number ≡ 0 → (play_told w writes ≡ done (played w writes)) × (played w writes < 2 ^ 16)
unfolding play_told
played_done w writes h e =
    let n = (done_when (done (played w writes)) refl (play_order w writes) tt).0 e in
    let l : length writes ≤ first_elsewhere writes = ltb-false _ _ n.0 in
    (done_says (done (played w writes)) refl (play_order w writes) tt e, played_small writes w h (omega (arith, elsewhere_le writes)))
