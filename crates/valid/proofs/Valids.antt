-- Laws of the first byte that is not valid.
use Prim.Native.Nat.{ℕ, zero, suc, ◌+◌, ◌≤◌, ◌<◌, min}
use mathlib.Core.Path.{◌≡◌, refl, sym, ap, ◌∙◌}
use mathlib.Core.Bool.{Bool, true, false, not, cond, ◌||◌}
use mathlib.Core.List.{List, [], ◌∷◌}
use mathlib.Core.Logic.{⊎_elim}
use native.Mathlib.Omega.{arith}
use borrow.Author.Tests.{leb-true, leb-false, le-leb, lt-leb, ltb-true, ltb-false}
use lib.Dec.{leb, ltb}
use lib.ListN.{length, get_or, take, get_or-eq_default}
use Rattle.std.specs.Prelude.{Option, Some, None, MatchOption}
use Rattle.std.specs.List.{fold, position, position_or_len}
use Rattle.std.proofs.lemmas.List.{get_or-take, length-take-le}
use Rattle.promises.specs.Choose.{choose}
use Rattle.promises.specs.First.{first_where}
use Rattle.promises.proofs.Choices.{by_test, both_pass, and_false, neither}
use Rattle.promises.proofs.Fills.{lt_or_ge}
use Rattle.promises.proofs.Firsts.{same_first, first_le, first_none, first_at, first_before, first_holds, nowhere}
use Rattle.settings.specs.declared.Look.{Look}
use Rattle.settings.specs.Fields.{external}
use Rattle.settings.specs.Refusals.{strip_length}
use Rattle.valid.specs.Valid.{not_valid, first_not_valid}

module _ (look : Look) (byte : ℕ → ℕ) where
  -- in external text it is the first of 128 or more
  in_external : external look ≡ true → first_where (λ (k : ℕ). leb 128 (byte k)) (strip_length look) ≡ first_not_valid look byte
  unfolding first_not_valid
  in_external e = same_first _ _ (strip_length look) (λ k _. rw e)

  -- there is none in any other mode, and none where every byte is below 128
  pub not_external : external look ≡ false → first_not_valid look byte ≡ strip_length look
  unfolding first_not_valid
  not_external e = first_none _ (strip_length look) (λ k _. rw e)

  pub all_low : ((k : ℕ) → k < strip_length look → leb 128 (byte k) ≡ false) → first_not_valid look byte ≡ strip_length look
  unfolding first_not_valid
  all_low h = first_none _ (strip_length look) (λ k l. rw (h k l) (and_false (external look)))

-- bytes that are alike have the same first
pub same_not_valid : (look : Look) (f g : ℕ → ℕ) → ((k : ℕ) → k < strip_length look → f k ≡ g k) → first_not_valid look f ≡ first_not_valid look g
unfolding first_not_valid
same_not_valid look f g e = same_first _ _ (strip_length look) (λ k h. ap (not_valid look) (e k h))

-- byte k is the first of 128 or more
pub record FirstHigh (look : Look) (byte : ℕ → ℕ) (k : ℕ) : Type 0 where
  pub within : k < strip_length look
  pub high : 128 ≤ byte k
  pub before : (j : ℕ) → j < k → byte j < 128

-- so what is named is the first of 128 or more, in external text
module _ (look : Look) (byte : ℕ → ℕ) where
  pub is_first : first_not_valid look byte < strip_length look → (external look ≡ true) × FirstHigh look byte (first_not_valid look byte)
  unfolding first_not_valid
  is_first l =
      let p : ℕ → Bool = λ k. not_valid look (byte k) in
      let s = both_pass (external look) (leb 128 (byte (first_where p (strip_length look)))) (first_holds p (strip_length look) l) in (
        s.0,
        record {
          within = l;
          high = leb-true _ _ s.1;
          before = λ j m. leb-false 128 (byte j) (rw s.0 at (first_before p (strip_length look) j m));
        },
      )

  pub first_is : (k : ℕ) → external look ≡ true → FirstHigh look byte k → first_not_valid look byte ≡ k
  unfolding first_not_valid
  first_is k e f =
      first_at (λ (j : ℕ). not_valid look (byte j)) k (strip_length look) (λ j m. rw e (lt-leb 128 (byte j) (f.before j m))) (rw e (le-leb 128 (byte k) f.high)) f.within

-- a pass over bytes that finds none of 128 or more
low_cons : (x : ℕ) (xs : List ℕ) → leb 128 x ≡ false → ((k : ℕ) → k < length xs → leb 128 (get_or xs k 0) ≡ false) → (k : ℕ) → k < suc (length xs) → leb 128 (get_or (x ∷ xs) k 0) ≡ false
low_cons x xs e h zero l = e
low_cons x xs e h (suc k) l = h k (omega arith)

low_fold : (a : Bool) (xs : List ℕ) → fold (λ found b. found || leb 128 b) a xs ≡ false → (a ≡ false) × ((k : ℕ) → k < length xs → leb 128 (get_or xs k 0) ≡ false)
low_fold a [] h = (h, λ k l. absurd (omega arith))
low_fold a (x ∷ xs) h =
    let r = low_fold (a || leb 128 x) xs h in let e = neither a (leb 128 x) r.0 in (e.0, low_cons x xs e.1 r.1)

-- the place that a search of a list finds
count_by : (b : Bool) {m n : ℕ} → m ≡ n → cond (not b) (1 + m) 0 ≡ choose b 0 (suc n)
count_by true e = refl
count_by false e = omega arith

first_place : (p : ℕ → Bool) (xs : List ℕ) → position_or_len p xs ≡ first_where (λ (k : ℕ). p (get_or xs k 0)) (length xs)
unfolding first_where
first_place p [] = refl
first_place p (x ∷ xs) = count_by (p x) (first_place p xs)

-- a place, or nothing where it is `none`: so the code has what the promises tell as a number
abbrev Place : ℕ → Option ℕ → ℕ → Type 0
Place none o first = MatchOption o (first ≡ none) (λ k. (first ≡ k) × (k < none))

place_by : (m n none first : ℕ) → m ≤ n → (m ≡ n → first ≡ none) → (m < n → (first ≡ m) × (m < none)) → Place none (cond (ltb m n) (Some m) None) first
place_by m n none first l f g =
    by_test (ltb m n) (λ e. rw e (g (ltb-true m n e))) (λ e. rw e (f (omega (arith, ltb-false m n e))))

-- what is found among the strip's bytes, which are looked at no further than the strip goes
module _ (look : Look) (strip : List ℕ) where
  abbrev high : ℕ → Bool
  high k = leb 128 (get_or strip k 0)

  abbrev pub reach : ℕ
  reach = min (strip_length look) (length strip)

  abbrev seen : List ℕ
  seen = take reach strip

  length_seen : length seen ≡ reach
  length_seen = length-take-le reach strip (omega arith)

  -- no byte past the strip's end is high
  low_whole : ((k : ℕ) → k < reach → high k ≡ false) → (k : ℕ) → k < strip_length look → high k ≡ false
  low_whole h k l =
      ⊎_elim (λ (m : k < length strip). h k (omega arith)) (λ (m : length strip ≤ k). rw (get_or-eq_default strip 0 {n = k} m)) (lt_or_ge k (length strip))

  abbrev pub first : ℕ
  first = first_not_valid look (λ (k : ℕ). get_or strip k 0)

  all_seen : ((k : ℕ) → k < reach → high k ≡ false) → first ≡ strip_length look
  all_seen h = all_low look (λ (k : ℕ). get_or strip k 0) (low_whole h)

  pub none_seen : fold (λ found b. found || leb 128 b) false seen ≡ false → first ≡ strip_length look
  none_seen e = all_seen (λ k l. rw (get_or-take reach strip k 0 l) at ((low_fold false seen e).1 k (rw length_seen l)))

  -- the place that the search finds is that of the strip's first high byte
  first_seen : position_or_len (λ b. leb 128 b) seen ≡ first_where high reach
  first_seen =
      first_place (λ b. leb 128 b) seen
      ∙ ap (first_where (λ (k : ℕ). leb 128 (get_or seen k 0))) length_seen
      ∙ same_first _ _ reach (λ k l. ap (leb 128) (get_or-take reach strip k 0 l))

  pub found : external look ≡ true → Place (strip_length look) (position (λ b. leb 128 b) seen) first
  found e =
      let m : ℕ = first_where high reach in
      rw (first_seen, length_seen)
      (place_by m reach (strip_length look) first (first_le high reach) (λ q. all_seen (nowhere high reach q))
      (λ l. (sym (in_external look (λ (k : ℕ). get_or strip k 0) e) ∙ first_at high m (strip_length look) (first_before high reach) (first_holds high reach l) (omega arith), omega arith)))
