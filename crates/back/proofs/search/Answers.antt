-- `search`: what `find` gives of the frame's places is the first stray pixel, or none.
use Rattle.std.proofs.Common.{◌≡◌, ℕ, ◌≤◌, ◌<◌, zero-le, Bool, true, false, Option, Some, None, MatchOption, sym, rules}
use Rattle.std.proofs.lemmas.Iterator.{first_from_Range}
use Rattle.promises.specs.First.{first_where}
use Rattle.promises.proofs.Firsts.{first_none, first_at}
use Rattle.settings.specs.Refusals.{frame_length}
use Rattle.back.specs.Stray.{stray, first_stray}
use Rattle.back.proofs.search.Goals as goal

-- in plain terms, of the numbers below n
told : (p : ℕ → Bool) (n : ℕ) (r : Option ℕ)
    → MatchOption r ((k : ℕ) → 0 ≤ k → k < n → false ≡ p k) (λ i. (0 ≤ i) × (i < n) × (true ≡ p i) × ((k : ℕ) → 0 ≤ k → k < i → false ≡ p k))
    → MatchOption r (first_where p n ≡ n) (λ k. (first_where p n ≡ k) × (k < n))
told p n None h = first_none p n (λ j l. sym (h j zero-le l))
told p n (Some x) h = (first_at p x n (λ j l. sym (h.3 j zero-le l)) (sym h.2) h.1, h.1)

pub returns : goal.returns
unfolding first_stray
returns c =
    let p = stray c.args.look c.args.frame.now in
    told p frame_length c.find.result (first_from_Range _ _ _ c.find.result (λ i. true ≡ p i) (λ i. false ≡ p i) c.find.ensures.ran (λ x q k. search rules) (λ x q k. search rules))
