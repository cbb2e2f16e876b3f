-- Laws of what fetching answers, leaves and reports.
use Rattle.std.proofs.Common.{◌≡◌, ℕ, ◌≤◌, true, List, [], ◌∷◌, length, sym, refl, ◌∙◌, ltb-false, eq-eqb, ne_eqb}
use borrow.Author.Tests.{not-false}
use Rattle.promises.specs.Told.{Told, done}
use Rattle.promises.specs.Order.{first_of}
use Rattle.promises.specs.Written.{written, Filled}
use Rattle.promises.proofs.Orders.{done_when, passing}
use Rattle.promises.proofs.Fills.{filled_written, length_written, leaves_done, leaves_refused, leaves_long}
use Rattle.settings.specs.declared.Settings.{Settings}
use Rattle.settings.specs.Banks.{suited}
use Rattle.settings.specs.Refusals.{strip_length}
use Rattle.strip.specs.Fetch.{fetch_order, fetch_told, fetched_byte, strip_after}
use Rattle.strip.specs.Touched.{touched_bytes, fetch_touched}
use Rattle.strip.specs.Steps.{Fitted}
use Rattle.strip.proofs.Banks.{all_fitted}

-- where nothing is refused, the image's length is suited to M, the strip is long enough, and every bank that is fetched from is fitted
pub record Fits (s : Settings) (image strip : ℕ) : Type 0 where
  pub image_suits : suited s image ≡ true
  pub strip_long : strip_length s.look ≤ strip
  pub banks : Fitted s image

pub order_fits : (s : Settings) (image strip : ℕ) → (first_of (fetch_order s image strip) (done (strip_length s.look))).number ≡ 0 → Fits s image strip
order_fits s image strip e =
    let n = passing (16 ∷ 7 ∷ 17 ∷ []) (fetch_order s image strip) ((done_when (done (strip_length s.look)) refl (fetch_order s image strip) tt).0 e) in
    record { image_suits = not-false _ n.0; strip_long = ltb-false _ _ n.1.0; banks = all_fitted s image (ltb-false _ _ n.1.1.0) }

module _ (s : Settings) (image strip : List ℕ) where
  -- an accepted call
  pub accepted : (fetch_told s image strip).number ≡ 0 → Fits s (length image) (length strip)
  unfolding fetch_told
  accepted e = order_fits s (length image) (length strip) e

  -- the strip after an accepted call, and after a refused one
  pub strip_done : (fetch_told s image strip).number ≡ 0 → strip_after s image strip ≡ written (fetched_byte s image) (strip_length s.look) strip
  unfolding strip_after
  strip_done e = leaves_done (fetch_told s image strip) _ strip e

  pub strip_refused : ((fetch_told s image strip).number ≡ 0 → ⊥) → strip_after s image strip ≡ strip
  unfolding strip_after
  strip_refused h = leaves_refused (fetch_told s image strip) _ strip h

  -- and what they report
  pub touched_done : (fetch_told s image strip).number ≡ 0 → fetch_touched s image strip ≡ touched_bytes s
  unfolding fetch_touched
  touched_done e = simp (eq-eqb _ _ e)

  pub touched_refused : ((fetch_told s image strip).number ≡ 0 → ⊥) → fetch_touched s image strip ≡ 0
  unfolding fetch_touched
  touched_refused h = simp (ne_eqb _ _ h)

  -- a call keeps the strip's length
  pub strip_same_length : length (strip_after s image strip) ≡ length strip
  unfolding strip_after
  strip_same_length = leaves_long (fetch_told s image strip) _ strip (length_written (fetched_byte s image) (strip_length s.look) strip)

  -- where the order refuses, that is told, and the strip stays
  module _ {t : Told} (told : t ≡ first_of (fetch_order s (length image) (length strip)) (done (strip_length s.look))) where
    as_told : t ≡ fetch_told s image strip
    unfolding fetch_told
    as_told = told

    pub kept : (t.number ≡ 0 → ⊥) → (t ≡ fetch_told s image strip) × ((0 ≡ fetch_touched s image strip) × (strip ≡ strip_after s image strip))
    kept h = let no : (fetch_told s image strip).number ≡ 0 → ⊥ = λ z. h (rw as_told z) in (as_told, (sym (touched_refused no), sym (strip_refused no)))

    -- and where it does not, everything fits, and it is done with the bytes that are fetched
    pub all_fits : t.number ≡ 0 → Fits s (length image) (length strip)
    all_fits z = accepted (rw as_told at z)

    pub all_fetched : {new : List ℕ} {n : ℕ} → t.number ≡ 0 → n ≡ touched_bytes s → Filled (fetched_byte s image) 0 (strip_length s.look) strip new
        → (t ≡ fetch_told s image strip) × ((n ≡ fetch_touched s image strip) × (new ≡ strip_after s image strip))
    all_fetched z e f = let d : (fetch_told s image strip).number ≡ 0 = rw as_told at z in (as_told, (e ∙ sym (touched_done d), filled_written (all_fits z).strip_long f ∙ sym (strip_done d)))
