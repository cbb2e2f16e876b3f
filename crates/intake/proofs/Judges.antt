-- Laws of what is told of a sheet's settings, along the order 11, 10, 1, 4.
use Prim.Native.Nat.{ℕ, ◌-◌, ◌≤◌}
use mathlib.Core.Path.{◌≡◌, refl, sym, ap, ◌∙◌}
use mathlib.Core.Bool.{Bool, true, false, not}
use mathlib.Core.List.{List}
use native.Mathlib.Omega.{arith}
use borrow.Author.Tests.{eq-eqb, ne_eqb}
use lib.Dec.{ltb}
use lib.ListN.{length, take, replicate, length-append}
use lib.Seq.{take-append_seam}
use Rattle.promises.specs.Choose.{choose}
use Rattle.promises.specs.Told.{Told, told, done}
use Rattle.promises.specs.Order.{first_of}
use Rattle.answer.specs.Told.{Answer, told_of}
use Rattle.control.specs.Control.{played, first_elsewhere, play_told}
use Rattle.text.specs.Code.{Reading, got, stuck}
use Rattle.grammar.specs.Sheet.{Fields}
use Rattle.grammar.specs.Read.{read_sheet}
use Rattle.grammar.specs.Given.{is_got, told_read, told_in, fields_in, padded}
use Rattle.intake.specs.declared.Intake.{Intake}
use Rattle.intake.specs.Taken.{Taken}
use Rattle.intake.specs.Intake.{settings_in, setting_order, intake_told, settings_given, no_settings}

-- the sheet's own answer says whether it is accepted
got_by : (r : Reading Fields) → (told_read r).number ≡ 0 → not (is_got r) ≡ false
got_by (got f n) e = refl
got_by (stuck n) e = absurd (omega arith)

stuck_by : (r : Reading Fields) → ((told_read r).number ≡ 0 → ⊥) → (not (is_got r) ≡ true) × (told_read r ≡ told 11 (told_read r).place 0)
stuck_by (got f n) h = absurd (h refl)
stuck_by (stuck n) h = (refl, refl)

-- a number other than 0 of the writes' answer is that of the first write elsewhere
refused_by : (b : Bool) (t d : Told) → d.number ≡ 0 → ((choose b t d).number ≡ 0 → ⊥) → b ≡ true
refused_by true t d e h = refl
refused_by false t d e h = absurd (h e)

played_by : (b : Bool) (t d : Told) → 1 ≤ t.number → (choose b t d).number ≡ 0 → b ≡ false
played_by true t d h e = absurd (omega arith)
played_by false t d h e = refl

module _ (s : List ℕ) where
  -- 11
  pub told_broken : {t : Told} → t ≡ told_in s → (t.number ≡ 0 → ⊥) → t ≡ intake_told s
  unfolding intake_told
  told_broken {t} e h =
      let b = stuck_by (read_sheet s) (λ z. h (rw e z)) in
      rw b.0 (e ∙ b.1)

  module _ (a : (told_in s).number ≡ 0) where
    -- 10
    pub told_elsewhere : {t : Told} → t ≡ play_told 0 (fields_in s).writes → (t.number ≡ 0 → ⊥) → t ≡ intake_told s
    unfolding intake_told play_told
    told_elsewhere {t} e h =
        let b = refused_by (ltb (first_elsewhere (fields_in s).writes) (length (fields_in s).writes)) (told 10 (first_elsewhere (fields_in s).writes) 0) (done (played 0 (fields_in s).writes)) refl (λ z. h (rw e z)) in
        rw (got_by (read_sheet s) a, b) (rw b at e)

    -- 1, 4, or done
    pub told_settings : {t : Told} → (play_told 0 (fields_in s).writes).number ≡ 0 → t ≡ first_of (setting_order (settings_in s)) (done 0) → t ≡ intake_told s
    unfolding intake_told play_told
    told_settings {t} p e =
        let b = played_by (ltb (first_elsewhere (fields_in s).writes) (length (fields_in s).writes)) (told 10 (first_elsewhere (fields_in s).writes) 0) (done (played 0 (fields_in s).writes)) (omega arith) p in
        rw (got_by (read_sheet s) a, b) e

  -- the settings are given where it is done, and where it is refused none are
  pub given_done : (intake_told s).number ≡ 0 → settings_given s ≡ settings_in s
  unfolding settings_given
  given_done e = simp (eq-eqb _ _ e)

  pub given_refused : ((intake_told s).number ≡ 0 → ⊥) → settings_given s ≡ no_settings
  unfolding settings_given
  given_refused h = simp (ne_eqb _ _ h)

-- what is refused keeps the promise with no settings, and what is done with those of the sheet
module _ (s : List ℕ) (a : Answer) (e : told_of a ≡ intake_told s) {n : ℕ} (many : n ≡ length (fields_in s).annotations) {r : Intake} where
  pub taken_refused : (r.answer ≡ a) × (r.settings ≡ no_settings) × (r.annotations ≡ n) → ((told_of a).number ≡ 0 → ⊥) → Taken s r
  taken_refused p h = record {
    told = ap told_of p.0 ∙ e;
    settings = p.1 ∙ sym (given_refused s (λ z. h (ap (λ (t : Told). t.number) e ∙ z)));
    annotations = p.2 ∙ many;
  }

  pub taken_done : (r.answer ≡ a) × (r.settings ≡ settings_in s) × (r.annotations ≡ n) → (told_of a).number ≡ 0 → Taken s r
  taken_done p h = record {
    told = ap told_of p.0 ∙ e;
    settings = p.1 ∙ sym (given_done s (ap (λ (t : Told). t.number) (sym e) ∙ h));
    annotations = p.2 ∙ many;
  }

-- the writes in their array: the first of them are the sheet's
module _ (w a : List ℕ) (n : ℕ) (e : a ≡ padded 64 w) (h : n ≡ length w) where
  pub writes_are : take n a ≡ w
  writes_are = rw (e, h) (take-append_seam w (replicate (64 - length w) 0))

  pub writes_within : n ≤ length a
  writes_within = rw (e, h, length-append) (omega arith)
