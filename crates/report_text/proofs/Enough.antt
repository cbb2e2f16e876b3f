-- What lies past the longest sheet and one byte more cannot change a report.
use Prim.Native.Nat.{ℕ, ◌≤◌, ◌<◌}
use mathlib.Core.Path.{◌≡◌, refl, sym, ap}
use mathlib.Core.List.{List}
use mathlib.Core.Logic.{⊎_elim}
use native.Mathlib.Omega.{arith}
use lib.ListN.{length, take, length-append}
use lib.Seq.{take_all, take-take, length-take-le}
use Rattle.promises.proofs.Fills.{lt_or_ge}
use Rattle.text.specs.Code.{Reading, got, stuck, Begins, Longest}
use Rattle.grammar.specs.Sheet.{Fields, render, sheets}
use Rattle.grammar.specs.Read.{read_sheet}
use Rattle.grammar.specs.Given.{is_got}
use Rattle.grammar.proofs.Grammar.{refused_at, read_back}
use Rattle.grammar.proofs.Length.{none_longer}
use Rattle.intake.specs.Intake.{intake_told, settings_in}
use Rattle.report_text.specs.Report.{report_of, text_for}

-- the longest sheet has 28,159 bytes
abbrev pub enough : ℕ
enough = 28160

-- what some accepted sheet begins with is no longer than the longest sheet
begins_short : (w : List ℕ) → Begins sheets w → length w ≤ 28159
begins_short w (v, t, valid, e) =
    omega (arith, none_longer (render v) (ap is_got (read_back v valid)), ap length e, length-append w t)

-- of two lists, one the other's beginning, refused at n and m
module _ (s : List ℕ) (long : enough ≤ length s) (n m : ℕ) (p : Longest sheets s n) (q : Longest sheets (take enough s) m) where
  part_long : length (take enough s) ≡ enough
  part_long = length-take-le enough s long

  n_short : n ≤ 28159
  n_short = omega (arith, begins_short (take n s) p.begun, length-take-le n s p.within)

  m_short : m ≤ 28159
  m_short = omega (arith, begins_short (take m (take enough s)) q.begun, length-take-le m (take enough s) q.within)

  same_place : n ≡ m
  same_place =
      let a : n ≤ m = q.most n (omega (arith, n_short, part_long)) (rw (take-take n enough s (omega (arith, n_short))) p.begun) in
      let b : m ≤ n = p.most m (omega (arith, m_short)) (rw (take-take m enough s (omega (arith, m_short))) at q.begun) in
      omega arith

-- a longer input is read as its first 28,160 bytes are
same_by : (s : List ℕ) → enough ≤ length s → (r t : Reading Fields) → read_sheet s ≡ r → read_sheet (take enough s) ≡ t → t ≡ r
same_by s long (got f n) t e d = absurd (omega (arith, long, none_longer s (ap is_got e)))
same_by s long (stuck n) (got f m) e d = absurd (omega (arith, length-take-le enough s long, none_longer (take enough s) (ap is_got d)))
same_by s long (stuck n) (stuck m) e d = ap stuck (sym (same_place s long n m (refused_at s n e).0 (refused_at (take enough s) m d).0))

pub read_enough : (s : List ℕ) → read_sheet (take enough s) ≡ read_sheet s
read_enough s =
    ⊎_elim
    (λ (h : length s < enough). ap read_sheet (take_all enough s (omega arith)))
    (λ (h : enough ≤ length s). same_by s h (read_sheet s) (read_sheet (take enough s)) refl refl)
    (lt_or_ge (length s) enough)

-- so its report is theirs
pub report_enough : (s : List ℕ) → report_of (take enough s) ≡ report_of s
unfolding text_for intake_told settings_in
report_enough s = rw (read_enough s)
