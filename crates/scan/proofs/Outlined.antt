-- What one pass over a sheet finds, in the operations' own words.
use Prim.Native.Nat.{ℕ}
use mathlib.Core.Path.{◌≡◌, refl, ap}
use mathlib.Core.Bool.{true, false}
use lib.ListN.{length}
use Rattle.std.proofs.Common.{Ok, Err}
use Rattle.promises.specs.Told.{done, told}
use Rattle.text.specs.Code.{Reading, got, stuck}
use Rattle.grammar.specs.Sheet.{Fields, front}
use Rattle.grammar.specs.Given.{is_got, told_read, no_fields, fields_read, rule_given, padded}
use Rattle.scan.specs.Steps.{outline_of}
use Rattle.scan.specs.declared.Outline.{Outline}

pub record WholeGiven (o : Reading Fields) (r : Outline) : Type 0 where
  pub is_got_lem : is_got o ≡ true
  pub told_done : done 0 ≡ told_read o
  pub deed : r.deed ≡ length (fields_read o).deed
  pub pins : r.pins ≡ (fields_read o).pins
  pub rule : r.rule ≡ rule_given (fields_read o).rule
  pub writes : r.writes ≡ padded 64 (fields_read o).writes
  pub count : r.write_count ≡ length (fields_read o).writes
  pub tail : r.tail ≡ length (front (fields_read o))
  pub annotations : r.annotations ≡ length (fields_read o).annotations

pub record BrokenGiven (o : Reading Fields) (place : ℕ) : Type 0 where
  pub not_got : is_got o ≡ false
  pub told_broken : told 11 place 0 ≡ told_read o
  pub no_fields_lem : no_fields ≡ fields_read o

pub whole_given : (o : Reading Fields) (r : Outline) → Ok r ≡ outline_of o → WholeGiven o r
whole_given (got v n) r e =
    let w : r ≡ _ = cc in
    record { is_got_lem = refl; told_done = refl; deed = ap (λ (x : Outline). x.deed) w; pins = ap (λ (x : Outline). x.pins) w; rule = ap (λ (x : Outline). x.rule) w; writes = ap (λ (x : Outline). x.writes) w; count = ap (λ (x : Outline). x.write_count) w; tail = ap (λ (x : Outline). x.tail) w; annotations = ap (λ (x : Outline). x.annotations) w }
whole_given (stuck n) r e = absurd cc

pub broken_given : (o : Reading Fields) (place : ℕ) → Err place ≡ outline_of o → BrokenGiven o place
broken_given (got v n) place e = absurd cc
broken_given (stuck n) place e =
    let w : place ≡ n = cc in
    record { not_got = refl; told_broken = ap (λ (k : ℕ). told 11 k 0) w; no_fields_lem = refl }
