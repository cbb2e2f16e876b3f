-- What is told of a key in two sheets, and where its value lies, case by case in the order of refusals.
use Prim.Native.Nat.{ℕ, ◌+◌, ◌≤◌, zero-le}
use mathlib.Core.Path.{◌≡◌, refl, sym, ap, subst, ◌∙◌}
use mathlib.Core.List.{List}
use mathlib.Core.Bool.{Bool, true, false}
use Rattle.std.proofs.Common.{Option, Some, None}
use borrow.Author.Tests.{ne_eqb}
use denote.Ref.{Bor}
use lib.Dec.{eqb}
use lib.ListN.{length}
use Rattle.promises.specs.Choose.{choose}
use Rattle.promises.specs.Told.{Told, told, done, refused}
use Rattle.promises.specs.Part.{PartOf}
use Rattle.promises.proofs.Choices.{of_both}
use Rattle.promises.proofs.Parts.{part_move}
use Rattle.grammar.specs.Given.{accepted, told_in}
use Rattle.scan.specs.declared.Span.{Span}
use Rattle.lookup.specs.declared.Piece.{Piece}
use Rattle.lookup.specs.Steps.{found_in}
use Rattle.lookup.specs.Lookup.{has_key, holder_told, piece_of, no_piece, held, HeldPart}
use Rattle.lookup.proofs.Founds.{stands}

-- t is told of the record's own sheet, the cover and the key, and the value is the piece p
module _ (own cover key : List ℕ) where
  pub record Case (t : Told) (p : Piece) : Type 0 where
    pub tells : holder_told own cover key ≡ t
    pub holds : held own cover key ≡ p

  pub broken_record : accepted own ≡ false → Case (told 11 (told_in own).place 0) no_piece
  unfolding holder_told held
  broken_record a = record { tells = rw a; holds = rw a }

  pub broken_cover : accepted own ≡ true → accepted cover ≡ false → Case (told 11 (told_in cover).place 0) no_piece
  unfolding holder_told held
  broken_cover a b = record { tells = rw (a, b); holds = rw (a, b) }

  pub in_record : accepted own ≡ true → accepted cover ≡ true → has_key own key ≡ true → Case (done 0) (piece_of false own key)
  unfolding holder_told held
  in_record a b h = record { tells = rw (a, b, h); holds = rw (a, b, h) }

  pub in_cover : accepted own ≡ true → accepted cover ≡ true → has_key own key ≡ false → has_key cover key ≡ true → Case (done 1) (piece_of true cover key)
  unfolding holder_told held
  in_cover a b h g = record { tells = rw (a, b, h, g); holds = rw (a, b, h, g) }

  pub in_neither : accepted own ≡ true → accepted cover ≡ true → has_key own key ≡ false → has_key cover key ≡ false → Case (refused 12) no_piece
  unfolding holder_told held
  in_neither a b h g = record { tells = rw (a, b, h, g); holds = rw (a, b, h, g) }

  -- where it refuses, nothing is held
  pub refused_holds : ((holder_told own cover key).number ≡ 0 → ⊥) → held own cover key ≡ no_piece
  unfolding held
  refused_holds h = rw (ne_eqb (holder_told own cover key).number 0 h)

  -- the piece lies within its sheet
  abbrev Within : Piece → Type 0
  Within p = p.from + p.size ≤ length (choose p.in_cover cover own)

  held_within : Within (held own cover key)
  unfolding held
  held_within =
      of_both Within (eqb (holder_told own cover key).number 0) (of_both Within (has_key own key) (stands own key).within (stands cover key).within) zero-le

-- what is found in a sheet, and the piece that it is
abbrev piece : Bool → Span → Piece
piece b x = record { in_cover = b; from = x.from; size = x.size }

some_is : (t : Bool) (y x : Span) → choose t (Some y) None ≡ Some x → (t ≡ true) × (y ≡ x)
some_is true y x e = (refl, cc)
some_is false y x e = absurd cc

none_is : (t : Bool) (y : Span) → choose t (Some y) None ≡ None → t ≡ false
none_is true y e = absurd cc
none_is false y e = refl

module _ (s key : List ℕ) {r : Option Span} (e : r ≡ found_in s key) where
  pub found_key : (x : Span) → r ≡ Some x → has_key s key ≡ true
  found_key x h = (some_is (has_key s key) _ x (sym e ∙ h)).0

  pub found_piece : (b : Bool) (x : Span) → r ≡ Some x → piece_of b s key ≡ record { in_cover = b; from = x.from; size = x.size }
  found_piece b x h = ap (piece b) (some_is (has_key s key) _ x (sym e ∙ h)).1

  pub lost_key : r ≡ None → has_key s key ≡ false
  lost_key h = none_is (has_key s key) _ (sym e ∙ h)

-- the piece p that is held, of the cover or not: it lies within its sheet, and a part by its numbers is what is promised
module _ (own cover : Bor (List ℕ)) (key : List ℕ) (p : Piece) (e : p ≡ held own.now cover.now key) (b : Bool) (h : p.in_cover ≡ b) where
  pub inside : p.from + p.size ≤ length (choose b cover.now own.now)
  inside = subst (λ (x : Bool). p.from + p.size ≤ length (choose x cover.now own.now)) h (subst (Within own.now cover.now key) (sym e) (held_within own.now cover.now key))

  pub promised : (size : ℕ) (part : Bor (List ℕ)) → size ≡ p.size → PartOf (choose b cover own) part p.from size → HeldPart own cover (held own.now cover.now key) part
  promised size part z q =
      let w = subst (λ (x : Bool). PartOf (choose x cover own) part p.from size) (sym h) q in
      subst (λ (x : Piece). HeldPart own cover x part) e (part_move p.from size p.from p.size refl (sym z) w)
