-- Laws of answers: an answer is known by what is told of it.
use Rattle.std.proofs.Common.{ℕ, ◌≡◌, ◌<◌, true, false, Result, Ok, Err, eqb, refl, sym, ap, ◌∙◌, arith, lit<}
use Rattle.promises.specs.Choose.{choose}
use Rattle.promises.specs.Told.{Told}
use Rattle.promises.specs.Order.{Check}
use Rattle.answer.specs.declared.Refusal.{Refusal}
use Rattle.answer.specs.declared.Refusal.TheVariants.{PinsAbove, TextBack, FastRate, ImageLength, NotSuited, FontLength, ShortStrip, ShortFrame, OtherChip, ShortDestination, NoKey, WrongCanvas, ManyPlacements, Stray, BrokenSheet, NoPicture, NotValid, NotFitted, OutsideFrame, Elsewhere}
use Rattle.answer.specs.Told.{Answer, told_by, told_of, Says}

-- the answer of which this is told
of_told : Told → Answer
of_told t =
    choose (eqb t.number 0) (Ok t.value)
    (choose (eqb t.number 1) (Err PinsAbove)
    (choose (eqb t.number 3) (Err TextBack)
    (choose (eqb t.number 4) (Err FastRate)
    (choose (eqb t.number 5) (Err ImageLength)
    (choose (eqb t.number 6) (Err FontLength)
    (choose (eqb t.number 7) (Err ShortStrip)
    (choose (eqb t.number 8) (Err ShortFrame)
    (choose (eqb t.number 9) (Err (Stray t.place))
    (choose (eqb t.number 10) (Err (Elsewhere t.place t.value))
    (choose (eqb t.number 11) (Err (BrokenSheet t.place))
    (choose (eqb t.number 12) (Err NoKey)
    (choose (eqb t.number 13) (Err OtherChip)
    (choose (eqb t.number 14) (Err ShortDestination)
    (choose (eqb t.number 15) (Err (NotValid t.place))
    (choose (eqb t.number 16) (Err NotSuited)
    (choose (eqb t.number 17) (Err (NotFitted t.place))
    (choose (eqb t.number 18) (Err WrongCanvas)
    (choose (eqb t.number 19) (Err ManyPlacements)
    (choose (eqb t.number 20) (Err (OutsideFrame t.place)) (Err (NoPicture t.place)))))))))))))))))))))

back : (a : Answer) → of_told (told_of a) ≡ a
unfolding of_told
back (Ok v) = refl
back (Err PinsAbove) = refl
back (Err TextBack) = refl
back (Err FastRate) = refl
back (Err ImageLength) = refl
back (Err NotSuited) = refl
back (Err FontLength) = refl
back (Err ShortStrip) = refl
back (Err ShortFrame) = refl
back (Err OtherChip) = refl
back (Err ShortDestination) = refl
back (Err NoKey) = refl
back (Err WrongCanvas) = refl
back (Err ManyPlacements) = refl
back (Err (Stray p)) = refl
back (Err (BrokenSheet p)) = refl
back (Err (NoPicture p)) = refl
back (Err (NotValid p)) = refl
back (Err (NotFitted p)) = refl
back (Err (OutsideFrame p)) = refl
back (Err (Elsewhere p w)) = refl

-- no answer is told by 2: that number is no longer given
pub not_two : (a : Answer) → (told_of a).number ≡ 2 → ⊥
unfolding of_told
not_two a e =
    let x : of_told (told_of a) ≡ Err (NoPicture (told_of a).place) = simp e in
    let y : (told_of a).number ≡ 28 = ap (λ (b : Answer). (told_of b).number) (sym (back a) ∙ x) in
    omega arith

-- two answers that are told alike are one
pub told_alike : {a b : Answer} → told_of a ≡ told_of b → a ≡ b
told_alike {a} {b} e = sym (back a) ∙ ap of_told e ∙ back b

-- so two answers of which a promise tells the same are one
pub one_answer : {a b : Answer} {t : Told} → told_of a ≡ t → told_of b ≡ t → a ≡ b
one_answer p q = told_alike (p ∙ sym q)

-- two refusals that are told alike are one
refusal_in : Answer → Refusal
refusal_in (Ok v) = PinsAbove
refusal_in (Err r) = r

pub one_refusal : (q r : Refusal) → told_by q ≡ told_by r → q ≡ r
unfolding refusal_in
one_refusal q r e = let h : ◌≡◌ {A = Answer} (Err q) (Err r) = told_alike e in ap refusal_in h

-- a check that stands alone gives one outcome
pub one_says : (c : Check) (x y : Result Unit Refusal) → Says c x → Says c y → x ≡ y
one_says c (Ok u) (Ok v) p q = refl
one_says c (Ok u) (Err r) p q = let z : true ≡ false = sym q.0 ∙ p in cc
one_says c (Err r) (Ok u) p q = let z : true ≡ false = sym p.0 ∙ q in cc
one_says c (Err q) (Err r) p p' = ap (λ (e : Refusal). Err e) (one_refusal q r (p.1 ∙ sym p'.1))

-- every refusal has a number above 0
pub refused_number : (r : Refusal) → 0 < (told_by r).number
refused_number PinsAbove = lit< tt
refused_number TextBack = lit< tt
refused_number FastRate = lit< tt
refused_number ImageLength = lit< tt
refused_number NotSuited = lit< tt
refused_number FontLength = lit< tt
refused_number ShortStrip = lit< tt
refused_number ShortFrame = lit< tt
refused_number OtherChip = lit< tt
refused_number ShortDestination = lit< tt
refused_number NoKey = lit< tt
refused_number WrongCanvas = lit< tt
refused_number ManyPlacements = lit< tt
refused_number (Stray p) = lit< tt
refused_number (BrokenSheet p) = lit< tt
refused_number (NoPicture p) = lit< tt
refused_number (NotValid p) = lit< tt
refused_number (NotFitted p) = lit< tt
refused_number (OutsideFrame p) = lit< tt
refused_number (Elsewhere p w) = lit< tt

-- so no refusal is told as done is
pub not_done : (r : Refusal) → (told_by r).number ≡ 0 → ⊥
not_done r e = omega (arith, refused_number r)
