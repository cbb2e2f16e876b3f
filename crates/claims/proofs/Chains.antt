-- Checks that stand alone, handed on by `?` one behind the other: what is told is what their order says.
use Rattle.std.proofs.Common.{ℕ, ◌≡◌, Result, Ok, Err, List, [], ◌∷◌, refl, ap, ◌∙◌, arith}
use lib.Dec.{T}
use borrow.Author.Tests.{ne_eqb}
use Rattle.promises.specs.Told.{done}
use Rattle.promises.specs.Order.{Check, after, first_of, are_refusals}
use Rattle.promises.proofs.Orders.{after_each, in_order}
use Rattle.answer.specs.declared.Refusal.{Refusal}
use Rattle.answer.specs.Told.{Answer, told_by, told_of, Says}
use Rattle.answer.proofs.Answers.{refused_number}

-- what `?` hands on of an answer and of a check behind it: a refusal that was given stays
abbrev pub handed_on : Answer → Result Unit Refusal → Answer
handed_on (Ok v) (Ok u) = Ok v
handed_on (Ok v) (Err r) = Err r
handed_on (Err r) x = Err r

-- so what is told is what it was, but where nothing was refused before and the check's condition holds
pub says_after : (c : Check) (a : Answer) (x : Result Unit Refusal) → Says c x → told_of (handed_on a x) ≡ after c (told_of a)
unfolding after
says_after c (Ok v) (Ok u) s = simp s
says_after c (Ok v) (Err r) s = simp (s.0, s.1)
says_after c (Err r) x s = simp (ne_eqb (told_by r).number 0 (λ z. omega (arith, z, refused_number r)))

-- checks of a list, each by itself
abbrev pub SayEach : List Check → List (Result Unit Refusal) → Type 0
SayEach [] [] = Unit
SayEach [] (x ∷ xs) = ⊥
SayEach (c ∷ cs) [] = ⊥
SayEach (c ∷ cs) (x ∷ xs) = Says c x × SayEach cs xs

-- handed on one behind the other
abbrev pub handed : List (Result Unit Refusal) → Answer → Answer
handed [] a = a
handed (x ∷ xs) a = handed xs (handed_on a x)

says_each : (cs : List Check) (xs : List (Result Unit Refusal)) (a : Answer) → SayEach cs xs → told_of (handed xs a) ≡ after_each cs (told_of a)
says_each [] [] a s = refl
says_each [] (x ∷ xs) a s = absurd s
says_each (c ∷ cs) [] a s = absurd s
says_each (c ∷ cs) (x ∷ xs) a s = says_each cs xs (handed_on a x) s.1 ∙ ap (after_each cs) (says_after c a x s.0)

-- they tell what the order says: each is given exactly when its condition holds and none earlier in its order does
pub says_in_order : (cs : List Check) (xs : List (Result Unit Refusal)) (v : ℕ) → T (are_refusals cs) → SayEach cs xs → told_of (handed xs (Ok v)) ≡ first_of cs (done v)
says_in_order cs xs v t s = says_each cs xs (Ok v) s ∙ in_order (done v) refl cs t
