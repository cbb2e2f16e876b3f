-- When a contract, as the source has it, takes every input and fixes its outcome: what is shown of every public operation.
use Rattle.std.specs.Prelude.{ℕ, ◌≡◌}
use seplogic.Ra.Ura.{Ura}
use base.Logic.{SProp, ent, sep, emp, fst∗, snd∗, via, mono_r, id⊢}
use prog.Memory.{Memory}
use mir.Syntax.{Symbol}
use prog.Routine.{Routine}
use types.Logic.{Logic}
use contract.Lifetimes.{Lfts}
use contract.Monad.{Fun, conj, conj_l, conj_r, fact, fact_i, fact_use}
use Rattle.std.specs.Borrow.{Bor}
use denote.Triple.Entry.{Args, Res}
use denote.Triple.Clauses.{Ended, Clauses, Lasts, AtExit, at_exit}
use borrow.Fn.World.{World}

-- An operation: its key, its signature T and its clauses are what the compiler makes of the source; `clauses` are its `requires` and
-- `ensures` at any model of the logic. Says is what the `ensures` tells in plain words, and `seen` what a caller sees of the result.
pub record Operation : Type 3 where
  pub key : Symbol
  pub T : Ended
  pub clauses : (M : Type 1) (𝓤 : Ura M) (𝓛 : Logic 𝓤) → (Memory → SProp 𝓤) → (Routine → Fun 𝓤) → Clauses 𝓤 T
  pub Says : (κs : Lfts T.signature.lifetimes) → Args T.signature κs → Res T.signature κs → AtExit T κs → Type 0
  pub O : Type 0
  pub seen : (κs : Lfts T.signature.lifetimes) → Res T.signature κs → O

module _ (o : Operation) where
  abbrev Lifetimes : Type 0
  Lifetimes = Lfts o.T.signature.lifetimes

  abbrev Taken : Lifetimes → Type 0
  Taken κs = Args o.T.signature κs

  abbrev Result : Lifetimes → Type 0
  Result κs = Res o.T.signature κs

  -- the source's clauses at a model
  abbrev at : (w : World) → Clauses w.𝓤 o.T
  at w = o.clauses w.M w.𝓤 w.𝓛 w.𝓜.mem w.𝓡.returns

  -- the contract allows that a call with the arguments a gives the result z and leaves ws behind its `&mut` parameters
  abbrev pub Allows : (κs : Lifetimes) (a : Taken κs) → Result κs → Lasts o.T κs a → Type 0
  Allows κs a z ws = o.Says κs a z (at_exit o.T κs a ws)

  -- takes_all: the `requires` asks nothing
  -- tells: the `ensures` of the source tells what Says says
  -- one-outcome: two outcomes that are allowed for the same arguments agree in what is seen of the result and in all that is lent
  pub record Fixes : Type 2 where
    pub takes_all : (w : World) (κs : Lifetimes) (a : Taken κs) (g : (at w κs a).ghost) → ent w.𝓤 (emp w.𝓤) ((at w κs a).requires g)
    pub tells : (w : World) (κs : Lifetimes) (a : Taken κs) (g : (at w κs a).ghost) (z : Result κs) (e : AtExit o.T κs) → ent w.𝓤 ((at w κs a).ensures g z e) (fact w.𝓤 (o.Says κs a z e))
    pub one_outcome : (κs : Lifetimes) (a : Taken κs) (z z' : Result κs) (ws ws' : Lasts o.T κs a) → Allows κs a z ws → Allows κs a z' ws' → (o.seen κs z ≡ o.seen κs z') × (ws ≡ ws')

-- In the logic's own words: at any model, where the source's `ensures` holds of two outcomes of an operation that is fixed, they coincide.
module _ (o : Operation) (f : Fixes o) (w : World) (κs : Lifetimes o) (a : Taken o κs) (g g' : (at o w κs a).ghost) (z z' : Result o κs) (ws ws' : Lasts o.T κs a) where
  abbrev One : SProp w.𝓤
  One = (at o w κs a).ensures g z (at_exit o.T κs a ws)

  abbrev Other : SProp w.𝓤
  Other = (at o w κs a).ensures g' z' (at_exit o.T κs a ws')

  pub coincide : ent w.𝓤 (conj w.𝓤 One Other) (fact w.𝓤 ((o.seen κs z ≡ o.seen κs z') × (ws ≡ ws')))
  coincide =
      fact_use w.𝓤 (Allows o κs a z ws) (via w.𝓤 One (conj_l w.𝓤 One Other) (f.tells w κs a g z (at_exit o.T κs a ws))) (λ p.
      fact_use w.𝓤 (Allows o κs a z' ws') (via w.𝓤 Other (conj_r w.𝓤 One Other) (f.tells w κs a g' z' (at_exit o.T κs a ws'))) (λ q.
      fact_i w.𝓤 ((o.seen κs z ≡ o.seen κs z') × (ws ≡ ws')) (conj w.𝓤 One Other) (f.one_outcome κs a z z' ws ws' p q)))

-- an operation with its theorem, and what the claim over a list of them is: each is fixed
pub record Fixed : Type 3 where
  pub operation : Operation
  pub theorem : Fixes operation

abbrev pub fixed : {o : Operation} → Fixes o → Fixed
fixed {o} f = record { operation = o; theorem = f }

-- what is seen of a plain result: all of it
abbrev pub whole : {X : Type 0} → X → X
whole z = z

-- what is seen of a returned part: where it lies, and what stands there; left out is its ghost name, of which the machine has nothing
abbrev pub placed : {X : Type 0} → Bor X → (ℕ × ℕ) × X
placed z = (z.ref_ptr, z.now)

-- one clause tells its fact, two in a row tell both, and three all three
pub one_tells : {M : Type 1} (𝓤 : Ura M) (A : Type 0) → ent 𝓤 (fact 𝓤 A) (fact 𝓤 A)
one_tells 𝓤 A = id⊢ 𝓤 (fact 𝓤 A)

pub two_tell : {M : Type 1} (𝓤 : Ura M) (A B : Type 0) → ent 𝓤 (sep 𝓤 (fact 𝓤 A) (fact 𝓤 B)) (fact 𝓤 (A × B))
two_tell 𝓤 A B = fact_use 𝓤 A (fst∗ 𝓤 (fact 𝓤 A) (fact 𝓤 B)) (λ x. fact_use 𝓤 B (snd∗ 𝓤 (fact 𝓤 A) (fact 𝓤 B)) (λ y. fact_i 𝓤 (A × B) (sep 𝓤 (fact 𝓤 A) (fact 𝓤 B)) (x, y)))

pub three_tell : {M : Type 1} (𝓤 : Ura M) (A B C : Type 0) → ent 𝓤 (sep 𝓤 (fact 𝓤 A) (sep 𝓤 (fact 𝓤 B) (fact 𝓤 C))) (fact 𝓤 (A × (B × C)))
three_tell 𝓤 A B C = via 𝓤 (sep 𝓤 (fact 𝓤 A) (fact 𝓤 (B × C))) (mono_r 𝓤 (fact 𝓤 A) (two_tell 𝓤 B C)) (two_tell 𝓤 A (B × C))
