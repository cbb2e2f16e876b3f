-- The numbers a clerk sees: what document 01's table, and document 02 after it, tells of each answer, a line for each case; 2 is no longer given, and 28 is the house's.
use Rattle.std.specs.Prelude.{ℕ, ◌≡◌, true, false, Result, Ok, Err}
use Rattle.promises.specs.Told.{Told, told, done, refused}
use Rattle.promises.specs.Order.{Check}
use Rattle.answer.specs.declared.Refusal.{Refusal}
use Rattle.answer.specs.declared.Refusal.TheVariants.{PinsAbove, TextBack, FastRate, ImageLength, NotSuited, FontLength, ShortStrip, ShortFrame, OtherChip, ShortDestination, NoKey, WrongCanvas, ManyPlacements, Stray, BrokenSheet, NoPicture, NotValid, NotFitted, OutsideFrame, Elsewhere}

abbrev pub told_by : Refusal → Told
-- by settings and lengths
told_by PinsAbove = refused 1
told_by TextBack = refused 3
told_by FastRate = refused 4
told_by ImageLength = refused 5
told_by NotSuited = refused 16
told_by FontLength = refused 6
told_by ShortStrip = refused 7
told_by ShortFrame = refused 8
-- of operations added later
told_by OtherChip = refused 13
told_by ShortDestination = refused 14
told_by NoKey = refused 12
told_by WrongCanvas = refused 18
told_by ManyPlacements = refused 19
-- with a place
told_by (Stray p) = told 9 p 0
told_by (BrokenSheet p) = told 11 p 0
told_by (NoPicture p) = told 28 p 0
told_by (NotValid p) = told 15 p 0
told_by (NotFitted p) = told 17 p 0
told_by (OutsideFrame p) = told 20 p 0
told_by (Elsewhere p w) = told 10 p w

-- an operation's answer, which the source has as an alias
abbrev pub Answer : Type 0
Answer = Result ℕ Refusal

abbrev pub told_of : Answer → Told
told_of (Ok v) = done v
told_of (Err r) = told_by r

-- what a check that stands alone gives: its refusal exactly where its condition holds
abbrev pub Says : Check → Result Unit Refusal → Type 0
Says c (Ok u) = c.when ≡ false
Says c (Err r) = (c.when ≡ true) × (told_by r ≡ c.says)
