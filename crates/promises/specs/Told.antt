-- What a clerk is told of an answer: its number, its place and its value (document 01, "The numbers a clerk sees").
use Rattle.std.specs.Prelude.{ℕ}

pub record Told : Type 0 where
  pub number : ℕ
  pub place : ℕ
  pub value : ℕ

abbrev pub told : ℕ → ℕ → ℕ → Told
told n p v = record { number = n; place = p; value = v }

-- done, with its value
abbrev pub done : ℕ → Told
done v = told 0 0 v

-- a refusal that names no place and no value
abbrev pub refused : ℕ → Told
refused n = told n 0 0
