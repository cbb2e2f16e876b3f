-- The rule, 1 or 2, is read rightly.
use Prim.Native.Nat.{ℕ}
use native.Mathlib.Omega.{arith}
use native.Mathlib.Decide.{ℕ_discrete}
use native.Mathlib.Nat.{le_refl}
use mathlib.Core.Path.{◌≡◌, refl, sym, ap}
use mathlib.Core.List.{List, [], ◌∷◌, ◌++◌}
use borrow.Author.Tests.{eq-eqb, ne_eqb}
use Rattle.settings.specs.declared.Rule.{Rule}
use Rattle.settings.specs.declared.Rule.TheVariants.{One, Two}
use Rattle.text.specs.Code.{Any, Right, Prefix}
use Rattle.text.specs.Combine.{closed, read_closed}
use Rattle.text.proofs.Renamed.{Same, same_right, same_prefix}
use Rattle.text.proofs.Runs.{closed_right, closed_prefix}
use Rattle.text.proofs.Tests.{between_le}
use Rattle.grammar.specs.Sheet.{nl, rule_digit, rule_code}
use Rattle.grammar.specs.Read.{rule_byte, rule_of, read_rule_digit}

-- a run of one byte, 1 or 2, is the digit of a rule
rule_same : Same (closed rule_byte 1 1 10) rule_code rule_of
rule_same = record { valid = λ u h. tt; text = text; back = λ r h. back r }
  where
    text : (u : List ℕ) → (closed rule_byte 1 1 10).Valid u → rule_digit (rule_of u) ∷ nl ≡ u ++ nl
    text [] h = absurd (omega (arith, h.1))
    text (b ∷ c ∷ u) h = absurd (omega (arith, h.2))
    text (b ∷ []) h = ap (λ (x : ℕ). x ∷ nl) (go (ℕ_discrete b 49))
      where
        go : Dec (b ≡ 49) → rule_digit (rule_of (b ∷ [])) ≡ b
        go (yes e) = rw (eq-eqb b 49 e) (sym e)
        go (no k) = rw (ne_eqb b 49 k) (let l = between_le 49 50 b h.0.0 in omega arith)

    back : (r : Rule) → (u : List ℕ) × (closed rule_byte 1 1 10).Valid u × (rule_of u ≡ r)
    back One = (49 ∷ [], ((refl, tt), le_refl 1, le_refl 1), refl)
    back Two = (50 ∷ [], ((refl, tt), le_refl 1, le_refl 1), refl)

pub rule_code_right : (s : List ℕ) → Right Any rule_code s (read_rule_digit s)
rule_code_right s = same_right (closed rule_byte 1 1 10) rule_code rule_of rule_same Any s (read_closed rule_byte 1 1 10 s) (closed_right rule_byte 10 refl 49 refl 1 1 (le_refl 1) s)

pub rule_code_prefix : Prefix rule_code
rule_code_prefix = same_prefix (closed rule_byte 1 1 10) rule_code rule_of rule_same (closed_prefix rule_byte 10 refl 1 1)
