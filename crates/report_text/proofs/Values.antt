-- The values of the report's lines, and how long they are.
use Prim.Native.Nat.{ℕ, ◌%◌, ◌≤◌, ◌<◌}
use mathlib.Core.Path.{◌≡◌, refl, ap, ◌∙◌}
use mathlib.Core.List.{List}
use native.Mathlib.Omega.{arith}
use lib.ListN.{length, take, drop, length-append}
use Rattle.settings.specs.declared.Look.{Look}
use Rattle.settings.specs.declared.Name.{Name}
use Rattle.settings.specs.declared.Settings.{Settings}
use Rattle.settings.specs.Modes.{mode_name, named}
use Rattle.settings.proofs.Names.{name_small, name_bytes}
use Rattle.counter.specs.Counter.{start, bytes_on, line_start, address_of}
use Rattle.text.specs.Code.{Reading, got, stuck}
use Rattle.text.specs.Hex.{hex}
use Rattle.grammar.specs.Sheet.{Fields, front, lines}
use Rattle.grammar.specs.Read.{read_sheet}
use Rattle.grammar.specs.Given.{is_got, fields_in}
use Rattle.grammar.proofs.Parts.{accepted_render}
use Rattle.grammar.proofs.Length.{none_longer}

-- the last two of four hex digits are the two of a byte
pub two_digits : (p : ℕ) → p < 256 → take 2 (drop 2 (hex 4 p)) ≡ hex 2 p
two_digits p h = let e : p % 4096 % 256 ≡ p = omega arith in ap (hex 2) e

-- the first address is where the counter starts
pub first_address : (s : Settings) → (start s).address ≡ address_of s 0 0
unfolding address_of bytes_on line_start
first_address s = refl

module _ (l : Look) (r : Name) (e : r ≡ named (mode_name l)) where
  pub name_is : take r.len r.bytes ≡ mode_name l
  name_is = rw e (name_bytes (mode_name l) (name_small l)).0

  pub name_within : r.len ≤ length r.bytes
  name_within = rw e (rw (name_bytes (mode_name l) (name_small l)).1 (name_small l))

  pub name_long : length (take r.len r.bytes) ≡ r.len
  name_long = ap length name_is ∙ rw e

-- a deed has at most 16 bytes and the annotation lines at most 28,159, also those of a refused sheet, which has none
deed_by : (s : List ℕ) (r : Reading Fields) → read_sheet s ≡ r → length (fields_in s).deed ≤ 16
deed_by s (got f n) e = (accepted_render s (ap is_got e)).0.deed_valid.2
deed_by s (stuck n) e = rw e (omega arith)

pub deed_small : (s : List ℕ) → length (fields_in s).deed ≤ 16
deed_small s = deed_by s (read_sheet s) refl

tail_by : (s : List ℕ) (r : Reading Fields) → read_sheet s ≡ r → length (lines (fields_in s).annotations) ≤ 28159
tail_by s (got f n) e =
    let a = accepted_render s (ap is_got e) in
    omega (arith, none_longer s (ap is_got e), ap length a.1, length-append (front (fields_in s)) (lines (fields_in s).annotations))
tail_by s (stuck n) e = rw e (omega arith)

pub tail_small : (s : List ℕ) → length (lines (fields_in s).annotations) ≤ 28159
tail_small s = tail_by s (read_sheet s) refl
