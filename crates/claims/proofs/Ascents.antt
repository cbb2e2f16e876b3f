-- RG6 with SAM mode 6 from address 0: line m, byte c has the address 32 × m + c, by one computed walk over the frame.
use Prim.Native.Nat.{ℕ, zero, suc, ◌+◌, ◌*◌, ◌/◌, ◌%◌, ◌<◌}
use mathlib.Core.Path.{◌≡◌, refl, sym, ap, ◌∙◌}
use mathlib.Core.Bool.{Bool, true, ◌&&◌}
use native.Mathlib.Nat.{le_of_suc-le-suc}
use native.Mathlib.Omega.{arith}
use lib.Dec.{T, eqb, eqb→eq}
use Rattle.promises.proofs.Orders.{both}
use Rattle.settings.specs.declared.Settings.{Settings}
use Rattle.settings.specs.declared.Rule.TheVariants.{One}
use Rattle.settings.specs.Fields.{settings_of}
use Rattle.settings.specs.Modes.{width}
use Rattle.counter.specs.declared.Counter.{Counter}
use Rattle.counter.specs.Counter.{fall, carry, advance, clear, bytes_on, start, line_start, address_of}
use Rattle.settings.specs.Banks.{image_place}
use Rattle.strip.specs.Fetch.{place_of}

abbrev pub rg6 : Settings
rg6 = settings_of 0x4006 0x2E One

-- a line's end
abbrev line_on : Counter → Counter
line_on c = clear rg6 (bytes_on rg6 32 c)

lines_on : ℕ → Counter → Counter
lines_on zero c = c
lines_on (suc n) c = line_on (lines_on n c)

-- the walk: n bytes, and n lines of 32, that go up by one from a on
bytes_up : ℕ → Counter → ℕ → Bool
bytes_up zero c a = true
bytes_up (suc n) c a = eqb c.address a && bytes_up n (advance rg6 c) (a + 1)

lines_up : ℕ → Counter → ℕ → Bool
lines_up zero c a = true
lines_up (suc n) c a = bytes_up 32 c a && lines_up n (line_on c) (a + 32)

-- one step first or last
byte_first : (n : ℕ) (c : Counter) → bytes_on rg6 n (advance rg6 c) ≡ advance rg6 (bytes_on rg6 n c)
unfolding bytes_on
byte_first zero c = refl
byte_first (suc n) c = ap (advance rg6) (byte_first n c)

line_first : (n : ℕ) (c : Counter) → lines_on n (line_on c) ≡ line_on (lines_on n c)
unfolding lines_on
line_first zero c = refl
line_first (suc n) c = ap line_on (line_first n c)

bytes_up_lem : (n : ℕ) (c : Counter) (a : ℕ) → T (bytes_up n c a) → (j : ℕ) → j < n → (bytes_on rg6 j c).address ≡ a + j
unfolding bytes_up bytes_on
bytes_up_lem zero c a t j h = absurd (omega arith)
bytes_up_lem (suc n) c a t zero h = eqb→eq c.address a (both (eqb c.address a) (bytes_up n (advance rg6 c) (a + 1)) t).0 ∙ omega arith
bytes_up_lem (suc n) c a t (suc j) h =
    let e = bytes_up_lem n (advance rg6 c) (a + 1) (both (eqb c.address a) (bytes_up n (advance rg6 c) (a + 1)) t).1 j (le_of_suc-le-suc h) in
    ap (λ (x : Counter). x.address) (sym (byte_first j c)) ∙ e ∙ omega arith

lines_up_lem : (n : ℕ) (c : Counter) (a : ℕ) → T (lines_up n c a) → (m j : ℕ) → m < n → j < 32 → (bytes_on rg6 j (lines_on m c)).address ≡ a + 32 * m + j
unfolding lines_up lines_on
lines_up_lem zero c a t m j h l = absurd (omega arith)
lines_up_lem (suc n) c a t zero j h l = bytes_up_lem 32 c a (both (bytes_up 32 c a) (lines_up n (line_on c) (a + 32)) t).0 j l ∙ omega arith
lines_up_lem (suc n) c a t (suc m) j h l =
    let e = lines_up_lem n (line_on c) (a + 32) (both (bytes_up 32 c a) (lines_up n (line_on c) (a + 32)) t).1 m j (le_of_suc-le-suc h) l in
    ap (λ (x : Counter). (bytes_on rg6 j x).address) (sym (line_first m c)) ∙ e ∙ omega arith

start_lines : (n : ℕ) → line_start rg6 n ≡ lines_on n (start rg6)
unfolding line_start lines_on width
start_lines zero = refl
start_lines (suc n) = ap line_on (start_lines n)

walked : T (lines_up 192 (start rg6) 0)
unfolding lines_up bytes_up advance carry fall clear bytes_on start
walked = tt

pub goes_up : (m c : ℕ) → m < 192 → c < 32 → place_of rg6 m c ≡ 32 * m + c
unfolding image_place address_of
goes_up m c h l =
    let e : address_of rg6 m c ≡ 32 * m + c = ap (λ (x : Counter). (bytes_on rg6 c x).address) (start_lines m) ∙ lines_up_lem 192 (start rg6) 0 walked m c h l ∙ (let q : 0 + 32 * m + c ≡ 32 * m + c = omega arith in q) in
    ap (λ (a : ℕ). a / 65536 % 2 * 65536 + a % 65536) e ∙ omega arith
