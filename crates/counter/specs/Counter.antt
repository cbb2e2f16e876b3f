-- The SAM's video address counter (document 003, figure 5; document 01, "Which bytes are fetched"; document 02, CR 6).
use Rattle.std.specs.Prelude.{ℕ, zero, suc, ◌+◌, ◌-◌, ◌*◌, ◌/◌, ◌%◌, ◌^◌, Bool, true, false, ◌&&◌, List, [], ◌∷◌, ◌==◌, nat_lt, slice_index}
use Rattle.promises.specs.Choose.{choose}
use Rattle.settings.specs.declared.Rule.{Rule}
use Rattle.settings.specs.declared.Rule.TheVariants.{One, Two}
use Rattle.settings.specs.declared.Settings.{Settings}
use Rattle.settings.specs.Fields.{video_mode, offset}
use Rattle.settings.specs.Modes.{width}
use Rattle.counter.specs.declared.Counter.{Counter}

-- the table by V2-V0: X and Y
abbrev pub times_x : List ℕ
times_x = 1 ∷ 3 ∷ 1 ∷ 2 ∷ 1 ∷ 1 ∷ 1 ∷ 1 ∷ []

abbrev pub times_y : List ℕ
times_y = 12 ∷ 1 ∷ 3 ∷ 1 ∷ 2 ∷ 1 ∷ 1 ∷ 1 ∷ []

-- and what is cleared, by the lowest bit kept above B0: B1-B4 cleared keeps from B5 on, B1-B3 from B4 on, none from B1 on
abbrev pub kept_from : List ℕ
kept_from = 5 ∷ 4 ∷ 5 ∷ 4 ∷ 5 ∷ 4 ∷ 5 ∷ 1 ∷ []

abbrev pub div_x : Settings → ℕ
div_x s = slice_index times_x (video_mode s)

abbrev pub div_y : Settings → ℕ
div_y s = slice_index times_y (video_mode s)

abbrev pub kept : Settings → ℕ
kept s = slice_index kept_from (video_mode s)

-- the 16-bit address b further on: the address after $FFFF comes round to $0000
abbrev pub wrap : ℕ → ℕ → ℕ
wrap a b = (a + b) % 2 ^ 16

-- the counter with the address a and the dividers' counts x and y
abbrev pub counter : ℕ → ℕ → ℕ → Counter
counter a x y = record { address = a; x = x; y = y }

-- the address with B0-B3 at 0
abbrev pub run : Counter → ℕ
run c = c.address / 16 * 16

-- B4
abbrev pub b4 : Counter → ℕ
b4 c = c.address / 16 % 2

-- B4 has gone from 1 to 0: the Y divider counts; on its Yth count it returns to 0 and B5-B15 count up
unfoldable pub fall : Settings → Counter → Counter
fall s c = choose (nat_lt (c.y + 1) (div_y s)) (counter c.address c.x (c.y + 1)) (counter (wrap c.address 32) c.x 0)

-- B0-B3 pass 15: the X divider counts; on its Xth count it returns to 0 and B4 flips
unfoldable pub carry : Settings → Counter → Counter
carry s c =
    choose (nat_lt (c.x + 1) (div_x s)) (counter (run c) (c.x + 1) c.y)
    (choose (run c % 32 == 0) (counter (wrap (run c) 16) 0 c.y) (fall s (counter (run c - 16) 0 c.y)))

-- after each byte B0-B3 count up
unfoldable pub advance : Settings → Counter → Counter
advance s c = choose (c.address % 16 == 15) (carry s c) (counter (wrap c.address 1) c.x c.y)

-- at the end of each line bits are cleared
abbrev pub cleared : Settings → Counter → Counter
cleared s c = counter (c.address / 2 ^ kept s * 2 ^ kept s + c.address % 2) c.x c.y

-- B4 was set, and is so no more
abbrev pub clears_set_b4 : Settings → Counter → Bool
clears_set_b4 s c = b4 c == 1 && b4 (cleared s c) == 0

-- whether clearing a set B4 counts on the Y divider, as B4's falling does: under rule 1 clearing counts on no divider, under rule 2 this does
abbrev pub clearing_counts : Rule → Bool
clearing_counts One = false
clearing_counts Two = true

-- the counter after a line's end
unfoldable pub clear : Settings → Counter → Counter
clear s c = choose (clearing_counts s.rule && clears_set_b4 s c) (fall s (cleared s c)) (cleared s c)

-- n bytes further on in a line
unfoldable pub bytes_on : Settings → ℕ → Counter → Counter
bytes_on s zero c = c
bytes_on s (suc n) c = advance s (bytes_on s n c)

-- at the start B9-B15 are F0-F6, and B0-B8 and both dividers are 0
unfoldable pub start : Settings → Counter
start s = counter (offset s * 512) 0 0

-- the counter as line n starts: each line has W bytes
unfoldable pub line_start : Settings → ℕ → Counter
line_start s zero = start s
line_start s (suc n) = clear s (bytes_on s (width s.look) (line_start s n))

-- the address of byte c of line n
unfoldable pub address_of : Settings → ℕ → ℕ → ℕ
address_of s n c = (bytes_on s c (line_start s n)).address
