-- The fields of the control word (document 003), the pins of the pin byte (document 01), and the fetch rule (CR 6).
use Rattle.std.specs.Prelude.{ℕ, ◌/◌, ◌%◌, ◌^◌, Bool, not, ◌&&◌, eqb}
use Rattle.settings.specs.declared.Look.{Look}
use Rattle.settings.specs.declared.Rule.{Rule}
use Rattle.settings.specs.declared.Rule.TheVariants.{One, Two}
use Rattle.settings.specs.declared.Settings.{Settings}

-- a look by its pin byte, and settings by their word, pin byte and rule: where definitions and proofs make one, they make it here
abbrev pub look_of : ℕ → Look
look_of p = record { pins = p }

abbrev pub settings_of : ℕ → ℕ → Rule → Settings
settings_of w p r = record { word = w; look = look_of p; rule = r }

-- a rule's number
abbrev pub rule_number : Rule → ℕ
rule_number One = 1
rule_number Two = 2

-- the same settings under a rule
abbrev pub under : Rule → Settings → Settings
under r s = record { word = s.word; look = s.look; rule = r }

-- n bits of w, from bit `at` on
abbrev pub bits : ℕ → ℕ → ℕ → ℕ
bits w at n = w / 2 ^ at % 2 ^ n

-- The control word, bit 0 first: V0, V1, V2, F0 to F6, P, R0, R1, M0, M1, TY.

-- V2-V0
abbrev pub video_mode : Settings → ℕ
video_mode s = bits s.word 0 3

-- F6-F0
abbrev pub offset : Settings → ℕ
offset s = bits s.word 3 7

-- R1 = 1
abbrev pub fast : Settings → Bool
fast s = eqb (bits s.word 12 1) 1

-- M1, M0
abbrev pub memory : Settings → ℕ
memory s = bits s.word 13 2

-- The pin byte: bit 5 is A/G, then INT/EXT, GM2, GM1, GM0, and CSS in bit 0.

-- A/G = 1
abbrev pub graphics : Look → Bool
graphics l = eqb (bits l.pins 5 1) 1

-- external characters: A/G = 0 and INT/EXT = 1
abbrev pub external : Look → Bool
external l = not (graphics l) && eqb (bits l.pins 4 1) 1

-- GM2-GM0 as a number, and each of the three
abbrev pub gm : Look → ℕ
gm l = bits l.pins 1 3

abbrev pub gm2 : Look → ℕ
gm2 l = bits l.pins 3 1

abbrev pub gm1 : Look → ℕ
gm1 l = bits l.pins 2 1

abbrev pub gm0 : Look → ℕ
gm0 l = bits l.pins 1 1

abbrev pub css : Look → ℕ
css l = bits l.pins 0 1
