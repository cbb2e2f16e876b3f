-- What is felt of the pins and of the settings, and what is not: P, R0 and TY alter nothing, while M counts (document 01, and document 02, CR 7).
use Prim.Native.Nat.{ℕ}
use mathlib.Core.List.{List, [], ◌∷◌, map}
use lib.Dec.{ltb}
use Rattle.promises.specs.Choose.{choose}
use Rattle.settings.specs.declared.Look.{Look}
use Rattle.settings.specs.declared.Settings.{Settings}
use Rattle.settings.specs.Fields.{rule_number, bits, video_mode, offset, memory, graphics, gm, css}

-- What is felt of the pins, each as a number.
abbrev pub felt_look : List (Look → ℕ)
felt_look =
    -- whether the pin byte is above 63
    (λ (l : Look). choose (ltb 63 l.pins) 1 0)
    -- A/G
    ∷ (λ (l : Look). bits l.pins 5 1)
    -- INT/EXT, while A/G is 0
    ∷ (λ (l : Look). choose (graphics l) 0 (bits l.pins 4 1))
    -- GM2-GM0
    ∷ gm
    -- CSS
    ∷ css
    ∷ []

-- What is felt of the settings.
abbrev pub felt : List (Settings → ℕ)
felt =
    -- V2-V0
    video_mode
    -- F6-F0
    ∷ offset
    -- R1
    ∷ (λ (s : Settings). bits s.word 12 1)
    -- M1, M0
    ∷ memory
    -- the rule
    ∷ (λ (s : Settings). rule_number s.rule)
    -- and what is felt of the pins
    ∷ map (λ (f : Look → ℕ) (s : Settings). f s.look) felt_look

-- What is not felt of the control word, by its bits.
abbrev pub unfelt : List ℕ
unfelt =
    -- P
    10
    -- R0
    ∷ 11
    -- TY
    ∷ 15
    ∷ []
