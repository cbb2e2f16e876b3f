-- Document 01's table of numbers, 1 and 3 to 8, and 16 of document 02: when each is given, from the settings and the lengths of what is lent. 2 is no longer given (CR 5).
use Rattle.std.specs.Prelude.{ℕ, ◌*◌, Bool, not, ◌&&◌, ◌||◌, ltb, eqb}
use Rattle.promises.specs.Told.{refused}
use Rattle.promises.specs.Order.{Check, check}
use Rattle.settings.specs.declared.Look.{Look}
use Rattle.settings.specs.declared.Settings.{Settings}
use Rattle.settings.specs.Fields.{fast, graphics}
use Rattle.settings.specs.Modes.{width, font_size}
use Rattle.settings.specs.Banks.{suited}

-- the lengths that an image may have
unfoldable pub image_fits : ℕ → Bool
image_fits n = eqb n 4096 || (eqb n 8192 || (eqb n 16384 || (eqb n 32768 || eqb n 65536)))

-- the lengths of strip and frame that an operation names
abbrev pub strip_length : Look → ℕ
strip_length l = 192 * width l

abbrev pub frame_length : ℕ
frame_length = 49152

-- 1: pin byte above 63
abbrev pub pins_above : Look → Check
pins_above l = check (ltb 63 l.pins) (refused 1)

-- 3: reading back with A/G = 0
abbrev pub text_back : Look → Check
text_back l = check (not (graphics l)) (refused 3)

-- 4: R1 = 1
abbrev pub fast_rate : Settings → Check
fast_rate s = check (fast s) (refused 4)

-- 5: image length not 4,096, 8,192, 16,384, 32,768 or 65,536
abbrev pub image_length : ℕ → Check
image_length n = check (not (image_fits n)) (refused 5)

-- 16: image length not suited to M
abbrev pub not_suited : Settings → ℕ → Check
not_suited s n = check (not (suited s n)) (refused 16)

-- 6: A/G = 0 and font length not the one asked for
abbrev pub font_length : Look → ℕ → Check
font_length l n = check (not (graphics l) && not (eqb n (font_size l))) (refused 6)

-- 7: strip shorter than 192 × W
abbrev pub short_strip : Look → ℕ → Check
short_strip l n = check (ltb n (strip_length l)) (refused 7)

-- 8: frame shorter than 49,152
abbrev pub short_frame : ℕ → Check
short_frame n = check (ltb n frame_length) (refused 8)
