-- What the code knows of a whole frame before its first fetch: the one way in which its lines end, and how long a row of 32 places and a line's places last.
use Rattle.std.specs.Prelude.{ℕ, ◌*◌, Bool, ◌&&◌, ◌||◌, ◌==◌}
use Rattle.promises.specs.Choose.{choose}
use Rattle.settings.specs.declared.Settings.{Settings}
use Rattle.settings.specs.Modes.{width}
use Rattle.counter.specs.Counter.{div_x, div_y, kept, clearing_counts}

-- a line's end clears B4
abbrev pub clears_b4 : Settings → Bool
clears_b4 s = kept s == 5

-- every line's end counts on the Y divider: clearing a set B4 counts, a line has one run, which leaves B4 set, and B4 is cleared
abbrev pub ends_count : Settings → Bool
ends_count s = clearing_counts s.rule && (width s.look == 16 && clears_b4 s)

-- each line is one stretch of W places: it has one run, or X is 1, and then its two runs lie side by side
abbrev pub one_stretch : Settings → Bool
one_stretch s = width s.look == 16 || div_x s == 1

-- how far such a stretch lies from the one before: the next row of 32 places where a line's end clears B4 or a line has two runs, else the next run
abbrev pub line_step : Settings → ℕ
line_step s = choose (clears_b4 s || width s.look == 32) 32 16

-- how many lines in a row have the places of the first of them: Y where every line's end counts; the whole frame where a line has one run and
-- its end clears B4 uncounted; else X × Y where each line is one stretch, and one where it is not
abbrev pub line_lasts : Settings → ℕ
line_lasts s = choose (ends_count s) (div_y s) (choose (width s.look == 16 && clears_b4 s) 192 (choose (one_stretch s) (div_x s * div_y s) 1))

-- how many fetches a row of 32 places, those of one B5-B15, lasts: those lines where B4 is cleared; else B4 falls with every 32 × X bytes, and Y is 1
abbrev pub row_lasts : Settings → ℕ
row_lasts s = choose (clears_b4 s) (width s.look * line_lasts s) (32 * div_x s)
