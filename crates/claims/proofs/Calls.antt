-- What the contracts, as the source has them, allow of one call: the words in which the demands speak of calls.
use Prim.Native.Nat.{ℕ}
use mathlib.Core.List.{List}
use contract.Lifetimes.{Lfts}
use Rattle.std.specs.Borrow.{Bor, MutBor}
use Rattle.promises.specs.Fixes.{Allows}
use Rattle.answer.specs.Told.{Answer}
use Rattle.settings.specs.declared.Look.{Look}
use Rattle.settings.specs.declared.Settings.{Settings}
use Rattle.control.proofs.Unique.{play_op}
use Rattle.strip.proofs.Unique.{fetch_op}
use Rattle.frame.proofs.Unique.{draw_op}
use Rattle.screen.proofs.Unique.{show_op}
use Rattle.back.proofs.Unique.{read_back_op}
use Rattle.transpose.proofs.Unique.{to_image_op, to_chip_op}
use Rattle.plans.specs.declared.Placement.{Placement}
use Rattle.canvas.proofs.Unique.{lay_op}
use Rattle.picture.proofs.Unique.{encode_op}
use Rattle.picture_back.proofs.Unique.{decode_op}
use Rattle.intake.specs.declared.Intake.{Intake}
use Rattle.intake.proofs.Unique.{settings_of_op}
use Rattle.lookup.proofs.Unique.{holder_op, value_op}
use Rattle.report_text.specs.declared.Text.{Text}
use Rattle.report_text.proofs.Unique.{report_op, report_after_op}

-- a lent buffer
abbrev pub Lent : Type 0
Lent = Bor (List ℕ)

-- a lent buffer that a call may write
abbrev pub Room : Type 0
Room = MutBor (List ℕ)

-- a lent list of placements, whose entries a call may write
abbrev pub Listed : Type 0
Listed = MutBor (List Placement)

-- `play` with this word and these writes may answer z
abbrev pub Plays : Lfts 1 → ℕ → Lent → Answer → Type 0
Plays κs word writes z = Allows play_op κs (word, (writes, tt)) z (tt, (tt, tt))

-- `fetch` may answer z, report the count t and leave `out` in the strip
abbrev pub Touches : Lfts 2 → Settings → Lent → Room → Answer → ℕ → List ℕ → Type 0
Touches κs s image strip z t out = Allows fetch_op κs (s, (image, (strip, tt))) (record { answer = z; touched = t }) (tt, (tt, (out, tt)))

-- `fetch` may answer z and leave `out` in the strip, whatever it reports
pub record Fetches (κs : Lfts 2) (s : Settings) (image : Lent) (strip : Room) (z : Answer) (out : List ℕ) : Type 0 where
  pub count : ℕ
  pub call : Touches κs s image strip z count out

-- `draw` may answer z and leave `out` in the frame
abbrev pub Draws : Lfts 3 → Look → Lent → Lent → Room → Answer → List ℕ → Type 0
Draws κs l font strip frame z out = Allows draw_op κs (l, (font, (strip, (frame, tt)))) z (tt, (tt, (tt, (out, tt))))

-- `show` may answer z and leave `bytes` in the strip and `pixels` in the frame
abbrev pub Shows : Lfts 4 → Settings → Lent → Lent → Room → Room → Answer → List ℕ → List ℕ → Type 0
Shows κs s image font strip frame z bytes pixels =
    Allows show_op κs (s, (image, (font, (strip, (frame, tt))))) z (tt, (tt, (tt, (bytes, (pixels, tt)))))

-- `read_back` may answer z and leave `out` in the strip
abbrev pub ReadsBack : Lfts 2 → Look → Lent → Room → Answer → List ℕ → Type 0
ReadsBack κs l frame strip z out = Allows read_back_op κs (l, (frame, (strip, tt))) z (tt, (tt, (out, tt)))

-- `to_image` may answer z and leave `out` in the image
abbrev pub ToImage : Lfts 2 → ℕ → Lent → Room → Answer → List ℕ → Type 0
ToImage κs k chip image z out = Allows to_image_op κs (k, (chip, (image, tt))) z (tt, (tt, (out, tt)))

-- `to_chip` may answer z and leave `out` in the chip
abbrev pub ToChip : Lfts 2 → ℕ → Lent → Room → Answer → List ℕ → Type 0
ToChip κs k image chip z out = Allows to_chip_op κs (k, (image, (chip, tt))) z (tt, (tt, (out, tt)))

-- `lay` may answer z, and leave `entries` in the list and `out` on the canvas
abbrev pub Lays : Lfts 3 → Lent → Listed → ℕ → ℕ → Room → Answer → List Placement → List ℕ → Type 0
Lays κs frame ps width height canvas z entries out = Allows lay_op κs (frame, (ps, (width, (height, (canvas, tt))))) z (tt, (entries, (tt, (tt, (out, tt)))))

-- `encode` may answer z and leave `out` in the file
abbrev pub Encodes : Lfts 2 → ℕ → Lent → Room → Answer → List ℕ → Type 0
Encodes κs border frame png z out = Allows encode_op κs (border, (frame, (png, tt))) z (tt, (tt, (out, tt)))

-- `decode` may answer z and leave `out` in the frame
abbrev pub Decodes : Lfts 2 → Lent → Room → Answer → List ℕ → Type 0
Decodes κs png frame z out = Allows decode_op κs (png, (frame, tt)) z (tt, (out, tt))

-- `settings_of` may give r
abbrev pub TakesIn : Lfts 1 → Lent → Intake → Type 0
TakesIn κs sheet r = Allows settings_of_op κs (sheet, tt) r (tt, tt)

-- `holder` of a record's sheet, a cover and a key may answer z
abbrev pub Finds : Lfts 3 → Lent → Lent → Lent → Answer → Type 0
Finds κs own cover key z = Allows holder_op κs (own, (cover, (key, tt))) z (tt, (tt, (tt, tt)))

-- `value` of them may give the part r
abbrev pub Gives : Lfts 2 → Lent → Lent → Lent → Lent → Type 0
Gives κs own cover key r = Allows value_op κs (own, (cover, (key, tt))) r (tt, (tt, (tt, tt)))

-- `report` may give the text r
abbrev pub Reports : Lfts 1 → Lent → Text → Type 0
Reports κs sheet r = Allows report_op κs (sheet, tt) r (tt, tt)

-- `report_after` with this answer may give the text r
abbrev pub ReportsAfter : Lfts 1 → Lent → Answer → Text → Type 0
ReportsAfter κs sheet a r = Allows report_after_op κs (sheet, (a, tt)) r (tt, (tt, tt))

-- the calls of `sheet` stand in crates/sheet/proofs/Annotations.antt: Reads, Deed, Line, Tail
