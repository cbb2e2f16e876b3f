-- Demand 3. "Only bytes in the window are felt: images that agree at the fetched places give the same answer, strip and frame; where they
-- differ at a fetched place, each fetch of it differs in the strip and, in graphics, in its pixels, and nothing else does."
-- CR 5 "lets a refusal depend on fetched bytes and on nothing else in the image; its second half reads for two accepted images."
-- Stated once over all settings, of any two calls that the contract of `show` allows, with the same settings, font and buffers.
use Prim.Native.Nat.{ℕ, ◌<◌, ◌≤◌}
use mathlib.Core.Path.{◌≡◌, refl, sym, ap, ◌∙◌}
use mathlib.Core.Bool.{true}
use mathlib.Core.List.{List}
use mathlib.Core.Logic.{◌↔◌}
use contract.Lifetimes.{Lfts}
use lib.ListN.{length, get_or}
use Rattle.promises.specs.Told.{done}
use Rattle.promises.specs.Order.{Check, first_of, NoneHolds}
use Rattle.promises.specs.Written.{Bytes}
use Rattle.promises.proofs.Orders.{done_when}
use Rattle.answer.specs.Told.{Answer, told_of}
use Rattle.answer.proofs.Answers.{one_answer}
use Rattle.settings.specs.declared.Settings.{Settings}
use Rattle.settings.specs.Fields.{graphics}
use Rattle.settings.specs.Modes.{border}
use Rattle.settings.specs.Refusals.{strip_length, frame_length}
use Rattle.strip.specs.Fetch.{fetch_place, fetched_byte, Fetched}
use Rattle.strip.proofs.Windows.{strip_byte, same_told, same_strip}
use Rattle.pixel.specs.Picture.{owner, picture}
use Rattle.pixel.proofs.Owners.{owner_below, depends}
use Rattle.pixel.proofs.Shows.{shows}
use Rattle.frame.specs.Draw.{draw_bytes}
use Rattle.frame.proofs.Draws.{same_bytes}
use Rattle.screen.specs.Show.{show_lengths}
use Rattle.screen.proofs.Shows.{same_shown, told_fetched}
use Rattle.claims.proofs.Calls.{Lent, Room, Fetches, Shows}
use Rattle.claims.proofs.Demand1.{fetch_demand, show_demand}
use Rattle.claims.proofs.Demand2.{Done, shown_byte, shown_pixel}

-- Fetching alone: images of one length that agree at the fetched places give the same answer and strip.
pub fetch_window : (s : Settings) (κs κs' : Lfts 2) (image image' : Lent) (strip strip' : Room) (z z' : Answer) (out out' : List ℕ)
    → length image.now ≡ length image'.now → strip.now ≡ strip'.now
    → ((a : ℕ) → Fetched s a → get_or image.now a 0 ≡ get_or image'.now a 0)
    → Fetches κs s image strip z out → Fetches κs' s image' strip' z' out' → (z ≡ z') × (out ≡ out')
fetch_window s κs κs' image image' strip strip' z z' out out' long same agree p q = (
  one_answer (p.call.0 ∙ same_told s image.now image'.now strip.now long agree) (q.call.0 ∙ rw same),
  p.call.1.1 ∙ rw (same_strip s image.now image'.now strip.now long agree, same) (sym q.call.1.1),
)

-- and where both calls are done, a strip byte differs exactly where the images differ at the place of its fetch; nothing else does.
pub fetch_differs : (s : Settings) (κs κs' : Lfts 2) (image image' : Lent) (strip strip' : Room) (z z' : Answer) (out out' : List ℕ)
    → strip.now ≡ strip'.now
    → Fetches κs s image strip z out → Fetches κs' s image' strip' z' out' → Done z → Done z'
    → ((k : ℕ) → k < strip_length s.look
    → (get_or out k 0 ≡ get_or out' k 0) ↔ (get_or image.now (fetch_place s k) 0 ≡ get_or image'.now (fetch_place s k) 0))
    × ((k : ℕ) → strip_length s.look ≤ k → get_or out k 0 ≡ get_or out' k 0)
fetch_differs s κs κs' image image' strip strip' z z' out out' same p q d d' =
    let a = (fetch_demand κs s image strip z out p).1 in
    let b = (fetch_demand κs' s image' strip' z' out' q).1 in (
      λ k h. let x = ap (λ (l : List ℕ). get_or l k 0) p.call.1.1 ∙ strip_byte s image.now strip.now (rw p.call.0 at d) k h in
          let y = ap (λ (l : List ℕ). get_or l k 0) q.call.1.1 ∙ strip_byte s image'.now strip'.now (rw q.call.0 at d') k h in
          (λ e. sym x ∙ e ∙ y, λ e. x ∙ e ∙ sym y),
      λ k h. a.past k h ∙ ap (λ (l : List ℕ). get_or l k 0) same ∙ sym (b.past k h),
    )

module _
    (s : Settings)
    (κs κs' : Lfts 4) (image image' font font' : Lent) (strip strip' frame frame' : Room)
    (long : length image.now ≡ length image'.now) (same-font : font.now ≡ font'.now) (same-strips : strip.now ≡ strip'.now) (same-frames : frame.now ≡ frame'.now)
    (z z' : Answer) (bytes bytes' pixels pixels' : List ℕ)
    (p : Shows κs s image font strip frame z bytes pixels) (q : Shows κs' s image' font' strip' frame' z' bytes' pixels')
  where
    -- First half: images that agree at the fetched places give the same answer, strip and frame; so a refusal too depends on nothing else in them.
    pub window : ((a : ℕ) → Fetched s a → get_or image.now a 0 ≡ get_or image'.now a 0) → (z ≡ z') × (bytes ≡ bytes') × (pixels ≡ pixels')
    window agree =
        let e = same_shown s image.now image'.now font.now strip.now frame.now long agree in (
          one_answer (p.0 ∙ e.0) (q.0 ∙ rw (same-font, same-strips, same-frames)),
          p.1.0 ∙ e.1 ∙ rw (same-font, same-strips, same-frames) (sym q.1.0),
          p.1.1 ∙ e.2 ∙ rw (same-font, same-strips, same-frames) (sym q.1.1),
        )

    -- Second half, of two accepted images: both calls are done. The place of fetch k is the same in both images.
    module _ (d : Done z) (d' : Done z') where
      byte : (k : ℕ) → k < strip_length s.look → get_or bytes k 0 ≡ get_or image.now (fetch_place s k) 0
      byte = shown_byte κs s image font strip frame z bytes pixels p d

      byte' : (k : ℕ) → k < strip_length s.look → get_or bytes' k 0 ≡ get_or image'.now (fetch_place s k) 0
      byte' = shown_byte κs' s image' font' strip' frame' z' bytes' pixels' q d'

      pixel : (n : ℕ) → n < frame_length → get_or pixels n 0 ≡ picture s.look font.now bytes n
      pixel = shown_pixel κs s image font strip frame z bytes pixels p d

      pixel' : (n : ℕ) → n < frame_length → get_or pixels' n 0 ≡ picture s.look font.now bytes' n
      pixel' n h = shown_pixel κs' s image' font' strip' frame' z' bytes' pixels' q d' n h ∙ ap (λ (f : List ℕ). picture s.look f bytes' n) (sym same-font)

      -- a strip byte differs exactly where the images differ at the place of its fetch
      pub differs_in_strip : (k : ℕ) → k < strip_length s.look
          → (get_or bytes k 0 ≡ get_or bytes' k 0) ↔ (get_or image.now (fetch_place s k) 0 ≡ get_or image'.now (fetch_place s k) 0)
      differs_in_strip k h = (λ e. sym (byte k h) ∙ e ∙ byte' k h, λ e. byte k h ∙ e ∙ sym (byte' k h))

      -- in graphics it differs in at least one pixel that the fetch draws
      pub differs_in_frame : graphics s.look ≡ true → Bytes image.now → Bytes image'.now → (k : ℕ) → k < strip_length s.look
          → (get_or image.now (fetch_place s k) 0 ≡ get_or image'.now (fetch_place s k) 0 → ⊥)
          → (n : ℕ) × (n < frame_length) × (owner s.look n ≡ k) × (get_or pixels n 0 ≡ get_or pixels' n 0 → ⊥)
      differs_in_frame g small small' k h differ =
          let w = shows s.look font.now bytes bytes' g k h (rw (byte k h) (small _)) (rw (byte' k h) (small' _)) (λ e. differ ((differs_in_strip k h).0 e)) in
          (w.0, w.1, w.2, λ e. w.3 (sym (pixel w.0 w.1) ∙ e ∙ pixel' w.0 w.1))

      -- nothing else does: a pixel whose own fetch agrees is the same, in every mode
      pub same_elsewhere : (n : ℕ) → n < frame_length
          → get_or image.now (fetch_place s (owner s.look n)) 0 ≡ get_or image'.now (fetch_place s (owner s.look n)) 0
          → get_or pixels n 0 ≡ get_or pixels' n 0
      same_elsewhere n h e =
          pixel n h
          ∙ depends s.look font.now bytes bytes' n ((differs_in_strip (owner s.look n) (owner_below s.look n h)).1 e)
          ∙ sym (pixel' n h)

    -- and what lies past the named lengths is the same too
    pub same_past : ((k : ℕ) → strip_length s.look ≤ k → get_or bytes k 0 ≡ get_or bytes' k 0) × ((n : ℕ) → frame_length ≤ n → get_or pixels n 0 ≡ get_or pixels' n 0)
    same_past =
        let a = show_demand κs s image font strip frame z bytes pixels p in
        let b = show_demand κs' s image' font' strip' frame' z' bytes' pixels' q in
        (λ k h. a.1.past k h ∙ rw same-strips (sym (b.1.past k h)), λ n h. a.2.past n h ∙ rw same-frames (sym (b.2.past n h)))

-- 15 is told, at this place.
abbrev pub Fifteen : Answer → ℕ → Type 0
Fifteen z k = ((told_of z).number ≡ 15) × ((told_of z).place ≡ k)

-- nothing is refused by the settings and the lengths that are lent to both at once
abbrev pub LengthsPass : Settings → Lent → Lent → Room → Room → Type 0
LengthsPass s image font strip frame = NoneHolds (show_lengths s (length image.now) (length font.now) (length strip.now) (length frame.now))

-- then what is told is what is told of the fetched bytes
pub told_by_bytes : (s : Settings) (κs : Lfts 4) (image font : Lent) (strip frame : Room) (z : Answer) (bytes pixels : List ℕ) → Shows κs s image font strip frame z bytes pixels
    → LengthsPass s image font strip frame → told_of z ≡ first_of (draw_bytes s.look (fetched_byte s image.now)) (done (border s.look))
told_by_bytes s κs image font strip frame z bytes pixels p none =
    p.0
    ∙ told_fetched s image.now font.now strip.now frame.now
    ((done_when (done (border s.look)) refl (show_lengths s (length image.now) (length font.now) (length strip.now) (length frame.now)) tt).1 none)

-- Whether 15 is told, and its place, depends on nothing but the fetched bytes: two calls with the same settings, of which no length is
-- refused, are told it alike where each fetch fetches the same byte in both, whatever else is in images, fonts and buffers.
pub fifteen_felt : (s : Settings) (κs κs' : Lfts 4) (image image' font font' : Lent) (strip strip' frame frame' : Room) (z z' : Answer) (bytes bytes' pixels pixels' : List ℕ)
    → Shows κs s image font strip frame z bytes pixels → Shows κs' s image' font' strip' frame' z' bytes' pixels'
    → LengthsPass s image font strip frame → LengthsPass s image' font' strip' frame'
    → ((k : ℕ) → k < strip_length s.look → fetched_byte s image.now k ≡ fetched_byte s image'.now k)
    → (k : ℕ) → Fifteen z k ↔ Fifteen z' k
fifteen_felt s κs κs' image image' font font' strip strip' frame frame' z z' bytes bytes' pixels pixels' p q none none' same k =
    let e : told_of z ≡ told_of z' =
    told_by_bytes s κs image font strip frame z bytes pixels p none
    ∙ ap (λ (cs : List Check). first_of cs (done (border s.look))) (same_bytes s.look (fetched_byte s image.now) (fetched_byte s image'.now) same)
    ∙ sym (told_by_bytes s κs' image' font' strip' frame' z' bytes' pixels' q none') in
    (λ f. rw e at f, λ f. rw e f)
