-- What is felt and what is not. P, R0 and TY alter nothing, while M counts (document 01, and document 02, CR 7); "INT/EXT has no effect while A/G is 1" (document 01).
-- Stated once over the list of the fields that are felt, of any two calls that the contracts allow, with the same contents lent.
use Prim.Native.Nat.{ℕ, ◌%◌, ◌<◌}
use mathlib.Core.Path.{◌≡◌, refl, sym, ap, ◌∙◌}
use mathlib.Core.Bool.{Bool, true}
use mathlib.Core.List.{List, [], ◌∷◌}
use native.Mathlib.Omega.{arith}
use contract.Lifetimes.{Lfts}
use lib.Dec.{eqb}
use Rattle.promises.specs.Choose.{choose}
use Rattle.promises.proofs.Tables.{Each}
use Rattle.answer.specs.Told.{Answer}
use Rattle.answer.proofs.Answers.{one_answer}
use Rattle.settings.specs.declared.Look.{Look}
use Rattle.settings.specs.declared.Rule.{Rule}
use Rattle.settings.specs.declared.Rule.TheVariants.{One}
use Rattle.settings.specs.declared.Settings.{Settings}
use Rattle.settings.specs.Fields.{look_of, settings_of, bits, graphics}
use Rattle.control.specs.Control.{with_bit}
use Rattle.claims.proofs.Fields.{felt_look, felt, unfelt}
use Rattle.claims.proofs.Calls.{Lent, Room, Touches, Fetches, Draws, Shows, ReadsBack}
use Rattle.claims.proofs.Alikes.{SameLook, SameFetches, by_fields, same_fetched, same_count, same_shown, draw_told_alike, frame_after_alike, back_told_alike, strip_back_alike}
use Rattle.claims.proofs.Alikes.{by_number, by_rule, by_bit, by_high, bits_below, bits_above}

-- each field of the list is the same in both
abbrev pub Alike : {A : Type 0} → List (A → ℕ) → A → A → Type 0
Alike [] x y = Unit
Alike (f ∷ fs) x y = (f x ≡ f y) × Alike fs x y

-- then both are the same in all that the definitions read
same_look : (l m : Look) → Alike felt_look l m → SameLook l m
same_look l m (above, (ag, (ext, (number, (colours, _))))) =
    let mode : graphics l ≡ graphics m = ap (λ (n : ℕ). eqb n 1) ag in
    record { above = by_number _ _ above; outside = by_bit (graphics l) (graphics m) _ _ mode ext; mode = mode; number = number; colours = colours }

same_settings : (s t : Settings) → Alike felt s t → SameFetches s t
same_settings s t (v, (f, (r, (m, (u, look))))) = by_fields s t v f (ap (λ (n : ℕ). eqb n 1) r) m (by_rule s.rule t.rule u) (same_look s.look t.look look)

-- Fetching: settings that are alike in what is felt give the same answer and strip.
pub felt_fetch : (s t : Settings) → Alike felt s t → (κs κs' : Lfts 2) (image image' : Lent) (strip strip' : Room) (z z' : Answer) (out out' : List ℕ)
    → image.now ≡ image'.now → strip.now ≡ strip'.now → Fetches κs s image strip z out → Fetches κs' t image' strip' z' out' → (z ≡ z') × (out ≡ out')
felt_fetch s t a = same_fetched (same_settings s t a)

pub felt_count : (s t : Settings) → Alike felt s t → (κs κs' : Lfts 2) (image image' : Lent) (strip strip' : Room) (z z' : Answer) (n n' : ℕ) (out out' : List ℕ)
    → image.now ≡ image'.now → strip.now ≡ strip'.now → Touches κs s image strip z n out → Touches κs' t image' strip' z' n' out' → n ≡ n'
felt_count s t a = same_count (same_settings s t a)

-- Drawing: the same answer and frame.
pub felt_draw : (l m : Look) → Alike felt_look l m → (κs κs' : Lfts 3) (font font' strip strip' : Lent) (frame frame' : Room) (z z' : Answer) (out out' : List ℕ)
    → font.now ≡ font'.now → strip.now ≡ strip'.now → frame.now ≡ frame'.now
    → Draws κs l font strip frame z out → Draws κs' m font' strip' frame' z' out' → (z ≡ z') × (out ≡ out')
felt_draw l m a κs κs' font font' strip strip' frame frame' z z' out out' f b x p q =
    let e = same_look l m a in (
      one_answer (p.0 ∙ draw_told_alike e font.now strip.now frame.now) (q.0 ∙ rw (f, b, x)),
      p.1 ∙ frame_after_alike e font.now strip.now frame.now ∙ rw (f, b, x) (sym q.1),
    )

-- Both at once: the same answer, strip and frame.
pub felt_show : (s t : Settings) → Alike felt s t
    → (κs κs' : Lfts 4) (image image' font font' : Lent) (strip strip' frame frame' : Room) (z z' : Answer) (bytes bytes' pixels pixels' : List ℕ)
    → image.now ≡ image'.now → font.now ≡ font'.now → strip.now ≡ strip'.now → frame.now ≡ frame'.now
    → Shows κs s image font strip frame z bytes pixels → Shows κs' t image' font' strip' frame' z' bytes' pixels' → (z ≡ z') × (bytes ≡ bytes') × (pixels ≡ pixels')
felt_show s t a = same_shown (same_settings s t a)

-- Reading back: the same answer and strip.
pub felt_back : (l m : Look) → Alike felt_look l m → (κs κs' : Lfts 2) (frame frame' : Lent) (strip strip' : Room) (z z' : Answer) (out out' : List ℕ)
    → frame.now ≡ frame'.now → strip.now ≡ strip'.now → ReadsBack κs l frame strip z out → ReadsBack κs' m frame' strip' z' out' → (z ≡ z') × (out ≡ out')
felt_back l m a κs κs' frame frame' strip strip' z z' out out' x b p q =
    let e = same_look l m a in (
      one_answer (p.0 ∙ back_told_alike e frame.now strip.now) (q.0 ∙ rw (x, b)),
      p.1 ∙ strip_back_alike e frame.now strip.now ∙ rw (x, b) (sym q.1),
    )

-- P, R0 and TY alter nothing: words that agree in V, F, R1 and M are alike under the same pins and rule, whatever their other bits are;
pub not_felt : (w w' p : ℕ) (q : Rule) → bits w 0 3 ≡ bits w' 0 3 → bits w 3 7 ≡ bits w' 3 7 → bits w 12 1 ≡ bits w' 12 1 → bits w 13 2 ≡ bits w' 13 2 → Alike felt (settings_of w p q) (settings_of w' p q)
not_felt w w' p q v f r m = (v, (f, (r, (m, (refl, (refl, (refl, (refl, (refl, (refl, tt))))))))))

-- so each bit that is not felt may be set or cleared in any word.
abbrev pub NotFelt : ℕ → Type 0
NotFelt k = (w p b : ℕ) (q : Rule) → b < 2 → Alike felt (settings_of (with_bit w k b) p q) (settings_of w p q)

p_not_felt : NotFelt 10
p_not_felt w p b q h = let d = bits_below w 10 b in not_felt (with_bit w 10 b) w p q (omega arith) (omega arith) (ap (λ (n : ℕ). n % 2) (bits_above w 10 b h 1)) (ap (λ (n : ℕ). n % 4) (bits_above w 10 b h 2))

r0_not_felt : NotFelt 11
r0_not_felt w p b q h = let d = bits_below w 11 b in not_felt (with_bit w 11 b) w p q (omega arith) (omega arith) (ap (λ (n : ℕ). n % 2) (bits_above w 11 b h 0)) (ap (λ (n : ℕ). n % 4) (bits_above w 11 b h 1))

ty_not_felt : NotFelt 15
ty_not_felt w p b q h = let d = bits_below w 15 b in not_felt (with_bit w 15 b) w p q (omega arith) (omega arith) (omega arith) (omega arith)

pub each_unfelt : Each NotFelt unfelt
each_unfelt = (p_not_felt, (r0_not_felt, (ty_not_felt, tt)))

-- "INT/EXT has no effect while A/G is 1": in graphics bit 4 of the pins may be set or cleared.
pub ext_not_felt : (p b : ℕ) → b < 2 → graphics (look_of p) ≡ true → Alike felt_look (look_of (with_bit p 4 b)) (look_of p)
ext_not_felt p b h g =
    let d = bits_below p 4 b in
    let ag : bits (with_bit p 4 b) 5 1 ≡ bits p 5 1 = ap (λ (n : ℕ). n % 2) (bits_above p 4 b h 0) in
    (ap (λ (a : Bool). choose a 1 0) (by_high (with_bit p 4 b) p (bits_above p 4 b h 1)), (ag, (simp (ag, g), (omega arith, (omega arith, tt)))))

-- looks that are alike are so in settings with any word, under either rule
pub by_look : (w : ℕ) (q : Rule) (l m : Look) → Alike felt_look l m → Alike felt (record { word = w; look = l; rule = q }) (record { word = w; look = m; rule = q })
by_look w q l m a = (refl, (refl, (refl, (refl, (refl, a)))))

-- For instance: with P, R0 and TY all 0 or all 1, and with INT/EXT 0 or 1 in CG1.
pub word_alike : Alike felt (settings_of 0x0011 0x20 One) (settings_of 0x8C11 0x20 One)
word_alike = (refl, (refl, (refl, (refl, (refl, (refl, (refl, (refl, (refl, (refl, tt))))))))))

pub pins_alike : Alike felt (settings_of 0x0011 0x20 One) (settings_of 0x0011 0x30 One)
pins_alike = (refl, (refl, (refl, (refl, (refl, (refl, (refl, (refl, (refl, (refl, tt))))))))))
