-- Laws of a text in its array: what it holds, and how it grows.
use Prim.Native.Nat.{ℕ, zero, suc, ◌+◌, ◌-◌, ◌≤◌}
use borrow.Rule.Slice.PartMut.{put_mid}
use Rattle.std.proofs.lemmas.Slice.{put_mid-paste}
use mathlib.Core.Path.{◌≡◌, refl, sym, ap, ap₂, ◌∙◌}
use mathlib.Core.List.{List, [], ◌++◌, append_assoc}
use native.Mathlib.Omega.{arith}
use lib.ListN.{length, drop, replicate, length-append, length-replicate}
use lib.Seq.{paste, take-length, take-append_seam, drop-append-add}
use Rattle.grammar.specs.Sheet.{nl}
use Rattle.report_text.specs.declared.Text.{Text}
use Rattle.report_text.specs.Words.{room, text_of, held, Holds, HasRoom}

abbrev text : List ℕ → ℕ → Text
text l n = record { bytes = l; len = n }

-- a text holds what it was made of
pub held_text : (l : List ℕ) → held (text_of l) ≡ l
unfolding text_of held
held_text l = take-append_seam l (replicate (room - length l) 0)

pub holds_text : {t : Text} (l : List ℕ) → t ≡ text_of l → Holds t
holds_text {t} l e = rw e (ap text_of (sym (held_text l)))

pub text_long : {t : Text} (l : List ℕ) → t ≡ text_of l → t.len ≡ length l
unfolding text_of
text_long l e = ap (λ (t : Text). t.len) e

-- a text with a part appended, where it is known what the text was made of
pub grows : {t r : Text} (l p : List ℕ) → t ≡ text_of l → r ≡ text_of (held t ++ p) → r ≡ text_of (l ++ p)
grows {t} {r} l p e q = q ∙ ap (λ (h : List ℕ). text_of (h ++ p)) (ap held e ∙ held_text l)

-- a text that grew twice
pub grows_on : (t u r : Text) (a b : List ℕ) → u ≡ text_of (held t ++ a) → r ≡ text_of (held u ++ b) → r ≡ text_of (held t ++ (a ++ b))
grows_on t u r a b e q = grows (held t ++ a) b e q ∙ ap text_of (append_assoc (held t) a b)

-- and the room that is left in one that grew
pub room_left : (t u : Text) {n : ℕ} (m : ℕ) (a : List ℕ) → HasRoom t n → u ≡ text_of (held t ++ a) → length a + m ≤ n → HasRoom u m
room_left t u m a h e l =
    record {
      holds = holds_text (held t ++ a) e;
      roomy = omega (arith, text_long (held t ++ a) e, length-append (held t) a, text_long (held t) h.holds, h.roomy);
    }

-- the same after a line, whose value may be written as any bytes that are equal to it
pub lined : (t u : Text) (w : List ℕ) {v : List ℕ} (v' : List ℕ) → u ≡ text_of (held t ++ (w ++ (v ++ nl))) → v ≡ v' → u ≡ text_of (held t ++ (w ++ (v' ++ nl)))
lined t u w v' e q = e ∙ ap (λ (x : List ℕ). text_of (held t ++ (w ++ (x ++ nl)))) q

pub line_left : (t u : Text) {n : ℕ} (m : ℕ) (w v : List ℕ) → HasRoom t n → u ≡ text_of (held t ++ (w ++ (v ++ nl))) → length w + (length v + 1) + m ≤ n → HasRoom u m
line_left t u m w v h e l = room_left t u m (w ++ (v ++ nl)) h e (omega (arith, length-append w (v ++ nl), length-append v nl))

-- where no more is asked for, and after a short line of at most 13 bytes
pub room_less : {t : Text} {n : ℕ} (m : ℕ) → HasRoom t n → m ≤ n → HasRoom t m
room_less m h l = record { holds = h.holds; roomy = omega (arith, h.roomy) }

pub short_left : (t u : Text) (m : ℕ) (w v : List ℕ) → HasRoom t (13 + m) → u ≡ text_of (held t ++ (w ++ (v ++ nl))) → length w + (length v + 1) ≤ 13 → HasRoom u m
short_left t u m w v h e l = line_left t u m w v h e (omega arith)

zeros : ℕ → List ℕ
zeros n = replicate n 0

drop_zeros : (n m : ℕ) → drop n (zeros m) ≡ zeros (m - n)
unfolding zeros
drop_zeros zero m = let e : m ≡ m - 0 = omega arith in ap zeros e
drop_zeros (suc n) zero = let e : 0 ≡ 0 - suc n = omega arith in ap zeros e
drop_zeros (suc n) (suc m) = let e : m - n ≡ suc m - suc n = omega arith in drop_zeros n m ∙ ap zeros e

-- a part stored after a list in its array
pasted_by : (l p : List ℕ) → length l + length p ≤ room → text (paste (l ++ zeros (room - length l)) (length l) p (length p)) (length l + length p) ≡ text_of (l ++ p)
unfolding text_of zeros
pasted_by l p fits =
    let n : room - length l - length p ≡ room - length (l ++ p) = rw length-append (omega arith) in
    let rest : drop (length l + length p) (l ++ zeros (room - length l)) ≡ zeros (room - length (l ++ p)) =
    drop-append-add l (zeros (room - length l)) (length p) ∙ drop_zeros (length p) (room - length l) ∙ ap zeros n in
    let b : paste (l ++ zeros (room - length l)) (length l) p (length p) ≡ (l ++ p) ++ zeros (room - length (l ++ p)) =
    rw (take-append_seam l (zeros (room - length l)), take-length p, rest) in
    let k : length l + length p ≡ length (l ++ p) = sym (length-append l p) in
    λ i. record { bytes = b i; len = k i }

-- the array of a text has 32,768 bytes
pub place_long : (t : Text) → Holds t → t.len ≤ room → length t.bytes ≡ room
unfolding text_of
place_long t h fits =
    ap (λ (u : Text). length u.bytes) h
    ∙ length-append (held t) (replicate (room - length (held t)) 0)
    ∙ ap (λ (n : ℕ). length (held t) + n) (length-replicate (room - length (held t)) 0)
    ∙ omega (arith, text_long (held t) h)

-- a text that holds nothing has all the room
pub empty_room : {t : Text} → t ≡ text_of [] → HasRoom t room
empty_room e = record { holds = holds_text [] e; roomy = omega (arith, text_long [] e) }

-- a part stored after what a text holds, as it is left by a copy to a part of the array
pub pasted : (t : Text) (p : List ℕ) {b : List ℕ} → HasRoom t (length p) → b ≡ p → text (put_mid t.len (t.len + length p - t.len) t.bytes b) (t.len + length p) ≡ text_of (held t ++ p)
unfolding text_of zeros
pasted t p {b} h e =
    let k : t.len ≡ length (held t) = text_long (held t) h.holds in
    let d : t.bytes ≡ held t ++ zeros (room - length (held t)) = ap (λ (u : Text). u.bytes) h.holds in
    let r : put_mid t.len (t.len + length p - t.len) t.bytes b ≡ paste (held t ++ zeros (room - length (held t))) (length (held t)) p (length p) =
    put_mid-paste t.len (t.len + length p - t.len) t.bytes b p (length p) e (omega arith) refl ∙ ap₂ (λ (x : List ℕ) (m : ℕ). paste x m p (length p)) d k in
    ap₂ text r (ap (λ (m : ℕ). m + length p) k) ∙ pasted_by (held t) p (rw (← k) h.roomy)
