-- What document 01's table by V2-V0 says: bounds of the dividers, and what a line's end keeps of an address.
use Rattle.std.proofs.Common.{◌≡◌, ℕ, ◌+◌, ◌*◌, ◌/◌, ◌%◌, ◌^◌, ◌<◌, ◌≤◌, eqb, leb, List, [], ◌∷◌, get_or, subst, mod-lt, arith, lit<, eqb→eq, leb→le}
use Rattle.promises.proofs.Tables.{each_below, each}
use Rattle.settings.specs.declared.Settings.{Settings}
use Rattle.settings.specs.Fields.{video_mode}
use Rattle.counter.specs.Counter.{times_x, times_y, kept_from, div_x, div_y, kept}

pub div_x_le : (s : Settings) → div_x s ≤ 3
div_x_le s = leb→le (div_x s) 3 (each_below (λ v. leb (get_or times_x v 0) 3) 8 tt (video_mode s) (mod-lt _ (lit< tt)))

pub div_x_pos : (s : Settings) → 0 < div_x s
div_x_pos s = leb→le 1 (div_x s) (each_below (λ v. leb 1 (get_or times_x v 0)) 8 tt (video_mode s) (mod-lt _ (lit< tt)))

pub div_y_le : (s : Settings) → div_y s ≤ 12
div_y_le s = leb→le (div_y s) 12 (each_below (λ v. leb (get_or times_y v 0) 12) 8 tt (video_mode s) (mod-lt _ (lit< tt)))

pub div_y_pos : (s : Settings) → 0 < div_y s
div_y_pos s = leb→le 1 (div_y s) (each_below (λ v. leb 1 (get_or times_y v 0)) 8 tt (video_mode s) (mod-lt _ (lit< tt)))

-- facts about X and Y by the rows of the table, the smallest first
pub by_x : (s : Settings) (P : ℕ → Type 0) → P 1 → P 2 → P 3 → P (div_x s)
by_x s P a b c = each P times_x 0 (a, (c, (a, (b, (a, (a, (a, (a, tt)))))))) (video_mode s) (mod-lt _ (lit< tt))

pub by_y : (s : Settings) (P : ℕ → Type 0) → P 1 → P 2 → P 3 → P 12 → P (div_y s)
by_y s P a b c d = each P times_y 0 (d, (a, (c, (a, (b, (a, (a, (a, tt)))))))) (video_mode s) (mod-lt _ (lit< tt))

-- X × Y, of which one is 1 in every row
abbrev products : List ℕ
products = 12 ∷ 3 ∷ 3 ∷ 2 ∷ 2 ∷ 1 ∷ 1 ∷ 1 ∷ []

pub by_both : (s : Settings) (P : ℕ → Type 0) → P 1 → P 2 → P 3 → P 12 → P (div_x s * div_y s)
by_both s P a b c d =
    let e : get_or products (video_mode s) 0 ≡ div_x s * div_y s =
    eqb→eq _ _ (each_below (λ v. eqb (get_or products v 0) (get_or times_x v 0 * get_or times_y v 0)) 8 tt (video_mode s) (mod-lt _ (lit< tt))) in
    subst P e (each P products 0 (d, (c, (c, (b, (b, (a, (a, (a, tt)))))))) (video_mode s) (mod-lt _ (lit< tt)))

-- a fact about the lowest bit kept, B5, B4 or B1, by the rows of the table
pub by_kept : (s : Settings) (P : ℕ → Type 0) → P 5 → P 4 → P 1 → P (kept s)
by_kept s P p q r = each P kept_from 0 (p, (q, (p, (q, (p, (q, (p, (r, tt)))))))) (video_mode s) (mod-lt _ (lit< tt))

-- the address with its cleared bits at 0 is no larger
pub cleared_le : (s : Settings) (a : ℕ) → a / 2 ^ kept s * 2 ^ kept s + a % 2 ≤ a
cleared_le s a = by_kept s (λ k. a / 2 ^ k * 2 ^ k + a % 2 ≤ a) (omega arith) (omega arith) (omega arith)
