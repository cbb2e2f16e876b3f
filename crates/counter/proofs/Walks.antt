-- Laws of a walk of the counter: byte by byte within a line, and line by line.
use Rattle.std.proofs.Common.{◌≡◌, ℕ, zero, suc, ◌+◌, refl, ap, ◌∙◌, add-zero, add-suc, add-one}
use Rattle.settings.specs.declared.Settings.{Settings}
use Rattle.settings.specs.Modes.{width}
use Rattle.counter.specs.declared.Counter.{Counter}
use Rattle.counter.specs.Counter.{advance, clear, bytes_on, start, line_start}

pub bytes_on_none : (s : Settings) (c : Counter) → bytes_on s 0 c ≡ c
unfolding bytes_on
bytes_on_none s c = refl

-- m bytes, and n more
pub bytes_on_on : (s : Settings) (m n : ℕ) (c : Counter) → bytes_on s (m + n) c ≡ bytes_on s n (bytes_on s m c)
unfolding bytes_on
bytes_on_on s m zero c = rw add-zero
bytes_on_on s m (suc n) c = ap (λ (k : ℕ). bytes_on s k c) (add-suc m n) ∙ ap (advance s) (bytes_on_on s m n c)

pub line_start_none : (s : Settings) → line_start s 0 ≡ start s
unfolding line_start
line_start_none s = refl

pub line_start_more : (s : Settings) (n : ℕ) → line_start s (n + 1) ≡ clear s (bytes_on s (width s.look) (line_start s n))
unfolding line_start
line_start_more s n = rw add-one
