-- `annotation_start`: the lines before line `counter` are passed.
use Rattle.std.proofs.Common.{◌≡◌, ◌+◌, ◌≤◌, length, take}
use Rattle.grammar.specs.Sheet.{lines}
use Rattle.grammar.specs.Given.{fields_in, tail_from}
use Rattle.scan.proofs.notes.annotation_start.Given as goal

abbrev pub invariant-loop : goal.invariant-loop
invariant-loop l = (l.counter ≤ l.n) × (l.at ≡ tail_from l.s + length (lines (take l.counter (fields_in l.s).annotations)))
