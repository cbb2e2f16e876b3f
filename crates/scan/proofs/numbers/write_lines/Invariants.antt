-- `write_lines`: the lines so far are read, and the places hold their addresses.
use Rattle.std.proofs.Common.{◌≡◌, ◌≤◌, length}
use Rattle.grammar.specs.Read.{read_at}
use Rattle.scan.proofs.Written.{FilledTo}
use Rattle.scan.proofs.numbers.write_lines.Given as goal

abbrev pub invariant-loop-write : goal.invariant-loop-write
invariant-loop-write l = record { in_range : l.size ≤ length l.rest; long : length l.write-items ≡ l.count; filled : FilledTo read_at l.count l.rest l.write-items l.write-index l.size }
