-- `hex_value`: what is left goes on from the number so far.
use Rattle.std.proofs.Common.{◌≡◌, ◌^◌, ◌<◌, drop}
use Rattle.text.specs.Hex.{hex_from, hex_value}
use Rattle.scan.proofs.numbers.hex_value.Given as goal

abbrev pub invariant-loop-b : goal.invariant-loop-b
invariant-loop-b l = record { small : l.v < 16 ^ l.b-index; goes_on : hex_from l.v (drop l.b-index l.digits) ≡ hex_value l.digits }
