-- What the format writes of a byte is its two digits.
use Rattle.std.proofs.Common.{true, rules}
use Rattle.std.proofs.lemmas.Fmt.{hex_byte}
use Rattle.std.proofs.Output.{has_written_of_eq}
use Rattle.trial.proofs.HexDisplay.fmt.Goals as goal

pub returns-clause-writes : goal.returns-clause-writes
returns-clause-writes g c = λ p q. has_written_of_eq _ _ _ _ _ (hex_byte true c.args.self.now.0 (search rules)) (search (p, q, rules))
