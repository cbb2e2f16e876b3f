-- `place`: the length of an image less one masks the place of an address.
use Rattle.strip.proofs.Places.{size_some, place_masked}
use Rattle.strip.proofs.place.Goals as goal

pub overflow_sub-result : goal.overflow_sub-result
overflow_sub-result c = size_some c.args.settings c.args.size c.requires.0

pub returns : goal.returns
returns c = rw c.from.ensures (place_masked c.args.settings c.args.size c.requires.0 c.args.address c.requires.1)
