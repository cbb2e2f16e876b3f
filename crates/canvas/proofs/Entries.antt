-- What stands for an entry past the list's end, as the code has it: the two loops over the list cite it.
use lib.IntN.{pos}
use Rattle.plans.specs.declared.Placement.{Placement}

abbrev pub none : Placement
none = record { left = 0; top = 0; across = 0; down = 0; x = pos 0; y = pos 0; on = 0; cut = 0 }
