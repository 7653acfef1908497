-- `has` at 16 bits meets its contract. Assumes nothing.
use mathlib.Core.Path.{refl}
use Rattle.definitions.specs.General.{bit}
use Rattle.masks.proofs.U16Set.has.Goals as goal

pub returns : goal.returns
unfolding bit
returns c = refl
