-- `sets::union` meets its contract. Assumes nothing.
use Rattle.base.specs.Bits.{bit_of_or}
use Rattle.sets.proofs.union.Goals as goal

pub returns : goal.returns
returns c = bit_of_or c.args.a c.args.b
