-- `lowest` at 16 bits meets its contract. Assumes nothing.
use Rattle.base.specs.Sets.{trailing_lowest}
use Rattle.masks.proofs.U16Set.lowest.Goals as goal

pub returns : goal.returns
returns c = trailing_lowest 16 c.args.self
