-- `lowest` at 64 bits meets its contract. Assumes nothing.
use Rattle.base.specs.Sets.{trailing_lowest}
use Rattle.masks.proofs.U64Set.lowest.Goals as goal

pub returns : goal.returns
returns c = trailing_lowest 64 c.args.self
