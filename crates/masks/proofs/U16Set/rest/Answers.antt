-- `rest` at 16 bits meets its contract. Assumes nothing.
use Rattle.base.specs.Sets.{rest_lowest}
use Rattle.masks.proofs.U16Set.rest.Goals as goal

pub returns : goal.returns
returns c = rest_lowest 16 c.args.self c.ranges.self.fits c.requires
