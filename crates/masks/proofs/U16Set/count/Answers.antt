-- `count` at 16 bits meets its contract. Assumes nothing.
use Rattle.masks.specs.Ones.{ones_members}
use Rattle.masks.proofs.U16Set.count.Goals as goal

pub returns : goal.returns
returns c = ones_members 16 c.args.self c.ranges.self.fits
