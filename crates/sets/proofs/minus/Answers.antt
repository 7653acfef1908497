-- `sets::minus` meets its contract. Assumes nothing.
use Rattle.sets.specs.Below.{bit_minus}
use Rattle.sets.proofs.minus.Goals as goal

pub returns : goal.returns
returns c = λ i _. bit_minus c.args.a c.args.b i c.ranges.a.fits
