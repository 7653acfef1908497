-- `comparing::good_lengths` meets its contract. Assumes nothing.
use mathlib.Core.Path.{refl}
use Rattle.definitions.specs.Words.{good_lengths}
use Rattle.comparing.proofs.good_lengths.Goals as goal

pub returns : goal.returns
unfolding good_lengths
returns c = refl
