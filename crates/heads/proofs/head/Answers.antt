-- `heads::head` meets its contract. Assumes nothing.
use mathlib.Core.Path.{refl}
use Rattle.heads.specs.Messages.{head_ok}
use Rattle.heads.proofs.head.Goals as goal

pub returns : goal.returns
unfolding head_ok
returns c = refl
