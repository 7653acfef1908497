-- `engine::wt_precedes` meets its contract: the answer of the call, told; a number of messages is small. Assumes nothing.
use mathlib.Core.Path.{◌∙◌}
use native.Mathlib.Omega.{arith}
use Rattle.reading.specs.Tested.{pairs_given}
use Rattle.engine.proofs.wt_precedes.Goals as goal

pub amount-requires : goal.amount-requires
amount-requires c = λ n e. omega (arith, pairs_given _ _ _ n (e ∙ c.precedes.ensures.answer))
