-- `engine::wt_journal_length` meets its contract: the answer of the call, told; a length is small. Assumes nothing.
use mathlib.Core.Path.{◌∙◌}
use native.Mathlib.Omega.{arith}
use Rattle.journal.specs.Writing.{sized_small}
use Rattle.engine.proofs.wt_journal_length.Goals as goal

pub amount-requires : goal.amount-requires
amount-requires c = λ n e. omega (arith, sized_small n _ (e ∙ c.length_for.ensures))
