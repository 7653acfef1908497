-- `engine::wt_journal_count` meets its contract: the answer of the call, told; a number of records is small. Assumes nothing.
use mathlib.Core.Path.{◌∙◌}
use native.Mathlib.Omega.{arith}
use Rattle.journal.specs.Reading.{counted_small}
use Rattle.engine.proofs.wt_journal_count.Goals as goal

pub amount-requires : goal.amount-requires
amount-requires c = λ n e. omega (arith, counted_small _ n (e ∙ c.count.ensures))
