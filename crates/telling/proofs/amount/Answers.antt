-- `telling::amount` meets its contract: each case of the answer has its number and its values. Assumes nothing.
use mathlib.Core.Path.{sym, ap}
use native.Mathlib.Omega.{arith}
use Rattle.definitions.specs.Answers.{amount_reply}
use Rattle.telling.proofs.amount.Goals as goal

pub overflow_cast-value : goal.overflow_cast-value
overflow_cast-value c = omega (arith, c.requires _ (ap amount_reply (sym c.in-Ok.is)))
