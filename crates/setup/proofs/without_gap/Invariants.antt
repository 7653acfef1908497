-- `setup::without_gap` meets its contract. The loop's invariant: every process passed has a group that follows
-- another. Assumes nothing.
use mathlib.Core.Path.{◌≡◌}
use mathlib.Core.Bool.{true}
use Rattle.definitions.specs.General.{every}
use Rattle.setup.specs.Groups.{follows}
use Rattle.setup.proofs.without_gap.Given as goal

abbrev pub invariant-loop-p : goal.invariant-loop-p
invariant-loop-p l = every l.p (follows l.bits l.n) ≡ true
