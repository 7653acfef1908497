-- `setup::has` meets its contract. The loop's invariant: no process passed is of the group. Assumes nothing.
use mathlib.Core.Path.{◌≡◌}
use mathlib.Core.Bool.{true, not}
use lib.Dec.{eqb}
use Rattle.definitions.specs.General.{every}
use Rattle.setup.specs.Groups.{group_in}
use Rattle.setup.proofs.has.Given as goal

abbrev pub invariant-loop-p : goal.invariant-loop-p
invariant-loop-p l = every l.p (λ i. not (eqb (group_in l.bits i) l.g)) ≡ true
