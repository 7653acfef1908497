-- `refusals::is_group` meets its contract. The loop's invariant: no process below p is of group g. Assumes
-- nothing.
use mathlib.Core.Path.{◌≡◌}
use mathlib.Core.Bool.{true, not}
use lib.Dec.{eqb}
use Rattle.definitions.specs.General.{every}
use Rattle.definitions.specs.World.{group, view}
use Rattle.refusals.proofs.is_group.Given as goal

abbrev pub invariant-loop-p : goal.invariant-loop-p
invariant-loop-p l = every l.p (λ i. not (eqb (view l.w (group i)) l.g)) ≡ true
