-- `awaiting::lacks` meets its contract. The loop's invariant: `ok` says whether the words passed are others than m. Assumes
-- nothing.
use mathlib.Core.Path.{◌≡◌}
use mathlib.Core.Bool.{not}
use lib.Dec.{eqb}
use lib.ListN.{get_or}
use Rattle.definitions.specs.General.{every}
use Rattle.awaiting.proofs.lacks.Given as goal

abbrev pub invariant-loop-x : goal.invariant-loop-x
invariant-loop-x l = l.ok ≡ every l.x-index (λ i. not (eqb (get_or l.log i 0) l.m))
