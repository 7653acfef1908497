-- `ranges::zeros` meets its contract. The loop's invariant: nothing is gathered exactly if the words passed are zero.
-- Assumes nothing.
use mathlib.Core.Path.{◌≡◌}
use lib.Dec.{eqb}
use lib.ListN.{get_or}
use Rattle.definitions.specs.General.{every}
use Rattle.ranges.proofs.zeros.Given as goal

abbrev pub invariant-loop-x : goal.invariant-loop-x
invariant-loop-x l = eqb l.any 0 ≡ every l.x-index (λ j. eqb (get_or l.part j 0) 0)
