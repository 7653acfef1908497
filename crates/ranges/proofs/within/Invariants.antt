-- `ranges::within` meets its contract. The loop's invariant: nothing is gathered exactly if the words passed are
-- at most their limits. Assumes nothing.
use mathlib.Core.Path.{◌≡◌}
use lib.Dec.{leb, eqb}
use lib.ListN.{get_or}
use Rattle.definitions.specs.General.{every}
use Rattle.ranges.proofs.within.Given as goal

abbrev pub invariant-loop-i : goal.invariant-loop-i
invariant-loop-i l = eqb l.any 0 ≡ every l.i (λ j. leb (get_or l.part j 0) (get_or l.limits j 0))
