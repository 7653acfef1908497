-- `comparing::different` meets its contract. The loop's invariant: the words passed name messages, and are the members of
-- the set. Assumes nothing.
use mathlib.Core.Path.{◌≡◌}
use mathlib.Core.Bool.{true}
use lib.Dec.{ltb}
use lib.ListN.{get_or}
use Rattle.definitions.specs.General.{every}
use Rattle.sets.specs.Members.{Members}
use Rattle.comparing.proofs.different.Given as goal

abbrev pub invariant-loop-i : goal.invariant-loop-i
invariant-loop-i l = (every l.i (λ j. ltb (get_or l.pairs j 0) l.count) ≡ true)
    × Members l.set l.i (λ j. get_or l.pairs j 0)
