-- `sets::of` meets its contract. The loop's invariant: the set has the words passed. Assumes nothing.
use Rattle.sets.specs.Members.{Members, item_of}
use Rattle.sets.proofs.of.Given as goal

abbrev pub invariant-loop-x : goal.invariant-loop-x
invariant-loop-x l = Members l.set l.x-index (item_of l.part)
