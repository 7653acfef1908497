-- `logtest::pass` meets its contract. The loop's invariant: the items passed are gathered. Assumes nothing.
use Rattle.sets.specs.Members.{item_of}
use Rattle.logtest.specs.Log.{Passed}
use Rattle.logtest.proofs.pass.Given as goal

abbrev pub invariant-loop-x : goal.invariant-loop-x
invariant-loop-x l = Passed (item_of l.log) l.x-index l.to l.from l.set l.all l.counts
