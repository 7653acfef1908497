-- `making::nexts` meets its contract. The loop's invariant: the numbers passed are right. Assumes nothing.
use Rattle.std.proofs.Common.{◌≡◌, take}
use Rattle.making.specs.Begun.{first_nexts}
use Rattle.making.proofs.nexts.Given as goal

abbrev pub invariant-loop-q : goal.invariant-loop-q
invariant-loop-q l = take l.q l.x-items ≡ take l.q (first_nexts l.n)
