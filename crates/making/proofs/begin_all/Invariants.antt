-- `making::begin_all` meets its contract. The loop's invariant: the processes passed have been written. Assumes nothing.
use Rattle.std.proofs.Common.{◌≡◌}
use Rattle.definitions.specs.World.{encode}
use Rattle.setup.specs.Groups.{group_in}
use Rattle.making.specs.Begun.{begun}
use Rattle.making.proofs.begin_all.Given as goal

abbrev pub invariant-loop-p : goal.invariant-loop-p
invariant-loop-p l = l.w ≡ encode (begun l.n (group_in l.bits) l.p)
