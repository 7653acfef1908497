-- `limits::limits` meets its contract. The loop's invariant: the groups passed have their limits. Assumes nothing.
use Rattle.limits.specs.Limits.{Partial}
use Rattle.limits.proofs.limits.Given as goal

abbrev pub invariant-loop-g : goal.invariant-loop-g
invariant-loop-g l = Partial l.n l.groups l.count l.g l.t
