-- `limits::addressees` meets its contract. The loop's invariant: the table is right for the messages passed,
-- and zero for the others. Assumes nothing.
use Rattle.definitions.specs.World.{view}
use Rattle.limits.specs.Addressees.{Partly}
use Rattle.limits.proofs.addressees.Given as goal

abbrev pub invariant-loop-m : goal.invariant-loop-m
invariant-loop-m l = Partly (view l.w) l.m l.t
