-- `soundness::enter` meets its contract. The loop's invariant: the messages passed are entered. Assumes nothing.
use Rattle.soundness.specs.Indexed.{Entered}
use Rattle.soundness.proofs.enter.Given as goal

abbrev pub invariant-loop-m : goal.invariant-loop-m
invariant-loop-m l = Entered l.t.addressees l.t.from l.m l.x
