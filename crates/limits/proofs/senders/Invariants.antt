-- `limits::senders` meets its contract. The loop's invariant: the messages passed have their senders. Assumes nothing.
use Rattle.definitions.specs.World.{view}
use Rattle.limits.specs.Senders.{Senders}
use Rattle.limits.proofs.senders.Given as goal

abbrev pub invariant-loop-m : goal.invariant-loop-m
invariant-loop-m l = Senders (view l.w) l.m l.t
