-- `gathering::gather` meets its contract. The loop's invariant: the letters of the messages passed have joined. Assumes
-- nothing.
use Rattle.std.proofs.Common.{◌≡◌, ℕ, subst, arith}
use Rattle.definitions.specs.World.{count, view}
use Rattle.world.specs.SoundLaws.{count_high}
use Rattle.queues.specs.Queues.{Queues, queues_same}
use Rattle.gathering.specs.Gathered.{below, below_more, below_all}
use Rattle.gathering.proofs.gather.Goals as goal

pub gather_message-requires-clause-message : goal.gather_message-requires-clause-message
gather_message-requires-clause-message c =
    omega (arith, c.loop-m-test.true, c.word-n.ensures, count_high (view c.args.w.now) c.requires.sound)

pub loop-m-preserved : goal.loop-m-preserved
loop-m-preserved c =
    let a = c.args in
    queues_same (c.gather_message.ensures (below (view a.w.now) c.loop-m.m) c.loop-m.invariant)
    (λ x j r _ hj _. below_more (view a.w.now) c.loop-m.m x j r hj)

pub returns : goal.returns
returns c =
    let s = view c.args.w.now in
    let e : c.loop-m.m ≡ s count = omega (arith, c.word-n.ensures) in
    queues_same (subst (λ (n : ℕ). Queues (below s n) c.loop-m.a) e c.loop-m.invariant)
    (λ x j r hx hj hr. below_all s c.requires.sound x j r hx hj hr)
