-- `queues::join` meets its contract. Assumes nothing.
use Rattle.queues.specs.Queues.{join_queued}
use Rattle.queues.proofs.join.Goals as goal

pub returns : goal.returns
returns c =
    let a = c.args in
    λ f q. join_queued f a.a.now a.m a.place a.p q c.requires.0 c.requires.1 c.requires.2 c.join-places.ensures
    c.join-messages.ensures c.join-waiting.ensures
