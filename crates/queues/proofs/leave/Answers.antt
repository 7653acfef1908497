-- `queues::leave` meets its contract. Assumes nothing.
use Rattle.std.proofs.Common.{arith}
use Rattle.sets.specs.Lowest.{lowest_low}
use Rattle.queues.specs.Queues.{none_lowest, left_place, left_message, left_process}
use Rattle.queues.proofs.leave.Goals as goal

pub returns-then-places-ne0 : goal.returns-then-places-ne0
returns-then-places-ne0 c =
    let a = c.args in
    let d = c.drop-places in
    λ f q. left_place f a.a.now a.m a.place a.p q c.requires.0 c.requires.1 c.requires.2 d.result d.ensures
    (lowest_low d.result (omega arith) c.if-places-ne0.true)

pub returns-then-messages-ne0 : goal.returns-then-messages-ne0
returns-then-messages-ne0 c =
    let a = c.args in
    let d = c.drop-places in
    let e = c.drop-messages in
    λ f q. left_message f a.a.now a.m a.place a.p q c.requires.0 c.requires.1 c.requires.2 d.result
    d.ensures e.result (none_lowest d.result c.if-places-ne0.false)
    (lowest_low e.result (omega arith) c.if-messages-ne0.true) e.ensures

pub returns : goal.returns
returns c =
    let a = c.args in
    let d = c.drop-places in
    let e = c.drop-messages in
    λ f q. left_process f a.a.now a.m a.place a.p q c.requires.0 c.requires.1 c.requires.2 d.result
    d.ensures e.result c.drop.result (none_lowest d.result c.if-places-ne0.false)
    (none_lowest e.result c.if-messages-ne0.false) e.ensures c.drop.ensures
