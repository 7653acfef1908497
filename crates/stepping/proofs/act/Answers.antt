-- `stepping::act` meets its contract: the kind of the step decides. Assumes nothing.
use Rattle.std.proofs.Common.{◌≡◌, length, arith}
use Rattle.definitions.specs.World.{view}
use Rattle.definitions.specs.Steps.{step}
use Rattle.stepping.specs.Stepping.{acted, taken_as, can_multicast, can_arrive, can_lose, can_trust, can_crash, index_lost, index_down}
use Rattle.stepping.proofs.act.Goals as goal
use Rattle.stepping.proofs.act.Goals.{Start}

long : (c : Start) → length c.args.w.now ≡ 20480
long c = omega arith

pub send_new-requires : goal.send_new-requires
send_new-requires c =
    let a = c.args in
    let g = c.in-Multicast in
    let h = can_multicast a.w.now a.x.now (long (goal.at.send_new-requires c).Start) c.requires.sound c.requires.index g.p g.groups g.order
    (taken_as (view a.w.now) g.is c.requires.taken) in
    record { p_in = h.0; room = h.1; bounds = h.2; low = h.3; index = c.requires.index }

pub arrive-requires : goal.arrive-requires
arrive-requires c =
    let a = c.args in
    can_arrive a.w.now a.x.now (long (goal.at.arrive-requires c).Start) c.requires.sound c.requires.index _ _ _ _ a.quiescent
    c.requires.quiescent (taken_as (view a.w.now) c.in-Arrival.is c.requires.taken)

pub lose-requires : goal.lose-requires
lose-requires c =
    let a = c.args in
    let h = can_lose a.w.now a.x.now (long (goal.at.lose-requires c).Start) c.requires.sound c.requires.index _ _ _ _
    (taken_as (view a.w.now) c.in-Loss.is c.requires.taken) in
    record { kind_in = h.0; message_in = h.1; from_in = h.2; to_in = h.3 }

pub replace_trust-requires : goal.replace_trust-requires
replace_trust-requires c =
    let a = c.args in
    let h = can_trust a.w.now a.x.now (long (goal.at.replace_trust-requires c).Start) c.requires.sound c.requires.index c.in-Trust.p
    c.in-Trust.set (taken_as (view a.w.now) c.in-Trust.is c.requires.taken) in
    record { p_in = h.0; bounds = h.1; index = c.requires.index; logs = h.2 }

pub take_down-requires : goal.take_down-requires
take_down-requires c =
    let a = c.args in
    can_crash a.w.now a.x.now (long (goal.at.take_down-requires c).Start) c.requires.sound c.requires.index c.in-Crash.p
    (taken_as (view a.w.now) c.in-Crash.is c.requires.taken)

pub returns-in-Multicast-clause-words : goal.returns-in-Multicast-clause-words
unfolding step
returns-in-Multicast-clause-words c = acted (view c.args.w.now) c.in-Multicast.is c.send_new.ensures.words

pub returns-in-Arrival-clause-words : goal.returns-in-Arrival-clause-words
unfolding step
returns-in-Arrival-clause-words c = acted (view c.args.w.now) c.in-Arrival.is c.arrive.ensures.words

pub returns-in-Loss-clause-words : goal.returns-in-Loss-clause-words
unfolding step
returns-in-Loss-clause-words c = acted (view c.args.w.now) c.in-Loss.is c.lose.ensures

pub returns-in-Loss-clause-index : goal.returns-in-Loss-clause-index
unfolding step
returns-in-Loss-clause-index c =
    index_lost c.args.w.now _ c.args.x.now c.requires.sound c.requires.index _ _ _ _ c.lose.ensures

pub returns-in-Trust-clause-words : goal.returns-in-Trust-clause-words
unfolding step
returns-in-Trust-clause-words c = acted (view c.args.w.now) c.in-Trust.is c.replace_trust.ensures.words

pub returns-in-Crash-clause-words : goal.returns-in-Crash-clause-words
unfolding step
returns-in-Crash-clause-words c = acted (view c.args.w.now) c.in-Crash.is c.take_down.ensures

pub returns-in-Crash-clause-index : goal.returns-in-Crash-clause-index
unfolding step
returns-in-Crash-clause-index c = index_down c.args.w.now _ c.args.x.now c.requires.sound c.requires.index _ c.take_down.ensures
