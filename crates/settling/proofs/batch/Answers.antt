-- `settling::batch` meets its contract. Assumes nothing.
use Rattle.std.proofs.Common.{sym, ◌∙◌, subst, ◌+◌, ◌<◌, arith}
use Rattle.letters.specs.declared.Place.{Place}
use Rattle.arrivals.specs.Arrival.{Arrives, Arrived, arrived_marked, arrived_followed, follows}
use Rattle.settling.specs.Batch.{Batched, sending_low, sending_arrives, sending_out, sending_more, sending_less, with_same}
use Rattle.settling.proofs.batch.Goals as goal
use Rattle.settling.proofs.batch.Goals.{After-follow-sent, After-has-known, After-lowest-p}

-- the receiver
low : (c : After-lowest-p) → c.lowest-p.result < 16
low c = sending_low c.loop-left.invariant.0 c.loop-left-test.true c.lowest-p.ensures

-- the budget is not used up
more : (c : After-lowest-p) → c.loop-left.reached.made < c.args.budget
more c = omega (arith, c.loop-left.invariant.0.batched.most, c.if-reached-budget.false)

-- what its arrival leans on
leans : (c : After-has-known)
    → let at = c.args.from.place in
    Arrives c.loop-left.w c.loop-left.x at.kind at.message at.origin c.lowest-p.result c.has-known.result
leans c = sending_arrives c.loop-left.invariant.0 c.loop-left-test.true c.lowest-p.ensures c.has-known.ensures

-- what has come of it
followed : (c : After-follow-sent)
    → let at = c.args.from.place in
    Arrived c.loop-left.w c.follow-sent.new.w c.follow-sent.new.x at.kind at.message at.origin c.lowest-p.result
    c.follow-sent.result.place
followed c =
    arrived_followed _ c.touch.new.w _ _ _ _ _ c.has-known.result (leans (goal.at.After-follow-sent c).After-has-known)
    (omega arith) c.touch.ensures.words (omega arith) c.follow-sent.ensures.words c.follow-sent.ensures.index
    c.follow-sent.ensures.place

pub has-known-requires : goal.has-known-requires
has-known-requires c = low (goal.at.has-known-requires c).After-lowest-p

pub drop-left-requires : goal.drop-left-requires
drop-left-requires c = low (goal.at.drop-left-requires c).After-lowest-p

pub touch-requires : goal.touch-requires
touch-requires c =
    let h = leans (goal.at.touch-requires c).After-has-known in
    record { kind_in = h.kind; message_in = h.message; from_in = h.from; to_in = h.to; bounds = h.bounds; index = h.index }

pub join-requires : goal.join-requires
join-requires c = low (goal.at.join-requires c).After-lowest-p

pub follow-sent-requires : goal.follow-sent-requires
follow-sent-requires c =
    follows _ c.touch.new.w _ _ _ _ _ c.has-known.result (leans (goal.at.follow-sent-requires c).After-has-known)
    (omega arith) c.touch.ensures.words

pub next_place-reached-requires : goal.next_place-reached-requires
next_place-reached-requires c =
    let h = leans (goal.at.next_place-reached-requires c).After-has-known in
    (h.kind, omega (arith, h.message, h.bounds.counts), h.from)

-- the place is still the one that it began with
pub returns-then-reached-budget-clause-reached : goal.returns-then-reached-budget-clause-reached
returns-then-reached-budget-clause-reached c =
    let a = c.args in
    let l = c.loop-left in
    subst (λ (y : Place). Batched a.w.now l.w l.x a.up l.reached.quiescent a.from.made l.reached.made a.budget y)
    (sym l.invariant.1) l.invariant.0.batched

pub returns-clause-reached : goal.returns-clause-reached
returns-clause-reached c =
    let a = c.args in
    let l = c.loop-left in
    subst (λ (y : Place). Batched a.w.now l.w l.x a.up l.reached.quiescent a.from.made l.reached.made a.budget y)
    (sym l.invariant.1) l.invariant.0.batched

pub returns-then-sent-here-clause-reached : goal.returns-then-sent-here-clause-reached
returns-then-sent-here-clause-reached c =
    let at = goal.at.returns-then-sent-here-clause-reached c in
    let a = c.args in
    let f = a.from in
    subst (λ (y : Place). Batched a.w.now c.follow-sent.new.w c.follow-sent.new.x a.up c.join.result f.made
    (c.loop-left.reached.made + 1) a.budget y) (sym c.next_place-reached.ensures)
    (sending_out c.loop-left.invariant.0 c.loop-left-test.true c.lowest-p.ensures (more at.After-lowest-p)
    (followed at.After-follow-sent) c.join.ensures)

pub loop-left-smaller-else-sent-here : goal.loop-left-smaller-else-sent-here
loop-left-smaller-else-sent-here c =
    sending_less c.loop-left.invariant.0 c.loop-left-test.true c.lowest-p.ensures c.drop-left.ensures

pub loop-left-preserved-else-sent-here : goal.loop-left-preserved-else-sent-here
loop-left-preserved-else-sent-here c =
    let at = goal.at.loop-left-preserved-else-sent-here c in (
      sending_more c.loop-left.invariant.0 c.loop-left-test.true c.lowest-p.ensures (more at.After-lowest-p)
          (followed at.After-follow-sent) c.join.ensures c.if-sent-here.false c.drop-left.ensures,
      c.loop-left.invariant.1,
    )

pub loop-left-smaller : goal.loop-left-smaller
loop-left-smaller c =
    sending_less c.loop-left.invariant.0 c.loop-left-test.true c.lowest-p.ensures c.drop-left.ensures

pub loop-left-preserved : goal.loop-left-preserved
loop-left-preserved c =
    let at = goal.at.loop-left-preserved c in
    let h = leans at.After-has-known in
    let z = c.touch.ensures.over c.if-touch.false in
    let g = c.loop-left.invariant.0.batched.going.passed in (
      sending_more c.loop-left.invariant.0 c.loop-left-test.true c.lowest-p.ensures (more at.After-lowest-p)
          (arrived_marked _ c.touch.new.w _ _ _ _ _ c.has-known.result h (omega arith) c.touch.ensures.words 3072 z)
          (with_same c.loop-left.reached.quiescent c.lowest-p.result (sym c.has-known.ensures ∙ z.0))
          (omega (arith, g.low, g.kinds, h.from)) c.drop-left.ensures,
      c.loop-left.invariant.1,
    )
