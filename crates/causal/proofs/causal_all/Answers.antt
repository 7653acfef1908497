-- `causal::causal_all` meets its contract. The loop's invariant: the words hold a state from which what is left of
-- the definition's loop ends where the whole loop ends, and the index is that of the state with the set in hand stored.
-- Assumes nothing.
use mathlib.Core.Path.{sym}
use native.Mathlib.Omega.{arith}
use Rattle.base.specs.Sets.{without_less}
use Rattle.world.specs.Layout.{encode_view}
use Rattle.definitions.specs.World.{view, fifo_length}
use Rattle.causal.specs.Open.{Going, going_start, going_open, going_bounds, going_in, going_room, going_index, going_logs}
use Rattle.causal.proofs.Open.{going_more, going_stop, going_end}
use Rattle.causal.proofs.causal_all.Goals as goal
use Rattle.causal.proofs.causal_all.Goals.{At-loop-places, else-loop-places-test, then-loop-places-test+in_default}

-- the turn, from the state that the words held at first
turn : (c : At-loop-places)
    → let a = c.args in
    Going a.p (view a.w.now (fifo_length a.p)) (view a.w.now) c.loop-places.w c.args.x.now c.loop-places.places
turn c = c.loop-places.invariant (view c.args.w.now) (sym (encode_view c.args.w.now (omega arith)))

pub loop-places-init : goal.loop-places-init
loop-places-init c =
    going_start c.args.p c.args.w.now c.args.x.now c.requires.p_in c.requires.bounds c.requires.index c.requires.logs

pub first_open-requires-clause-bounds : goal.first_open-requires-clause-bounds
first_open-requires-clause-bounds c =
    let i = c.loop-places in
    going_bounds c.args.p _ _ i.w c.args.x.now i.places c.requires.p_in c.told-x
    (turn (goal.at.first_open-requires-clause-bounds c).At-loop-places)

pub first_open-requires-clause-places : goal.first_open-requires-clause-places
first_open-requires-clause-places c =
    let i = c.loop-places in
    going_open c.args.p _ _ i.w c.args.x.now i.places c.requires.p_in c.told-x
    (turn (goal.at.first_open-requires-clause-places c).At-loop-places)

pub causal_one-requires-clause-bounds : goal.causal_one-requires-clause-bounds
causal_one-requires-clause-bounds c =
    let i = c.loop-places in
    going_bounds c.args.p _ _ i.w c.args.x.now i.places c.requires.p_in c.told-x
    (turn (goal.at.causal_one-requires-clause-bounds c).At-loop-places)

pub causal_one-requires-clause-i_in : goal.causal_one-requires-clause-i_in
causal_one-requires-clause-i_in c = c.in-Some.ensures.low

pub causal_one-requires-clause-room : goal.causal_one-requires-clause-room
causal_one-requires-clause-room c =
    let i = c.loop-places in
    going_room c.args.p _ _ i.w c.args.x.now i.places c.requires.p_in c.told-x
    (turn (goal.at.causal_one-requires-clause-room c).At-loop-places) c.in-Some.ensures

pub loop-places-smaller : goal.loop-places-smaller
loop-places-smaller c =
    let i = c.loop-places in
    omega (
      arith,
      c.drop-places.ensures,
      without_less i.places c.in-Some.i
          (going_in c.args.p _ _ i.w c.args.x.now i.places c.requires.p_in c.told-x
          (turn (goal.at.loop-places-smaller c).At-loop-places) c.in-Some.ensures)
          c.loop-places-test.true,
    )

pub loop-places-preserved : goal.loop-places-preserved
loop-places-preserved c s q =
    let i = c.loop-places in
    going_more c.args.p _ s i.w c.args.x.now i.places c.requires.p_in c.told-x (i.invariant s q) c.in-Some.ensures
    c.causal_one.ensures c.drop-places.ensures

pub returns-clause-words : goal.returns-clause-words
returns-clause-words c s q =
    let i = c.loop-places in
    elim c.loop-places-test.branch [
      | else-loop-places-test v ↦
          going_end c.args.p _ s i.w c.args.x.now i.places c.requires.p_in c.told-x (i.invariant s q) v.loop-places-test.false
      | then-loop-places-test+in_default v ↦
          going_stop c.args.p _ s i.w c.args.x.now i.places c.requires.p_in c.told-x (i.invariant s q) v.in_default.ensures
    ]

pub returns-clause-index : goal.returns-clause-index
returns-clause-index c =
    let i = c.loop-places in
    let g = turn (goal.at.returns-clause-index c).At-loop-places in (
      going_index c.args.p _ _ i.w c.args.x.now i.places c.requires.p_in c.told-x g,
      going_logs c.args.p _ _ i.w c.args.x.now i.places c.requires.p_in c.told-x g,
    )
