-- `cascade::cascade` meets its contract. The loop's invariant: the words hold a state from which what is left of
-- the definition's loop ends where the whole loop ends, the index is that state's, and the set has what is ready. Assumes nothing.
use mathlib.Core.Path.{sym}
use Prim.Native.Nat.{◌<◌}
use native.Mathlib.Omega.{arith}
use Rattle.world.specs.Layout.{encode_view}
use Rattle.definitions.specs.World.{view, count}
use Rattle.cascade.specs.Ready.{Going, ready_state, going_start, going_bounds, going_index, going_logs, going_view, going_less, going_end}
use Rattle.cascade.proofs.Ready.{going_more}
use Rattle.cascade.proofs.cascade.Goals as goal
use Rattle.cascade.proofs.cascade.Goals.{After-lowest-m, After-word-q, At-loop-left}

-- the turn, from the state that the words held at first
turn : (c : At-loop-left)
    → let a = c.args in
    Going a.p (view a.w.now count) (view a.w.now) c.loop-left.w c.loop-left.x c.loop-left.left c.loop-left.sent
turn c =
    c.loop-left.invariant.1 (view c.args.w.now) (sym (encode_view c.args.w.now (omega arith)))

-- the message to deliver
low : (c : After-lowest-m)
    → (c.lowest-m.result < view c.loop-left.w count) × (c.lowest-m.result < 64)
low c =
    let i = c.loop-left in
    let z = (going_view c.args.p _ _ i.w i.x i.left i.sent c.requires.p_in (turn (goal.at.After-lowest-m c).At-loop-left) i.invariant.0 c.loop-left-test.true
    c.lowest-m.ensures).0 in
    let h = going_bounds c.args.p _ _ i.w i.x i.left i.sent c.requires.p_in (turn (goal.at.After-lowest-m c).At-loop-left) in
    (z, omega (arith, z, h.counts))

-- its sender
q16 : (c : After-word-q) → c.word-q.result < 16
q16 c =
    let i = c.loop-left in
    let h = going_bounds c.args.p _ _ i.w i.x i.left i.sent c.requires.p_in (turn (goal.at.After-word-q c).At-loop-left) in
    omega (arith, c.word-q.ensures, h.senders c.lowest-m.result (low (goal.at.After-word-q c).After-lowest-m).1)

pub loop-left-init : goal.loop-left-init
loop-left-init c =
    let a = c.args in (
      c.ranges.ready.fits,
      λ s e. going_start a.p a.w.now a.x.now a.ready 0 c.requires.p_in c.requires.bounds c.requires.index c.requires.logs s e
          (ready_state a.w.now s a.p a.ready e c.requires.bounds c.requires.p_in c.requires.ready),
    )

pub overflow_mul-m : goal.overflow_mul-m
overflow_mul-m c = omega (arith, (low (goal.at.overflow_mul-m c).After-lowest-m).1)

pub overflow_add-m : goal.overflow_add-m
overflow_add-m c = omega (arith, (low (goal.at.overflow_add-m c).After-lowest-m).1)

pub word-q-requires : goal.word-q-requires
word-q-requires c = omega (arith, (low (goal.at.word-q-requires c).After-lowest-m).1)

pub fifo_one-t-requires : goal.fifo_one-t-requires
fifo_one-t-requires c =
    let g = turn (goal.at.fifo_one-t-requires c).At-loop-left in
    let i = c.loop-left in
    record {
      p_in = c.requires.p_in;
      m_in = (low (goal.at.fifo_one-t-requires c).After-lowest-m).0;
      bounds = going_bounds c.args.p _ _ i.w i.x i.left i.sent c.requires.p_in g;
      index = going_index c.args.p _ _ i.w i.x i.left i.sent c.requires.p_in g;
      logs = going_logs c.args.p _ _ i.w i.x i.left i.sent c.requires.p_in g;
      outside = (going_view c.args.p _ _ i.w i.x i.left i.sent c.requires.p_in g i.invariant.0 c.loop-left-test.true
          c.lowest-m.ensures).1;
    }

pub overflow_add-own : goal.overflow_add-own
overflow_add-own c = omega (arith, q16 (goal.at.overflow_add-own c).After-word-q)

pub offset_bounds-x-q : goal.offset_bounds-x-q
offset_bounds-x-q c = omega (arith, q16 (goal.at.offset_bounds-x-q c).After-word-q)

pub bounds-x-q : goal.bounds-x-q
bounds-x-q c =
    omega (arith, q16 (goal.at.bounds-x-q c).After-word-q, c.fifo_one-t.ensures.index.0.long)

pub loop-left-smaller : goal.loop-left-smaller
loop-left-smaller c =
    let i = c.loop-left in
    going_less c.args.p _ _ i.w i.x i.left i.sent c.requires.p_in (turn (goal.at.loop-left-smaller c).At-loop-left) i.invariant.0 c.loop-left-test.true
    c.lowest-m.ensures c.fifo_one-t.ensures.words

pub loop-left-preserved : goal.loop-left-preserved
loop-left-preserved c =
    let i = c.loop-left in
    let t = c.fifo_one-t.result in (
      omega (arith, c.union-left.type_inv),
      λ s e. going_more c.args.p _ s i.w i.x i.left i.sent c.requires.p_in (i.invariant.1 s e) i.invariant.0
          c.loop-left-test.true c.lowest-m.ensures c.fifo_one-t.new.w c.fifo_one-t.new.x
          c.word-q.result c.union-left.result c.union-sent.result c.minus-rest.result t.ready t.sent (q16 (goal.at.loop-left-preserved c).After-word-q)
          c.word-q.ensures c.fifo_one-t.ensures.words c.fifo_one-t.ensures.index.0 c.fifo_one-t.ensures.index.1
          c.fifo_one-t.ensures.sets c.minus-rest.ensures c.union-left.ensures c.union-sent.ensures,
    )

pub returns-clause-words : goal.returns-clause-words
returns-clause-words c s e =
    let i = c.loop-left in
    (going_end c.args.p _ s i.w i.x i.left i.sent c.requires.p_in (i.invariant.1 s e) c.loop-left-test.false).0

pub returns-clause-index : goal.returns-clause-index
returns-clause-index c =
    let i = c.loop-left in
    let g = turn (goal.at.returns-clause-index c).At-loop-left in (
      going_index c.args.p _ _ i.w i.x i.left i.sent c.requires.p_in g,
      going_logs c.args.p _ _ i.w i.x i.left i.sent c.requires.p_in g,
    )

pub returns-clause-unsent : goal.returns-clause-unsent
returns-clause-unsent c s e =
    let i = c.loop-left in
    (going_end c.args.p _ s i.w i.x i.left i.sent c.requires.p_in (i.invariant.1 s e) c.loop-left-test.false).1
