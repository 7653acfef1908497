-- `cascade::fifo_one` meets its contract. Assumes nothing.
use mathlib.Core.Path.{◌≡◌, sym, ◌∙◌}
use Prim.Native.Nat.{◌<◌}
use native.Mathlib.Omega.{arith}
use Rattle.bounds.specs.Bounds.{Bounds, bounds_words}
use Rattle.cascade.specs.Cascade.{fifo_law, bounds_delivered, next_room, bounds_next}
use Rattle.index.specs.Index.{Index, Logs, index_words, index_state, logs_words, logs_state, new_room}
use Rattle.index.specs.Changes.{index_next}
use Rattle.sends.proofs.Oks.{oks_index}
use Rattle.sends.proofs.Sends.{bounds_oks}
use Rattle.world.specs.Layout.{encode_view, reads_cell}
use Rattle.definitions.specs.Machine.{appended, causal_all, raised_next}
use Rattle.definitions.specs.World.{State, view, encode, fifo_length, count, next, sender}
use Rattle.cascade.specs.Turn.{turn_told, oks_logs, next_logs}
use Rattle.cascade.proofs.fifo_one.Goals as goal
use Rattle.cascade.proofs.fifo_one.Goals.{After-causal_all, After-raise_next, After-word-q, Start}

-- what the start lends
low : (c : Start) → c.args.m < 64
low c = omega (arith, c.requires.m_in, c.requires.bounds.counts)

room : (c : Start) → view c.args.w.now (fifo_length c.args.p) < view c.args.w.now count
room c = new_room (view c.args.w.now) c.args.p c.args.m c.requires.logs c.requires.m_in c.requires.outside

delivered_bounds : (c : Start)
    → Bounds (causal_all (appended (view c.args.w.now) c.args.p c.args.m) c.args.p)
delivered_bounds c =
    bounds_delivered c.args.p (view c.args.w.now) c.args.m c.requires.bounds c.requires.p_in (low c) (room c)

q16 : (c : After-word-q) → c.word-q.result < 16
q16 c =
    omega (arith, c.word-q.ensures, c.requires.bounds.senders c.args.m (low (goal.at.After-word-q c).Start))

-- the states on the way
state2 : (c : After-causal_all)
    → let a = c.args in
    c.causal_all.new.w ≡ encode (causal_all (appended (view a.w.now) a.p a.m) a.p)
state2 c =
    c.causal_all.ensures.words _ (c.append.ensures.words (view c.args.w.now) (sym (encode_view c.args.w.now (omega arith))))

abbrev raised : After-raise_next → State
raised c =
    let a = c.args in
    raised_next (causal_all (appended (view a.w.now) a.p a.m) a.p) a.p c.word-q.result

state3 : (c : After-raise_next) → c.raise_next.new.w ≡ encode (raised c)
state3 c = c.raise_next.ensures _ (state2 (goal.at.After-raise_next c).After-causal_all)

raised_bounds : (c : After-raise_next) → Bounds (raised c)
raised_bounds c =
    bounds_next c.args.p (view c.args.w.now) c.args.m c.requires.bounds c.requires.p_in (low (goal.at.After-raise_next c).Start) (room (goal.at.After-raise_next c).Start)
    c.word-q.result (q16 (goal.at.After-raise_next c).After-word-q)

bounds3 : (c : After-raise_next) → Bounds (view c.raise_next.new.w)
bounds3 c = bounds_words c.raise_next.new.w _ (state3 c) (raised_bounds c)

raised_index : (c : After-raise_next) → Index (raised c) c.causal_all.new.x
raised_index c =
    index_next _ _ (index_state c.causal_all.new.w _ (state2 (goal.at.After-raise_next c).After-causal_all)
    (bounds_words c.causal_all.new.w _ (state2 (goal.at.After-raise_next c).After-causal_all) (delivered_bounds (goal.at.After-raise_next c).Start)) c.causal_all.ensures.index.0)
    c.args.p c.word-q.result

index3 : (c : After-raise_next) → Index (view c.raise_next.new.w) c.causal_all.new.x
index3 c = index_words c.raise_next.new.w _ (state3 c) (raised_bounds c) (raised_index c)

raised_logs : (c : After-raise_next) → Logs (raised c) c.args.p
raised_logs c =
    next_logs c.args.p c.word-q.result _ (logs_state c.causal_all.new.w _ (state2 (goal.at.After-raise_next c).After-causal_all)
    (bounds_words c.causal_all.new.w _ (state2 (goal.at.After-raise_next c).After-causal_all) (delivered_bounds (goal.at.After-raise_next c).Start)) c.args.p c.requires.p_in
    c.causal_all.ensures.index.1)

pub raise_next-requires-clause-q_in : goal.raise_next-requires-clause-q_in
raise_next-requires-clause-q_in c = q16 (goal.at.raise_next-requires-clause-q_in c).After-word-q

pub raise_next-requires-clause-next_low : goal.raise_next-requires-clause-next_low
raise_next-requires-clause-next_low c = let start = (goal.at.raise_next-requires-clause-next_low c).Start in
    let v = view c.args.w.now in
    let h = delivered_bounds start in
    let hq = q16 (goal.at.raise_next-requires-clause-next_low c).After-word-q in
    let q = c.word-q.result in
    omega (
      arith,
      reads_cell c.causal_all.new.w (next c.args.p q) (c.requires.p_in, hq) _ (state2 (goal.at.raise_next-requires-clause-next_low c).After-causal_all),
      next_room c.args.p v c.args.m c.requires.bounds c.requires.p_in (low start) (room start) q hq,
      h.fifo_lengths c.args.p c.requires.p_in,
      h.counts,
    )

pub send_oks-requires-clause-q_in : goal.send_oks-requires-clause-q_in
send_oks-requires-clause-q_in c = q16 (goal.at.send_oks-requires-clause-q_in c).After-word-q

pub send_oks-requires-clause-bounds : goal.send_oks-requires-clause-bounds
send_oks-requires-clause-bounds c = bounds3 (goal.at.send_oks-requires-clause-bounds c).After-raise_next

pub send_oks-requires-clause-index : goal.send_oks-requires-clause-index
send_oks-requires-clause-index c = index3 (goal.at.send_oks-requires-clause-index c).After-raise_next

pub returns-clause-words : goal.returns-clause-words
unfolding appended
returns-clause-words c = let a = c.args in
    fifo_law a.w.now c.append.new.w c.causal_all.new.w c.raise_next.new.w c.send_oks.new.w a.p a.m
    (low (goal.at.returns-clause-words c).Start) c.word-q.ensures c.append.ensures.words c.causal_all.ensures.words
    c.raise_next.ensures c.send_oks.ensures.words

pub returns-clause-index : goal.returns-clause-index
unfolding appended
returns-clause-index c = let after_raise_next = (goal.at.returns-clause-index c).After-raise_next in
    let a = c.args in
    let q = c.word-q.result in
    let u = c.send_oks.new.w in
    let e = c.send_oks.ensures.words _ (state3 after_raise_next) in
    let h = bounds_oks a.p q _ _ (raised_bounds after_raise_next) in (
      index_words u _ e h (oks_index a.p q _ _ _ (raised_index after_raise_next)),
      logs_words u _ e h a.p c.requires.p_in (oks_logs a.p q _ _ (raised_logs after_raise_next)),
    )

pub returns-clause-sets : goal.returns-clause-sets
unfolding appended
returns-clause-sets c = let a = c.args in
    λ s z. turn_told s a.p a.m c.requires.p_in c.send_oks.result.ready c.send_oks.result.sent
    (c.word-q.ensures ∙ reads_cell a.w.now (sender a.m) (low (goal.at.returns-clause-sets c).Start) s z)
    (c.send_oks.ensures.sets _
    (c.raise_next.ensures _ (c.causal_all.ensures.words _ (c.append.ensures.words s z))))
