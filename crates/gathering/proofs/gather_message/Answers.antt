-- `gathering::gather_message` meets its contract. The loop's invariant: the letters below the place have joined. Assumes
-- nothing.
use Rattle.std.proofs.Common.{◌≡◌, ℕ, subst, arith}
use Rattle.definitions.specs.World.{view}
use Rattle.queues.specs.Queues.{Queues, queues_same}
use Rattle.gathering.specs.Gathered.{gathered, gathered_more}
use Rattle.gathering.proofs.gather_message.Goals as goal

pub loop-place-preserved : goal.loop-place-preserved
loop-place-preserved c =
    let a = c.args in
    let i = c.loop-place.place in
    λ f q. queues_same (c.note.ensures (gathered f (view a.w.now) a.m i) (c.loop-place.invariant f q))
    (λ x j r _ _ _. gathered_more f (view a.w.now) a.m i c.receivers-receivers.result x j r
    c.receivers-receivers.ensures)

pub returns : goal.returns
returns c =
    let a = c.args in
    let e : c.loop-place.place ≡ 48 = omega arith in
    λ f q. subst (λ (n : ℕ). Queues (gathered f (view a.w.now) a.m n) c.loop-place.a) e (c.loop-place.invariant f q)
