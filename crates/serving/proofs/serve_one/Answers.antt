-- `serving::serve_one` meets its contract. Assumes nothing.
use Rattle.std.proofs.Common.{arith, ◌+◌, ◌*◌}
use Rattle.definitions.specs.World.{view}
use Rattle.arrivals.specs.Arrival.{follows}
use Rattle.queues.specs.Queues.{parted}
use Rattle.gathering.specs.Gathered.{lettered}
use Rattle.serving.specs.Serving.{followed_ups, served_marked, served_posted}
use Rattle.serving.proofs.serve_one.Goals as goal

pub follow-sent-requires : goal.follow-sent-requires
follow-sent-requires c = follows _ _ _ _ _ _ _ _ c.requires.arrives (omega arith) c.touch.ensures.words

pub note_sent-requires-clause-ups : goal.note_sent-requires-clause-ups
note_sent-requires-clause-ups c =
    let f = c.follow-sent.ensures in
    followed_ups c.requires (omega arith) c.touch.ensures.words (omega arith) f.words f.index

pub returns-then-touch : goal.returns-then-touch
returns-then-touch c =
    let z = c.requires in
    let l = c.args.letter in
    let s = lettered (view c.args.w.now) in
    let f = c.follow-sent.ensures in
    served_posted z (omega arith) c.touch.ensures.words (omega arith) f.words f.index c.follow-sent.result.messages f.messages
    (c.note_sent.ensures (parted s l.message (l.kind * 16 + l.from) l.to) (c.leave.ensures s z.queues))

pub returns-else-touch : goal.returns-else-touch
returns-else-touch c =
    let z = c.requires in
    served_marked z (omega arith) c.touch.ensures.words (c.leave.ensures (lettered (view c.args.w.now)) z.queues)
    (c.touch.ensures.over c.if-touch.false)
