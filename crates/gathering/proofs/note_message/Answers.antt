-- `gathering::note_message` meets its contract. Assumes nothing.
use Rattle.std.proofs.Common.{◌+◌}
use Rattle.definitions.specs.World.{view}
use Rattle.queues.specs.Queues.{queues_same, noted}
use Rattle.gathering.specs.Gathered.{told_here}
use Rattle.gathering.proofs.note_message.Goals as goal

pub returns : goal.returns
returns c =
    let oks = c.receivers-oks in
    let answers = c.receivers-answers in
    let a = c.args in
    λ f q. queues_same (c.note-2.ensures (noted f a.m (16 + a.p) answers.result) (c.note.ensures f q)) (λ x j r hx hj hr.
    told_here f (view a.w.now) a.p a.m answers.result oks.result x j r c.requires.letter.0 hj answers.ensures oks.ensures)
