-- `letters::receivers` meets its contract. Assumes nothing.
use Rattle.definitions.specs.World.{view}
use Rattle.letters.specs.Search.{waiting_up}
use Rattle.letters.proofs.receivers.Goals as goal

pub returns : goal.returns
returns c =
    let a = c.args in
    waiting_up (view a.w.now) a.m a.k a.q c.letters.ensures c.requires.ups
