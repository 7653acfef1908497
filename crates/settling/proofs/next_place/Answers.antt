-- `settling::next_place` meets its contract. Assumes nothing.
use Rattle.std.proofs.Common.{sym, ◌+◌, ◌*◌, lt-ltb, le-ltb}
use Rattle.base.specs.Tests.{pick_yes, pick_no}
use Rattle.settling.specs.Places.{next_at}
use Rattle.settling.proofs.next_place.Goals as goal

pub returns-then-r-from : goal.returns-then-r-from
unfolding next_at
returns-then-r-from c =
    let a = c.args in
    sym (pick_yes _ _ (lt-ltb a.r (a.from.message * 48 + a.from.kind * 16 + a.from.origin) c.if-r-from.true))

pub returns : goal.returns
unfolding next_at
returns c =
    let a = c.args in
    sym (pick_no _ _ (le-ltb a.r (a.from.message * 48 + a.from.kind * 16 + a.from.origin) c.if-r-from.false))
