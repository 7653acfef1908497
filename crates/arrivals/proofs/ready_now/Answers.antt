-- `arrivals::ready_now` meets its contract. Assumes nothing.
use mathlib.Core.Path.{sym, ◌∙◌}
use Rattle.definitions.specs.World.{view}
use Rattle.arrivals.specs.Arrival.{ready_one, ready_no}
use Rattle.arrivals.proofs.ready_now.Goals as goal

pub returns-then-is_ready : goal.returns-then-is_ready
returns-then-is_ready c =
    let a = c.args in
    ready_one a.only (view a.w.now) a.p a.m c.if-not-only.false c.requires.only_m c.requires.m_in
    (sym c.is_ready.ensures ∙ c.if-is_ready.true) c.join.ensures

pub returns : goal.returns
returns c =
    let a = c.args in
    ready_no a.only (view a.w.now) a.p a.m c.if-not-only.false c.requires.only_m
    (sym c.is_ready.ensures ∙ c.if-is_ready.false)
