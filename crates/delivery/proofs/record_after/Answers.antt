-- `delivery::record_after` meets its contract. Assumes nothing.
use mathlib.Core.Path.{refl}
use Rattle.delivery.specs.Delivery.{record_law}
use Rattle.delivery.proofs.record_after.Goals as goal

pub returns : goal.returns
returns c =
    let a = c.args in
    record_law a.w.now a.p a.m a.q c.requires.p_in c.requires.m_in c.requires.q_in c.requires.group_in
    c.load-r.ensures
    c.table_at-t.ensures
    c.word-g.ensures refl c.raised-all.ensures
    c.deliver.ensures
