-- `delivery::causal_one` meets its contract. Assumes nothing.
use Rattle.delivery.specs.Delivery.{causal_one_law}
use Rattle.delivery.proofs.causal_one.Goals as goal

pub returns : goal.returns
returns c =
    let a = c.args in
    causal_one_law a.w.now _ _ a.p a.i _ _ _ c.requires.bounds c.requires.p_in c.requires.i_in c.word-m.ensures
    c.word-q.ensures c.record_after-after.ensures c.push.ensures c.store.ensures
