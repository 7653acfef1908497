-- `short_steps::replace_trust` meets its contract. Assumes nothing.
use Rattle.short_steps.specs.Short.{bounds_trust, index_trusted, logs_trusted, trust_law}
use Rattle.short_steps.proofs.replace_trust.Goals as goal

pub ready_set-ready-requires : goal.ready_set-ready-requires
ready_set-ready-requires c =
    let a = c.args in
    record {
      p_in = c.requires.p_in;
      bounds = bounds_trust a.w.now a.p a.set c.told-w c.requires.p_in c.requires.bounds;
      index = index_trusted a.w.now a.x.now a.p a.set c.told-w c.requires.p_in c.requires.bounds c.requires.index;
    }

pub cascade-requires : goal.cascade-requires
cascade-requires c =
    let a = c.args in
    record {
      p_in = c.requires.p_in;
      bounds = bounds_trust a.w.now a.p a.set c.told-w c.requires.p_in c.requires.bounds;
      index = index_trusted a.w.now a.x.now a.p a.set c.told-w c.requires.p_in c.requires.bounds c.requires.index;
      logs = logs_trusted a.w.now a.p a.set c.told-w c.requires.p_in c.requires.bounds c.requires.logs;
      ready = c.ready_set-ready.ensures;
    }

pub returns-clause-words : goal.returns-clause-words
returns-clause-words c =
    let a = c.args in trust_law a.w.now _ a.p a.set c.told-w c.requires.p_in c.cascade.ensures.words
