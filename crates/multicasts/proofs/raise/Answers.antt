-- `multicasts::raise` meets its contract. Assumes nothing.
use mathlib.Core.Path.{sym}
use Rattle.definitions.specs.World.{view}
use Rattle.world.specs.Layout.{encode_view}
use Rattle.multicasts.specs.Multicast.{below_record, copy_law}
use Rattle.multicasts.proofs.raise.Goals as goal

pub raise_all-q-requires : goal.raise_all-q-requires
raise_all-q-requires c =
    let a = c.args in
    let l = below_record (view a.w.now) a.p c.requires.low
    (c.load-r.ensures (view a.w.now) (sym (encode_view a.w.now c.told-w))) in
    record { p_in = c.requires.p_in; counters = l.0; sequences = l.1 }

pub returns : goal.returns
returns c =
    let a = c.args in
    copy_law a.w.now _ _ a.p a.groups a.m c.requires.p_in c.load-r.ensures c.raise_all-q.ensures c.store.ensures
    c.stamp.ensures
