-- `logtest::pass` meets its contract. The loop's invariant: the items passed are gathered. Assumes nothing.
use mathlib.Core.Path.{◌≡◌, refl}
use Prim.Native.Nat.{◌<◌}
use native.Mathlib.Omega.{arith}
use lib.Dec.{eqb}
use lib.ListN.{get_or, get_or-replicate, length-set}
use Rattle.base.specs.Count.{tally_le}
use Rattle.sets.specs.Members.{item_of}
use Rattle.logtest.specs.Laws.{passed_none, passed_more}
use Rattle.logtest.proofs.pass.Goals as goal
use Rattle.logtest.proofs.pass.Goals.{After-from-m}

-- the item
is : (c : After-from-m) → c.from-m.result ≡ item_of c.args.log.now c.loop-x.x-index
is c = c.from-m.ensures

item : (c : After-from-m) → c.from-m.result < 64
item c = omega (arith, is c, c.requires.items c.loop-x.x-index (omega arith))

sender : (c : After-from-m) → get_or c.args.from.now c.from-m.result 0 < 16
sender c = c.requires.small c.from-m.result (item c)

pub loop-x-init : goal.loop-x-init
loop-x-init c = passed_none _ _ _ _ refl (λ q h. get_or-replicate 16 q 0 0 h)

pub overflow_add-counts : goal.overflow_add-counts
overflow_add-counts c =
    let l = c.loop-x in
    let q = get_or c.args.from.now c.from-m.result 0 in
    record {
      fits = omega (
        arith,
        l.invariant.counted q (sender (goal.at.overflow_add-counts c).After-from-m),
        c.requires.few,
        tally_le l.x-index
            (λ i. eqb (get_or c.args.from.now (item_of c.args.log.now i) 0) q),
      );
    }

pub loop-x-preserved : goal.loop-x-preserved
loop-x-preserved c =
    let after = (goal.at.loop-x-preserved c).After-from-m in
    let l = c.loop-x in
    let a = c.args in
    passed_more (item_of a.log.now) l.x-index a.to.now a.from.now a.bits.now l.set l.all
    l.counts _ c.from-m.result _ _ c.requires.powers (is after) (item after) refl
    (sender after) refl refl (simp length-set l.invariant.long) l.invariant
