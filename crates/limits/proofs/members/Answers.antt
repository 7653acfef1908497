-- `limits::members` meets its contract. The loop's invariant: the processes passed are in their groups.
-- Assumes nothing.
use mathlib.Core.Path.{refl}
use Prim.Native.Nat.{◌<◌}
use native.Mathlib.Omega.{arith}
use lib.ListN.{length-set, get_or-replicate}
use Rattle.definitions.specs.World.{view}
use Rattle.limits.specs.Addressees.{group_low}
use Rattle.limits.specs.Members.{members_none, members_more}
use Rattle.limits.proofs.members.Goals as goal
use Rattle.limits.proofs.members.Goals.{After-word-g}

-- the group of a process
low : (c : After-word-g) → c.word-g.result < 8
low c =
    let l = c.loop-p in
    omega (
      arith,
      c.word-g.ensures,
      group_low (view c.args.w.now) c.requires.placed l.p
          (omega (arith, c.requires.sized.size_is)),
    )

pub loop-p-init : goal.loop-p-init
loop-p-init c = members_none _ _ refl (λ g h. get_or-replicate 8 g 0 0 h)

pub bounds-t-g : goal.bounds-t-g
bounds-t-g c = omega (arith, low (goal.at.bounds-t-g c).After-word-g)

pub bounds-t-g-in-loop-p : goal.bounds-t-g-in-loop-p
bounds-t-g-in-loop-p c = omega (arith, low (goal.at.bounds-t-g-in-loop-p c).After-word-g)

pub loop-p-preserved : goal.loop-p-preserved
loop-p-preserved c =
    let l = c.loop-p in
    members_more _ l.p c.word-g.result c.join.result l.t _ refl
    (simp length-set l.invariant.long) c.word-g.ensures
    (low (goal.at.loop-p-preserved c).After-word-g) c.join.ensures l.invariant
