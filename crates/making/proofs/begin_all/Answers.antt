-- `making::begin_all` meets its contract. The loop's invariant: the processes passed have been written. Assumes nothing.
use mathlib.Core.Path.{ap, ◌∙◌}
use Prim.Native.Nat.{ℕ}
use native.Mathlib.Omega.{arith}
use Rattle.definitions.specs.World.{encode}
use Rattle.setup.specs.Groups.{group_in, group_small}
use Rattle.making.specs.Begun.{begun, begin_process, begun_more}
use Rattle.making.proofs.begin_all.Goals as goal

pub overflow_cast-group_of : goal.overflow_cast-group_of
overflow_cast-group_of c =
    omega (arith, c.group_of.ensures, group_small c.args.bits c.loop-p.p)

pub loop-p-preserved : goal.loop-p-preserved
loop-p-preserved c =
    let a = c.args in
    let s = begun a.n (group_in a.bits) c.loop-p.p in
    c.begin.ensures s c.loop-p.invariant
    ∙ ap (λ (x : ℕ). encode (begin_process s c.loop-p.p a.n x)) c.group_of.ensures
    ∙ begun_more a.n (group_in a.bits) c.loop-p.p
