-- `multicasts::raise_all` meets its contract. The loop's invariant: the record is raised for the groups
-- below g, and no entry is large. Assumes nothing.
use Prim.Native.Nat.{◌+◌}
use native.Mathlib.Omega.{arith}
use Rattle.definitions.specs.General.{bit}
use Rattle.multicasts.specs.Raise.{raised_start, raised_more, below_raised}
use Rattle.multicasts.proofs.raise_all.Goals as goal

pub loop-g-init : goal.loop-g-init
loop-g-init c = (
  raised_start c.args.p c.args.groups c.args.r,
  λ i. omega (arith, c.requires.counters i),
  λ i. omega (arith, c.requires.sequences i),
)

pub loop-g-preserved : goal.loop-g-preserved
loop-g-preserved c =
    let l = c.loop-g in
    let a = c.args in
    let r = c.raise_one-q in
    let m = below_raised (bit a.groups l.g) (1000 + l.g) l.q a.p l.g r.ensures
    l.invariant.1 l.invariant.2 in (
      raised_more l.g a.p a.groups a.r l.invariant.0 r.ensures,
      λ i. omega (arith, m.0 i),
      λ i. omega (arith, m.1 i),
    )
