-- `awaiting::lowest_awaited` meets its contract. The loop's invariant: the search goes on from where it stands. Assumes
-- nothing.
use mathlib.Core.Path.{◌≡◌, sym, ap₂, ◌∙◌}
use mathlib.Core.Bool.{◌&&◌}
use Prim.Native.Nat.{ℕ, ◌+◌, ◌≤◌, ◌<◌}
use native.Mathlib.Nat.{sub-zero}
use native.Mathlib.Omega.{arith}
use lib.Dec.{eqb}
use Rattle.definitions.specs.General.{bit}
use Rattle.definitions.specs.World.{count, sender, mask, stamp, view}
use Rattle.definitions.specs.Machine.{is_awaited, lowest_awaited}
use Rattle.base.specs.Search.{first_skip, first_hit, first_end}
use Rattle.awaiting.proofs.lowest_awaited.Goals as goal
use Rattle.awaiting.proofs.lowest_awaited.Goals.{After-is_awaited, At-loop-x}

-- the group exists, and there are at most 64 messages
read : (c : At-loop-x) → (c.word-g.result < 8) × (c.word-x-end.result ≤ 64)
    × (c.word-x-end.result ≡ view c.args.w.now count)
read c = (
  omega (arith, c.word-g.ensures, c.requires.2.groups c.args.p c.requires.0),
  omega (arith, c.word-x-end.ensures, c.requires.2.counts),
  c.word-x-end.ensures,
)

-- the test of message x
tested : (c : After-is_awaited)
    → let a = c.args in
    c.is_awaited.result ≡ is_awaited (view a.w.now) a.p a.q c.loop-x.x
tested c =
    let a = c.args in
    let v = view a.w.now in
    let x = c.loop-x.x in
    c.is_awaited.ensures
    ∙ ap₂ (λ (g d : ℕ). eqb (v (sender x)) a.q && bit (v (mask x)) g && eqb (v (stamp x g a.q)) (d + 1))
    c.word-g.ensures c.word-next.ensures

pub loop-x-init : goal.loop-x-init
unfolding lowest_awaited
loop-x-init c = rw (sub-zero _)

pub returns-then-is_awaited : goal.returns-then-is_awaited
returns-then-is_awaited c =
    let v = view c.args.w.now in
    let r = read (goal.at.returns-then-is_awaited c).At-loop-x in (
      omega (arith, r),
      sym (c.loop-x.invariant
          ∙ first_hit (is_awaited v c.args.p c.args.q) (v count) c.loop-x.x
          (omega (arith, r))
          (sym (tested (goal.at.returns-then-is_awaited c).After-is_awaited) ∙ c.if-is_awaited.true)),
    )

pub loop-x-preserved : goal.loop-x-preserved
loop-x-preserved c =
    let v = view c.args.w.now in
    c.loop-x.invariant
    ∙ first_skip (is_awaited v c.args.p c.args.q) (v count) c.loop-x.x
    (omega (arith, read (goal.at.loop-x-preserved c).At-loop-x))
    (sym (tested (goal.at.loop-x-preserved c).After-is_awaited) ∙ c.if-is_awaited.false)

pub returns : goal.returns
returns c =
    let v = view c.args.w.now in
    let r = read (goal.at.returns c).At-loop-x in
    omega (
      arith,
      c.loop-x.invariant
          ∙ first_end (is_awaited v c.args.p c.args.q) (v count) c.loop-x.x (omega (arith, r)),
    )
