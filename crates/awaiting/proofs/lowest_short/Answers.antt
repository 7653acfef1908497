-- `awaiting::lowest_short` meets its contract. The loop's invariant: the search goes on from where it stands. Assumes
-- nothing.
use mathlib.Core.Path.{◌≡◌, sym, ap, ap₂, ◌∙◌}
use mathlib.Core.Bool.{Bool, not, ◌&&◌}
use Prim.Native.Nat.{ℕ, ◌≤◌, ◌<◌}
use native.Mathlib.Nat.{sub-zero}
use native.Mathlib.Omega.{arith}
use lib.Dec.{eqb, ltb, leb}
use Rattle.definitions.specs.World.{size, stamp, view}
use Rattle.definitions.specs.Machine.{fits, lowest_short}
use Rattle.base.specs.Tests.{either}
use Rattle.base.specs.Search.{first_skip, first_hit, first_end}
use Rattle.awaiting.specs.Reads.{falls_short}
use Rattle.awaiting.proofs.lowest_short.Goals as goal
use Rattle.awaiting.proofs.lowest_short.Goals.{After-word-d, At-loop-q}

-- the group exists, and there are at most 16 processes
read : (c : At-loop-q) → (c.word-g.result < 8) × (c.word-q-end.result ≤ 16)
    × (c.word-q-end.result ≡ view c.args.w.now size)
read c = (
  omega (arith, c.word-g.ensures, c.requires.2.groups c.args.p c.requires.0),
  omega (arith, c.word-q-end.ensures, c.requires.2.sizes),
  c.word-q-end.ensures,
)

-- the test of entry q
abbrev test : After-word-d → Bool
test c =
    not (eqb c.loop-q.q c.word-own.result) && ltb c.word-d.result c.word-c.result

tested : (c : After-word-d)
    → let a = c.args in
    test c ≡ not (fits (view a.w.now) a.p a.m c.loop-q.q)
tested c =
    let a = c.args in
    let v = view a.w.now in
    let q = c.loop-q.q in
    falls_short (eqb q c.word-own.result) c.word-c.result c.word-d.result
    ∙ ap₂ (λ (x : ℕ) (b : Bool). not (either (eqb q x) b)) c.word-own.ensures
    (ap₂ leb
    (c.word-c.ensures ∙ ap (λ (g : ℕ). v (stamp a.m g q)) c.word-g.ensures)
    c.word-d.ensures)

pub loop-q-init : goal.loop-q-init
unfolding lowest_short
loop-q-init c = rw (sub-zero _)

pub returns-then-q-own : goal.returns-then-q-own
returns-then-q-own c =
    let v = view c.args.w.now in
    let r = read (goal.at.returns-then-q-own c).At-loop-q in (
      omega (arith, r),
      sym (c.loop-q.invariant
          ∙ first_hit (λ r. not (fits v c.args.p c.args.m r)) (v size) c.loop-q.q
          (omega (arith, r))
          (sym (tested (goal.at.returns-then-q-own c).After-word-d) ∙ c.if-q-own.true)),
    )

pub loop-q-preserved : goal.loop-q-preserved
loop-q-preserved c =
    let v = view c.args.w.now in
    c.loop-q.invariant
    ∙ first_skip (λ r. not (fits v c.args.p c.args.m r)) (v size) c.loop-q.q
    (omega (arith, read (goal.at.loop-q-preserved c).At-loop-q))
    (sym (tested (goal.at.loop-q-preserved c).After-word-d) ∙ c.if-q-own.false)

pub returns : goal.returns
returns c =
    let v = view c.args.w.now in
    let r = read (goal.at.returns c).At-loop-q in
    omega (
      arith,
      c.loop-q.invariant
          ∙ first_end (λ r. not (fits v c.args.p c.args.m r)) (v size) c.loop-q.q (omega (arith, r)),
    )
