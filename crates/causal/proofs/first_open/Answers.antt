-- `causal::first_open` meets its contract. The loop's invariant: what is left are the open places from its lowest
-- on, and those below cannot be delivered. Assumes nothing.
use mathlib.Core.Path.{◌≡◌, sym, ap, ◌∙◌, subst}
use Prim.Native.Nat.{ℕ, ◌<◌}
use native.Mathlib.Omega.{arith}
use Rattle.sets.specs.Lowest.{lowest}
use Rattle.sets.specs.Sweep.{sweep_start, sweep_low, sweep_hit, sweep_more, sweep_end, sweep_less}
use Rattle.definitions.specs.Machine.{deliverable}
use Rattle.definitions.specs.World.{view, fifo}
use Rattle.causal.specs.Open.{First, earliest_hit, earliest_none}
use Rattle.causal.proofs.first_open.Goals as goal
use Rattle.causal.proofs.first_open.Goals.{After-fits_all, After-lowest-i}

-- the place looked at
low : (c : After-lowest-i) → c.lowest-i.result < 64
low c =
    omega (arith, c.lowest-i.ensures, sweep_low c.loop-left.invariant.1 c.loop-left.invariant.0 c.loop-left-test.true)

-- whether the message at the lowest place left is deliverable
answer : (c : After-fits_all)
    → let c = c in
    let a = c.args in
    c.fits_all.result
    ≡ deliverable (view a.w.now) a.p (view a.w.now (fifo a.p (lowest c.loop-left.left)))
answer c =
    let a = c.args in
    let v = view a.w.now in
    c.fits_all.ensures
    ∙ ap (deliverable v a.p)
    (c.word-m.ensures ∙ ap (λ (i : ℕ). v (fifo a.p i)) c.lowest-i.ensures)

pub loop-left-init : goal.loop-left-init
loop-left-init c = (c.ranges.places.fits, sweep_start c.args.places c.requires.places)

pub overflow_add-p-in-loop-left-2 : goal.overflow_add-p-in-loop-left-2
overflow_add-p-in-loop-left-2 c = omega (arith, low (goal.at.overflow_add-p-in-loop-left-2 c).After-lowest-i)

pub word-m-requires : goal.word-m-requires
word-m-requires c = omega (arith, low (goal.at.word-m-requires c).After-lowest-i)

pub fits_all-requires : goal.fits_all-requires
fits_all-requires c =
    let k = c.requires.bounds.logged c.args.p c.lowest-i.result c.requires.p_in (low (goal.at.fits_all-requires c).After-lowest-i) in
    record { p_in = c.requires.p_in; m_in = omega (arith, c.word-m.ensures); bounds = c.requires.bounds }

pub returns-then-fits_all : goal.returns-then-fits_all
returns-then-fits_all c =
    let a = c.args in
    let z = c.loop-left.invariant in
    let v = view a.w.now in
    subst (First v a.p) (sym c.lowest-i.ensures)
    (earliest_hit v a.p (lowest c.loop-left.left) (sweep_low z.1 z.0 c.loop-left-test.true) (sweep_hit z.1 z.0 c.loop-left-test.true)
    (sym (answer (goal.at.returns-then-fits_all c).After-fits_all) ∙ c.if-fits_all.true) z.1.done)

pub loop-left-smaller : goal.loop-left-smaller
loop-left-smaller c =
    sweep_less c.loop-left.invariant.0 c.loop-left-test.true c.rest-left.ensures

pub loop-left-preserved : goal.loop-left-preserved
loop-left-preserved c =
    let z = c.loop-left.invariant in (
      omega (arith, z.0, sweep_less z.0 c.loop-left-test.true c.rest-left.ensures),
      sweep_more z.1 z.0 c.loop-left-test.true c.rest-left.ensures
          (sym (answer (goal.at.loop-left-preserved c).After-fits_all) ∙ c.if-fits_all.false),
    )

pub returns : goal.returns
returns c =
    let a = c.args in
    earliest_none (view a.w.now) a.p
    (omega (arith, c.requires.bounds.fifo_lengths a.p c.requires.p_in, c.requires.bounds.counts))
    (λ j h e. sweep_end c.loop-left.invariant.1 c.loop-left-test.false j h e)
