-- `setup::without_gap` meets its contract. The loop's invariant: every process passed has a group that follows
-- another. Assumes nothing.
use mathlib.Core.Path.{◌≡◌, refl, sym, ◌∙◌}
use native.Mathlib.Omega.{arith}
use Rattle.definitions.specs.General.{every}
use Rattle.base.specs.Search.{every_more, every_fails}
use Rattle.setup.specs.Groups.{follows, no_gap}
use Rattle.setup.proofs.without_gap.Goals as goal

pub loop-p-init : goal.loop-p-init
unfolding every
loop-p-init c = refl

pub returns-then-not-follows_one : goal.returns-then-not-follows_one
unfolding no_gap
returns-then-not-follows_one c =
    let a = c.args in
    sym (every_fails a.n (follows a.bits a.n) c.loop-p.p (omega arith)
    (sym c.follows_one.ensures ∙ c.if-not-follows_one.true))

pub loop-p-preserved : goal.loop-p-preserved
loop-p-preserved c =
    let a = c.args in
    every_more c.loop-p.p (follows a.bits a.n) c.loop-p.invariant
    (sym c.follows_one.ensures ∙ c.if-not-follows_one.false)

pub returns : goal.returns
unfolding no_gap
returns c =
    let l = c.loop-p in
    let a = c.args in
    let e : l.p ≡ a.n = omega arith in
    sym (rw e at l.invariant)
