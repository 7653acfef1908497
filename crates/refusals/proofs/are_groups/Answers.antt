-- `refusals::are_groups` meets its contract. The loop's invariant: the groups below g that the mask names
-- exist. Assumes nothing.
use mathlib.Core.Path.{◌≡◌, sym, ◌∙◌}
use native.Mathlib.Omega.{arith}
use Rattle.definitions.specs.General.{only}
use Rattle.definitions.specs.World.{view}
use Rattle.base.specs.Search.{every_intro, every_more, every_fails}
use Rattle.refusals.specs.Refused.{named_well}
use Rattle.refusals.proofs.are_groups.Goals as goal

pub loop-g-init : goal.loop-g-init
loop-g-init c = every_intro 0 _ (λ i h. absurd (omega arith))

pub returns-then-not-is_named_well : goal.returns-then-not-is_named_well
unfolding only
returns-then-not-is_named_well c =
    let r = c.is_named_well in
    let l = c.loop-g in
    let a = c.args in
    sym (every_fails 8 (named_well (view a.w.now) a.groups) l.g (omega arith)
    (sym r.ensures ∙ c.if-not-is_named_well.true))

pub loop-g-preserved : goal.loop-g-preserved
loop-g-preserved c =
    let r = c.is_named_well in
    let l = c.loop-g in
    let a = c.args in
    every_more l.g (named_well (view a.w.now) a.groups) l.invariant (sym r.ensures ∙ c.if-not-is_named_well.false)

pub returns : goal.returns
unfolding only
returns c =
    let l = c.loop-g in
    let e : l.g ≡ 8 = omega arith in
    sym (rw e at l.invariant)
