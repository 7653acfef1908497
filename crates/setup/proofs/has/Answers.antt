-- `setup::has` meets its contract. The loop's invariant: no process passed is of the group. Assumes nothing.
use mathlib.Core.Path.{◌≡◌, refl, sym, ap, ◌∙◌}
use mathlib.Core.Bool.{not}
use native.Mathlib.Omega.{arith}
use lib.Dec.{eqb}
use borrow.Author.Tests.{eq-eqb}
use Rattle.definitions.specs.General.{every, some}
use Rattle.base.specs.Search.{every_more, some_i}
use Rattle.base.specs.Tests.{is_other}
use Rattle.world.specs.SetupLaws.{fresh_groups}
use Rattle.setup.specs.Groups.{group_in}
use Rattle.setup.proofs.has.Goals as goal

pub loop-p-init : goal.loop-p-init
unfolding every
loop-p-init c = refl

pub returns-then-group_of-g : goal.returns-then-group_of-g
returns-then-group_of-g c =
    let a = c.args in
    sym (fresh_groups a.n (group_in a.bits) a.g
    ∙ some_i a.n (λ i. eqb (group_in a.bits i) a.g) c.loop-p.p (omega arith)
    (eq-eqb _ _ (sym c.group_of.ensures ∙ c.if-group_of-g.true)))

pub loop-p-preserved : goal.loop-p-preserved
loop-p-preserved c =
    let a = c.args in
    every_more c.loop-p.p (λ i. not (eqb (group_in a.bits i) a.g)) c.loop-p.invariant
    (is_other _ _ (λ e. c.if-group_of-g.false (c.group_of.ensures ∙ e)))

pub returns : goal.returns
unfolding some
returns c =
    let l = c.loop-p in
    let a = c.args in
    let e : l.p ≡ a.n = omega arith in
    sym (fresh_groups a.n (group_in a.bits) a.g ∙ ap not (rw e at l.invariant))
