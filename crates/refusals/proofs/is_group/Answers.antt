-- `refusals::is_group` meets its contract. The loop's invariant: no process below p is of group g. Assumes
-- nothing.
use mathlib.Core.Path.{◌≡◌, sym, ap, ◌∙◌}
use mathlib.Core.Bool.{not}
use Prim.Native.Nat.{ℕ}
use native.Mathlib.Omega.{arith}
use lib.Dec.{eqb}
use borrow.Author.Tests.{eq-eqb}
use Rattle.definitions.specs.General.{every, some}
use Rattle.definitions.specs.World.{size, group, view, has_group}
use Rattle.base.specs.Tests.{is_other}
use Rattle.base.specs.Search.{every_intro, every_more, some_i}
use Rattle.refusals.proofs.is_group.Goals as goal

pub loop-p-init : goal.loop-p-init
loop-p-init c = every_intro 0 _ (λ i h. absurd (omega arith))

pub returns-then-word-g : goal.returns-then-word-g
unfolding has_group
returns-then-word-g c =
    let l = c.loop-p in
    let a = c.args in
    sym (some_i (view a.w.now size) (λ i. eqb (view a.w.now (group i)) a.g) l.p
    (omega (arith, c.word-n.ensures))
    (eq-eqb _ a.g (sym c.word.ensures ∙ c.if-word-g.true)))

pub loop-p-preserved : goal.loop-p-preserved
loop-p-preserved c =
    let l = c.loop-p in
    let a = c.args in
    every_more l.p (λ i. not (eqb (view a.w.now (group i)) a.g)) l.invariant
    (is_other _ a.g (λ z. c.if-word-g.false (c.word.ensures ∙ z)))

pub returns : goal.returns
unfolding has_group some
returns c =
    let l = c.loop-p in
    let a = c.args in
    let e : l.p ≡ view a.w.now size = omega (arith, c.word-n.ensures) in
    sym (ap not (ap (λ (k : ℕ). every k (λ i. not (eqb (view a.w.now (group i)) a.g))) (sym e)
    ∙ l.invariant))
