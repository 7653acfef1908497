-- `setup::follows_one` meets its contract: the group is 0, or the one below it is some process's. Assumes nothing.
use mathlib.Core.Path.{sym, ap, ◌∙◌}
use Prim.Native.Nat.{ℕ, ◌-◌}
use borrow.Author.Tests.{eq-eqb, ne_eqb}
use Rattle.definitions.specs.World.{has_group}
use Rattle.definitions.specs.Setup.{fresh}
use Rattle.setup.specs.Groups.{group_in, follows}
use Rattle.setup.proofs.follows_one.Goals as goal

pub returns-then-g-eq0 : goal.returns-then-g-eq0
unfolding follows
returns-then-g-eq0 c =
    eq-eqb c.group_of-g.result 0 c.if-g-eq0.true
    ∙ rw (eq-eqb (group_in c.args.bits c.args.p) 0
    (sym c.group_of-g.ensures ∙ c.if-g-eq0.true))

pub returns-else-g-eq0 : goal.returns-else-g-eq0
unfolding follows
returns-else-g-eq0 c =
    let a = c.args in
    rw (ne_eqb (group_in a.bits a.p) 0 (λ e. c.if-g-eq0.false (c.group_of-g.ensures ∙ e)))
    (c.has.ensures ∙ ap (λ (x : ℕ). has_group (fresh a.n (group_in a.bits)) (x - 1)) c.group_of-g.ensures)
