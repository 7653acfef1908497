-- `blocks::waiting` meets its contract: none where the two sets are one, else by a search. Assumes nothing.
use mathlib.Core.Path.{subst}
use Prim.Native.Nat.{ℕ}
use lib.ListN.{length}
use Rattle.sets.specs.Members.{Members, item_of}
use Rattle.blocks.specs.Places.{none_outside}
use Rattle.blocks.proofs.waiting.Goals as goal

pub returns-then-items-set : goal.returns-then-items-set
returns-then-items-set c =
    let a = c.args in
    none_outside a.log.now a.set c.requires.low
    (subst (λ (x : ℕ). Members x (length a.log.now) (item_of a.log.now)) c.if-items-set.true c.requires.members)
