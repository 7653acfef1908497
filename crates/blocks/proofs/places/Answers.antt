-- `blocks::places` meets its contract. The loop's invariant: the places passed are gathered. Assumes nothing.
use mathlib.Core.Path.{ap, ◌∙◌}
use mathlib.Core.Bool.{not}
use Rattle.definitions.specs.General.{bit}
use Rattle.sets.specs.Below.{has_none, has_more}
use Rattle.sets.specs.Members.{item_of}
use Rattle.blocks.proofs.places.Goals as goal

pub loop-i-init : goal.loop-i-init
loop-i-init c = has_none _

pub loop-i-preserved : goal.loop-i-preserved
loop-i-preserved c =
    let l = c.loop-i in
    let a = c.args in
    has_more l.waiting c.join_if-waiting.result l.i (λ i. not (bit a.set (item_of a.log.now i)))
    (not c.has.result) l.invariant (ap not (c.has.ensures ∙ ap (bit a.set) c.from.ensures)) c.join_if-waiting.ensures
