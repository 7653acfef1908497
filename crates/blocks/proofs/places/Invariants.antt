-- `blocks::places` meets its contract. The loop's invariant: the places passed are gathered. Assumes nothing.
use mathlib.Core.Bool.{not}
use lib.Dec.{ltb}
use Rattle.definitions.specs.General.{bit}
use Rattle.base.specs.Tests.{both}
use Rattle.sets.specs.Lowest.{Has}
use Rattle.sets.specs.Members.{item_of}
use Rattle.blocks.proofs.places.Given as goal

abbrev pub invariant-loop-i : goal.invariant-loop-i
invariant-loop-i l = Has l.waiting (λ i. both (ltb i l.i) (not (bit l.set (item_of l.log i))))
