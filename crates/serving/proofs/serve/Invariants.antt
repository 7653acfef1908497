-- `serving::serve` meets its contract. The loop's invariant: the world is sound, index and queues are its, and settling by
-- turns goes on from it, in the turn reached, with what is left of the budget. Assumes nothing.
use Rattle.std.proofs.Common.{◌≡◌, ◌-◌}
use Rattle.definitions.specs.Settle.{by_turns}
use Rattle.definitions.specs.Words.{settle_words}
use Rattle.settling.specs.Settling.{settling_from}
use Rattle.serving.specs.Serving.{Turning}
use Rattle.serving.proofs.serve.Given as goal

abbrev pub invariant-loop-made : goal.invariant-loop-made
invariant-loop-made l =
    Turning l.w l.x l.a l.up l.quiescent l.turn
    × (settle_words by_turns l.initial.w l.budget ≡ settling_from by_turns (l.budget - l.made) l.made l.turn l.w)
