-- `comparing::answer` meets its contract. The loop's invariant: the pairs passed have their bytes. Assumes nothing.
use mathlib.Core.Path.{◌≡◌}
use Prim.Native.Nat.{ℕ, ◌<◌}
use lib.ListN.{length, get_or}
use Rattle.definitions.specs.World.{view}
use Rattle.definitions.specs.Words.{precedes_byte, first_of, second_of}
use Rattle.comparing.proofs.answer.Given as goal

abbrev pub invariant-loop-i : goal.invariant-loop-i
invariant-loop-i l = (length l.answers ≡ length l.initial.answers)
    × ((j : ℕ) → j < l.i → get_or l.answers j 0 ≡ precedes_byte (view l.w) (first_of l.pairs j) (second_of l.pairs j))
