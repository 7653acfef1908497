-- `regions::letters` meets its contract. The loop's invariant: `ok` says whether the masks passed may be.
-- Assumes nothing.
use mathlib.Core.Path.{◌≡◌}
use Prim.Native.Nat.{◌+◌}
use lib.ListN.{get_or}
use Rattle.definitions.specs.General.{every}
use Rattle.regions.specs.Letters.{letter_ok}
use Rattle.regions.proofs.letters.Given as goal

abbrev pub invariant-loop-q : goal.invariant-loop-q
invariant-loop-q l = l.ok ≡ every l.q (λ x. letter_ok (get_or l.w (l.a + x) 0) l.origins l.to x)
