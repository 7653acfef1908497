-- `given::zeros` meets its contract. The loop's invariant: it says whether the bytes passed, from i on, are zero. Assumes nothing.
use Rattle.std.proofs.Common.{◌≡◌, ◌+◌}
use Rattle.definitions.specs.General.{every}
use Rattle.given.specs.Given.{passes}
use Rattle.given.proofs.zeros.Given as goal

abbrev pub invariant-loop-b : goal.invariant-loop-b
invariant-loop-b l = l.ok ≡ every (l.i + l.b-index) (passes l.bytes l.i)
