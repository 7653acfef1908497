-- `telling::replaying` meets its contract: each case of the answer has its number and its values. Assumes nothing.
use mathlib.Core.Path.{sym, ap}
use Prim.Native.Nat.{◌<◌}
use native.Mathlib.Omega.{arith}
use Rattle.definitions.specs.Answers.{replaying_reply}
use Rattle.telling.proofs.replaying.Goals as goal
use Rattle.telling.proofs.replaying.Goals.{In-Ok}

-- both numbers fit 32 bits
small : (c : In-Ok) → (c.in-Ok.counts.steps < 4294967296) × (c.in-Ok.counts.refused < 4294967296)
small c =
    let h = c.requires in
    let e = ap replaying_reply (sym c.in-Ok.is) in
    (h.0 _ e, h.1 _ e)

pub overflow_cast-steps : goal.overflow_cast-steps
overflow_cast-steps c = omega (arith, small (goal.at.overflow_cast-steps c).In-Ok)

pub overflow_cast-refused : goal.overflow_cast-refused
overflow_cast-refused c = omega (arith, small (goal.at.overflow_cast-refused c).In-Ok)
