-- `sends::addressees_of` meets its contract. The loop's invariant: the mask has the addressees below q.
-- Assumes nothing.
use mathlib.Core.Path.{◌≡◌}
use Rattle.definitions.specs.General.{mask_of}
use Rattle.definitions.specs.World.{addressed, view}
use Rattle.sends.proofs.addressees_of.Given as goal

abbrev pub invariant-loop-q : goal.invariant-loop-q
invariant-loop-q l = l.a ≡ mask_of l.q (addressed (view l.w) l.m)
