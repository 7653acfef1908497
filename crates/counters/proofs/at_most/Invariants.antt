-- `counters::at_most` meets its contract. The loop's invariant: `ok` says whether the entries passed are let through.
-- Assumes nothing.
use mathlib.Core.Path.{◌≡◌}
use Rattle.definitions.specs.General.{every}
use Rattle.counters.specs.Counters.{rows_at_most, let_through}
use Rattle.counters.proofs.at_most.Given as goal

abbrev pub invariant-loop-q : goal.invariant-loop-q
invariant-loop-q l = l.ok ≡ every l.q (let_through l.n (rows_at_most l.sender l.counters l.del))
