-- `counters::at_most` meets its contract. The loop's invariant: `ok` says whether the entries passed are let through.
-- Assumes nothing.
use mathlib.Core.Path.{ap, ◌∙◌}
use Prim.Native.Nat.{ℕ}
use lib.Dec.{eqb, leb}
use lib.ListN.{get_or}
use Rattle.base.specs.Tests.{either}
use native.Mathlib.Omega.{arith}
use Rattle.base.specs.Search.{every_none, gathers, gathered}
use Rattle.counters.specs.Counters.{let_through, rows_below}
use Rattle.counters.proofs.at_most.Goals as goal

pub loop-q-init : goal.loop-q-init
loop-q-init c = every_none _

pub loop-q-preserved : goal.loop-q-preserved
loop-q-preserved c =
    let a = c.args in
    let l = c.loop-q in
    gathers _ l.q l.ok _ l.invariant
    (ap (λ (i : ℕ). let_through a.n (λ q. either (eqb q a.sender) (leb (get_or a.counters.now i 0) (get_or a.del.now i 0))) l.q)
    c.from-i.ensures)

pub returns : goal.returns
returns c =
    let a = c.args in
    let l = c.loop-q in
    gathered _ l.q 16 l.invariant (omega arith)
    ∙ rows_below a.n 16 a.sender a.counters.now a.del.now (omega arith) (omega arith)
