-- `blocks::logs` meets its contract: one pass over each log, and next against what was counted. Assumes nothing.
use mathlib.Core.Bool.{true, false}
use native.Mathlib.Omega.{arith}
use Rattle.blocks.specs.Logs.{passed_small}
use Rattle.blocks.specs.Process.{passable, causal_items, logs_told}
use Rattle.blocks.proofs.logs.Goals as goal

pub pass-first-requires : goal.pass-first-requires
pass-first-requires c =
    let a = c.args in
    let r = c.requires in
    passable a.w.now a.p a.t.now r.ready r.p_in r.lengths r.tidied r.tables _ (omega (arith, c.word-f.ensures))

pub of-causal-requires-clause-low : goal.of-causal-requires-clause-low
of-causal-requires-clause-low c =
    let a = c.args in
    let r = c.requires in
    causal_items a.w.now a.p a.t.now r.ready r.p_in r.lengths r.tidied _ (omega (arith, c.word-c.ensures))

pub nexts-requires-clause-small : goal.nexts-requires-clause-small
nexts-requires-clause-small c =
    let a = c.args in
    let r = c.requires in
    passed_small _ _ _ _ _ _ _ (passable a.w.now a.p a.t.now r.ready r.p_in r.lengths r.tidied r.tables _ (omega (arith, c.word-f.ensures))).few
    c.pass-first.ensures

pub returns-then-good : goal.returns-then-good
returns-then-good c =
    let a = c.args in
    let r = c.requires in
    logs_told a.w.now a.p a.t.now r.ready r.p_in r.lengths r.tidied r.tables c.word-f.result c.word-c.result _ _ _ _ _ _ _ true
    c.word-f.ensures c.word-c.ensures (omega arith) (omega arith) (omega arith) c.pass-first.ensures c.of-causal.ensures c.nexts.ensures
    (rw (c.count.ensures, c.has.ensures, c.count-2.ensures) at c.if-good.true)

pub returns-else-good : goal.returns-else-good
returns-else-good c =
    let a = c.args in
    let r = c.requires in
    logs_told a.w.now a.p a.t.now r.ready r.p_in r.lengths r.tidied r.tables c.word-f.result c.word-c.result _ _ _ _ _ _ _ false
    c.word-f.ensures c.word-c.ensures (omega arith) (omega arith) (omega arith) c.pass-first.ensures c.of-causal.ensures c.nexts.ensures
    (rw (c.count.ensures, c.has.ensures, c.count-2.ensures) at c.if-good.false)
