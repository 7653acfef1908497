-- `blocks::tidy` meets its contract: each log against its limits. Assumes nothing.
use mathlib.Core.Path.{ap, ap₂, ◌∙◌}
use Prim.Native.Nat.{ℕ, ◌+◌, ◌-◌, ◌*◌}
use native.Mathlib.Omega.{arith}
use Rattle.base.specs.Tests.{both}
use Rattle.ranges.specs.Laws.{part_word, within_part}
use Rattle.logtest.specs.Log.{log_at}
use Rattle.blocks.specs.Logs.{tidy_log, tidy_logs, tidy_within}
use Rattle.blocks.specs.Process.{low}
use Rattle.blocks.proofs.tidy.Goals as goal

pub returns : goal.returns
unfolding tidy_logs
returns c =
    let a = c.args in
    let z = c.requires.ready.bounds in
    let k = c.requires.lengths in
    let l = low a.w.now a.p a.t.now c.requires.ready c.requires.p_in in
    ap₂ both
    (c.within.ensures
    ∙ within_part a.w.now (3 + a.p * 429 + 301) _ a.t.now.limits (216 - c.word-f.result) 64 _ (omega arith) (omega (arith, c.told-w, l))
    (λ i d. part_word a.t.now.limits (216 - c.word-f.result) _ i (omega (arith, c.word-f.ensures, k.fifo_few)))
    ∙ tidy_within a.w.now a.t.now.limits (3 + a.p * 429 + 301) c.word-f.result z
    (omega (arith, c.word-f.ensures, k.fifo_few))
    ∙ ap (λ (n : ℕ). tidy_log n (log_at a.w.now (3 + a.p * 429 + 301))) c.word-f.ensures)
    (c.within-2.ensures
    ∙ within_part a.w.now (3 + a.p * 429 + 365) _ a.t.now.limits (216 - c.word-c.result) 64 _ (omega arith) (omega (arith, c.told-w, l))
    (λ i d. part_word a.t.now.limits (216 - c.word-c.result) _ i (omega (arith, c.word-c.ensures, k.causal_few)))
    ∙ tidy_within a.w.now a.t.now.limits (3 + a.p * 429 + 365) c.word-c.result z
    (omega (arith, c.word-c.ensures, k.causal_few))
    ∙ ap (λ (n : ℕ). tidy_log n (log_at a.w.now (3 + a.p * 429 + 365))) c.word-c.ensures)
