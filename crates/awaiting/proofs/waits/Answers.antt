-- `awaiting::waits` meets its contract. Assumes nothing.
use mathlib.Core.Path.{ap₂, ◌∙◌}
use mathlib.Core.Bool.{Bool, not, ◌&&◌}
use native.Mathlib.Omega.{arith}
use Rattle.definitions.specs.Words.{is_waiting}
use Rattle.awaiting.specs.Reads.{not_in_fifo, not_in_causal}
use Rattle.awaiting.proofs.waits.Goals as goal

pub part-requires-clause-inside : goal.part-requires-clause-inside
part-requires-clause-inside c =
    let l = c.requires.1 in
    let p = c.args.p in
    omega (arith, c.requires.0, l.counts, l.fifo_lengths p c.requires.0)

pub part-requires-2-clause-inside : goal.part-requires-2-clause-inside
part-requires-2-clause-inside c =
    let l = c.requires.1 in
    let p = c.args.p in
    omega (arith, c.requires.0, l.counts, l.fifo_lengths p c.requires.0, l.causal_lengths p c.requires.0)

pub returns : goal.returns
unfolding is_waiting
returns c =
    let a = c.args in
    let l = c.requires.1 in
    ap₂ (λ (x y : Bool). not x && y)
    (c.lacks-out.ensures ∙ not_in_fifo a.w.now a.p a.m _ c.part.ensures
    (omega (arith, c.requires.0, c.told-w, l.counts, l.fifo_lengths a.p c.requires.0)))
    (c.lacks.ensures ∙ not_in_causal a.w.now a.p a.m _ c.part-2.ensures
    (omega (arith, c.requires.0, c.told-w, l.counts, l.fifo_lengths a.p c.requires.0, l.causal_lengths a.p c.requires.0)))
