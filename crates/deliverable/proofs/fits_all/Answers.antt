-- `deliverable::fits_all` meets its contract. Assumes nothing.
use mathlib.Core.Path.{ap₂, ◌∙◌}
use Rattle.definitions.specs.General.{every}
use Rattle.definitions.specs.World.{view, size, sender}
use Rattle.counters.specs.Counters.{rows_at_most}
use Rattle.deliverable.specs.Tests.{fits_rows}
use Rattle.deliverable.proofs.fits_all.Goals as goal

pub returns : goal.returns
returns c =
    let a = c.args in
    let h = (rw c.unwrap-counters.ensures at c.try_from.ensures).1 in
    let k = (rw c.unwrap-del.ensures at c.try_from-2.ensures).1 in
    let v = view a.w.now in
    c.at_most.ensures ∙ ap₂ (λ x y. every (v size) (rows_at_most (v (sender a.m)) x y)) h.same k.same
    ∙ fits_rows a.w.now a.p c.word-g.result a.m c.word-g.ensures c.requires.bounds.sizes
