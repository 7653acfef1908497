-- `tables::flat` meets its contract. Assumes nothing.
use mathlib.Core.Path.{ap, ◌∙◌}
use Prim.Native.Nat.{ℕ, ◌*◌}
use Rattle.tables.specs.Table.{concat}
use Rattle.tables.specs.Laws.{length_rows, splice_whole}
use Rattle.tables.proofs.flat.Goals as goal

pub returns : goal.returns
returns c =
    let g = c.well_formed.0 in
    let t = c.args.t in
    c.put_table.ensures ∙ splice_whole _ (concat t)
    (length_rows 16 t g.0 g.1.1 ∙ ap (λ (n : ℕ). n * 16) g.1.0.1)
