-- `tables::merged` meets its contract. The loop's invariant: the rows below g are merged. Assumes nothing.
use mathlib.Core.Path.{◌≡◌, ap, ◌∙◌}
use mathlib.Core.List.{[]}
use borrow.Author.Rules.{rules}
use native.Mathlib.Omega.{arith}
use lib.ListN.{set}
use Rattle.tables.specs.Table.{max_row, max_table}
use Rattle.tables.specs.Zip.{joined_more, joined_all}
use Rattle.tables.proofs.merged.Goals as goal

pub loop-g-preserved : goal.loop-g-preserved
loop-g-preserved c =
    let l = c.loop-g in
    ap (set l.t l.g) c.merged_row.ensures
    ∙ joined_more max_row [] c.args.a c.args.b l.t l.g (search rules) (search rules) l.invariant

pub returns : goal.returns
unfolding max_table
returns c =
    let l = c.loop-g in
    let e : l.g ≡ 8 = omega arith in
    (rw e at l.invariant) ∙ joined_all max_row [] c.args.a c.args.b 8 (search rules)
