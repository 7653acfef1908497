-- `tables::merged_row` meets its contract. The loop's invariant: the entries below i are merged. Assumes
-- nothing.
use Prim.Native.Nat.{max}
use mathlib.Core.Path.{◌≡◌, ap, ◌∙◌}
use borrow.Author.Rules.{rules}
use native.Mathlib.Omega.{arith}
use lib.ListN.{set}
use Rattle.tables.specs.Table.{max_row}
use Rattle.tables.specs.Zip.{joined_more, joined_all}
use Rattle.tables.proofs.merged_row.Goals as goal

pub loop-i-preserved : goal.loop-i-preserved
loop-i-preserved c =
    let l = c.loop-i in
    ap (set l.r l.i) c.max.ensures ∙ joined_more max 0 c.args.a c.args.b l.r l.i (search rules) (search rules) l.invariant

pub returns : goal.returns
unfolding max_row
returns c =
    let l = c.loop-i in
    let e : l.i ≡ 16 = omega arith in
    (rw e at l.invariant) ∙ joined_all max 0 c.args.a c.args.b 16 (search rules)
