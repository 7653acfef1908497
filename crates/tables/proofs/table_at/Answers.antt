-- `tables::table_at` meets its contract. The loop's invariant: the rows below g are read. Assumes nothing.
use Rattle.base.specs.Tabulate.{filled_more}
use Prim.Native.Nat.{ℕ, ◌<◌, ◌*◌}
use mathlib.Core.Path.{◌≡◌, sym, ap, ◌∙◌}
use mathlib.Core.List.{List, []}
use native.Mathlib.Omega.{arith}
use lib.ListN.{length-set, take, drop, get_or}
use lib.Seq.{take_all, drop-drop}
use Rattle.tables.specs.Table.{table_at}
use Rattle.tables.specs.Laws.{row_of, length_table}
use Rattle.tables.proofs.table_at.Goals as goal

pub loop-g-preserved : goal.loop-g-preserved
loop-g-preserved c =
    let l = c.loop-g in
    let w : List ℕ = c.args.w.now in
    let b : ℕ = c.args.base in
    let h : l.g < 8 = omega arith in
    let e : c.row_at.result ≡ get_or (table_at 8 16 (drop b w)) l.g [] =
    c.row_at.ensures ∙ sym (row_of 8 16 (drop b w) l.g h ∙ ap (take 16) (drop-drop (l.g * 16) b w)) in (
      simp length-set (omega arith),
      rw e (filled_more [] l.t (table_at 8 16 (drop b w)) l.g (omega arith) (rw length_table h) l.invariant.1),
    )

pub returns : goal.returns
returns c =
    let l = c.loop-g in
    let e : l.g ≡ 8 = omega arith in
    sym (take_all 8 l.t (omega arith)) ∙ (rw e at l.invariant.1)
    ∙ take_all 8 _ (rw length_table (omega arith))
