-- `tables::put_table` meets its contract. The loop's invariant: the rows below g are stored. Assumes
-- nothing.
use mathlib.Core.Path.{◌≡◌, refl, sym, ap, ◌∙◌}
use mathlib.Core.List.{List, [], ◌++◌}
use Prim.Native.Nat.{ℕ, ◌+◌, ◌*◌, ◌<◌}
use native.Mathlib.Omega.{arith}
use borrow.Author.Rules.{rules}
use lib.ListN.{length, take, get_or, length-append}
use Rattle.base.specs.Tabulate.{splice, splice_append}
use Rattle.tables.specs.Table.{concat}
use Rattle.tables.specs.Laws.{splice_nil, concat_more, row_long}
use Rattle.tables.proofs.put_table.Goals as goal
use Rattle.tables.proofs.put_table.Goals.{After-r-in-loop-g-1}

row16 : (c : After-r-in-loop-g-1)
    → length (get_or c.args.t
    c.loop-g.g []) ≡ 16
row16 c =
    let t = c.well_formed.1.1.0 in
    row_long 16 c.args.t t.0 c.loop-g.g (search rules) t.1.1

pub loop-g-init : goal.loop-g-init
unfolding concat
loop-g-init c = (sym (splice_nil _ _), refl)

pub loop-g-preserved : goal.loop-g-preserved
loop-g-preserved c =
    let l = c.loop-g in
    let a = c.args in
    let r : List ℕ = get_or a.t l.g [] in
    let h : l.g < length a.t = search rules in
    let lr : length r ≡ 16 = row16 (goal.at.loop-g-preserved c).After-r-in-loop-g-1 in
    let more : concat (take (l.g + 1) a.t) ≡ concat (take l.g a.t) ++ r = concat_more a.t
    l.g h in (
      c.put.ensures ∙ ap (λ (x : List ℕ). splice x (a.base + l.g * 16) r) l.invariant.0
          ∙ splice_append a.w.now a.base (concat (take l.g a.t)) r (a.base + l.g * 16)
          (omega arith) (omega (arith, c.requires))
          ∙ ap (splice a.w.now a.base) (sym more),
      ap length more ∙ simp length-append (omega arith),
    )
