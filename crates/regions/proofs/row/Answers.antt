-- `regions::row` meets its contract. Assumes nothing.
use mathlib.Core.Path.{ap, ap₂, ◌∙◌}
use Prim.Native.Nat.{ℕ, ◌-◌, ◌*◌}
use lib.Bits.{bit_and, bit_or}
use lib.Dec.{eqb}
use Rattle.regions.specs.Rows.{row_none}
use Rattle.regions.proofs.row.Goals as goal

pub returns : goal.returns
returns c =
    let a = c.args in
    ap₂ (λ (x y : ℕ). eqb (bit_or x y) 0) c.lacking.ensures c.excess.ensures
    ∙ ap (λ (x : ℕ). eqb (bit_or (a.marks - bit_and a.marks (a.to * x)) (a.held - x)) 0)
    c.flag-mine.ensures
    ∙ row_none a.held a.marks a.to a.p
