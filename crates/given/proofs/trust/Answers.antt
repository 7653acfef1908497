-- `given::trust` meets its contract. Assumes nothing.
use mathlib.Core.Path.{refl, sym, ap₂, ◌∙◌}
use Rattle.definitions.specs.Steps.{trusts}
use Rattle.std.proofs.Common.{arith}
use Rattle.given.specs.Given.{read_yes, read_no}
use Rattle.given.proofs.trust.Goals as goal

pub returns-then-zeros : goal.returns-then-zeros
returns-then-zeros c =
    let a = c.args in
    ap₂ trusts c.from.ensures c.low_first.ensures
    ∙ read_yes a.bytes.now 4 _ _ (omega arith) c.requires refl
    (sym c.zeros.ensures ∙ c.if-zeros.true)

pub returns : goal.returns
returns c =
    let a = c.args in
    read_no a.bytes.now 4 _ _ (omega arith) c.requires refl
    (sym c.zeros.ensures ∙ c.if-zeros.false)
