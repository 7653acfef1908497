-- `given::multicast` meets its contract. Assumes nothing.
use mathlib.Core.Path.{refl, sym, ◌∙◌}
use Rattle.std.proofs.Common.{arith}
use Rattle.given.specs.Given.{read_yes, read_no, same_multicast}
use Rattle.given.proofs.multicast.Goals as goal

pub returns-then-zeros : goal.returns-then-zeros
returns-then-zeros c =
    let a = c.args in
    same_multicast c.from.ensures c.from-then-zeros.ensures c.low_first.ensures
    ∙ read_yes a.bytes.now 1 _ _ (omega arith) c.requires refl
    (sym c.zeros.ensures ∙ c.if-zeros.true)

pub returns : goal.returns
returns c =
    let a = c.args in
    read_no a.bytes.now 1 _ _ (omega arith) c.requires refl
    (sym c.zeros.ensures ∙ c.if-zeros.false)
