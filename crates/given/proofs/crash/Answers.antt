-- `given::crash` meets its contract. Assumes nothing.
use mathlib.Core.Path.{refl, sym, ap, ◌∙◌}
use Rattle.definitions.specs.Steps.{crashes}
use Rattle.std.proofs.Common.{arith}
use Rattle.given.specs.Given.{read_yes, read_no}
use Rattle.given.proofs.crash.Goals as goal

pub returns-then-zeros : goal.returns-then-zeros
returns-then-zeros c =
    let a = c.args in
    ap crashes c.from.ensures
    ∙ read_yes a.bytes.now 5 _ _ (omega arith) c.requires refl
    (sym c.zeros.ensures ∙ c.if-zeros.true)

pub returns : goal.returns
returns c =
    let a = c.args in
    read_no a.bytes.now 5 _ _ (omega arith) c.requires refl
    (sym c.zeros.ensures ∙ c.if-zeros.false)
