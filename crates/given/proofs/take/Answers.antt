-- `given::take` meets its contract. Assumes nothing.
use Rattle.std.proofs.Common.{◌≡◌, true, false, get_or, arith}
use Rattle.given.specs.Given.{read_short, read_other, letter_read}
use Rattle.given.proofs.take.Goals as goal

pub returns-in_default : goal.returns-in_default
returns-in_default c = read_short c.args.bytes.now (λ e. c.in_default.ensures.1 e)

pub returns-in_default-step : goal.returns-in_default-step
returns-in_default-step c =
    let k = c.in-Ok.ensures.1 in
    let same : get_or c.in-Ok.step.now 0 0 ≡ get_or c.args.bytes.now 0 0 = rw k.same in
    read_other c.args.bytes.now k.long (λ z. omega arith) (λ z. omega arith) (λ z. omega arith)
    (λ z. omega arith) (λ z. omega arith)

pub returns-in_ok-letter-in-2 : goal.returns-in_ok-letter-in-2
returns-in_ok-letter-in-2 c =
    let k = c.in-Ok.ensures.1 in
    letter_read false c.args.bytes.now _ k.long (rw k.same at c.in-2.is) (rw k.same at c.in_ok-letter-in-2.ensures)

pub returns-in_err-letter-in-2 : goal.returns-in_err-letter-in-2
returns-in_err-letter-in-2 c =
    let k = c.in-Ok.ensures.1 in
    rw c.from_residual.ensures
    (letter_read false c.args.bytes.now _ k.long (rw k.same at c.in-2.is) (rw k.same at c.in_err-letter-in-2.ensures))

pub returns-in_ok-letter-in-3 : goal.returns-in_ok-letter-in-3
returns-in_ok-letter-in-3 c =
    let k = c.in-Ok.ensures.1 in
    letter_read true c.args.bytes.now _ k.long (rw k.same at c.in-3.is) (rw k.same at c.in_ok-letter-in-3.ensures)

pub returns-in_err-letter-in-3 : goal.returns-in_err-letter-in-3
returns-in_err-letter-in-3 c =
    let k = c.in-Ok.ensures.1 in
    rw c.from_residual-in_err-letter-in-3.ensures
    (letter_read true c.args.bytes.now _ k.long (rw k.same at c.in-3.is) (rw k.same at c.in_err-letter-in-3.ensures))
