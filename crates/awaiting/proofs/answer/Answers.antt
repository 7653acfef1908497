-- `awaiting::answer` meets its contract. Assumes nothing.
use native.Mathlib.Omega.{arith}
use Rattle.definitions.specs.World.{view}
use Rattle.awaiting.specs.Reads.{none_short, none_next, one_next}
use Rattle.awaiting.proofs.answer.Goals as goal

pub returns-in_default : goal.returns-in_default
returns-in_default c =
    none_short (view c.args.w.now) c.args.p c.args.m c.in_default.ensures

pub lowest_awaited-requires : goal.lowest_awaited-requires
lowest_awaited-requires c = (c.requires.0, omega (arith, c.in-Some.ensures, c.requires.2.sizes), c.requires.2)

pub returns-in_default-lowest_awaited : goal.returns-in_default-lowest_awaited
returns-in_default-lowest_awaited c =
    none_next (view c.args.w.now) c.args.p c.args.m c.in-Some.q c.in-Some.ensures.1 c.in-Some.ensures.0
    c.in_default-lowest_awaited.ensures

pub returns : goal.returns
returns c =
    one_next (view c.args.w.now) c.args.p c.args.m c.in-Some.q c.in-Some.ensures.1 c.in-Some.ensures.0
    c.in-Some-lowest_awaited.x c.in-Some-lowest_awaited.ensures.1 c.in-Some-lowest_awaited.ensures.0
