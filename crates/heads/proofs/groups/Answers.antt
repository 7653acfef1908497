-- `heads::groups` meets its contract: the two tests of what was gathered. Assumes nothing.
use Rattle.definitions.specs.World.{view}
use native.Mathlib.Omega.{arith}
use Rattle.heads.specs.Groups.{group_test}
use Rattle.heads.proofs.groups.Goals as goal

pub returns-then-good : goal.returns-then-good
returns-then-good c =
    let g = c.gather-set in
    group_test (view c.args.w.now) c.args.n g.result.set g.result.any c.requires.size_is
    (omega arith) g.ensures _ c.if-good.true

pub returns-else-good : goal.returns-else-good
returns-else-good c =
    let g = c.gather-set in
    group_test (view c.args.w.now) c.args.n g.result.set g.result.any c.requires.size_is
    (omega arith) g.ensures _ c.if-good.false
