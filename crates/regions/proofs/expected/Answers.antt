-- `regions::expected` meets its contract. Assumes nothing.
use borrow.Author.Tests.{lt-ltb, le-ltb}
use Rattle.regions.specs.Nexts.{next_of}
use Rattle.regions.proofs.expected.Goals as goal

pub returns-then-q-n : goal.returns-then-q-n
unfolding next_of
returns-then-q-n c = rw (lt-ltb _ _ c.if-q-n.true)

pub returns-else-q-n : goal.returns-else-q-n
unfolding next_of
returns-else-q-n c = rw (le-ltb _ _ c.if-q-n.false)
