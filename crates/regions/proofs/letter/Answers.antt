-- `regions::letter` meets its contract. Assumes nothing.
use mathlib.Core.Path.{sym, ◌∙◌}
use Rattle.regions.specs.Letters.{letter_ok}
use Rattle.regions.proofs.letter.Goals as goal

pub returns-then-has : goal.returns-then-has
unfolding letter_ok
returns-then-has c = rw (sym c.has.ensures ∙ c.if-has.true)

pub returns-else-has : goal.returns-else-has
unfolding letter_ok
returns-else-has c = rw (sym c.has.ensures ∙ c.if-has.false)
