-- The letter that the search finds, as the definitions have it. Assumes nothing.
use Rattle.std.specs.Prelude.{Option, Some, None}
use Rattle.definitions.specs.Settle.{Choice, letter, nothing}
use Rattle.cells.specs.declared.Letter.{Letter}

-- The letter, or that there is none.
abbrev pub choice_of : Option Letter → Choice
choice_of (Some l) = letter l.kind l.message l.from l.to
choice_of None = nothing
