-- `sends::has_marks` meets its contract. Assumes nothing.
use Rattle.definitions.specs.World.{view}
use Rattle.sends.specs.Marks.{none_missing}
use Rattle.sends.proofs.has_marks.Goals as goal

pub returns : goal.returns
returns c =
    let a = c.args in
    none_missing (view a.w.now) a.p a.m c.missing.ensures
