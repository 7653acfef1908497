-- `cells::put` meets its contract: a part copied in. Assumes nothing.
use mathlib.Core.Path.{refl}
use lib.ListN.{length}
use Rattle.base.specs.Tabulate.{put_part}
use Rattle.cells.proofs.put.Goals as goal

pub returns : goal.returns
returns c =
    let a = c.args in
    put_part a.w.now a.a.now _ a.at (length a.a.now) c.copy.ensures refl
