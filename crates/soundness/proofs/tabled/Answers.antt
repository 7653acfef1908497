-- `soundness::tabled` meets its contract: the processes, and what is past them. Assumes nothing.
use mathlib.Core.Path.{sym, ap₂, ◌∙◌}
use Rattle.base.specs.Tests.{both, both_l}
use Rattle.blocks.specs.Known.{from_small}
use Rattle.soundness.specs.Whole.{beyond_law}
use Rattle.soundness.specs.Indexed.{index_law}
use Rattle.soundness.proofs.tabled.Goals as goal

pub enter-requires : goal.enter-requires
enter-requires c =
    let a = c.args in
    record {
      few = c.requires.ready.sized.few;
      small = from_small a.w.now a.t.now c.requires.ready c.requires.tables;
      powers = c.requires.tables.powers;
    }

pub returns : goal.returns
returns c =
    let a = c.args in
    let z = c.requires.ready.sized in
    let f = c.processes-first in
    let g = ap₂ both f.ensures.good c.beyond.ensures ∙ beyond_law a.w.now a.t.now.size a.t.now.count z in
    record {
      is_good = g;
      index = λ q. index_law a.w.now a.t.now z.size_is z.count_is z.few c.requires.ready.to c.requires.tables _ _ c.enter.ensures
          (rw (both_l f.result c.beyond.result q) at f.ensures.rows) (sym g ∙ q);
    }
