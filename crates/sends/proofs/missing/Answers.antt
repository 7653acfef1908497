-- `sends::missing` meets its contract. Assumes nothing.
use mathlib.Core.Path.{refl, ap, ◌∙◌}
use lib.Bits.{bit_and}
use Rattle.definitions.specs.World.{view}
use Rattle.index.specs.Index.{to_low}
use Rattle.sends.specs.Marks.{trusted_unmarked, missing_count}
use Rattle.sends.proofs.missing.Goals as goal

pub to-to-requires-clause-low : goal.to-to-requires-clause-low
to-to-requires-clause-low c =
    to_low (view c.args.w.now) c.args.x.now c.args.m c.requires.bounds c.requires.index c.requires.m_in

pub returns : goal.returns
returns c =
    let a = c.args in
    let s = view a.w.now in
    missing_count s a.p a.m c.requires.bounds.sizes refl
    (ap (bit_and (trusted_unmarked s a.p a.m)) (c.to-to.ensures ∙ c.requires.index.to a.m c.requires.m_in)) c.count.ensures
