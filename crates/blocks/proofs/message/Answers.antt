-- `blocks::message` meets its contract: the parts of the block, side by side. Assumes nothing.
use mathlib.Core.Path.{◌∙◌}
use Prim.Native.Nat.{◌+◌, ◌*◌}
use native.Mathlib.Omega.{arith}
use Rattle.ranges.specs.Laws.{part_word, within_part}
use Rattle.blocks.specs.Message.{low, message_law}
use Rattle.blocks.proofs.message.Goals as goal

pub returns : goal.returns
returns c =
    let a = c.args in
    let l = low a.w.now a.m a.t.now c.requires.ready c.requires.m_in in
    let stamps = within_part a.w.now (6867 + a.m * 187 + 2) _ a.t.now.limits 0 136 _ (omega arith) (omega (arith, c.told-w, l))
    (λ i d. part_word a.t.now.limits 0 136 i d) in
    rw (c.within.ensures ∙ stamps, c.flight.ensures) (message_law a.w.now a.m a.t.now c.requires.ready c.requires.m_in)
