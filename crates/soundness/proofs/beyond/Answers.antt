-- `soundness::beyond` meets its contract: ranges of zeros, and the blocks of the messages. Assumes nothing.
use mathlib.Core.Path.{ap₂, ◌∙◌}
use Prim.Native.Nat.{◌+◌, ◌*◌, ◌-◌}
use native.Mathlib.Omega.{arith}
use Rattle.base.specs.Tests.{both}
use Rattle.ranges.specs.Laws.{zeros_part}
use Rattle.soundness.specs.Whole.{beyond_fine}
use Rattle.soundness.proofs.beyond.Goals as goal

pub returns : goal.returns
unfolding beyond_fine
returns c =
    let w = c.args.w.now in
    let t = c.args.t.now in
    let z = c.requires.sized in
    ap₂ both
    (ap₂ both
    (c.zeros.ensures ∙ zeros_part w (3 + t.size * 429) _ (6864 - t.size * 429) (omega (arith, z.high)) (omega (arith, z.high)))
    c.messages.ensures)
    (c.zeros-2.ensures ∙ zeros_part w (6867 + t.count * 187) _ (13613 - t.count * 187) (omega (arith, z.few)) (omega (arith, z.few)))
