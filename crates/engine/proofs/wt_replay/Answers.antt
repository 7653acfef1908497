-- `engine::wt_replay` meets its contract: the answer of the call, told; its numbers are small. Assumes nothing.
use mathlib.Core.Path.{◌∙◌}
use native.Mathlib.Omega.{arith}
use Rattle.replaying.specs.Turns.{counts_small}
use Rattle.engine.proofs.wt_replay.Goals as goal

pub replaying-requires : goal.replaying-requires
replaying-requires c =
    let e = c.replay.ensures.answer in (
      λ n z. omega (arith, counts_small _ _ n.steps n.refused (z ∙ e)),
      λ n z. omega (arith, counts_small _ _ n.steps n.refused (z ∙ e)),
    )
