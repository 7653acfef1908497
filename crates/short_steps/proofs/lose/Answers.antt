-- `short_steps::lose` meets its contract. Assumes nothing.
use Rattle.definitions.specs.Machine.{leave}
use Rattle.world.specs.Layout.{changes_own}
use Rattle.short_steps.proofs.lose.Goals as goal

pub returns : goal.returns
returns c =
    let a = c.args in
    changes_own a.w.now _ (λ s. leave s a.letter.kind a.letter.message a.letter.from a.letter.to) c.told-w c.take_out.ensures
