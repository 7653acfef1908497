-- `sends::send` meets its contract. Assumes nothing.
use mathlib.Core.Path.{◌∙◌}
use Prim.Native.Nat.{◌<◌}
use native.Mathlib.Omega.{arith}
use Rattle.definitions.specs.World.{view}
use Rattle.index.specs.Index.{to_low}
use Rattle.sends.specs.Sends.{sent_law, addressees_law}
use Rattle.sends.proofs.send.Goals as goal

pub to-a-requires-clause-low : goal.to-a-requires-clause-low
to-a-requires-clause-low c =
    to_low (view c.args.w.now) c.args.x.now c.args.m c.requires.bounds c.requires.index c.requires.m_in

pub returns : goal.returns
returns c s e =
    let a = c.args in
    let hm : a.m < 64 = omega arith in
    c.set_letters.ensures
    ∙ sent_law a.w.now a.p a.m a.k c.requires.p_in hm c.requires.k_in
    (addressees_law a.w.now a.m c.requires.bounds hm (c.to-a.ensures ∙ c.requires.index.to a.m c.requires.m_in)) s e
