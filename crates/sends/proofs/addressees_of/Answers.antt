-- `sends::addressees_of` meets its contract. The loop's invariant: the mask has the addressees below q.
-- Assumes nothing.
use mathlib.Core.Path.{◌≡◌, refl, ap, ◌∙◌}
use Prim.Native.Nat.{ℕ}
use native.Mathlib.Omega.{arith}
use Rattle.definitions.specs.General.{mask_of}
use Rattle.definitions.specs.World.{addressed, view, size}
use Rattle.sends.specs.Sends.{addressees_law, mask_of_more}
use Rattle.sends.proofs.addressees_of.Goals as goal

pub loop-q-init : goal.loop-q-init
unfolding mask_of
loop-q-init c = refl

pub loop-q-preserved : goal.loop-q-preserved
loop-q-preserved c =
    let l = c.loop-q in
    let a = c.args in
    mask_of_more l.q (addressed (view a.w.now) a.m) l.invariant c.is_addressed.ensures c.join_if-a.ensures

pub returns : goal.returns
returns c =
    let l = c.loop-q in
    let a = c.args in
    let e : l.q ≡ view a.w.now size = omega (arith, c.word-n.ensures) in
    addressees_law a.w.now a.m c.requires.bounds c.requires.m_in
    (l.invariant ∙ ap (λ (k : ℕ). mask_of k (addressed (view a.w.now) a.m)) e)
