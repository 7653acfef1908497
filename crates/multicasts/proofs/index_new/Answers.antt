-- `multicasts::index_new` meets its contract. Assumes nothing.
use mathlib.Core.Path.{sym, ap, ap₂, ◌∙◌}
use Prim.Native.Nat.{ℕ, ◌+◌}
use native.Mathlib.Omega.{arith}
use lib.ListN.{set}
use lib.Seq.{get_or-set_other}
use Rattle.definitions.specs.General.{with}
use Rattle.definitions.specs.World.{view}
use Rattle.world.specs.Layout.{encode_view}
use Rattle.multicasts.proofs.index_new.Goals as goal

pub returns : goal.returns
returns c =
    let a = c.args in
    ap₂ (λ (u v : ℕ). set (set a.x.now a.m u) (64 + a.p) v)
    (c.from.ensures ∙ c.addressees_of.ensures (view a.w.now) (sym (encode_view a.w.now c.told-w)))
    (c.join.ensures ∙ ap (λ (y : ℕ). with y a.m)
    (get_or-set_other a.x.now a.m (64 + a.p) c.from.result 0 (λ e. omega (arith, c.requires.m_in))))
