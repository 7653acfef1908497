-- `limits::addressees` meets its contract. The loop's invariant: the table is right for the messages passed,
-- and zero for the others. Assumes nothing.
use mathlib.Core.Path.{◌≡◌, refl, ap, ◌∙◌}
use Prim.Native.Nat.{ℕ}
use native.Mathlib.Omega.{arith}
use lib.ListN.{get_or-replicate, length-set}
use Rattle.definitions.specs.General.{mask_of}
use Rattle.definitions.specs.World.{view, mask, addressed}
use Rattle.limits.specs.Addressees.{partly_none, partly_more, partly_all, group_low}
use Rattle.limits.specs.Members.{joined_all}
use Rattle.limits.proofs.addressees.Goals as goal

pub loop-m-init : goal.loop-m-init
loop-m-init c = partly_none _ _ refl (λ m h. get_or-replicate 64 m 0 0 h)

pub loop-m-preserved : goal.loop-m-preserved
loop-m-preserved c =
    let l = c.loop-m in
    let of = c.members-of in
    let z = c.requires.sized in
    let v = view c.args.w.now in
    let e = joined_all v c.args.n (v (mask l.m)) c.addressed.result of.result z.high
    (λ p h. group_low v c.requires.placed p (omega (arith, z.size_is))) (omega arith) of.ensures
    c.addressed.ensures
    ∙ ap (λ (k : ℕ). mask_of k (addressed v l.m)) z.size_is in
    partly_more v l.m c.addressed.result l.t _ refl (simp length-set l.invariant.long)
    (omega (arith, z.few)) e l.invariant

pub returns : goal.returns
returns c =
    let l = c.loop-m in
    let e : l.m ≡ c.args.count = omega arith in
    partly_all (view c.args.w.now) l.m l.t (e ∙ c.requires.sized.count_is) l.invariant
