-- `making::nexts` meets its contract. The loop's invariant: the numbers passed are right. Assumes nothing.
use Rattle.std.proofs.Common.{◌≡◌, ℕ, ltb, get_or, refl, sym, ◌∙◌, take_all, arith}
use Rattle.definitions.specs.General.{pick}
use Rattle.base.specs.Tabulate.{length_tabulate, get_d_tabulate, filled_more}
use Rattle.making.specs.Begun.{first_nexts}
use Rattle.making.proofs.nexts.Goals as goal

pub loop-q-init : goal.loop-q-init
loop-q-init c = refl

pub loop-q-preserved : goal.loop-q-preserved
loop-q-preserved c =
    let l = c.loop-q in
    let n = c.args.n in
    let f = first_nexts n in
    let v : c.first_next.result ≡ get_or f l.q 0 =
    c.first_next.ensures
    ∙ sym (get_d_tabulate {A = ℕ} 16 (λ q. pick (ltb q n) 1 0) l.q 0 (omega arith)) in
    rw v (filled_more 0 l.x-items f l.q (omega arith)
    (rw (length_tabulate {A = ℕ} 16 (λ q. pick (ltb q n) 1 0)) (omega arith)) l.invariant)

pub returns : goal.returns
returns c =
    let l = c.loop-q in
    let e : l.q ≡ 16 = omega arith in
    sym (take_all 16 l.x-items (omega arith))
    ∙ (rw e at l.invariant)
    ∙ take_all 16 (first_nexts c.args.n) (rw (length_tabulate {A = ℕ} 16 (λ q. pick (ltb q c.args.n) 1 0)) (omega arith))
