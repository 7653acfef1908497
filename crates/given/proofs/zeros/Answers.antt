-- `given::zeros` meets its contract. The loop's invariant: it says whether the bytes passed, from i on, are zero. Assumes nothing.
use Rattle.std.proofs.Common.{◌≡◌, ℕ, ◌+◌, ◌-◌, eqb, drop, ap, ◌∙◌, arith, get_or-take, get_or-drop}
use Rattle.base.specs.Search.{gathers}
use Rattle.given.specs.Given.{passes, zeros_start, zeros_next}
use Rattle.given.proofs.zeros.Goals as goal

pub loop-b-init : goal.loop-b-init
loop-b-init c = let e : c.args.i + 0 ≡ c.args.i = omega arith in rw e (zeros_start c.args.bytes.now c.args.i)

pub loop-b-preserved : goal.loop-b-preserved
loop-b-preserved c =
    let s = c.args.bytes.now in
    let i = c.args.i in
    let k = c.loop-b.b-index in
    let e : i + (k + 1) ≡ i + k + 1 = omega arith in
    let item = get_or-take (8 - i) (drop i s) k 0 (omega arith) ∙ get_or-drop i s k 0 in
    rw e (gathers (passes s i) (i + k) c.loop-b.ok _ c.loop-b.invariant
    (ap (λ (x : ℕ). eqb x 0) item ∙ zeros_next s i (i + k) (omega arith)))

pub returns : goal.returns
returns c =
    let e : c.args.i + c.loop-b.b-index ≡ 8 = omega arith in
    rw e at c.loop-b.invariant
