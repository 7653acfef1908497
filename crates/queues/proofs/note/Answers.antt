-- `queues::note` meets its contract. The loop's invariant: the letters noted so far are those of some test, which with the
-- receivers left is that of the contract. Assumes nothing.
use mathlib.Core.Path.{◌≡◌, sym, ap, ◌∙◌}
use mathlib.Core.Bool.{true}
use Prim.Native.Nat.{ℕ, ◌<◌}
use native.Mathlib.Omega.{arith}
use Rattle.definitions.specs.General.{bit}
use Rattle.base.specs.Search.{first_law}
use Rattle.base.specs.Sets.{lowest_low, without_less}
use Rattle.queues.specs.Queues.{queues_same, joined, noted, noted_none, noted_one}
use Rattle.queues.proofs.note.Goals as goal
use Rattle.queues.proofs.note.Goals.{After-lowest-p}

-- the receiver, one of those left
low : (c : After-lowest-p) → c.lowest-p.result < 16
low c =
    omega (arith, c.lowest-p.ensures, lowest_low 16 c.loop-left.left c.loop-left.invariant.fits c.loop-left-test.true)

member : (c : After-lowest-p) → bit c.loop-left.left c.lowest-p.result ≡ true
member c =
    let left = c.loop-left.left in
    ap (bit left) c.lowest-p.ensures ∙ (first_law 16 0 (bit left)).hit (omega (arith, low c, c.lowest-p.ensures))

pub drop-left-requires : goal.drop-left-requires
drop-left-requires c = omega (arith, low (goal.at.drop-left-requires c).After-lowest-p)

pub join-requires : goal.join-requires
join-requires c = (c.requires.0, c.requires.1, low (goal.at.join-requires c).After-lowest-p)

pub loop-left-smaller : goal.loop-left-smaller
loop-left-smaller c =
    omega (
      arith,
      c.drop-left.ensures,
      without_less _ _
          (member (goal.at.loop-left-smaller c).After-lowest-p) c.loop-left-test.true,
    )

pub loop-left-preserved : goal.loop-left-preserved
loop-left-preserved c =
    let after_lowest_p = (goal.at.loop-left-preserved c).After-lowest-p in
    let a = c.args in
    record {
      fits = omega arith;
      letters = λ f q.
          let (g, h, e) = c.loop-left.invariant.letters f q in (
            joined g a.m a.place c.lowest-p.result,
            c.join.ensures g h,
            λ x j r.
                ap (λ (n : ℕ). noted (joined g a.m a.place c.lowest-p.result) a.m a.place n x j r) c.drop-left.ensures
                ∙ noted_one g a.m a.place c.lowest-p.result c.loop-left.left x j r (member after_lowest_p) ∙ e x j r,
          );
    }

pub returns : goal.returns
returns c =
    let a = c.args in
    λ f q.
    let (g, h, e) = c.loop-left.invariant.letters f q in
    queues_same h (λ x j r _ _ _. sym (noted_none g a.m a.place x j r)
    ∙ ap (λ (n : ℕ). noted g a.m a.place n x j r) (sym c.loop-left-test.false) ∙ e x j r)
