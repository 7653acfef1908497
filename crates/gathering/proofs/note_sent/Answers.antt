-- `gathering::note_sent` meets its contract. The loop's invariant: the letters noted so far are those of some test, which with
-- the messages left is that of the contract. Assumes nothing.
use mathlib.Core.Path.{◌≡◌, sym, ap, ◌∙◌}
use mathlib.Core.Bool.{true}
use Prim.Native.Nat.{ℕ, ◌<◌}
use native.Mathlib.Omega.{arith}
use Rattle.definitions.specs.General.{bit, without}
use Rattle.definitions.specs.World.{view}
use Rattle.sets.specs.Lowest.{lowest_low, lowest_in}
use Rattle.sets.specs.Sweep.{sweep_less}
use Rattle.queues.specs.Queues.{queues_same}
use Rattle.gathering.specs.Gathered.{told, all_told, told_none, told_one}
use Rattle.gathering.proofs.note_sent.Goals as goal
use Rattle.gathering.proofs.note_sent.Goals.{After-lowest-m}

-- the message, one of those left
low : (c : After-lowest-m) → c.lowest-m.result < 64
low c =
    omega (arith, c.lowest-m.ensures, lowest_low c.loop-left.left c.loop-left.invariant.fits c.loop-left-test.true)

member : (c : After-lowest-m) → bit c.loop-left.left c.lowest-m.result ≡ true
member c =
    let left = c.loop-left.left in
    ap (bit left) c.lowest-m.ensures ∙ lowest_in left (omega (arith, low c, c.lowest-m.ensures))

pub note_message-requires-clause-letter : goal.note_message-requires-clause-letter
note_message-requires-clause-letter c =
    (c.requires.process, low (goal.at.note_message-requires-clause-letter c).After-lowest-m)

pub loop-left-smaller : goal.loop-left-smaller
loop-left-smaller c =
    sweep_less c.loop-left.invariant.fits c.loop-left-test.true c.rest-left.ensures

pub loop-left-preserved : goal.loop-left-preserved
loop-left-preserved c =
    let a = c.args in
    let s = view a.w.now in
    record {
      fits = omega (arith, sweep_less c.loop-left.invariant.fits c.loop-left-test.true c.rest-left.ensures);
      letters = λ f q.
          let (g, h, e) = c.loop-left.invariant.letters f q in
          let n = told g s a.p c.lowest-m.result in (
            n,
            c.note_message.ensures g h,
            λ x j i.
                ap (λ (y : ℕ). all_told n s a.p y x j i)
                (c.rest-left.ensures ∙ ap (without c.loop-left.left) (sym c.lowest-m.ensures))
                ∙ told_one g s a.p c.lowest-m.result c.loop-left.left x j i
                (member (goal.at.loop-left-preserved c).After-lowest-m)
                ∙ e x j i,
          );
    }

pub returns : goal.returns
returns c =
    let a = c.args in
    let s = view a.w.now in
    λ f q.
    let (g, h, e) = c.loop-left.invariant.letters f q in
    queues_same h (λ x j r _ _ _. sym (told_none g s a.p x j r)
    ∙ ap (λ (n : ℕ). all_told g s a.p n x j r) (sym c.loop-left-test.false) ∙ e x j r)
