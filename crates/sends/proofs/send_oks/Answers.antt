-- `sends::send_oks` meets its contract. The loop's invariant: the OKs for the messages of q below the lowest left
-- are sent, and the sets have those that are ready and those with an OK. Assumes nothing.
use mathlib.Core.Path.{sym, ap, ◌∙◌, subst}
use mathlib.Core.Bool.{Bool}
use Rattle.sets.specs.Lowest.{lowest}
use Prim.Native.Nat.{ℕ, ◌+◌}
use native.Mathlib.Omega.{arith}
use Rattle.definitions.specs.General.{pick, with}
use Rattle.sets.specs.Sweep.{sweep_less}
use Rattle.bounds.specs.Bounds.{bounds_state}
use Rattle.index.specs.Index.{index_state}
use Rattle.world.specs.Layout.{encode_view, Changes}
use Rattle.definitions.specs.Machine.{ready, send_ok}
use Rattle.definitions.specs.World.{view, sender}
use Rattle.sends.specs.Oks.{owed}
use Rattle.sends.proofs.Oks.{sending_start, sending_bounds, sending_index, sending_low, sending_ready, sending_owed, sending_more, sending_end}
use Rattle.sends.proofs.send_oks.Goals as goal

pub loop-left-init : goal.loop-left-init
loop-left-init c =
    let a = c.args in (
      c.fits-x (64 + a.q),
      λ s e. sending_start s a.p a.q (bounds_state a.w.now s e c.requires.bounds).counts a.x.now e
          ((index_state a.w.now s e c.requires.bounds c.requires.index).own a.q c.requires.q_in),
    )

pub answer-t-requires : goal.answer-t-requires
answer-t-requires c =
    let a = c.args in
    let v = view a.w.now in
    let few = c.requires.bounds.counts in
    let g = c.loop-left.invariant.1 v (sym (encode_view a.w.now (omega arith))) in
    let n = c.loop-left-test.true in
    let k = c.loop-left.invariant.0 in
    record {
      p_in = c.requires.p_in;
      m_in = omega (arith, c.lowest-m.ensures, sending_low v a.p a.q few g k n c.requires.p_in c.requires.bounds);
      bounds = sending_bounds v a.p a.q few g k n c.requires.p_in c.requires.bounds;
      index = sending_index v a.p a.q few g k n c.requires.p_in c.requires.bounds c.requires.index;
    }

pub loop-left-smaller : goal.loop-left-smaller
loop-left-smaller c =
    sweep_less c.loop-left.invariant.0 c.loop-left-test.true c.rest-left.ensures

pub loop-left-preserved : goal.loop-left-preserved
loop-left-preserved c =
    let a = c.args in
    let t = c.loop-left.t in
    let k = c.loop-left.invariant.0 in (
      omega (arith, k, sweep_less k c.loop-left-test.true c.rest-left.ensures),
      λ s e. let h = bounds_state a.w.now s e c.requires.bounds in
          let g = c.loop-left.invariant.1 s e in
          sending_more s a.p a.q h.counts g k c.loop-left-test.true c.rest-left.ensures
          (subst (λ (y : ℕ). Changes c.loop-left.w c.answer-t.new.w (λ z. send_ok z a.p (z (sender y)) y)) c.lowest-m.ensures
          c.answer-t.ensures.words)
          (c.answer-t.ensures.sets.0
          ∙ ap (λ (y : ℕ). pick (ready (view c.loop-left.w) a.p y) (with t.ready y) t.ready) c.lowest-m.ensures
          ∙ ap (λ (y : Bool). pick y (with t.ready (lowest c.loop-left.left)) t.ready)
          (sending_ready s a.p a.q h.counts g k c.loop-left-test.true c.requires.p_in h))
          (c.answer-t.ensures.sets.1
          ∙ ap (λ (y : ℕ). pick (owed (view c.loop-left.w) a.p y) (with t.sent y) t.sent) c.lowest-m.ensures
          ∙ ap (λ (y : Bool). pick y (with t.sent (lowest c.loop-left.left)) t.sent)
          (sending_owed s a.p a.q h.counts g k c.loop-left-test.true c.requires.p_in h)),
    )

pub returns-clause-words : goal.returns-clause-words
returns-clause-words c s e =
    let a = c.args in
    (sending_end s a.p a.q (bounds_state a.w.now s e c.requires.bounds).counts (c.loop-left.invariant.1 s e)
    c.loop-left-test.false).0

pub returns-clause-sets : goal.returns-clause-sets
returns-clause-sets c s e =
    let a = c.args in
    let z = sending_end s a.p a.q (bounds_state a.w.now s e c.requires.bounds).counts (c.loop-left.invariant.1 s e)
    c.loop-left-test.false in
    (z.1, z.2)
