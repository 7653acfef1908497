-- `arrivals::take_hold` meets its contract. Assumes nothing.
use mathlib.Core.Path.{sym, ap, ◌∙◌}
use mathlib.Core.Bool.{Bool}
use Prim.Native.Nat.{◌<◌}
use native.Mathlib.Omega.{arith}
use Rattle.definitions.specs.General.{pick}
use Rattle.arrivals.specs.Hold.{bounds_held, hold_none, hold_law}
use Rattle.definitions.specs.World.{view}
use Rattle.arrivals.specs.Arrival.{hold_silent, held_silent, held_count, held_index}
use Rattle.arrivals.proofs.take_hold.Goals as goal

pub returns-then-word-eq1-clause-words : goal.returns-then-word-eq1-clause-words
returns-then-word-eq1-clause-words c =
    let a = c.args in
    hold_none a.w.now a.m a.p (omega arith) c.requires.p_in c.word.ensures c.if-word-eq1.true

pub returns-then-word-eq1-clause-place : goal.returns-then-word-eq1-clause-place
returns-then-word-eq1-clause-place c =
    let a = c.args in
    held_silent (view a.w.now) a.p a.m 3072 (sym c.word.ensures ∙ c.if-word-eq1.true)

pub send-requires : goal.send-requires
send-requires c =
    let a = c.args in
    let hm : a.m < 64 = omega arith in
    record {
      p_in = c.requires.p_in;
      m_in = omega (arith, c.requires.m_in, held_count a.w.now a.p a.m c.told-w c.requires.p_in hm);
      k_in = c.answer_kind-k.ensures.1;
      bounds = bounds_held a.w.now a.p a.m c.told-w c.requires.p_in hm c.requires.bounds;
      index = held_index a.w.now a.p a.m c.told-w c.requires.p_in hm c.requires.bounds c.requires.index;
    }

pub returns-clause-words : goal.returns-clause-words
returns-clause-words c =
    let a = c.args in
    hold_law a.w.now _ a.m a.p c.requires.bounds (omega arith) c.requires.p_in c.word.ensures c.if-word-eq1.false
    c.in_turn-in_turn.ensures c.answer_kind-k.ensures.0 c.send.ensures

pub returns-clause-place : goal.returns-clause-place
returns-clause-place c =
    let a = c.args in
    hold_silent (view a.w.now) a.p a.m _ c.answer_kind-k.result c.requires.p_in
    (c.answer_kind-k.ensures.0 ∙ ap (λ (y : Bool). pick y 2 1) c.in_turn-in_turn.ensures) (omega arith)
