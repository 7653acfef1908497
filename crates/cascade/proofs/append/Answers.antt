-- `cascade::append` meets its contract. Assumes nothing.
use mathlib.Core.Path.{◌≡◌, sym, ap, ◌∙◌}
use Prim.Native.Nat.{ℕ, ◌+◌, ◌<◌}
use native.Mathlib.Omega.{arith}
use lib.ListN.{get_or}
use lib.Seq.{get_or-set_other}
use Rattle.definitions.specs.General.{with}
use Rattle.bounds.specs.Bounds.{bounds_words}
use Rattle.cascade.specs.Cascade.{bounds_appended}
use Rattle.index.specs.Index.{index_words, logs_words, new_room}
use Rattle.index.specs.Changes.{index_appended, logs_appended}
use Rattle.world.specs.Layout.{encode_view}
use Rattle.definitions.specs.Machine.{appended}
use Rattle.definitions.specs.World.{view, encode, fifo_length, count}
use Rattle.cascade.proofs.append.Goals as goal
use Rattle.cascade.proofs.append.Goals.{Start}

-- the log has room
room : (c : Start) → view c.args.w.now (fifo_length c.args.p) < view c.args.w.now count
room c = new_room (view c.args.w.now) c.args.p c.args.m c.requires.logs c.requires.m_in c.requires.outside

pub join-requires-2 : goal.join-requires-2
join-requires-2 c =
    omega (arith, c.word-n.ensures, room (goal.at.join-requires-2 c).Start, c.requires.bounds.counts)

pub push-requires-clause-room : goal.push-requires-clause-room
push-requires-clause-room c = omega (arith, room (goal.at.push-requires-clause-room c).Start, c.requires.bounds.counts)

pub returns-clause-words : goal.returns-clause-words
unfolding appended
returns-clause-words c = c.push.ensures

pub returns-clause-index : goal.returns-clause-index
unfolding appended
returns-clause-index c = let start = (goal.at.returns-clause-index c).Start in
    let a = c.args in
    let v = view a.w.now in
    let hm : a.m < 64 = omega (arith, c.requires.m_in, c.requires.bounds.counts) in
    let t = appended v a.p a.m in
    let e : c.push.new.w ≡ encode t = c.push.ensures v (sym (encode_view a.w.now c.told-w)) in
    let h = bounds_appended v a.p a.m hm (room start) c.requires.bounds in
    let y = a.x.now in (
      bounds_words c.push.new.w t e h,
      index_words c.push.new.w t e h
          (index_appended v a.p a.m y c.join.result c.join-2.result c.requires.bounds c.requires.index c.requires.p_in
          (omega (arith, room start, c.requires.bounds.counts)) (c.requires.logs.inside a.m c.requires.outside) c.join.ensures
          (c.join-2.ensures
          ∙ ap (λ (k : ℕ). with k c.word-n.result) (get_or-set_other y (80 + a.p) (96 + a.p) c.join.result 0 (λ q. omega (arith, q)))
          ∙ ap (with (get_or y (96 + a.p) 0)) c.word-n.ensures)),
      logs_words c.push.new.w t e h a.p c.requires.p_in
          (logs_appended v a.p a.m c.requires.logs c.requires.m_in c.requires.outside),
    )
