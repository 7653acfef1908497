-- `multicasts::send_new` meets its contract. Assumes nothing.
use mathlib.Core.Path.{◌≡◌, refl, sym, ◌∙◌}
use native.Mathlib.Omega.{arith}
use Rattle.definitions.specs.World.{count, State, encode, view}
use Rattle.world.specs.Layout.{encode_view, reads_cell}
use Rattle.multicasts.specs.Multicast.{with_copy, with_message, count_kept, multicast_law}
use Rattle.multicasts.specs.Indexed.{entered_bounds, entered_count, entered_index, sent_index}
use Rattle.multicasts.proofs.send_new.Goals as goal
use Rattle.multicasts.proofs.send_new.Goals.{After-enter, After-raise}

-- the state after the copy, and its words
copy_state : (c : After-raise) → State
copy_state c =
    let a = c.args in
    with_copy (view a.w.now) a.p a.groups c.word-m.result

copy_words : (c : After-raise) → c.raise.new.w ≡ encode (copy_state c)
unfolding copy_state
copy_words c =
    c.raise.ensures (view c.args.w.now) (sym (encode_view c.args.w.now (omega arith)))

-- the words with the message entered
enter_words : (c : After-enter)
    → let c = c in
    let a = c.args in
    c.enter.new.w ≡ encode (with_message (view a.w.now) a.p a.groups a.order c.word-m.result)
unfolding copy_state
enter_words c = c.enter.ensures (copy_state (goal.at.After-enter c).After-raise) (copy_words (goal.at.After-enter c).After-raise)

pub enter-requires-clause-room : goal.enter-requires-clause-room
unfolding copy_state
enter-requires-clause-room c = let after_raise = (goal.at.enter-requires-clause-room c).After-raise in
    let a = c.args in
    let e : view c.raise.new.w count ≡ view a.w.now count =
    reads_cell c.raise.new.w count tt (copy_state after_raise) (copy_words after_raise)
    ∙ count_kept (view a.w.now) a.p a.groups c.word-m.result in
    omega (arith, e, c.requires.room)

pub index_new-requires-clause-m_in : goal.index_new-requires-clause-m_in
index_new-requires-clause-m_in c = omega (arith, c.word-m.ensures, c.requires.room)

pub index_new-requires-clause-bounds : goal.index_new-requires-clause-bounds
index_new-requires-clause-bounds c =
    let a = c.args in
    entered_bounds a.w.now c.enter.new.w a.x.now _ a.p a.groups a.order c.word-m.result c.requires.bounds c.requires.index
    c.requires.p_in c.requires.room c.word-m.ensures (enter_words (goal.at.index_new-requires-clause-bounds c).After-enter) refl

pub send-requires : goal.send-requires
send-requires c = let after_enter = (goal.at.send-requires c).After-enter in
    let a = c.args in
    let u = c.enter.new.w in
    let y = c.index_new.new.x in
    record {
      p_in = c.requires.p_in;
      m_in = omega (
        arith,
        entered_count a.w.now u a.x.now y a.p a.groups a.order c.word-m.result c.requires.bounds c.requires.index
            c.requires.p_in c.requires.room c.word-m.ensures (enter_words after_enter) c.index_new.ensures,
      );
      k_in = omega arith;
      bounds = entered_bounds a.w.now u a.x.now y a.p a.groups a.order c.word-m.result c.requires.bounds c.requires.index
          c.requires.p_in c.requires.room c.word-m.ensures (enter_words after_enter) c.index_new.ensures;
      index = entered_index a.w.now u a.x.now y a.p a.groups a.order c.word-m.result c.requires.bounds c.requires.index
          c.requires.p_in c.requires.room c.word-m.ensures (enter_words after_enter) c.index_new.ensures;
    }

pub returns-clause-words : goal.returns-clause-words
returns-clause-words c =
    let a = c.args in
    multicast_law a.w.now _ _ _ a.p a.groups a.order c.told-w c.word-m.ensures c.raise.ensures c.enter.ensures
    c.send.ensures

pub returns-clause-index : goal.returns-clause-index
returns-clause-index c =
    let a = c.args in
    let e = multicast_law a.w.now c.raise.new.w c.enter.new.w c.send.new.w a.p a.groups a.order c.told-w
    c.word-m.ensures c.raise.ensures c.enter.ensures c.send.ensures in
    sent_index a.w.now c.enter.new.w a.x.now c.index_new.new.x a.p a.groups a.order c.word-m.result
    c.requires.bounds c.requires.index c.requires.p_in c.requires.room c.word-m.ensures (enter_words (goal.at.returns-clause-index c).After-enter) c.index_new.ensures e
