-- `arrivals::follow` meets its contract. Assumes nothing.
use mathlib.Core.Path.{◌≡◌}
use Prim.Native.Nat.{ℕ, ◌+◌, ◌*◌, ◌≤◌}
use native.Mathlib.Omega.{arith}
use lib.Dec.{ltb}
use borrow.Author.Tests.{ltb-false}
use Rattle.base.specs.Search.{first_law}
use Rattle.definitions.specs.General.{pick, bit, with}
use Rattle.definitions.specs.Machine.{hold, cascade}
use Rattle.definitions.specs.World.{State, view, encode}
use Rattle.arrivals.specs.Arrival.{Leans, Posts, silent_both, silent_words, cascade_silent, hold_posts, cascade_posts, posts_both, posts_more, posts_words, outside_not, outside_before, held_state, held_leans, none_follows}
use Rattle.arrivals.proofs.follow.Goals as goal
use Rattle.arrivals.proofs.follow.Goals.{After-lowest, After-take_hold-at}

-- the state with the message held, and what it leans on
abbrev now_held : After-take_hold-at → State
now_held c = let a = c.args in hold (view a.w.now) a.p a.m

is_held : (c : After-take_hold-at) → c.take_hold-at.new.w ≡ encode (now_held c)
is_held c = held_state c.args.only c.requires (omega arith) c.take_hold-at.ensures.words

leans : (c : After-take_hold-at)
    → let a = c.args in Leans c.take_hold-at.new.w a.x.now a.p a.m a.only
leans c = held_leans c.args.only c.requires (omega arith) c.take_hold-at.ensures.words

-- what was sent until then, of a set that has the message where it was answered
answers : (c : After-take_hold-at) (oks : ℕ) {sent : ℕ}
    → sent ≡ pick (ltb c.take_hold-at.result 3072) (with oks c.args.m) oks
    → Posts (view c.args.w.now) (now_held c) c.args.p sent
answers c oks {sent} e =
    let a = c.args in
    hold_posts (view a.w.now) a.p a.m sent
    (λ z x j o hx hj ho l.
    let high = ltb-false c.take_hold-at.result 3072 (outside_not (ltb c.take_hold-at.result 3072) oks a.m e z) in
    c.take_hold-at.ensures.place x j o hx hj ho (omega arith))

high : (c : After-lowest) → c.lowest.result ≤ 64
high c =
    omega (arith, c.lowest.ensures, (first_law 64 0 (bit c.cascade-oks.result)).high)

pub ready_now-ready-requires : goal.ready_now-ready-requires
ready_now-ready-requires c =
    let l = leans (goal.at.ready_now-ready-requires c).After-take_hold-at in
    record { p_in = l.1; m_in = l.2; bounds = l.3; index = l.4; only_m = l.6 }

pub returns-then-ready-eq0-clause-words : goal.returns-then-ready-eq0-clause-words
returns-then-ready-eq0-clause-words c =
    none_follows c.args.only c.requires (omega arith) c.take_hold-at.ensures.words c.if-ready-eq0.true c.ready_now-ready.ensures

pub returns-then-ready-eq0-clause-index : goal.returns-then-ready-eq0-clause-index
returns-then-ready-eq0-clause-index c =
    let l = leans (goal.at.returns-then-ready-eq0-clause-index c).After-take_hold-at in (l.4, l.5)

pub returns-then-ready-eq0-clause-place : goal.returns-then-ready-eq0-clause-place
returns-then-ready-eq0-clause-place c = let after_take_hold_at = (goal.at.returns-then-ready-eq0-clause-place c).After-take_hold-at in
    let v = view c.args.w.now in
    let h = c.take_hold-at.ensures in
    silent_words v (now_held after_take_hold_at) c.take_hold-at.new.w c.take_hold-at.result (is_held after_take_hold_at) h.place

pub returns-then-ready-eq0-clause-messages : goal.returns-then-ready-eq0-clause-messages
returns-then-ready-eq0-clause-messages c = let after_take_hold_at = (goal.at.returns-then-ready-eq0-clause-messages c).After-take_hold-at in
    let v = view c.args.w.now in
    posts_words v (now_held after_take_hold_at) c.take_hold-at.new.w c.args.p c.join_if-answered.result (is_held after_take_hold_at)
    (answers after_take_hold_at 0 c.join_if-answered.ensures)

pub cascade-oks-requires : goal.cascade-oks-requires
cascade-oks-requires c =
    let l = leans (goal.at.cascade-oks-requires c).After-take_hold-at in
    record { p_in = l.1; bounds = l.3; index = l.4; logs = l.5; ready = c.ready_now-ready.ensures }

pub overflow_mul-lowest : goal.overflow_mul-lowest
overflow_mul-lowest c = omega (arith, high (goal.at.overflow_mul-lowest c).After-lowest)

pub overflow_add-lowest : goal.overflow_add-lowest
overflow_add-lowest c = omega (arith, high (goal.at.overflow_add-lowest c).After-lowest)

pub overflow_add-lowest-2 : goal.overflow_add-lowest-2
overflow_add-lowest-2 c =
    omega (arith, high (goal.at.overflow_add-lowest-2 c).After-lowest, c.requires.1)

pub returns-clause-place : goal.returns-clause-place
returns-clause-place c = let after_take_hold_at = (goal.at.returns-clause-place c).After-take_hold-at in
    let a = c.args in
    let v = view a.w.now in
    let h = now_held after_take_hold_at in
    let z = c.cascade-oks.ensures in
    let left = z.words h (is_held after_take_hold_at) in
    let oks = c.cascade-oks.result in
    silent_words v (cascade h a.p) c.cascade-oks.new.w c.min-place.result left
    (silent_both v h (cascade h a.p) c.take_hold-at.result (c.lowest.result * 48 + 32 + a.p) c.min-place.result
    (omega (arith, c.min-place.ensures)) (omega (arith, c.min-place.ensures)) c.take_hold-at.ensures.place
    (cascade_silent h a.p oks _ (z.unsent h (is_held after_take_hold_at)) (omega (arith, c.lowest.ensures))))

pub returns-clause-messages : goal.returns-clause-messages
returns-clause-messages c = let after_take_hold_at = (goal.at.returns-clause-messages c).After-take_hold-at in
    let a = c.args in
    let v = view a.w.now in
    let h = now_held after_take_hold_at in
    let z = c.cascade-oks.ensures in
    let left = z.words h (is_held after_take_hold_at) in
    let oks = c.cascade-oks.result in
    let all = c.join_if-all.result in posts_words v (cascade h a.p) c.cascade-oks.new.w a.p all left
    (posts_both v h (cascade h a.p) a.p all (answers after_take_hold_at oks c.join_if-all.ensures)
    (posts_more h (cascade h a.p) a.p oks all
    (outside_before (ltb c.take_hold-at.result 3072) oks a.m c.join_if-all.ensures)
    (cascade_posts h a.p oks (z.unsent h (is_held after_take_hold_at)))))
