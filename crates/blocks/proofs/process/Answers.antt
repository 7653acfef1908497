-- `blocks::process` meets its contract: the parts of the block, one after the other. Assumes nothing.
use mathlib.Core.Path.{◌≡◌, refl, sym, ◌∙◌}
use mathlib.Core.Bool.{true, false}
use Prim.Native.Nat.{ℕ, ◌+◌, ◌*◌, ◌<◌}
use native.Mathlib.Omega.{arith}
use lib.ListN.{length, take, drop}
use Rattle.definitions.specs.World.{fifo_length, fifo, view}
use Rattle.sets.specs.Members.{item_of, members_cong}
use Rattle.logtest.specs.Log.{Passable}
use Rattle.blocks.specs.Known.{Lengths}
use Rattle.blocks.specs.Logs.{tidy_logs}
use Rattle.blocks.specs.Process.{front_fine, low, lengths, passable, first_length, first_item, block_front, block_tidy, block_rest}
use Rattle.blocks.specs.Places.{stands_not, stands_so, open_law}
use Rattle.blocks.proofs.process.Goals as goal
use Rattle.blocks.proofs.process.Goals.{After-word-f, Else-not-front, Else-not-tidy}

-- what the first two tests found
front_yes : (c : Else-not-front) → front_fine (view c.args.w.now) c.args.p ≡ true
front_yes c = sym c.front.ensures ∙ c.if-not-front.false

room : (c : Else-not-front) → Lengths (view c.args.w.now) c.args.p
room c = let a = c.args in lengths a.w.now a.p a.t.now c.requires.ready c.requires.p_in (front_yes c)

tidy_yes : (c : Else-not-tidy) → tidy_logs (view c.args.w.now) c.args.p ≡ true
tidy_yes c = sym c.tidy.ensures ∙ c.if-not-tidy.false

-- the items of the FIFO log, whose length was read
items : (c : After-word-f) → (n : ℕ) → n ≡ c.word-f.result
    → Passable (take n (drop (3 + c.args.p * 429 + 301) c.args.w.now)) c.args.t.now.addressees c.args.t.now.from
    c.args.t.now.bits
items c n e =
    let a = c.args in
    passable a.w.now a.p a.t.now c.requires.ready c.requires.p_in (room (goal.at.After-word-f c).Else-not-front)
    (tidy_yes (goal.at.After-word-f c).Else-not-tidy) c.requires.tables n (e ∙ c.word-f.ensures)

-- the log as a part of the words
long : (c : After-word-f) → (n : ℕ) → n ≡ c.word-f.result
    → length (take n (drop (3 + c.args.p * 429 + 301) c.args.w.now)) ≡ view c.args.w.now (fifo_length c.args.p)
long c n e =
    let a = c.args in
    let d = e ∙ c.word-f.ensures in
    first_length a.w.now a.p a.t.now c.requires.ready c.requires.p_in (room (goal.at.After-word-f c).Else-not-front)
    (tidy_yes (goal.at.After-word-f c).Else-not-tidy) n d ∙ d

item : (c : After-word-f) → (n : ℕ) → n ≡ c.word-f.result → (i : ℕ)
    → i < length (take n (drop (3 + c.args.p * 429 + 301) c.args.w.now))
    → item_of (take n (drop (3 + c.args.p * 429 + 301) c.args.w.now)) i ≡ view c.args.w.now (fifo c.args.p i)
item c n e =
    let a = c.args in
    first_item a.w.now a.p a.t.now c.requires.ready c.requires.p_in (room (goal.at.After-word-f c).Else-not-front)
    (tidy_yes (goal.at.After-word-f c).Else-not-tidy) n (e ∙ c.word-f.ensures)

pub returns-then-not-front : goal.returns-then-not-front
returns-then-not-front c =
    let a = c.args in
    stands_not (view a.w.now) a.p
    (block_front a.w.now a.p a.t.now c.requires.ready c.requires.p_in (sym c.front.ensures ∙ c.if-not-front.true))

pub tidy-requires-clause-lengths : goal.tidy-requires-clause-lengths
tidy-requires-clause-lengths c = room (goal.at.tidy-requires-clause-lengths c).Else-not-front

pub returns-then-not-tidy : goal.returns-then-not-tidy
returns-then-not-tidy c =
    let a = c.args in
    stands_not (view a.w.now) a.p (block_tidy a.w.now a.p a.t.now c.requires.ready c.requires.p_in
    (front_yes (goal.at.returns-then-not-tidy c).Else-not-front) (sym c.tidy.ensures ∙ c.if-not-tidy.true))

pub logs-requires-clause-lengths : goal.logs-requires-clause-lengths
logs-requires-clause-lengths c = room (goal.at.logs-requires-clause-lengths c).Else-not-front

pub returns-in_err-fifo : goal.returns-in_err-fifo
returns-in_err-fifo c =
    let a = c.args in
    rw c.from_residual.ensures
    (stands_not (view a.w.now) a.p (block_rest a.w.now a.p a.t.now c.requires.ready c.requires.p_in
    (front_yes (goal.at.returns-in_err-fifo c).Else-not-front) false _ c.in_err-fifo.ensures.is_good refl))

pub returns-then-not-rows : goal.returns-then-not-rows
returns-then-not-rows c =
    let a = c.args in
    stands_not (view a.w.now) a.p (block_rest a.w.now a.p a.t.now c.requires.ready c.requires.p_in
    (front_yes (goal.at.returns-then-not-rows c).Else-not-front) true false c.in_ok-fifo.ensures.is_good
    (sym c.if-not-rows.true ∙ c.rows.ensures))

pub slice_bounds-log-end : goal.slice_bounds-log-end
slice_bounds-log-end c =
    let a = c.args in
    let z = room (goal.at.slice_bounds-log-end c).Else-not-front in
    omega (arith, c.word-f.ensures, z.fifo_few, low a.w.now a.p a.t.now c.requires.ready c.requires.p_in)

pub waiting-requires-clause-low : goal.waiting-requires-clause-low
waiting-requires-clause-low c = (items (goal.at.waiting-requires-clause-low c).After-word-f _ (omega arith)).items

pub waiting-requires-clause-few : goal.waiting-requires-clause-few
waiting-requires-clause-few c = (items (goal.at.waiting-requires-clause-few c).After-word-f _ (omega arith)).few

pub waiting-requires-clause-members : goal.waiting-requires-clause-members
waiting-requires-clause-members c =
    let after = (goal.at.waiting-requires-clause-members c).After-word-f in
    members_cong _ _ _ _ _ (sym (long after _ (omega arith))) (λ i l. sym (item after _ (omega arith) i l))
    (c.in_ok-fifo.ensures.first _ refl)

pub returns : goal.returns
returns c =
    let a = c.args in
    let o = c.in_ok-fifo.ensures in
    let after = (goal.at.returns c).After-word-f in
    stands_so (view a.w.now) a.p _
    (block_rest a.w.now a.p a.t.now c.requires.ready c.requires.p_in (front_yes (goal.at.returns c).Else-not-front) true true
    o.is_good (sym c.if-not-rows.false ∙ c.rows.ensures))
    (o.first _ refl)
    (open_law (view a.w.now) a.p _ _ _ (long after _ (omega arith)) (item after _ (omega arith))
    (items after _ (omega arith)).items (o.second _ refl) c.waiting.ensures)
