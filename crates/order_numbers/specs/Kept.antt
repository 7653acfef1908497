-- The number that the call gives of a message is the one that it was multicast with, and of no other message is
-- one given: a message below the count was multicast by one of the items, whose number stays from there on.
-- Assumes nothing.
use Rattle.std.specs.Prelude.{◌≡◌, Bool, ◌↔◌, ◌⊎◌, ℕ, ◌≤◌, ◌<◌, ltb}
use Rattle.std.proofs.Math.Path.{refl, sym, ap, subst}
use Rattle.std.proofs.Common.{◌∙◌, inl, inr}
use Rattle.std.proofs.Math.Bool.{true, false}
use mathlib.Core.List.{List, [], ◌∷◌, ◌++◌}
use native.Mathlib.Omega.{arith}
use Rattle.std.proofs.Math.ListN.{length}
use borrow.Author.Tests.{ltb-true, lt-ltb}
use Rattle.definitions.specs.General.{pick, needs, gives, reply}
use Rattle.definitions.specs.World.{size, count, order, State, put, encode, view}
use Rattle.definitions.specs.Setup.{fresh, made}
use Rattle.definitions.specs.Machine.{with_tables, raised, stamped, numbered, posted, multicast}
use Rattle.definitions.specs.Steps.{multicasts, arrives, read, accepted, step}
use Rattle.definitions.specs.Settle.{Manner, choice}
use Rattle.definitions.specs.History.{Event, sent, Run, Item, given, settling, taken, tick, settles, act, run}
use Rattle.definitions.specs.Words.{making_refusal, order_refusal, order_reply, on_words, started_words}
use Rattle.definitions.specs.OrderNumbers.{Carries, carries}
use Rattle.base.specs.Tests.{le_or_lt}
use Rattle.base.specs.Refusals.{needs_none, reply_gives}
use Rattle.world.specs.Layout.{put_same, get_encode}
use Rattle.world.specs.SoundLaws.{Sound, count_high}
use Rattle.world.specs.SettleLaws.{settle_keeps}
use Rattle.world.specs.Runs.{on_states, started}
use Rattle.keeps.specs.Keeps.{reached_sound}
use Rattle.effects.specs.Events.{gained_none}
use Rattle.effects.specs.Runs.{run_append}
use Rattle.carried.specs.Calls.{sound_world}
use Rattle.carried.specs.Carried.{written, act_carried, setup_taken, from_setup}
use Rattle.order_numbers.specs.Numbers.{arrival_numbers, Sets, one_more, none, step_sets, Has, has_stays}

-- ---- the call, on the words of a sound state
module _ (s : State) (h : Sound s) (m : ℕ) where
  refusal_is : order_refusal (encode s) m ≡ needs 7 (ltb m (s count)) 0
  unfolding order_refusal
  refusal_is = sound_world s h _ ∙ ap (λ (n : ℕ). needs 7 (ltb m n) 0) (get_encode s count tt)

  -- it gives the number of a message, and of no more
  gives_number : (o : ℕ) → order_reply (encode s) m ≡ gives o → (m < s count) × (s (order m) ≡ o)
  unfolding order_reply
  gives_number o e =
      let z = reply_gives (order_refusal (encode s) m) o (view (encode s) (order m)) (sym e) in
      let y = needs_none 6 (ltb m (s count)) 0 (sym refusal_is ∙ z.0) in
      let l : m < s count = ltb-true m (s count) y.0 in
      (l, sym (get_encode s (order m) (omega (arith, count_high s h))) ∙ sym z.1)

  number_given : (o : ℕ) → m < s count → s (order m) ≡ o → order_reply (encode s) m ≡ gives o
  unfolding order_reply
  number_given o l e =
      ap (λ (n : ℕ). reply n (view (encode s) (order m)))
      (refusal_is ∙ ap (λ (b : Bool). needs 7 b 0) (lt-ltb m (s count) l))
      ∙ ap gives (get_encode s (order m) (omega (arith, count_high s h)) ∙ e)

-- ---- an item that is a multicast
module _ (r : Run State) (bytes : List ℕ) (p groups o : ℕ) (e : read bytes ≡ multicasts p groups o) where
  -- accepted, its event is the multicast, and no delivery
  cast_is : accepted r.now (read bytes) ≡ true → act on_states r (given bytes)
      ≡ record { now = multicast r.now p groups o; seen = sent p (r.now count) ∷ r.seen }
  unfolding act tick step multicast posted numbered stamped raised with_tables put
  cast_is a =
      ap (λ (b : Bool). pick b (taken on_states r (read bytes)) r) a ∙ ap (taken on_states r) e
      ∙ ap (λ (es : List Event). record { now = multicast r.now p groups o; seen = es })
      (gained_none (r.now size) r.now (multicast r.now p groups o) (sent p (r.now count) ∷ r.seen)
      (λ q l. refl))

  -- and its message has its number
  cast_has : accepted r.now (read bytes) ≡ true → Has (r.now count) o (act on_states r (given bytes))
  unfolding multicast posted numbered stamped raised with_tables put
  cast_has a =
      subst (Has (r.now count) o) (sym (cast_is a))
      (omega arith, put_same r.now (order (r.now count)) (order (r.now count)) o refl)

  -- where its event is that of m, it was accepted, and m is its message
  cast_from : (m : ℕ) → (act on_states r (given bytes)).seen ≡ sent p m ∷ r.seen
      → (accepted r.now (read bytes) ≡ true) × (r.now count ≡ m)
  unfolding act tick
  cast_from m s = go (accepted r.now (read bytes)) refl s
    where
      go : (b : Bool) → accepted r.now (read bytes) ≡ b
          → (pick b (taken on_states r (read bytes)) r).seen ≡ sent p m ∷ r.seen
          → (accepted r.now (read bytes) ≡ true) × (r.now count ≡ m)
      go true a d =
          let f = sym (ap (λ (t : Run State). t.seen) (cast_is a)) ∙ s in
          (a, cc)
      go false a d = absurd (omega (arith, ap length d))

-- ---- where a message comes from: the items are some, then its multicast, then others
data Split (r : Run State) (items : List Item) (m : ℕ) : Type 0 where
  split : (before after : List Item) (bytes : List ℕ) (p groups o : ℕ)
      → items ≡ before ++ (given bytes ∷ after)
      → read bytes ≡ multicasts p groups o
      → accepted (run on_states r before).now (read bytes) ≡ true
      → (run on_states r before).now count ≡ m
      → Split r items m

-- a settle brings none
settle_count : (h : Manner) (r : Run State) (b : ℕ) → (settles on_states h r b).now count ≡ r.now count
unfolding settles step
settle_count h r b =
    settle_keeps (λ x t. choice h x t.now) (λ t k m q p. taken on_states t (arrives k m q p))
    (λ t. t.now count ≡ r.now count)
    (λ x t k m q p _ e. ap (λ (z : ℕ × (ℕ → ℕ)). z.0) (arrival_numbers t.now k m q p) ∙ e) b 0 0 r refl

-- the first item brings it
first : (r : Run State) (i : Item) (is : List Item) (m : ℕ) → r.now count ≤ m
    → m < (act on_states r i).now count → Split r (i ∷ is) m
unfolding act tick run
first r (given bytes) is m a l = go (accepted r.now (read bytes)) refl (step_sets r.now (read bytes)) l
  where
    go : (b : Bool) → accepted r.now (read bytes) ≡ b
        → Sets r.now (step r.now (read bytes)) (read bytes)
        → m < (pick b (taken on_states r (read bytes)) r).now count → Split r (given bytes ∷ is) m
    go true e (one_more p groups o q c z f) l = split [] is bytes p groups o refl q e (omega arith)
    go true e (none q) l = absurd (omega (arith, ap (λ (z : ℕ × (ℕ → ℕ)). z.0) q))
    go false e x l = absurd (omega arith)
first r (settling h b) is m a l = absurd (omega (arith, settle_count h r b))

-- a later one does
later : (r : Run State) (i : Item) (is : List Item) (m : ℕ) → Split (act on_states r i) is m
    → Split r (i ∷ is) m
unfolding run
later r i is m (split before after bytes p groups o e q a c) =
    split (i ∷ before) after bytes p groups o (ap (λ (l : List Item). i ∷ l) e) q a c

-- one does
found : (r : Run State) (items : List Item) (m : ℕ) → r.now count ≤ m → m < (run on_states r items).now count
    → Split r items m
unfolding run
found r [] m a l = absurd (omega arith)
found r (i ∷ is) m a l =
    go (le_or_lt ((act on_states r i).now count) m) (λ b. found (act on_states r i) is m b l)
  where
    go : ((act on_states r i).now count ≤ m) ⊎ (m < (act on_states r i).now count)
        → ((act on_states r i).now count ≤ m → Split (act on_states r i) is m) → Split r (i ∷ is) m
    go (inl b) ih = later r i is m (ih b)
    go (inr b) ih = first r i is m a b

-- ---- the theorem
module _ (w setup : List ℕ) (items : List Item) (ok : making_refusal w setup ≡ 0) (m : ℕ) where
  -- the run over states after some of the items
  abbrev at : List Item → Run State
  at before = run on_states (started setup) before

  sound_at : (before : List Item) → Sound (run on_states (started setup) before).now
  sound_at before = reached_sound setup before (setup_taken w setup ok)

  -- the item after them, over words
  act_words : (before : List Item) (i : Item)
      → act on_words (run on_words (started_words w setup) before) i ≡ written (act on_states (at before) i)
  act_words before i =
      ap (λ (t : Run (List ℕ)). act on_words t i) (from_setup w setup ok before)
      ∙ act_carried (at before) i (sound_at before)

  module _ (before after : List Item) (bytes : List ℕ) (p groups o : ℕ)
      (i : items ≡ before ++ (given bytes ∷ after)) (e : read bytes ≡ multicasts p groups o) where
    -- after its multicast the message has its number, to the end
    has_number : accepted (at before).now (read bytes) ≡ true → (at before).now count ≡ m → Has m o (at items)
    unfolding run
    has_number a c =
        subst (Has m o) (sym (ap (run on_states (started setup)) i ∙ run_append (started setup) before _))
        (has_stays m o (act on_states (at before) (given bytes)) after
        (subst (λ (x : ℕ). Has x o (act on_states (at before) (given bytes))) c
        (cast_has (at before) bytes p groups o e a)))

    -- the item carries it
    pub cast_carries : accepted (at before).now (read bytes) ≡ true → (at before).now count ≡ m
        → Carries (started_words w setup) items m o
    cast_carries a c =
        carries before after bytes p groups i e
        (ap (λ (t : Run (List ℕ)). t.seen) (act_words before (given bytes))
        ∙ ap (λ (t : Run State). t.seen) (cast_is (at before) bytes p groups o e a)
        ∙ ap (λ (x : ℕ). sent p x ∷ (at before).seen) c
        ∙ sym (ap (λ (t : Run (List ℕ)). sent p m ∷ t.seen) (from_setup w setup ok before)))

  given_carries : (o : ℕ) → order_reply (run on_words (started_words w setup) items).now m ≡ gives o
      → Carries (started_words w setup) items m o
  unfolding made fresh
  given_carries o e =
      let d = sym (ap (λ (t : Run (List ℕ)). order_reply t.now m) (from_setup w setup ok items)) ∙ e in
      let z = gives_number (at items).now (sound_at items) m o d in
      go z.1 (found (started setup) items m (omega arith) z.0)
    where
      go : (at items).now (order m) ≡ o → Split (started setup) items m
          → Carries (started_words w setup) items m o
      go q (split before after bytes p groups n i e a c) =
          subst (Carries (started_words w setup) items m)
          (sym (has_number before after bytes p groups n i e a c).1 ∙ q)
          (cast_carries before after bytes p groups n i e a c)

  carries_given : (o : ℕ) → Carries (started_words w setup) items m o
      → order_reply (run on_words (started_words w setup) items).now m ≡ gives o
  carries_given o (carries before after bytes p groups i e s) =
      let z = cast_from (at before) bytes p groups o e m
      (sym (ap (λ (t : Run (List ℕ)). t.seen) (act_words before (given bytes)))
      ∙ s ∙ ap (λ (t : Run (List ℕ)). sent p m ∷ t.seen) (from_setup w setup ok before)) in
      let h = has_number before after bytes p groups o i e z.0 z.1 in
      ap (λ (t : Run (List ℕ)). order_reply t.now m) (from_setup w setup ok items)
      ∙ number_given (at items).now (sound_at items) m o h.0 h.1

  pub kept : (o : ℕ) → (order_reply (run on_words (started_words w setup) items).now m ≡ gives o)
      ↔ Carries (started_words w setup) items m o
  kept o = (given_carries o, carries_given o)
