-- The sentences on order numbers as a reader takes them from `order_numbers`, on the words that the calls give:
-- each with its hypotheses written out, and no more. A weaker statement would not give them. Places says which
-- words are meant by those with zeros. Assumes nothing.
use Rattle.std.specs.Prelude.{◌≡◌, Bool, ◌≢◌, ℕ, ◌+◌, ◌*◌}
use Rattle.std.proofs.Math.Path.{refl, ap}
use Rattle.std.proofs.Common.{sym, ◌∙◌}
use mathlib.Core.List.{List, [], ◌∷◌, ◌++◌, append_assoc}
use Rattle.definitions.specs.General.{every, tab_from, tabulate, gives}
use Rattle.definitions.specs.World.{State}
use Rattle.definitions.specs.Steps.{Step, multicasts, arrives, loses, trusts, crashes, malformed, read, refusal, step}
use Rattle.definitions.specs.Settle.{Manner}
use Rattle.definitions.specs.History.{Event, sent, Run, Item, given, settling, act, run}
use Rattle.definitions.specs.Words.{making_refusal, step_refusal, settle_reply, log_words, order_reply, on_words, started_words}
use Rattle.definitions.specs.Journal.{journal_refusal, records_of}
use Rattle.definitions.specs.Replay.{replay_refusal, replayed_words, replay_reply}
use Rattle.definitions.specs.OrderNumbers.{erased, erased_words, erased_step, erased_bytes, erased_items, Carries, carries}
use Rattle.order_numbers.specs.Theorem.{order_numbers}

-- A multicast of p to the groups of a mask, with an order number of two bytes.
abbrev multicast_bytes : ℕ → ℕ → ℕ → ℕ → List ℕ
multicast_bytes p groups low high = 1 ∷ p ∷ groups ∷ low ∷ high ∷ 0 ∷ 0 ∷ 0 ∷ []

-- ---- a list of items, and one item more
run_last : (r : Run (List ℕ)) (is : List Item) (i : Item)
    → run on_words r (is ++ (i ∷ [])) ≡ act on_words (run on_words r is) i
unfolding run
run_last r [] i = refl
run_last r (j ∷ is) i = run_last (act on_words r j) is i

-- with zeros
erased_append : (is js : List Item) → erased_items (is ++ js) ≡ erased_items is ++ erased_items js
unfolding erased_items
erased_append [] js = refl
erased_append (given bytes ∷ is) js =
    ap (λ (l : List Item). given (erased_bytes bytes) ∷ l) (erased_append is js)
erased_append (settling h b ∷ is) js = ap (λ (l : List Item). settling h b ∷ l) (erased_append is js)

-- ---- bytes and steps, in any state
-- bytes that are malformed with zeros there are malformed
pub malformed_alike : (bytes : List ℕ) → read (erased_bytes bytes) ≡ malformed → read bytes ≡ malformed
malformed_alike bytes e = go (read bytes) (sym (order_numbers.read_apart bytes) ∙ e)
  where
    go : (x : Step) → erased_step x ≡ malformed → x ≡ malformed
    go (multicasts p groups o) d = cc
    go (arrives k m q p) d = d
    go (loses k m q p) d = d
    go (trusts p set) d = d
    go (crashes p) d = d
    go malformed d = d

-- with one number a multicast is refused as with another
pub same_refusal : (s : State) (p groups o n : ℕ)
    → refusal s (multicasts p groups o) ≡ refusal s (multicasts p groups n)
same_refusal s p groups o n =
    sym (order_numbers.step_apart s (multicasts p groups o)).0
    ∙ (order_numbers.step_apart s (multicasts p groups n)).0

-- and does the same but for the numbers
pub same_step : (s : State) (p groups o n : ℕ)
    → erased (step s (multicasts p groups o)) ≡ erased (step s (multicasts p groups n))
same_step s p groups o n =
    sym (order_numbers.step_apart s (multicasts p groups o)).1
    ∙ (order_numbers.step_apart s (multicasts p groups n)).1

-- states that differ in the numbers alone refuse the same steps, and differ so after them
pub same_refusals : (s t : State) → erased s ≡ erased t → (x : Step) → refusal s x ≡ refusal t x
same_refusals s t e x =
    sym (order_numbers.step_apart s x).0 ∙ ap (λ (u : State). refusal u (erased_step x)) e
    ∙ (order_numbers.step_apart t x).0

pub same_steps : (s t : State) → erased s ≡ erased t → (x : Step) → erased (step s x) ≡ erased (step t x)
same_steps s t e x =
    sym (order_numbers.step_apart s x).1 ∙ ap (λ (u : State). step u (erased_step x)) e
    ∙ (order_numbers.step_apart t x).1

-- a list with another number in one multicast differs in the numbers alone
pub another_number : (before rest : List Item) (p groups low high low' high' : ℕ)
    → erased_items (before ++ (given (multicast_bytes p groups low high) ∷ rest))
    ≡ erased_items (before ++ (given (multicast_bytes p groups low' high') ∷ rest))
unfolding erased_items erased_bytes tabulate tab_from
another_number before rest p groups low high low' high' =
    erased_append before (given (multicast_bytes p groups low high) ∷ rest)
    ∙ sym (erased_append before (given (multicast_bytes p groups low' high') ∷ rest))

-- ---- lists of items, from a setup record that is taken
module _ (w setup : List ℕ) (taken : making_refusal w setup ≡ 0) where
  abbrev after : List Item → Run (List ℕ)
  after items = run on_words (started_words w setup) items

  -- after `before`, the item i is the accepted multicast of m by p: its event is this one, and no other
  abbrev Multicasts : List Item → Item → ℕ → ℕ → Type 0
  Multicasts before i p m = (act on_words (after before) i).seen ≡ sent p m ∷ (after before).seen

  -- ---- the number that the call gives
  -- an item is the multicast of m, with the number o
  abbrev Multicast : List Item → ℕ → ℕ → Type 0
  Multicast items m o =
      (before : List Item) × (rest : List Item) × (bytes : List ℕ) × (p : ℕ) × (groups : ℕ)
      × (items ≡ before ++ (given bytes ∷ rest)) × (read bytes ≡ multicasts p groups o)
      × Multicasts before (given bytes) p m

  -- that is so of what is given
  pub was_multicast : (items : List Item) (m o : ℕ) → order_reply (after items).now m ≡ gives o
      → Multicast items m o
  was_multicast items m o e = go ((order_numbers.kept w setup items taken m o).0 e)
    where
      go : Carries (started_words w setup) items m o → Multicast items m o
      go (carries before rest bytes p groups i e s) = (before, rest, bytes, p, groups, i, e, s)

  -- the number in the bytes of a multicast is given, whatever follows it
  pub is_given : (before rest : List Item) (p groups low high m : ℕ)
      → Multicasts before (given (multicast_bytes p groups low high)) p m
      → order_reply (after (before ++ (given (multicast_bytes p groups low high) ∷ rest))).now m
      ≡ gives (low + high * 256)
  unfolding read every
  is_given before rest p groups low high m s =
      (order_numbers.kept w setup _ taken m _).1
      (carries before rest (multicast_bytes p groups low high) p groups refl refl s)

  -- of a message that no item multicast none is given
  pub none_given : (items : List Item) (m : ℕ)
      → ((before rest : List Item) (bytes : List ℕ) (p : ℕ) → items ≡ before ++ (given bytes ∷ rest)
      → Multicasts before (given bytes) p m → ⊥)
      → (o : ℕ) → order_reply (after items).now m ≢ gives o
  none_given items m no_item o e =
      let z = was_multicast items m o e in no_item z.0 z.1 z.2 z.3 z.5 z.7

  -- once given it stays
  pub stays : (items more : List Item) (m o : ℕ) → order_reply (after items).now m ≡ gives o
      → order_reply (after (items ++ more)).now m ≡ gives o
  stays items more m o e =
      let (before, rest, bytes, p, groups, i, d, s) = was_multicast items m o e in
      (order_numbers.kept w setup (items ++ more) taken m o).1
      (carries before (rest ++ more) bytes p groups
      (ap (λ (is : List Item). is ++ more) i ∙ append_assoc before (given bytes ∷ rest) more) d s)

  -- ---- the same list with zeros
  module _ (items : List Item) where
    pub zeros_events : (after (erased_items items)).seen ≡ (after items).seen
    zeros_events = (order_numbers.run_apart w setup items taken).events

    pub zeros_words : (after (erased_items items)).now ≡ erased_words (after items).now
    zeros_words = (order_numbers.run_apart w setup items taken).words

    -- a list with no number but 0 leaves no other
    pub no_numbers : erased_items items ≡ items → (after items).now ≡ erased_words (after items).now
    no_numbers none = ap (λ (is : List Item). (after is).now) (sym none) ∙ zeros_words

    pub zeros_logs : (p : ℕ) (log : Bool)
        → log_words (after (erased_items items)).now p log ≡ log_words (after items).now p log
    zeros_logs = (order_numbers.run_apart w setup items taken).logs

    pub zeros_settles : (h : Manner) (b : ℕ)
        → settle_reply h (after (erased_items items)).now b ≡ settle_reply h (after items).now b
    zeros_settles = (order_numbers.run_apart w setup items taken).settles

    pub zeros_answers : (bytes : List ℕ)
        → step_refusal (after (erased_items items)).now (erased_bytes bytes)
        ≡ step_refusal (after items).now bytes
    zeros_answers = (order_numbers.run_apart w setup items taken).steps

    -- so a multicast with any number is refused as one with zeros
    pub zeros_multicast : (p groups low high : ℕ)
        → step_refusal (after (erased_items items)).now (multicast_bytes p groups 0 0)
        ≡ step_refusal (after items).now (multicast_bytes p groups low high)
    unfolding erased_bytes tabulate tab_from
    zeros_multicast p groups low high = zeros_answers (multicast_bytes p groups low high)

  -- of whatever message a number was given, 0 is
  pub zeros_given : (items : List Item) (m o : ℕ) → order_reply (after items).now m ≡ gives o
      → order_reply (after (erased_items items)).now m ≡ gives 0
  unfolding erased_items
  zeros_given items m o e =
      let (before, rest, bytes, p, groups, i, d, s) = was_multicast items m o e in
      (order_numbers.kept w setup (erased_items items) taken m 0).1
      (carries (erased_items before) (erased_items rest) (erased_bytes bytes) p groups
      (ap erased_items i ∙ erased_append before (given bytes ∷ rest))
      (order_numbers.read_apart bytes ∙ ap erased_step d)
      (ap (λ (t : Run (List ℕ)). t.seen) (sym (run_last (started_words w setup) (erased_items before) _))
      ∙ ap (λ (is : List Item). (after is).seen) (sym (erased_append before (given bytes ∷ [])))
      ∙ zeros_events (before ++ (given bytes ∷ []))
      ∙ ap (λ (t : Run (List ℕ)). t.seen) (run_last (started_words w setup) before (given bytes))
      ∙ s ∙ ap (λ (es : List Event). sent p m ∷ es) (sym (zeros_events before))))

  -- ---- two lists that differ in the numbers alone
  module _ (items others : List Item) (alike : erased_items items ≡ erased_items others) where
    -- what is read after both, and may be read after the list with zeros
    both : {A : Type 0} (f g : List Item → A) → ((is : List Item) → f (erased_items is) ≡ g is)
        → g items ≡ g others
    both f g e = sym (e items) ∙ ap f alike ∙ e others

    pub same_events : (after items).seen ≡ (after others).seen
    same_events = both (λ is. (after is).seen) (λ is. (after is).seen) zeros_events

    pub same_words : erased_words (after items).now ≡ erased_words (after others).now
    same_words = both (λ is. (after is).now) (λ is. erased_words (after is).now) zeros_words

    pub same_logs : (p : ℕ) (log : Bool)
        → log_words (after items).now p log ≡ log_words (after others).now p log
    same_logs p log =
        both (λ is. log_words (after is).now p log) (λ is. log_words (after is).now p log)
        (λ is. zeros_logs is p log)

    pub same_settles : (h : Manner) (b : ℕ) → settle_reply h (after items).now b ≡ settle_reply h (after others).now b
    same_settles h b =
        both (λ is. settle_reply h (after is).now b) (λ is. settle_reply h (after is).now b)
        (λ is. zeros_settles is h b)

    pub same_answers : (bytes : List ℕ)
        → step_refusal (after items).now bytes ≡ step_refusal (after others).now bytes
    same_answers bytes =
        both (λ is. step_refusal (after is).now (erased_bytes bytes))
        (λ is. step_refusal (after is).now bytes) (λ is. zeros_answers is bytes)

-- ---- a journal, and one that has its records with zeros
module _ (w journal zeros : List ℕ) (ok : journal_refusal journal ≡ 0) (also : journal_refusal zeros ≡ 0)
    (erases : records_of zeros ≡ erased_bytes (records_of journal)) where
  pub same_replay : replay_reply w zeros ≡ replay_reply w journal
  same_replay = (order_numbers.replay_apart w journal zeros ok also erases).answer

  -- where it is taken
  module _ (taken : replay_refusal w journal ≡ 0) where
    pub replayed_logs : (p : ℕ) (log : Bool)
        → log_words (replayed_words w zeros) p log ≡ log_words (replayed_words w journal) p log
    replayed_logs p log = (order_numbers.replay_apart w journal zeros ok also erases).logs taken p log

    pub replayed_zeros : replayed_words w zeros ≡ erased_words (replayed_words w journal)
    replayed_zeros = (order_numbers.replay_apart w journal zeros ok also erases).words taken
