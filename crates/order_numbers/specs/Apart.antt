-- A list of items with zeros for the order numbers does what the list does: over states the run is the run
-- with its state erased, and over lent words so are the words, with the same events, logs and answers. Assumes
-- nothing.
use Rattle.std.specs.Prelude.{◌≡◌, Bool, List, [], ◌∷◌, ℕ, zero, suc}
use Rattle.std.proofs.Math.Path.{refl, sym, ap}
use Rattle.std.proofs.Common.{ap₂, ◌∙◌, subst, subst₂, ltb-true}
use Rattle.std.proofs.Math.Bool.{true, false}
use Rattle.definitions.specs.General.{pick, gives, tabulate}
use Rattle.definitions.specs.World.{size, causal_length, State, encode, view, is_process}
use Rattle.definitions.specs.Setup.{fresh, made}
use Rattle.definitions.specs.Machine.{arrival}
use Rattle.definitions.specs.Steps.{Step, multicasts, arrives, loses, trusts, crashes, malformed, read, refusal, accepted, step}
use Rattle.definitions.specs.Settle.{moves, receiver, origin, kind, movable, letter_of, lowest, has_letter, served, fair, Manner, lowest_first, by_turns, choice}
use Rattle.definitions.specs.History.{Event, grown, gained, casted, Run, Item, given, settling, taken, tick, settles, act, run}
use Rattle.definitions.specs.Words.{making_refusal, step_refusal, settle_reply, log_length, log_words, on_words, started_words}
use Rattle.definitions.specs.OrderNumbers.{erased, erased_words, erased_step, erased_bytes, erased_items, Apart}
use Rattle.world.specs.Layout.{get_encode, encode_ext}
use Rattle.world.specs.SoundLaws.{Sound}
use Rattle.world.specs.SettleLaws.{settle, settle_related}
use Rattle.world.specs.Runs.{on_states, started}
use Rattle.keeps.specs.Keeps.{reached_sound}
use Rattle.effects.specs.Logs.{log_item}
use Rattle.carried.specs.Calls.{refusal_carried, log_carried, log_absent}
use Rattle.carried.specs.Carried.{written, reply_carried, setup_taken, from_setup}
use Rattle.order_numbers.specs.Erase.{erased_same, erased_zeros, refusal_erased, step_erased, accepted_erased}
use Rattle.order_numbers.specs.Bytes.{read_erased}

-- ---- runs over states
-- the run with its state erased
abbrev pub erased_run : Run State → Run State
erased_run r = record { now = erased r.now; seen = r.seen }

-- the deliveries that the causal logs have gained
gained_erased : (n : ℕ) (s t : State) (es : List Event) → gained n (erased s) (erased t) es ≡ gained n s t es
unfolding erased gained
gained_erased zero s t es = refl
gained_erased (suc p) s t es = ap (grown p (s (causal_length p)) t) (gained_erased p s t es)

-- the event of a multicast
casted_erased : (x : Step) (s : State) (es : List Event) → casted (erased_step x) (erased s) es ≡ casted x s es
unfolding erased
casted_erased (multicasts p groups o) s es = refl
casted_erased (arrives k m q p) s es = refl
casted_erased (loses k m q p) s es = refl
casted_erased (trusts p set) s es = refl
casted_erased (crashes p) s es = refl
casted_erased malformed s es = refl

-- an accepted step
taken_erased : (r : Run State) (x : Step)
    → taken on_states (erased_run r) (erased_step x) ≡ erased_run (taken on_states r x)
unfolding erased
taken_erased r x =
    let s = r.now in
    ap₂ (λ (u : State) (es : List Event). record { now = u; seen = gained (s size) (erased s) u es })
    (step_erased s x) (casted_erased x s r.seen)
    ∙ ap (λ (es : List Event). record { now = erased (step s x); seen = es })
    (gained_erased (s size) s (step s x) (casted x s r.seen))

-- the letter that settle chooses
choice_erased : (h : Manner) (x : ℕ) (s : State) → choice h x (erased s) ≡ choice h x s
unfolding erased lowest movable letter_of kind origin receiver moves fair served has_letter
choice_erased lowest_first x s = refl
choice_erased by_turns x s = refl

-- an item
tick_erased : (r : Run State) (x : Step)
    → tick on_states (erased_run r) (erased_step x) ≡ erased_run (tick on_states r x)
unfolding tick
tick_erased r x =
    ap₂ (λ (b : Bool) (t : Run State). pick b t (erased_run r)) (accepted_erased r.now x) (taken_erased r x)
    ∙ go (accepted r.now x)
  where
    go : (b : Bool) → pick b (erased_run (taken on_states r x)) (erased_run r)
        ≡ erased_run (pick b (taken on_states r x) r)
    go true = refl
    go false = refl

settles_erased : (h : Manner) (r : Run State) (b : ℕ)
    → settles on_states h (erased_run r) b ≡ erased_run (settles on_states h r b)
unfolding settles
settles_erased h r b =
    (settle_related (λ x t. choice h x t.now) (λ t k m q p. taken on_states t (arrives k m q p))
    (λ x t. choice h x t.now) (λ t k m q p. taken on_states t (arrives k m q p)) (λ t u. u ≡ erased_run t)
    (λ x t u e. sym (ap (λ (v : Run State). choice h x v.now) e ∙ choice_erased h x t.now))
    (λ x t u k m q p e _. ap (λ (v : Run State). taken on_states v (arrives k m q p)) e
    ∙ taken_erased t (arrives k m q p)) b 0 0 r (erased_run r) refl
    ).worlds

-- a list
pub run_erased : (r : Run State) (items : List Item)
    → run on_states (erased_run r) (erased_items items) ≡ erased_run (run on_states r items)
unfolding erased_items run act
run_erased r [] = refl
run_erased r (given bytes ∷ is) =
    ap (λ (t : Run State). run on_states t (erased_items is))
    (ap (tick on_states (erased_run r)) (read_erased bytes) ∙ tick_erased r (read bytes))
    ∙ run_erased (tick on_states r (read bytes)) is
run_erased r (settling h b ∷ is) =
    ap (λ (t : Run State). run on_states t (erased_items is)) (settles_erased h r b)
    ∙ run_erased (settles on_states h r b) is

-- ---- words
-- the words of a state erased are those of the state erased
pub words_erased : (s : State) → erased_words (encode s) ≡ encode (erased s)
words_erased s =
    encode_ext (erased (view (encode s))) (erased s)
    (λ c w. erased_same (view (encode s)) s c (get_encode s c w))

-- a fresh world has no order number
pub made_zeros : (setup : List ℕ) → erased (made setup) ≡ made setup
unfolding made fresh
made_zeros setup = erased_zeros (made setup) (λ m. refl)

-- the calls on the words of a sound state, and on those with zeros
module _ (s : State) (h : Sound s) (z : Sound (erased s)) where
  pub logs_same : (p : ℕ) (log : Bool) → log_words (encode (erased s)) p log ≡ log_words (encode s) p log
  unfolding erased
  logs_same p log = go (is_process s p) refl
    where
      read_same : (b : Bool) → tabulate (log_length (erased s) p b) (λ i. erased s (log_item p b i))
          ≡ tabulate (log_length s p b) (λ i. s (log_item p b i))
      read_same true = refl
      read_same false = refl

      go : (b : Bool) → is_process s p ≡ b → log_words (encode (erased s)) p log ≡ log_words (encode s) p log
      go true e =
          let hp = ltb-true p (s size) e in
          log_carried (erased s) z p hp log ∙ read_same log ∙ sym (log_carried s h p hp log)
      go false e = log_absent (erased s) z p log e ∙ sym (log_absent s h p log e)

  pub steps_same : (bytes : List ℕ)
      → step_refusal (encode (erased s)) (erased_bytes bytes) ≡ step_refusal (encode s) bytes
  steps_same bytes =
      refusal_carried (erased s) z (erased_bytes bytes) ∙ ap (refusal (erased s)) (read_erased bytes)
      ∙ refusal_erased s (read bytes) ∙ sym (refusal_carried s h bytes)

  pub settles_same : (o : Manner) (b : ℕ) → settle_reply o (encode (erased s)) b ≡ settle_reply o (encode s) b
  unfolding settle step
  settles_same o b =
      reply_carried o (erased s) z b ∙ ap gives (sym alike) ∙ sym (reply_carried o s h b)
    where
      alike : (settle o s b).ending ≡ (settle o (erased s) b).ending
      alike =
          (settle_related (choice o) arrival (choice o) arrival (λ t u. u ≡ erased t)
          (λ x t u e. sym (ap (choice o x) e ∙ choice_erased o x t))
          (λ x t u k m q p e _. ap (λ (v : State). arrival v k m q p) e ∙ step_erased t (arrives k m q p)) b 0 0 s
          (erased s) refl
          ).endings

-- the words of a run, and of the run erased
apart_written : (r : Run State) → Sound r.now → Sound (erased r.now)
    → Apart (written r) (written (erased_run r))
apart_written r h z = record {
  events = refl;
  words = sym (words_erased r.now);
  logs = logs_same r.now h z;
  steps = steps_same r.now h z;
  settles = settles_same r.now h z;
}

module _ (w setup : List ℕ) (ok : making_refusal w setup ≡ 0) where
  zeros_from_setup : (items : List Item)
      → run on_states (started setup) (erased_items items) ≡ erased_run (run on_states (started setup) items)
  zeros_from_setup items =
      ap (λ (s : State). run on_states (record { now = s; seen = [] }) (erased_items items))
      (sym (made_zeros setup))
      ∙ run_erased (started setup) items

  pub run_apart : (items : List Item)
      → Apart (run on_words (started_words w setup) items)
      (run on_words (started_words w setup) (erased_items items))
  run_apart items =
      let e = zeros_from_setup items in
      let taken = setup_taken w setup ok in
      subst₂ Apart (sym (from_setup w setup ok items)) (sym (from_setup w setup ok (erased_items items) ∙ ap written e))
      (apart_written (run on_states (started setup) items) (reached_sound setup items taken)
      (subst (λ (t : Run State). Sound t.now) e (reached_sound setup (erased_items items) taken)))
