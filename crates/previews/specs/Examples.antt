-- Previews that meet the hypotheses of `previews`, computed on states and carried to any lent words: a trust step and
-- an arrival with a FIFO and a causal delivery each; an arrival with a FIFO delivery alone, of a message that overtook
-- another; the arrival of that other, with one FIFO and two causal deliveries; an arrival, a multicast, a crash and a
-- loss with none; and one that is refused. Assumes nothing.
use Rattle.std.specs.Prelude.{◌≡◌, refl, Bool, true, false, ℕ, ◌+◌, length}
use Rattle.std.proofs.Math.Path.{ap}
use Rattle.std.proofs.Common.{ap₂, ◌∙◌}
use mathlib.Core.List.{List, [], ◌∷◌, ◌++◌}
use Rattle.std.proofs.Math.Decide.{ℕ_discrete}
use Rattle.definitions.specs.General.{gives, refuses, sum, every, some, first_from, absent, chosen, loop, bit, with, without, mask_of, only}
use Rattle.definitions.specs.World.{State, put, has_group}
use Rattle.definitions.specs.Setup.{fresh, setup_bits, setup_group, good_setup, setup_refusal, made}
use Rattle.definitions.specs.Machine.{with_tables, ready, lowest_short, lowest_awaited, short_of, awaited, deliverable, deliverable_at, merge, causal_one, causal_all, appended, raised_next, due, send_ok, send_oks, fifo_one, cascade, raised, stamped, numbered, posted, multicast, leave, mark, hold, arrival, trust_set, crash}
use Rattle.definitions.specs.Steps.{read, good_mask, refusal, step}
use Rattle.definitions.specs.History.{Run, Item, given, tick, act, run}
use Rattle.definitions.specs.Words.{log_words, log_growth, preview_refusal, preview_reply, on_words, started_words}
use Rattle.definitions.specs.Previews.{gots}
use Rattle.world.specs.Runs.{on_states, started}
use Rattle.keeps.specs.Keeps.{reached_sound}
use Rattle.previews.specs.Theorem.{previews}
use Rattle.previews.specs.Carried.{refusal_shown, numbers_shown, words_of_state}

-- ---- steps as bytes
abbrev multicasting : ℕ → ℕ → List ℕ
multicasting p groups = 1 ∷ p ∷ groups ∷ 0 ∷ 0 ∷ 0 ∷ 0 ∷ 0 ∷ []

abbrev arriving : ℕ → ℕ → ℕ → ℕ → List ℕ
arriving k m q p = 2 ∷ k ∷ m ∷ q ∷ p ∷ 0 ∷ 0 ∷ 0 ∷ []

abbrev losing : ℕ → ℕ → ℕ → ℕ → List ℕ
losing k m q p = 3 ∷ k ∷ m ∷ q ∷ p ∷ 0 ∷ 0 ∷ 0 ∷ []

abbrev trusting : ℕ → ℕ → List ℕ
trusting p set = 4 ∷ p ∷ set ∷ 0 ∷ 0 ∷ 0 ∷ 0 ∷ 0 ∷ []

abbrev crashing : ℕ → List ℕ
crashing p = 5 ∷ p ∷ 0 ∷ 0 ∷ 0 ∷ 0 ∷ 0 ∷ 0 ∷ []

-- ---- a setup record, the steps taken, the step previewed, its FIFO and its causal number
record Case : Type 0 where
  pub setup : List ℕ
  pub items : List Item
  pub bytes : List ℕ
  pub fifo : ℕ
  pub causal : ℕ

-- the state that it is previewed in
abbrev end : Case → State
end c = (run on_states (started c.setup) c.items).now

-- what is computed of it
abbrev Passes : Case → Type 0
Passes c =
    (setup_refusal c.setup ≡ 0) × (refusal (end c) (read c.bytes) ≡ 0)
    × (log_growth false (end c) (step (end c) (read c.bytes)) ≡ c.fifo)
    × (log_growth true (end c) (step (end c) (read c.bytes)) ≡ c.causal)

-- what a caller sees of it, on any lent words
abbrev Answers : Case → Type 0
Answers c =
    (w second : List ℕ) → length w ≡ 20480 → length second ≡ 20480
    → preview_reply (run on_words (started_words w c.setup) c.items).now c.bytes second
    ≡ gives (record { fifo_number = c.fifo; causal_number = c.causal })

answers : (c : Case) → Passes c → Answers c
answers c (made, taken, fifo, causal) w second l k =
    ap (λ (u : List ℕ). preview_reply u c.bytes second) (words_of_state w c.setup c.items l made)
    ∙ numbers_shown (end c) (reached_sound c.setup c.items made) c.bytes second k taken
    ∙ ap₂ (λ (x y : ℕ). gives (record { fifo_number = x; causal_number = y })) fifo causal

-- ---- the cases
-- two processes of one group; three, each in a group of its own
abbrev pair : List ℕ
pair = 0 ∷ 2 ∷ 0 ∷ 0 ∷ 0 ∷ 0 ∷ 0 ∷ 0 ∷ []

abbrev three : List ℕ
three = 0 ∷ 3 ∷ 136 ∷ 0 ∷ 0 ∷ 0 ∷ 0 ∷ 0 ∷ []

-- the first message of 0, held and marked by itself
abbrev held_by_0 : List Item
held_by_0 = given (multicasting 0 1) ∷ given (arriving 0 0 0 0) ∷ given (arriving 2 0 0 0) ∷ []

-- a trust step: 0 no longer waits for 1
abbrev trusted : Case
trusted = record { setup = pair; items = held_by_0; bytes = trusting 0 1; fifo = 1; causal = 1 }

-- an arrival: so does the OK of 1
abbrev both : Case
both = record {
  setup = pair;
  items = held_by_0 ++ (given (arriving 0 0 0 1) ∷ []);
  bytes = arriving 2 0 1 0;
  fifo = 1;
  causal = 1;
}

-- message 2 overtakes message 0 on the way to process 2
abbrev overtaking : List Item
overtaking =
    given (multicasting 0 4)
    ∷ given (multicasting 0 2)
    ∷ given (arriving 0 1 0 1)
    ∷ given (arriving 2 1 1 1)
    ∷ given (multicasting 1 4)
    ∷ given (arriving 0 2 1 2)
    ∷ []

abbrev overtaken : Case
overtaken = record { setup = three; items = overtaking; bytes = arriving 2 2 2 2; fifo = 1; causal = 0 }

-- and message 0 comes after it
abbrev catches_up : Case
catches_up = record {
  setup = three;
  items = overtaking ++ (given (arriving 2 2 2 2) ∷ given (arriving 0 0 0 2) ∷ []);
  bytes = arriving 2 0 2 2;
  fifo = 1;
  causal = 2;
}

-- an arrival that delivers nothing
abbrev waits : Case
waits = record {
  setup = pair;
  items = given (multicasting 0 1) ∷ [];
  bytes = arriving 0 0 0 0;
  fifo = 0;
  causal = 0;
}

-- a multicast, a crash, and the loss of a letter to who is down
abbrev multicasts_none : Case
multicasts_none = record { setup = pair; items = held_by_0; bytes = multicasting 1 1; fifo = 0; causal = 0 }

abbrev crashes_none : Case
crashes_none = record { setup = pair; items = held_by_0; bytes = crashing 1; fifo = 0; causal = 0 }

abbrev loses_none : Case
loses_none = record {
  setup = pair;
  items = held_by_0 ++ (given (crashing 1) ∷ []);
  bytes = losing 0 0 0 1;
  fifo = 0;
  causal = 0;
}

-- computed
all_pass : Passes trusted × Passes both × Passes overtaken × Passes catches_up × Passes waits × Passes multicasts_none
    × Passes crashes_none × Passes loses_none
    × (refusal (run on_states (started pair) held_by_0).now (read (arriving 2 0 0 0)) ≡ 11)
unfolding ℕ_discrete every some first_from absent chosen loop bit with without mask_of only put fresh setup_bits
    setup_group good_setup setup_refusal made with_tables ready lowest_short lowest_awaited short_of awaited deliverable deliverable_at merge causal_one causal_all
    appended raised_next due send_ok send_oks fifo_one cascade raised stamped numbered posted multicast leave mark hold
    arrival trust_set crash read has_group good_mask refusal step tick act run sum
all_pass = (
  (refl, refl, refl, refl),
  (refl, refl, refl, refl),
  (refl, refl, refl, refl),
  (refl, refl, refl, refl),
  (refl, refl, refl, refl),
  (refl, refl, refl, refl),
  (refl, refl, refl, refl),
  (refl, refl, refl, refl),
  refl,
)

-- ---- as a caller has it, over any lent words
pub all_answer : Answers trusted × Answers both × Answers overtaken × Answers catches_up × Answers waits
    × Answers multicasts_none × Answers crashes_none × Answers loses_none
all_answer =
    let (a, b, c, d, e, f, g, h, _) = all_pass in (
      answers trusted a,
      answers both b,
      answers overtaken c,
      answers catches_up d,
      answers waits e,
      answers multicasts_none f,
      answers crashes_none g,
      answers loses_none h,
    )

module _ (w second : List ℕ) (long : length w ≡ 20480) (also : length second ≡ 20480) where
  -- before and after the arrival of message 0 at process 2, behind message 2
  abbrev before : Run (List ℕ)
  before = run on_words (started_words w three) catches_up.items

  abbrev after : Run (List ℕ)
  after = act on_words before (given (arriving 2 0 2 2))

  two_causal : preview_reply before.now (arriving 2 0 2 2) second
      ≡ gives (record { fifo_number = 1; causal_number = 2 })
  two_causal = all_answer.3 w second long also

  -- its preview says 1 and 2, and the step does that
  pub two_events : gots after.seen ≡ gots before.seen + 2
  two_events = (previews.in_run before (arriving 2 0 2 2) second _ two_causal).1

  pub one_and_two : (news : Bool → List ℕ) × (length (news false) ≡ 1) × (length (news true) ≡ 2)
      × ((log : Bool) → log_words after.now 2 log ≡ log_words before.now 2 log ++ news log)
  unfolding read every
  one_and_two =
      let a = previews.appends before.now (arriving 2 0 2 2) second _ two_causal in
      let e = (previews.in_run before (arriving 2 0 2 2) second _ two_causal).0 in
      (a.news, a.fifo_news, a.causal_news, λ log. ap (λ (u : List ℕ). log_words u 2 log) e ∙ a.behind log)

  -- a letter that is no longer in flight: 11, as the step
  pub gone_letter : preview_reply (run on_words (started_words w pair) held_by_0).now (arriving 2 0 0 0) second
      ≡ refuses 11
  unfolding preview_reply
  gone_letter =
      let made = all_pass.0.0 in
      let s : State = (run on_states (started pair) held_by_0).now in
      rw (ap (λ (u : List ℕ). preview_refusal u (arriving 2 0 0 0) second) (words_of_state w pair held_by_0 long made)
      ∙ refusal_shown s (reached_sound pair held_by_0 made) (arriving 2 0 0 0) second also ∙ all_pass.8)
