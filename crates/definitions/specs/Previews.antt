-- Preview: what card 2 of document 02 claims of it beside the contract of the call. It shows the words that the step
-- gives, and its two numbers are the deliveries that the step makes. It rests on Words and History. Assumes nothing.
use Rattle.std.specs.Prelude.{◌≡◌, Bool, true, false, List, [], ◌∷◌, ◌++◌, ◌≢◌, ℕ, suc, ◌+◌, length}
use Rattle.definitions.specs.General.{gives, refuses}
use Rattle.definitions.specs.Steps.{Step, multicasts, arrives, loses, trusts, crashes, malformed, read}
use Rattle.definitions.specs.History.{Event, sent, got, Run, given, act}
use Rattle.definitions.specs.Words.{step_refusal, stepped_words, log_words, preview_refusal, previewed_words, NewDeliveries, preview_reply, on_words}

-- The process of a step: "the process of a multicast, trust or crash step, or the receiver of an arrival", or of a loss;
-- 0 for what is no step.
abbrev pub step_process : Step → ℕ
step_process (multicasts p groups o) = p
step_process (arrives k m q p) = p
step_process (loses k m q p) = p
step_process (trusts p set) = p
step_process (crashes p) = p
step_process malformed = 0

-- The steps that lead to a cascade, "Cascade at p", the only place where a message is delivered: arrivals and trust
-- steps.
abbrev pub has_cascade : Step → Bool
has_cascade (multicasts p groups o) = false
has_cascade (arrives k m q p) = true
has_cascade (loses k m q p) = false
has_cascade (trusts p set) = true
has_cascade (crashes p) = false
has_cascade malformed = false

-- The number of causal deliveries among the events of a history.
unfoldable pub gots : List Event → ℕ
gots [] = 0
gots (sent p m ∷ es) = gots es
gots (got p m ∷ es) = suc (gots es)

-- What the step adds to the logs, as the call that reads them gives them: at its process p each log goes on with new
-- messages, as many as the numbers say, and at every other process it is what it was.
pub record Appends (w second : List ℕ) (p : ℕ) (d : NewDeliveries) : Type 0 where
  pub news : Bool → List ℕ
  pub behind : (log : Bool) → log_words second p log ≡ log_words w p log ++ news log
  pub fifo_news : length (news false) ≡ d.fifo_number
  pub causal_news : length (news true) ≡ d.causal_number
  pub others : (r : ℕ) (log : Bool) → p ≢ r → log_words second r log ≡ log_words w r log

-- The preview of a step, and the step on the same world, which is as lent.
pub record AsStep (w bytes second : List ℕ) : Type 0 where
  -- "A step that would be refused gives the same refusal"; "Refusal 1 covers either slice."
  pub same_refusal : length second ≡ 20480 → preview_refusal w bytes second ≡ step_refusal w bytes
  pub other_length : length second ≢ 20480 → preview_refusal w bytes second ≡ 1
  -- Refused, it answers the number "and leaves the second slice as lent".
  pub refused_answer : preview_refusal w bytes second ≢ 0
      → preview_reply w bytes second ≡ refuses (preview_refusal w bytes second)
  pub refused_words : preview_refusal w bytes second ≢ 0 → previewed_words w bytes second ≡ second
  -- Else it answers two numbers, and shows "exactly what doing the step on a copy would give".
  pub taken_answer : preview_refusal w bytes second ≡ 0
      → (d : NewDeliveries) × (preview_reply w bytes second ≡ gives d)
  pub taken_words : preview_refusal w bytes second ≡ 0 → previewed_words w bytes second ≡ stepped_words w bytes

-- ---- the claims of card 2
pub record Previews : Type 0 where
  -- The preview, and then the step.
  pub as_step : (w bytes second : List ℕ) → AsStep w bytes second
  -- In a run the step then gives the words shown, and as many new events `got` as the causal number says.
  pub in_run : (r : Run (List ℕ)) (bytes second : List ℕ) (d : NewDeliveries)
      → preview_reply r.now bytes second ≡ gives d
      → ((act on_words r (given bytes)).now ≡ previewed_words r.now bytes second)
      × (gots (act on_words r (given bytes)).seen ≡ gots r.seen + d.causal_number)
  -- The two numbers are those of the messages by which the logs are longer.
  pub appends : (w bytes second : List ℕ) (d : NewDeliveries) → preview_reply w bytes second ≡ gives d
      → Appends w (previewed_words w bytes second) (step_process (read bytes)) d
  -- A multicast, a loss and a crash add none.
  pub none : (w bytes second : List ℕ) (d : NewDeliveries) → preview_reply w bytes second ≡ gives d
      → has_cascade (read bytes) ≡ false → (d.fifo_number ≡ 0) × (d.causal_number ≡ 0)
