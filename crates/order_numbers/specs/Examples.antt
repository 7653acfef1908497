-- A list that meets the hypotheses on order numbers, computed on states: two accepted multicasts, with the
-- numbers 1017 and 0, and between them two with numbers that are refused; over lent words the call then gives
-- 1017 and 0. And journals that do: those of any records, and of the same with zeros. Assumes nothing.
use Rattle.std.specs.Prelude.{◌≡◌, true, ℕ, length}
use Rattle.std.proofs.Math.Path.{refl}
use Rattle.std.proofs.Common.{sym, ap, ◌∙◌, eq-eqb}
use mathlib.Core.List.{List, [], ◌∷◌, ◌++◌}
use Rattle.std.proofs.Math.Decide.{ℕ_discrete}
use Rattle.definitions.specs.General.{gives, every, some, tab_from, tabulate, bit, with, mask_of, only}
use Rattle.definitions.specs.World.{count, order, State, put, has_group}
use Rattle.definitions.specs.Setup.{fresh, setup_bits, setup_group, good_setup, setup_refusal, made}
use Rattle.definitions.specs.Machine.{with_tables, raised, stamped, numbered, posted, multicast, crash}
use Rattle.definitions.specs.Steps.{read, good_mask, refusal, step}
use Rattle.definitions.specs.History.{sent, deliveries, gained, Run, Item, given, tick, act, run}
use Rattle.definitions.specs.Words.{making_refusal, order_reply, on_words, started_words}
use Rattle.definitions.specs.Journal.{journal_of, right_records}
use Rattle.definitions.specs.OrderNumbers.{erased_bytes, erased_items, Carries, ReplaysApart}
use Rattle.round_trip.specs.Journal.{records_come_back}
use Rattle.world.specs.Runs.{on_states, started}
use Rattle.order_numbers.specs.Bytes.{length_erased}
use Rattle.order_numbers.specs.Kept.{cast_carries}
use Rattle.order_numbers.specs.Theorem.{order_numbers}

-- ---- two processes of one group
abbrev pair : List ℕ
pair = 0 ∷ 2 ∷ 0 ∷ 0 ∷ 0 ∷ 0 ∷ 0 ∷ 0 ∷ []

-- process 0 multicasts with the number 1017, 3 * 256 + 249
abbrev with_number : List ℕ
with_number = 1 ∷ 0 ∷ 1 ∷ 249 ∷ 3 ∷ 0 ∷ 0 ∷ 0 ∷ []

-- to a group that there is none of, with a number
abbrev to_none : List ℕ
to_none = 1 ∷ 0 ∷ 2 ∷ 57 ∷ 48 ∷ 0 ∷ 0 ∷ 0 ∷ []

-- process 1 crashes, and then multicasts with a number
abbrev crashing : List ℕ
crashing = 5 ∷ 1 ∷ 0 ∷ 0 ∷ 0 ∷ 0 ∷ 0 ∷ 0 ∷ []

abbrev while_down : List ℕ
while_down = 1 ∷ 1 ∷ 1 ∷ 7 ∷ 0 ∷ 0 ∷ 0 ∷ 0 ∷ []

-- process 0 multicasts with no order
abbrev without_number : List ℕ
without_number = 1 ∷ 0 ∷ 1 ∷ 0 ∷ 0 ∷ 0 ∷ 0 ∷ 0 ∷ []

-- in this order
abbrev until_last : List Item
until_last = given with_number ∷ given to_none ∷ given crashing ∷ given while_down ∷ []

abbrev numbered_items : List Item
numbered_items = until_last ++ (given without_number ∷ [])

-- what there is after it
pub record TwoMessages (r : Run State) (first second : ℕ) : Type 0 where
  pub messages : r.now count ≡ 2
  pub number_first : r.now (order 0) ≡ first
  pub number_second : r.now (order 1) ≡ second
  pub events : r.seen ≡ sent 0 1 ∷ sent 0 0 ∷ []

-- the two in the middle are refused
pub refused_between :
    (refusal (run on_states (started pair) (given with_number ∷ [])).now (read to_none) ≡ 6)
    × (refusal (run on_states (started pair) (given with_number ∷ given to_none ∷ given crashing ∷ [])).now
    (read while_down) ≡ 9)
unfolding ℕ_discrete every some bit with mask_of only put with_tables raised stamped numbered posted multicast
    crash fresh setup_bits setup_group made read has_group good_mask refusal step tick act run
refused_between = (refl, refl)

-- the numbers are kept, those of refused multicasts are not
pub numbers_kept : TwoMessages (run on_states (started pair) numbered_items) 1017 0
unfolding ℕ_discrete every some bit with mask_of only put with_tables raised stamped numbered posted multicast
    crash fresh setup_bits setup_group made read has_group good_mask refusal step tick act run gained deliveries
numbers_kept = record { messages = refl; number_first = refl; number_second = refl; events = refl }

-- with zeros all is the same but for the numbers
pub zeros_kept : TwoMessages (run on_states (started pair) (erased_items numbered_items)) 0 0
unfolding ℕ_discrete every some bit with mask_of only put with_tables raised stamped numbered posted multicast
    crash fresh setup_bits setup_group made read has_group good_mask refusal step tick act run gained deliveries
    tab_from tabulate erased_bytes erased_items
zeros_kept = record { messages = refl; number_first = refl; number_second = refl; events = refl }

-- ---- over any lent words, as a caller has it
module _ (w : List ℕ) (long : length w ≡ 20480) where
  pair_taken : making_refusal w pair ≡ 0
  unfolding making_refusal setup_refusal good_setup setup_bits setup_group every
  pair_taken = rw (eq-eqb (length w) 20480 long)

  -- the first item carries 1017
  pub first_carries : Carries (started_words w pair) numbered_items 0 1017
  unfolding ℕ_discrete every some bit with mask_of only put with_tables fresh setup_bits setup_group made read
      has_group good_mask refusal run
  first_carries =
      cast_carries w pair numbered_items pair_taken 0 []
      (given to_none ∷ given crashing ∷ given while_down ∷ given without_number ∷ []) with_number 0 1 1017 refl
      refl refl refl

  -- the last carries 0
  pub last_carries : Carries (started_words w pair) numbered_items 1 0
  unfolding ℕ_discrete every some bit with mask_of only put with_tables raised stamped numbered posted multicast
      crash fresh setup_bits setup_group made read has_group good_mask refusal step tick act run gained deliveries
  last_carries =
      cast_carries w pair numbered_items pair_taken 1 until_last [] without_number 0 1 0 refl refl refl refl

  -- and these are given
  pub first_given : order_reply (run on_words (started_words w pair) numbered_items).now 0 ≡ gives 1017
  first_given = (order_numbers.kept w pair numbered_items pair_taken 0 1017).1 first_carries

  pub last_given : order_reply (run on_words (started_words w pair) numbered_items).now 1 ≡ gives 0
  last_given = (order_numbers.kept w pair numbered_items pair_taken 1 0).1 last_carries

-- ---- journals: those of any records that may be written, and of the same with zeros
pub journals_apart : (w rs : List ℕ) → right_records (length rs) ≡ true
    → ReplaysApart w (journal_of rs) (journal_of (erased_bytes rs))
journals_apart w rs e =
    let all = records_come_back rs e in
    let zeros = records_come_back (erased_bytes rs) (ap right_records (length_erased rs) ∙ e) in
    order_numbers.replay_apart w (journal_of rs) (journal_of (erased_bytes rs)) all.0 zeros.0
    (zeros.1 ∙ sym (ap erased_bytes all.1))

-- as of the setup record and the two multicasts: with zeros for the number of the first
abbrev records : List ℕ
records = pair ++ with_number ++ without_number

pub records_zeros : erased_bytes records ≡ pair ++ without_number ++ without_number
unfolding erased_bytes tabulate tab_from
records_zeros = refl

pub records_apart : (w : List ℕ)
    → ReplaysApart w (journal_of records) (journal_of (pair ++ without_number ++ without_number))
unfolding right_records
records_apart w = rw records_zeros at (journals_apart w records refl)
