-- The words with zeros for the order numbers, by place: word 6867 + 187 m + 186 is zero for each message m, and
-- every other word is as it was; so after a list of items or a journal with zeros. Assumes nothing.
use Rattle.std.specs.Prelude.{◌≡◌, List, ◌≢◌, ◌⊎◌, ℕ, ◌+◌, ◌*◌, ◌<◌, get_or}
use Rattle.std.proofs.Common.{sym, ap, ◌∙◌, subst, inl, inr}
use Rattle.definitions.specs.World.{order, addr, cell_at, State, encode, view}
use Rattle.definitions.specs.History.{Item, run}
use Rattle.definitions.specs.Words.{making_refusal, on_words, started_words}
use Rattle.definitions.specs.Journal.{journal_refusal, records_of}
use Rattle.definitions.specs.Replay.{replay_refusal, replayed_words}
use Rattle.definitions.specs.OrderNumbers.{erased, erased_words, erased_bytes, erased_items}
use Rattle.base.specs.Tabulate.{get_d_tabulate}
use Rattle.world.specs.Layout.{Within, get_encode, addr_cell_at, within_cell_at}
use Rattle.order_numbers.specs.Erase.{order_or_same}
use Rattle.order_numbers.specs.Theorem.{order_numbers}

-- ---- the words of a world
-- the order number of message m
abbrev pub order_place : ℕ → ℕ
order_place m = 6867 + m * 187 + 186

-- u has zeros for the order numbers of w, and is w otherwise
pub record Zeros (w u : List ℕ) : Type 0 where
  pub order_words : (m : ℕ) → m < 64 → get_or u (order_place m) 0 ≡ 0
  pub other_words : (a : ℕ) → a < 20480 → ((m : ℕ) → m < 64 → a ≢ order_place m) → get_or u a 0 ≡ get_or w a 0

-- the erasure
erased_at : (w : List ℕ) (a : ℕ) → a < 20480 → ((m : ℕ) → m < 64 → a ≢ order_place m)
    → get_or (erased_words w) a 0 ≡ get_or w a 0
unfolding encode
erased_at w a h off =
    get_d_tabulate 20480 (λ i. erased (view w) (cell_at i)) a 0 h
    ∙ go (order_or_same (cell_at a)) ∙ ap (λ (i : ℕ). get_or w i 0) (addr_cell_at a h)
  where
    go : ((m : ℕ) × (cell_at a ≡ order m)) ⊎ ((s : State) → erased s (cell_at a) ≡ s (cell_at a))
        → erased (view w) (cell_at a) ≡ view w (cell_at a)
    go (inl (m, e)) =
        absurd (off m (subst Within e (within_cell_at a h)) (sym (addr_cell_at a h) ∙ ap addr e))
    go (inr f) = f (view w)

pub erased_zeros : (w u : List ℕ) → u ≡ erased_words w → Zeros w u
unfolding erased
erased_zeros w u e = record {
  order_words = λ m h.
      ap (λ (x : List ℕ). get_or x (order_place m) 0) e ∙ get_encode (erased (view w)) (order m) h;
  other_words = λ a h off. ap (λ (x : List ℕ). get_or x a 0) e ∙ erased_at w a h off;
}

-- ---- after a list of items with zeros, after one that has only zeros, and after a journal with zeros
module _ (w setup : List ℕ) (items : List Item) (taken : making_refusal w setup ≡ 0) where
  pub run_zeros : Zeros (run on_words (started_words w setup) items).now
      (run on_words (started_words w setup) (erased_items items)).now
  run_zeros = erased_zeros _ _ (order_numbers.run_apart w setup items taken).words

  pub no_numbers : erased_items items ≡ items → (m : ℕ) → m < 64
      → get_or (run on_words (started_words w setup) items).now (order_place m) 0 ≡ 0
  no_numbers none m h =
      ap (λ (is : List Item). get_or (run on_words (started_words w setup) is).now (order_place m) 0) (sym none)
      ∙ run_zeros.order_words m h

pub replay_zeros : (w journal zeros : List ℕ) → journal_refusal journal ≡ 0 → journal_refusal zeros ≡ 0
    → records_of zeros ≡ erased_bytes (records_of journal) → replay_refusal w journal ≡ 0
    → Zeros (replayed_words w journal) (replayed_words w zeros)
replay_zeros w journal zeros ok also erases taken =
    erased_zeros _ _ ((order_numbers.replay_apart w journal zeros ok also erases).words taken)
