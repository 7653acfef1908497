-- The sentences on awaited messages as a reader takes them from `awaits`, on the numbers that the calls give: each with its
-- hypotheses written out, and no more. A weaker statement would not give them. Assumes nothing.
use Rattle.std.specs.Prelude.{◌≡◌, true, false, List, ◌≢◌, ℕ, zero, suc, ◌<◌, length}
use Rattle.std.proofs.Common.{sym, ap, subst, not-suc-le-zero, arith}
use Rattle.definitions.specs.General.{Reply, value_in, bit, Listed}
use Rattle.definitions.specs.World.{count, group, sender, mask, view}
use Rattle.definitions.specs.Machine.{Awaited}
use Rattle.definitions.specs.History.{Before, Run, Item, run}
use Rattle.definitions.specs.Words.{making_refusal, log_words, awaited_refusal, awaited_reply, on_words, started_words}
use Rattle.definitions.specs.Answers.{kind_in, process_in, message_in}
use Rattle.definitions.specs.Awaits.{Named, Chain, ends, goes}
use Rattle.awaits.proofs.Theorem.{awaits}

-- ---- any lent words: for which messages the call answers
module _ (w : List ℕ) (p m : ℕ) where
  pub answers : Listed (log_words w p false) m → (Listed (log_words w p true) m → ⊥) → awaited_refusal w p m ≡ 0
  answers f out = (awaits.answered w p m).1 (f, out)

  -- not for one outside the FIFO log
  pub not_outside : (Listed (log_words w p false) m → ⊥) → awaited_refusal w p m ≢ 0
  not_outside out e = out ((awaits.answered w p m).0 e).0

  -- nor for one in the causal log
  pub not_delivered : Listed (log_words w p true) m → awaited_refusal w p m ≢ 0
  not_delivered c e = ((awaits.answered w p m).0 e).1 c

-- ---- after a list of items from a fresh world: a message in the FIFO log and not in the causal log of p
module _ (w setup : List ℕ) (taken : making_refusal w setup ≡ 0) (items : List Item) where
  abbrev r : Run (List ℕ)
  r = run on_words (started_words w setup) items

  module _ (p m : ℕ) (f : Listed (log_words r.now p false) m) (out : Listed (log_words r.now p true) m → ⊥) where
    -- the process and the message that the call gives, whatever was lent for them
    abbrev of : ℕ → ℕ
    of lent = value_in (process_in lent) (awaited_reply r.now p m) lent

    abbrev message : ℕ → ℕ
    message lent = value_in (message_in lent) (awaited_reply r.now p m) lent

    named : Named (run on_words (started_words w setup) items) p m
    named = awaits.named w setup items taken p m (f, out)

    -- the kind is 1: never 0, yes, and never 2, a process alone
    pub kind_one : (lent : ℕ) → value_in kind_in (awaited_reply r.now p m) lent ≡ 1
    kind_one lent = rw named.answer

    -- the message exists, and is of the process
    pub it_exists : (lent : ℕ) → message lent < view r.now count
    it_exists lent = rw named.answer named.exists

    pub is_its : (x y : ℕ) → view r.now (sender (message x)) ≡ of y
    is_its x y = rw named.answer named.sent_by

    -- it precedes the one that waits
    pub it_precedes : (lent : ℕ) → Before r.seen (message lent) m
    it_precedes lent = rw named.answer named.precedes

    -- is to the group of p
    pub is_to : (lent : ℕ) → bit (view r.now (mask (message lent))) (view r.now (group p)) ≡ true
    is_to lent = rw named.answer named.to

    -- and not in the causal log of p
    pub not_there : (lent : ℕ) → Listed (log_words r.now p true) (message lent) → ⊥
    not_there lent = rw named.answer named.undelivered

  -- ---- following the answers: the message that the call gives for m, and so k times
  abbrev step : ℕ → ℕ → ℕ
  step p m = value_in (message_in m) (awaited_reply r.now p m) m

  abbrev followed : ℕ → ℕ → ℕ → ℕ
  followed p zero m = m
  followed p (suc k) m = followed p k (step p m)

  chain_end : (p : ℕ) {m : ℕ} {xs : List ℕ} → Chain r p m xs
      → Listed (log_words r.now p false) (followed p (length xs) m) → ⊥
  chain_end p (ends out) = out
  chain_end p (goes {m} {q} {x} {xs} e b c) =
      subst (λ (y : ℕ). Listed (log_words r.now p false) (followed p (length xs) y) → ⊥)
      (sym (ap (λ (a : Reply Awaited). value_in (message_in m) a m) e)) (chain_end p c)

  -- each message named precedes the one before it
  chain_steps : (p : ℕ) {m : ℕ} {xs : List ℕ} → Chain r p m xs → (j : ℕ) → j < length xs
      → Before r.seen (followed p (suc j) m) (followed p j m)
  chain_steps p (ends out) j l = absurd (not-suc-le-zero l)
  chain_steps p (goes {m} {q} {x} e b c) zero l =
      subst (λ (y : ℕ). Before r.seen y m) (sym (ap (λ (a : Reply Awaited). value_in (message_in m) a m) e)) b
  chain_steps p (goes {m} {q} {x} e b c) (suc j) l =
      subst (λ (y : ℕ). Before r.seen (followed p (suc j) y) (followed p j y))
      (sym (ap (λ (a : Reply Awaited). value_in (message_in m) a m) e)) (chain_steps p c j (omega arith))

  pub ends_within : (p m : ℕ) → Listed (log_words r.now p false) m → (Listed (log_words r.now p true) m → ⊥)
      → (k : ℕ) × (k < 64) × (Listed (log_words r.now p false) (followed p k m) → ⊥)
      × ((j : ℕ) → j < k → Before r.seen (followed p (suc j) m) (followed p j m))
  ends_within p m f out =
      let (xs, c, l) = awaits.chain w setup items taken p m (f, out) in
      (length xs, l, chain_end p c, chain_steps p c)
