-- A journal whose records have zeros for the order numbers replays to the same answer, the same logs and the
-- same words but for these: record by record the two replays stand side by side, one erased. Assumes nothing.
use Rattle.std.specs.Prelude.{◌≡◌, refl, Bool, true, false, List, ℕ, zero, suc, ◌+◌, ◌-◌, ◌/◌, eqb, length}
use Rattle.std.proofs.Math.Path.{sym, ap, ap₂}
use Rattle.std.proofs.Common.{◌∙◌, subst, subst₂, eqb-true}
use Rattle.definitions.specs.General.{pick, needs, or_else, gives, refuses, reply}
use Rattle.definitions.specs.World.{State, encode, view}
use Rattle.definitions.specs.Setup.{setup_refusal, made}
use Rattle.definitions.specs.Steps.{Step, read, accepted, step, after}
use Rattle.definitions.specs.Words.{log_words}
use Rattle.definitions.specs.Journal.{journal_refusal, records_of}
use Rattle.definitions.specs.Replay.{record_at, setup_of, steps_in, replay_refusal, Replayed, replay_step, replay_from, replay, replayed_words, replay_reply}
use Rattle.definitions.specs.OrderNumbers.{erased, erased_words, erased_step, erased_bytes, ReplaysApart}
use Rattle.base.specs.Refusals.{needs_none, or_else_none}
use Rattle.world.specs.SoundLaws.{Sound}
use Rattle.keeps.specs.Keeps.{fresh_sound, after_sound}
use Rattle.carried.specs.Same.{Agree}
use Rattle.carried.specs.Calls.{refusal_agree, step_agree, view_agree, same_words}
use Rattle.order_numbers.specs.Erase.{accepted_erased, after_erased}
use Rattle.order_numbers.specs.Bytes.{length_erased, read_erased, record_erased, setup_refusal_erased, setup_plain}
use Rattle.order_numbers.specs.Apart.{words_erased, made_zeros, logs_same}

-- ---- one record
-- the words of a state, with so many refused
abbrev replayed : State → ℕ → Replayed
replayed s n = record { words = encode s; refused = n }

-- after one record more, refused or not
abbrev more : State → Step → ℕ → Replayed
more s x n = replayed (after s x) (pick (accepted s x) n (n + 1))

step_replayed : (s : State) (n : ℕ) (bytes : List ℕ) → Sound s
    → replay_step (replayed s n) bytes ≡ more s (read bytes) n
unfolding replay_step after
step_replayed s n bytes h =
    ap (λ (k : ℕ). record {
      words = encode (pick (eqb k 0) (step (view (encode s)) x) (view (encode s)));
      refused = pick (eqb k 0) n (n + 1);
    }) (sym (refusal_agree a x))
    ∙ go (accepted s x) refl
  where
    x : Step
    x = read bytes

    a : Agree s (view (encode s))
    a = view_agree s h

    go : (b : Bool) → accepted s (read bytes) ≡ b
        → record {
          words = encode (pick b (step (view (encode s)) (read bytes)) (view (encode s)));
          refused = pick b n (n + 1);
        } ≡ replayed (pick b (step s (read bytes)) s) (pick b n (n + 1))
    go true e = ap (λ (w : List ℕ). record { words = w; refused = n }) (same_words (step_agree a x e))
    go false e = ap (λ (w : List ℕ). record { words = w; refused = n + 1 }) (same_words a)

-- with zeros
more_erased : (s : State) (x : Step) (n : ℕ)
    → more (erased s) (erased_step x) n ≡ replayed (erased (after s x)) (pick (accepted s x) n (n + 1))
more_erased s x n =
    ap₂ (λ (t : State) (b : Bool). replayed t (pick b n (n + 1))) (after_erased s x) (accepted_erased s x)

-- ---- two replays side by side: the second has the state of the first erased, and as many refused
data Beside (x y : Replayed) : Type 0 where
  beside : (s : State) (n : ℕ) → Sound s → Sound (erased s) → x ≡ replayed s n → y ≡ replayed (erased s) n
      → Beside x y

in_turn : (k i : ℕ) (rs : List ℕ) (s : State) (n : ℕ) → Sound s → Sound (erased s)
    → Beside (replay_from k i rs (replayed s n)) (replay_from k i (erased_bytes rs) (replayed (erased s) n))
unfolding replay_from
in_turn zero i rs s n h z = beside s n h z refl refl
in_turn (suc k) i rs s n h z =
    let x = read (record_at rs i) in
    let given_zeros : read (record_at (erased_bytes rs) i) ≡ erased_step x =
    ap read (record_erased rs i) ∙ read_erased (record_at rs i) in
    subst₂ (λ (a b : Replayed). Beside (replay_from k (i + 1) rs a) (replay_from k (i + 1) (erased_bytes rs) b))
    (sym (step_replayed s n (record_at rs i) h))
    (sym (step_replayed (erased s) n (record_at (erased_bytes rs) i) z
    ∙ ap (λ (y : Step). more (erased s) y n) given_zeros ∙ more_erased s x n))
    (in_turn k (i + 1) rs (after s x) (pick (accepted s x) n (n + 1)) (after_sound s x h)
    (subst Sound (after_erased s x) (after_sound (erased s) (erased_step x) z)))

-- what a caller reads of them
side_by_side : {x y : Replayed} → Beside x y
    → (y.refused ≡ x.refused) × (y.words ≡ erased_words x.words)
    × ((p : ℕ) (log : Bool) → log_words y.words p log ≡ log_words x.words p log)
side_by_side (beside s n h z a b) = rw (a, b) (refl, sym (words_erased s), logs_same s h z)

-- ---- the theorem
same_reply : {A : Type 0} (n : ℕ) (a b : A) → (n ≡ 0 → a ≡ b) → reply n a ≡ reply n b
same_reply n a b f = go (eqb n 0) refl
  where
    go : (ok : Bool) → eqb n 0 ≡ ok → pick ok (gives a) (refuses n) ≡ pick ok (gives b) (refuses n)
    go true e = ap gives (f (eqb-true n 0 e))
    go false e = refl

module _ (w journal zeros : List ℕ) (taken : journal_refusal journal ≡ 0) (also : journal_refusal zeros ≡ 0)
    (erases : records_of zeros ≡ erased_bytes (records_of journal)) where
  setup_same : setup_of zeros ≡ erased_bytes (setup_of journal)
  setup_same = ap (λ (rs : List ℕ). record_at rs 0) erases ∙ record_erased (records_of journal) 0

  steps_same : steps_in zeros ≡ steps_in journal
  steps_same =
      ap (λ (rs : List ℕ). length rs / 8 - 1) erases
      ∙ ap (λ (n : ℕ). n / 8 - 1) (length_erased (records_of journal))

  refusal_same : replay_refusal w zeros ≡ replay_refusal w journal
  unfolding replay_refusal
  refusal_same =
      ap₂ (λ (a b : ℕ). needs 1 (eqb (length w) 20480) (or_else a b)) (also ∙ sym taken)
      (ap setup_refusal setup_same ∙ setup_refusal_erased (setup_of journal))

  -- where the replay is not refused
  both_replay : replay_refusal w journal ≡ 0 → Beside (replay journal) (replay zeros)
  unfolding replay_refusal replay
  both_replay ok =
      let e = (or_else_none (journal_refusal journal) _ (needs_none 0 (eqb (length w) 20480) _ ok).1).1 in
      let s = made (setup_of journal) in
      let same_start : made (setup_of zeros) ≡ erased s =
      ap made (setup_same ∙ setup_plain (setup_of journal) e) ∙ sym (made_zeros (setup_of journal)) in
      let h = fresh_sound (setup_of journal) e in
      rw (steps_same, same_start, erases)
      (in_turn (steps_in journal) 1 (records_of journal) s 0 h
      (subst Sound (sym (made_zeros (setup_of journal))) h))

  words_of : (j : List ℕ) → replay_refusal w j ≡ 0 → replayed_words w j ≡ (replay j).words
  unfolding replayed_words
  words_of j ok = ap (λ (n : ℕ). pick (eqb n 0) (replay j).words w) ok

  pub replay_apart : ReplaysApart w journal zeros
  unfolding replay_reply
  replay_apart = record {
    answer =
        ap₂ (λ (n k : ℕ). reply n (record { steps = k; refused = (replay zeros).refused })) refusal_same
        steps_same
        ∙ same_reply (replay_refusal w journal) _ _ (λ ok.
        ap (λ (k : ℕ). record { steps = steps_in journal; refused = k }) (side_by_side (both_replay ok)).0);
    words = λ ok. rw (words_of zeros (refusal_same ∙ ok), words_of journal ok)
        (side_by_side (both_replay ok)).1;
    logs = λ ok. rw (words_of zeros (refusal_same ∙ ok), words_of journal ok)
        (side_by_side (both_replay ok)).2;
  }
