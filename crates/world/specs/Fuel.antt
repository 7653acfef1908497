-- The fuel of the two loops suffices, where a log lists distinct messages, as in a sound world: after the
-- causal deliveries no message of the FIFO log outside the causal log is deliverable, and after the cascade no
-- held message is ready. At each turn one message fewer is outside the log, and those outside are no more than
-- the fuel. Assumes nothing.
use Rattle.std.specs.Prelude.{◌≡◌, Bool, true, false, ◌≢◌, eqb}
use Rattle.std.proofs.Math.Path.{refl, ap}
use Rattle.std.proofs.Common.{sym, ◌∙◌, arith}
use Prim.Native.Nat.{ℕ, ◌+◌, ◌-◌, ◌<◌}
use Rattle.definitions.specs.General.{In, in_at, tally, absent}
use Rattle.definitions.specs.World.{size, count, fifo_length, causal_length, held, fifo, causal, sender, State, put, outside_fifo, outside_causal}
use Rattle.definitions.specs.Machine.{with_tables, in_turn, ready, deliverable, deliverable_at, merge, causal_one, causal_all, appended, raised_next, fifo_one, cascade}
use Rattle.base.specs.Tests.{both, both_l, both_r}
use Rattle.base.specs.Count.{tally_falls, absent_out, in_absent, out_absent, absent_room, room_outside}
use Rattle.base.specs.Loop.{loop_ends}
use Rattle.world.specs.Layout.{put_same, put_other}
use Rattle.world.specs.SoundLaws.{Sound, fifo_exists, fifo_once}
use Rattle.world.specs.Kept.{causal_all_keeps, oks_keep}

ready_outside : (a b c d : Bool) → both (both (both a b) c) d ≡ true → b ≡ true
ready_outside a b c d e = both_r a b (both_l (both a b) c (both_l (both (both a b) c) d e))

-- what is absent from a log with one item more was absent before
grow_absent : (n x : ℕ) (log log' : ℕ → ℕ) → ((i : ℕ) → i < n → log' i ≡ log i) → absent (n + 1) x log' ≡ true
    → absent n x log ≡ true
grow_absent n x log log' old e =
    out_absent (λ o. elim o [
      | in_at i l d ↦ absent_out (n + 1) x log' e
          (in_at i (omega arith) (old i l ∙ d))
    ])

-- ---- the causal deliveries
module _ (p : ℕ) where
  -- the places of the FIFO log whose message is outside the causal log
  waiting : State → ℕ → Bool
  waiting t i = outside_causal t p (t (fifo p i))

  length_after : (t : State) (i : ℕ) → causal_one t p i (causal_length p) ≡ t (causal_length p) + 1
  unfolding causal_one merge with_tables put
  length_after t i =
      put_same (put t (causal p (t (causal_length p))) (t (fifo p i))) (causal_length p) (causal_length p)
      (t (causal_length p) + 1) refl

  item_after : (t : State) (i : ℕ) → causal_one t p i (causal p (t (causal_length p))) ≡ t (fifo p i)
  unfolding causal_one merge with_tables put
  item_after t i =
      put_same t (causal p (t (causal_length p))) (causal p (t (causal_length p))) (t (fifo p i)) refl

  items_before : (t : State) (i j : ℕ) → j < t (causal_length p)
      → causal_one t p i (causal p j) ≡ t (causal p j)
  unfolding causal_one merge with_tables put
  items_before t i j l =
      put_other t (causal p (t (causal_length p))) (causal p j) (t (fifo p i))
      (λ e. let z : t (causal_length p) ≡ j = cc in omega arith)

  same_length : (t : State) (i : ℕ) → causal_one t p i (fifo_length p) ≡ t (fifo_length p)
  unfolding causal_one merge with_tables put
  same_length t i = refl

  same_item : (t : State) (i j : ℕ) → causal_one t p i (fifo p j) ≡ t (fifo p j)
  unfolding causal_one merge with_tables put
  same_item t i j = refl

  waiting_falls : (t : State) (i : ℕ) → i < t (fifo_length p) → deliverable_at t p i ≡ true
      → tally (causal_one t p i (fifo_length p)) (waiting (causal_one t p i)) < tally (t (fifo_length p))
      (waiting t)
  unfolding waiting deliverable_at
  waiting_falls t i l e =
      rw (same_length t i)
      (tally_falls (t (fifo_length p)) (waiting t) (waiting u) still i l
      (both_l (outside_causal t p (t (fifo p i))) (deliverable t p (t (fifo p i))) e) gone)
    where
      n : ℕ
      n = t (causal_length p)

      u : State
      u = causal_one t p i

      still : (j : ℕ) → waiting u j ≡ true → waiting t j ≡ true
      still j o =
          grow_absent n (t (fifo p j)) (λ x. t (causal p x)) (λ x. u (causal p x)) (items_before t i)
          (ap (λ (k : ℕ). absent k (t (fifo p j)) (λ x. u (causal p x))) (sym (length_after t i))
          ∙ ap (outside_causal u p) (sym (same_item t i j)) ∙ o)

      gone : waiting u i ≡ false
      gone =
          ap (outside_causal u p) (same_item t i i)
          ∙ in_absent {n = u (causal_length p)} {f = λ x. u (causal p x)}
          (in_at n (omega (arith, length_after t i)) (item_after t i))

  -- in a state whose causal log of p lists distinct members of the FIFO log
  pub causal_ends : (s : State) → ((i j : ℕ) → i < j → j < s (causal_length p) → s (causal p i) ≢ s (causal p j))
      → ((i : ℕ) → i < s (causal_length p) → In (s (fifo_length p)) (λ j. s (fifo p j)) (s (causal p i)))
      → (i : ℕ) → i < causal_all s p (fifo_length p) → deliverable_at (causal_all s p) p i ≡ false
  unfolding causal_all waiting
  causal_ends s once inside =
      let z = room_outside (s (fifo_length p)) (s (causal_length p)) (λ i. s (fifo p i))
      (λ i. s (causal p i)) once inside in
      loop_ends (λ t. t (fifo_length p)) (λ t. deliverable_at t p) (λ t. causal_one t p)
      (λ t. tally (t (fifo_length p)) (waiting t)) waiting_falls (s (fifo_length p) - s (causal_length p)) s
      (omega (arith, z))

-- ---- the cascade: the count and the FIFO log of p, through a FIFO delivery
record Front : Type 0 where
  pub total : ℕ
  pub length : ℕ
  pub item : ℕ → ℕ

module _ (p : ℕ) where
  abbrev front : State → Front
  front t = record { total = t count; length = t (fifo_length p); item = λ i. t (fifo p i) }

  -- only the append shows in them
  fifo_one_is : (t : State) (m : ℕ) → front (fifo_one t p m) ≡ front (appended t p m)
  unfolding fifo_one causal_one merge with_tables raised_next put
  fifo_one_is t m =
      oks_keep front p (λ _ _ _. refl) _ (t (sender m)) _
      ∙ causal_all_keeps front p (λ _ _. refl) (appended t p m)

  count_same : (t : State) (m : ℕ) → fifo_one t p m count ≡ t count
  unfolding appended put
  count_same t m = ap (λ (v : Front). v.total) (fifo_one_is t m)

  length_more : (t : State) (m : ℕ) → fifo_one t p m (fifo_length p) ≡ t (fifo_length p) + 1
  unfolding appended
  length_more t m =
      ap (λ (v : Front). v.length) (fifo_one_is t m)
      ∙ put_same (put t (fifo p (t (fifo_length p))) m) (fifo_length p) (fifo_length p)
      (t (fifo_length p) + 1) refl

  item_new : (t : State) (m : ℕ) → fifo_one t p m (fifo p (t (fifo_length p))) ≡ m
  unfolding appended put
  item_new t m =
      ap (λ (v : Front). v.item (t (fifo_length p))) (fifo_one_is t m)
      ∙ put_same t (fifo p (t (fifo_length p))) (fifo p (t (fifo_length p))) m refl

  item_old : (t : State) (m i : ℕ) → i < t (fifo_length p) → fifo_one t p m (fifo p i) ≡ t (fifo p i)
  unfolding appended put
  item_old t m i l =
      ap (λ (v : Front). v.item i) (fifo_one_is t m)
      ∙ put_other t (fifo p (t (fifo_length p))) (fifo p i) m
      (λ e. let z : t (fifo_length p) ≡ i = cc in omega arith)

  outside_falls : (t : State) (m : ℕ) → m < t count → ready t p m ≡ true
      → tally (fifo_one t p m count) (outside_fifo (fifo_one t p m) p) < tally (t count) (outside_fifo t p)
  unfolding ready
  outside_falls t m l e =
      rw (count_same t m)
      (tally_falls (t count) (outside_fifo t p) (outside_fifo u p)
      (λ x o. grow_absent n x (λ i. t (fifo p i)) (λ i. u (fifo p i)) (item_old t m)
      (ap (λ (k : ℕ). absent k x (λ i. u (fifo p i))) (sym (length_more t m)) ∙ o)) m l
      (ready_outside (eqb (t (held p m)) 1) (outside_fifo t p m) (in_turn t p m) _ e)
      (in_absent {n = u (fifo_length p)} {f = λ i. u (fifo p i)}
      (in_at n (omega (arith, length_more t m)) (item_new t m))))
    where
      n : ℕ
      n = t (fifo_length p)

      u : State
      u = fifo_one t p m

  -- in a state whose FIFO log of p lists distinct messages
  pub cascade_quiet : (s : State) → ((i : ℕ) → i < s (fifo_length p) → s (fifo p i) < s count)
      → ((i j : ℕ) → i < j → j < s (fifo_length p) → s (fifo p i) ≢ s (fifo p j))
      → (m : ℕ) → m < cascade s p count → ready (cascade s p) p m ≡ false
  unfolding cascade
  cascade_quiet s low once =
      let z = absent_room (s count) (s (fifo_length p)) (λ i. s (fifo p i)) low once in
      loop_ends (λ t. t count) (λ t. ready t p) (λ t. fifo_one t p)
      (λ t. tally (t count) (outside_fifo t p)) outside_falls
      (s count - s (fifo_length p)) s (omega (arith, z))

  -- in a sound world
  pub cascade_ends : (s : State) → Sound s → p < s size → (m : ℕ) → m < cascade s p count
      → ready (cascade s p) p m ≡ false
  cascade_ends s h hp =
      cascade_quiet s (λ i l. fifo_exists s h p i hp l)
      (λ i j l k. fifo_once s h p i j hp l k)
