-- The loop of the code beside the definition's (specs/Ready): a turn. Assumes nothing.
use Rattle.std.specs.Prelude.{◌≡◌, Bool, not, List, ◌≢◌, ℕ, ◌+◌, ◌-◌, ◌^◌, ◌<◌, ltb, eqb, get_or}
use Rattle.std.proofs.Math.Path.{refl, ap}
use Rattle.std.proofs.Common.{sym, ap₂, ◌∙◌, true≢false, arith}
use Rattle.std.proofs.Math.Bool.{true, false}
use Rattle.base.specs.Tests.{both, either}
use Rattle.definitions.specs.General.{bit, chosen}
use Rattle.sets.specs.Lowest.{Has, lowest}
use Rattle.sets.specs.Below.{lowest_first}
use Rattle.bounds.specs.Bounds.{Bounds, bounds_words}
use Rattle.bounds.specs.Run.{run_more}
use Rattle.cascade.specs.Cascade.{kept_more, Cascading}
use Rattle.index.specs.Index.{Index, Logs, is_from, index_state, logs_state, frame}
use Rattle.world.specs.Layout.{reads_cell, Changes}
use Rattle.definitions.specs.Machine.{ready, fifo_one}
use Rattle.definitions.specs.World.{count, sender, flight, State, encode, view}
use Rattle.cascade.specs.Turn.{turn_count, turn_sender, turn_longer}
use Rattle.cascade.specs.Ready.{ready_more, Going, going_low, going_spent}

module _ (p n : ℕ) (s : State) (w x : List ℕ) (left sent : ℕ) (hp : p < 16) (g : Going p n s w x left sent) where
  abbrev t : State
  t = g.run.state

  abbrev b : Bounds t
  b = g.run.kept.bounds

  -- the message to deliver
  module _ {m : ℕ} (low : left < 2 ^ 64) (some : left ≢ 0) (em : m ≡ lowest left) where
    module _ (u y : List ℕ) (q next more rest new add : ℕ) (hq : q < 16) (eq : q ≡ view w (sender m))
        (c : Changes w u (λ z. fifo_one z p m)) (z : Index (view u) y) (l : Logs (view u) p)
        (told : (s : State) → w ≡ encode s
        → Has new (λ k. both (is_from (frame s) (s (sender m)) k) (ready (fifo_one s p m) p k))
        × ((k : ℕ) → k < 64 → bit add k ≡ false → fifo_one s p m (flight k 2 p) ≡ s (flight k 2 p)))
        (er : (k : ℕ) → k < 64 → bit rest k ≡ both (bit left k) (not (bit (get_or y (64 + q) 0) k)))
        (en : (k : ℕ) → bit next k ≡ either (bit rest k) (bit new k))
        (es : (k : ℕ) → bit more k ≡ either (bit sent k) (bit add k)) where
      hm : m < 64
      hm = let a = (going_low p n s w x left sent hp g low some em) in omega (arith, b.counts)

      abbrev t2 : State
      t2 = fifo_one t p m

      choice : m ≡ chosen (λ z. z count) (λ z. ready z p) (λ z. fifo_one z p) t
      unfolding chosen
      choice = em ∙ lowest_first left (t count) (ready t p) g.ready_are b.counts low some

      after : Cascading p n s u (g.fuel - 1)
      after =
          run_more (λ z. z count) (λ z. ready z p) (λ z. fifo_one z p) (kept_more p n hp) g.run (going_spent p n s w x left sent hp g low some em) (going_low p n s w x left sent hp g low some em) choice c

      own_are : Has (get_or y (64 + q) 0) (is_from (frame t) (t (sender m)))
      own_are k h =
          z.own q hq k h
          ∙ ap₂ (λ (i j : ℕ). both (ltb k i) (eqb j q))
          (reads_cell u count tt t2 (c t g.run.words) ∙ turn_count t p m)
          (reads_cell u (sender k) h t2 (c t g.run.words) ∙ turn_sender t p m k)
          ∙ ap (λ (j : ℕ). both (ltb k (t count)) (eqb (t (sender k)) j)) (eq ∙ reads_cell w (sender m) hm t g.run.words)

      pub going_more : Going p n s u y next more
      unfolding after run_more
      going_more =
          let e = c t g.run.words in
          let a = (going_spent p n s w x left sent hp g low some em) in
          let h2 = bounds_words u t2 e after.kept.bounds in
          record {
            fuel = g.fuel - 1;
            run = after;
            full = omega (arith, g.full, turn_longer t p m);
            logs = logs_state u t2 e h2 p hp l;
            index = index_state u t2 e h2 z;
            ready_are = ready_more t p m left next new (get_or y (64 + q) 0) g.ready_are own_are (told t g.run.words).0
                (λ k h. en k ∙ ap (λ (v : Bool). either v (bit new k)) (er k h));
            unsent = λ k h v. (told t g.run.words).1 k h (no_r (bit sent k) (bit add k) (sym (es k) ∙ v))
                ∙ g.unsent k h (no_l (bit sent k) (bit add k) (sym (es k) ∙ v));
          }
        where
          no_l : (i j : Bool) → either i j ≡ false → i ≡ false
          no_l true j v = v
          no_l false j v = refl

          no_r : (i j : Bool) → either i j ≡ false → j ≡ false
          no_r true j v = absurd (true≢false v)
          no_r false j v = v
