-- The cascade by a set of the ready messages: the lowest of them is the definition's choice, and after a turn only what is
-- ready of its sender can be another. The loop of the code beside the definition's. Assumes nothing.
use Rattle.std.specs.Prelude.{◌≡◌, Bool, not, List, ◌≢◌, ℕ, ◌+◌, ◌-◌, ◌^◌, ◌≤◌, ◌<◌, ltb, eqb}
use Rattle.std.proofs.Math.Path.{refl, ap}
use Rattle.std.proofs.Common.{sym, ap₂, ◌∙◌, arith, eq-eqb, ne_eqb}
use Rattle.std.proofs.Math.Bool.{true, false}
use Rattle.std.proofs.Math.Decide.{ℕ_discrete}
use Rattle.base.specs.Tests.{both, both_l, both_r, either}
use Rattle.definitions.specs.General.{bit, every, first_from, chosen}
use Rattle.base.specs.Loop.{loop_stops}
use Rattle.sets.specs.Lowest.{Has, lowest}
use Rattle.sets.specs.Below.{lowest_below, lowest_passes, none_first}
use Rattle.bounds.specs.Bounds.{Bounds, bounds_state, bounds_words}
use Rattle.cascade.specs.Cascade.{Cascading}
use Rattle.index.specs.Index.{Index, Logs, is_from, index_state, index_words, logs_state, logs_words, new_room, outside_words, frame}
use Rattle.sends.specs.Ready.{ready_law}
use Rattle.world.specs.Layout.{reads_cell, Changes}
use Rattle.definitions.specs.Machine.{in_turn, marked, ready, fifo_one, cascade}
use Rattle.definitions.specs.World.{outside_fifo, size, count, held, fifo_length, sender, flight, State, encode, view}
use Rattle.cascade.specs.Turn.{turn_count, turn_longer, turn_other}

-- The set has the messages that are ready at p.
abbrev pub Ready : State → ℕ → ℕ → Type 0
Ready s p set = Has set (λ m. both (ltb m (s count)) (ready s p m))

pub ready_outside : (s : State) (p m : ℕ) → ready s p m ≡ true → outside_fifo s p m ≡ true
unfolding ready
ready_outside s p m e =
    let held_new = both (eqb (s (held p m)) 1) (outside_fifo s p m) in
    both_r (eqb (s (held p m)) 1) (outside_fifo s p m)
    (both_l held_new (in_turn s p m) (both_l (both held_new (in_turn s p m)) (every (s size) (marked s p m)) e))

pub ready_state : (w : List ℕ) (s : State) (p set : ℕ) → w ≡ encode s → Bounds (view w) → p < 16 → Ready (view w) p set
    → Ready s p set
ready_state w s p set e h hp z m l =
    z m l
    ∙ ap₂ (λ (n : ℕ) (b : Bool). both (ltb m n) b) (reads_cell w count tt s e) (ready_law w p m h hp l refl s e)

-- ---- after a turn
pub ready_more : (s : State) (p m left next new own : ℕ) → Ready s p left → Has own (is_from (frame s) (s (sender m)))
    → Has new (λ k. both (is_from (frame s) (s (sender m)) k) (ready (fifo_one s p m) p k))
    → ((k : ℕ) → k < 64 → bit next k ≡ either (both (bit left k) (not (bit own k))) (bit new k))
    → Ready (fifo_one s p m) p next
ready_more s p m left next new own hl ho hn e k l =
    e k l ∙ ap₂ either (ap₂ (λ (a b : Bool). both a (not b)) (hl k l) (ho k l)) (hn k l)
    ∙ go (ltb k (s count)) (ℕ_discrete (s (sender k)) (s (sender m)))
    ∙ sym (ap (λ (n : ℕ). both (ltb k n) (ready (fifo_one s p m) p k)) (turn_count s p m))
  where
    was : Bool
    was = ready s p k

    now : Bool
    now = ready (fifo_one s p m) p k

    mine : (a b : Bool) → either (both a (not true)) b ≡ b
    mine true b = refl
    mine false b = refl

    kept : (a : Bool) → either (both a true) false ≡ a
    kept true = refl
    kept false = refl

    go : (b : Bool) → Dec (s (sender k) ≡ s (sender m))
        → either (both (both b was) (not (both b (eqb (s (sender k)) (s (sender m)))))) (both (both b (eqb (s (sender k)) (s (sender m)))) now)
        ≡ both b now
    go false d = refl
    go true (yes d) =
        ap (λ (c : Bool). either (both was (not c)) (both c now)) (eq-eqb (s (sender k)) (s (sender m)) d) ∙ mine was now
    go true (no d) =
        ap (λ (c : Bool). either (both was (not c)) (both c now)) (ne_eqb (s (sender k)) (s (sender m)) d) ∙ kept was
        ∙ sym (turn_other s p m k (λ q. d (sym q)))

-- ---- the loop
pub record Going (p n : ℕ) (s : State) (w x : List ℕ) (left sent : ℕ) : Type 0 where
  pub fuel : ℕ
  pub run : Cascading p n s w fuel
  pub full : run.state (fifo_length p) + fuel ≡ n
  pub logs : Logs run.state p
  pub index : Index run.state x
  pub ready_are : Ready run.state p left
  pub unsent : (k : ℕ) → k < 64 → bit sent k ≡ false → run.state (flight k 2 p) ≡ s (flight k 2 p)

pub going_start : (p : ℕ) (w x : List ℕ) (left sent : ℕ) → p < 16 → Bounds (view w) → Index (view w) x
    → Logs (view w) p → (s : State) → w ≡ encode s → Ready s p left → Going p (s count) s w x left sent
unfolding cascade
going_start p w x left sent hp h z l s e r =
    let b = bounds_state w s e h in
    record {
      fuel = s count - s (fifo_length p);
      run = record {
        state = s;
        words = e;
        kept = record { bounds = b; counted = refl; room = omega (arith, b.fifo_lengths p hp) };
        rest = refl;
      };
      full = omega (arith, b.fifo_lengths p hp);
      logs = logs_state w s e h p hp l;
      index = index_state w s e h z;
      ready_are = r;
      unsent = λ k _ _. refl;
    }

module _ (p n : ℕ) (s : State) (w x : List ℕ) (left sent : ℕ) (hp : p < 16) (g : Going p n s w x left sent) where
  abbrev t : State
  t = g.run.state

  abbrev b : Bounds t
  b = g.run.kept.bounds

  pub going_bounds : Bounds (view w)
  going_bounds = bounds_words w t g.run.words b

  pub going_index : Index (view w) x
  going_index = index_words w t g.run.words b g.index

  pub going_logs : Logs (view w) p
  going_logs = logs_words w t g.run.words b p hp g.logs

  -- the message to deliver
  module _ {m : ℕ} (low : left < 2 ^ 64) (some : left ≢ 0) (em : m ≡ lowest left) where
    pub going_low : m < t count
    going_low = omega (arith, em, lowest_below left (t count) (ready t p) g.ready_are b.counts low some)

    is_ready : ready t p m ≡ true
    is_ready = ap (ready t p) em ∙ lowest_passes left (t count) (ready t p) g.ready_are b.counts low some

    out : outside_fifo t p m ≡ true
    out = ready_outside t p m is_ready

    pub going_view : (m < view w count) × (outside_fifo (view w) p m ≡ true)
    going_view = (
      omega (arith, going_low, reads_cell w count tt t g.run.words),
      outside_words w t g.run.words b p m hp ∙ out,
    )

    pub going_spent : 0 < g.fuel
    going_spent =
        let a = new_room t p m g.logs going_low out in
        omega (arith, g.full, g.run.kept.counted)

    -- the measure falls
    pub going_less : {u : List ℕ} → Changes w u (λ z. fifo_one z p m)
        → view u count - view u (fifo_length p) < view w count - view w (fifo_length p)
    going_less {u} c =
        let e = c t g.run.words in
        let a = new_room t p m g.logs going_low out in
        omega (
          arith,
          reads_cell w count tt t g.run.words,
          reads_cell w (fifo_length p) hp t g.run.words,
          reads_cell u count tt (fifo_one t p m) e,
          reads_cell u (fifo_length p) hp (fifo_one t p m) e,
          turn_count t p m,
          turn_longer t p m,
        )

  -- nothing is ready
  pub going_end : left ≡ 0
      → (w ≡ encode (cascade s p)) × ((k : ℕ) → k < 64 → bit sent k ≡ false → cascade s p (flight k 2 p) ≡ s (flight k 2 p))
  unfolding chosen
  going_end e = (words, λ k h v. ap (λ (z : State). z (flight k 2 p)) ends ∙ g.unsent k h v)
    where
      past : t count ≤ first_from (t count) 0 (ready t p)
      past = none_first left (t count) (ready t p) g.ready_are b.counts e

      ends : cascade s p ≡ t
      ends = g.run.rest ∙ loop_stops (λ z. z count) (λ z. ready z p) (λ z. fifo_one z p) g.fuel t past

      words : w ≡ encode (cascade s p)
      words = g.run.words ∙ ap encode (sym ends)
