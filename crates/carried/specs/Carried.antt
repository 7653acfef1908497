-- The run over lent words is the run over states: the words are the words of its state, and the events are
-- the same. Assumes nothing.
use Rattle.std.specs.Prelude.{◌≡◌, Bool, true, false, ◌&&◌, eqb, length}
use Rattle.std.proofs.Math.Path.{refl, sym, ap, ap₂}
use Rattle.std.proofs.Common.{◌∙◌, arith}
use mathlib.Core.List.{List, [], ◌∷◌}
use Prim.Native.Nat.{ℕ, zero, suc, ◌+◌, ◌-◌, ◌≤◌}
use Rattle.definitions.specs.General.{pick, gives, reply}
use Rattle.definitions.specs.World.{size, count, causal_length, causal, State, encode, view}
use Rattle.definitions.specs.Setup.{setup_refusal, made}
use Rattle.definitions.specs.Steps.{Step, multicasts, arrives, loses, trusts, crashes, malformed, read, accepted, step}
use Rattle.definitions.specs.Settle.{Settled, Manner, choice, settle_from}
use Rattle.definitions.specs.History.{Event, sent, deliveries, grown, gained, casted, Engine, Run, Item, given, settling, taken, tick, settles, act, run}
use Rattle.definitions.specs.Words.{making_refusal, made_words, settle_words, settled_words, settle_reply, on_words, started_words}
use Rattle.base.specs.Refusals.{needs_none}
use Rattle.world.specs.SoundLaws.{Sound, size_high}
use Rattle.world.specs.StepLaws.{moves_taken}
use Rattle.world.specs.TurnLaws.{choice_moves}
use Rattle.world.specs.SettleLaws.{settle, Alike, settle_related}
use Rattle.world.specs.Runs.{on_states, started}
use Rattle.keeps.specs.Keeps.{fresh_sound, step_sound, run_sound}
use Rattle.effects.specs.Events.{deliveries_same}
use Rattle.carried.specs.Same.{Agree, same}
use Rattle.carried.specs.Calls.{view_agree, same_words, refusal_agree, step_agree, choice_agree, sound_world}

-- ---- the events
module _ {s s' t t' : State} (a : Agree s s') (b : Agree t t') where
  gained_agree : (n : ℕ) (es : List Event) → n ≤ 16 → gained n s t es ≡ gained n s' t' es
  unfolding gained
  gained_agree zero es l = refl
  gained_agree (suc p) es l =
      let from : s (causal_length p) ≡ s' (causal_length p) = same a (causal_length p) (omega arith) in
      let to : t (causal_length p) ≡ t' (causal_length p) = same b (causal_length p) (omega arith) in
      ap (grown p (s (causal_length p)) t) (gained_agree p es (omega arith))
      ∙ deliveries_same p (s (causal_length p)) (t (causal_length p) - s (causal_length p))
      (λ i. t (causal p i))
      (λ i. t' (causal p i)) (gained p s' t' es)
      (λ i k. same b (causal p (s (causal_length p) + i))
      (omega (arith, (b.at (causal_length p) (omega arith)).1)))
      ∙ ap₂ (λ (x y : ℕ). deliveries p x (y - x) (λ i. t' (causal p i)) (gained p s' t' es)) from to

-- the event of a multicast
casted_agree : {s t : State} (x : Step) (es : List Event) → Agree s t → casted x s es ≡ casted x t es
casted_agree (multicasts p gs o) es a = ap (λ (m : ℕ). sent p m ∷ es) (same a count tt)
casted_agree (arrives k m q p) es a = refl
casted_agree (loses k m q p) es a = refl
casted_agree (trusts p set) es a = refl
casted_agree (crashes p) es a = refl
casted_agree malformed es a = refl

-- ---- runs
-- the run over words of a run over states
abbrev pub written : Run State → Run (List ℕ)
written r = record { now = encode r.now; seen = r.seen }

-- an accepted step
taken_carried : (r : Run State) (x : Step) → accepted r.now x ≡ true → Sound r.now
    → taken on_words (written r) x ≡ written (taken on_states r x)
taken_carried r x e h =
    ap (λ (w : List ℕ). record { now = w; seen = gained (v size) v (view w) (casted x v r.seen) })
    (same_words (step_agree a x e))
    ∙ ap (λ (l : List Event). record { now = encode (step r.now x); seen = l })
    (ap₂ (λ (n : ℕ) (es : List Event). gained n v (view (encode (step r.now x))) es) (sym (same a size tt))
    (sym (casted_agree x r.seen a))
    ∙ sym (gained_agree a (view_agree (step r.now x) (step_sound r.now x e h)) (r.now size)
    (casted x r.now r.seen) (size_high r.now h)))
  where
    v : State
    v = view (encode r.now)

    a : Agree r.now (view (encode r.now))
    a = view_agree r.now h

-- whatever is given as a step
tick_carried : (r : Run State) (x : Step) → Sound r.now
    → tick on_words (written r) x ≡ written (tick on_states r x)
unfolding tick
tick_carried r x h =
    ap₂ (λ (n k : ℕ). pick (eqb n 0 && eqb k 0) (taken on_words (written r) x) (written r))
    (sound_world r.now h 0) (sym (refusal_agree (view_agree r.now h) x))
    ∙ go (accepted r.now x) refl
  where
    go : (b : Bool) → accepted r.now x ≡ b
        → pick b (taken on_words (written r) x) (written r) ≡ written (pick b (taken on_states r x) r)
    go true e = taken_carried r x e h
    go false e = refl

-- ---- a settle of runs: the same letters arrive
pub record Carried (r : Run State) (t : Run (List ℕ)) : Type 0 where
  pub same : t ≡ written r
  pub sound : Sound r.now

-- the settle of a run, over states or over words
abbrev pub settle_run : {S : Type 0} → Manner → Engine S → Run S → ℕ → Settled (Run S)
settle_run o e r b =
    settle_from (λ x t. choice o x (e.reads t.now)) (λ t k m q p. taken e t (arrives k m q p)) b 0 0 r

pub settle_related_runs : (o : Manner) (r : Run State) (b : ℕ) → Sound r.now
    → Alike Carried (settle_run o on_states r b) (settle_run o on_words (written r) b)
settle_related_runs o r b h =
    settle_related (λ x t. choice o x t.now) (λ t k m q p. taken on_states t (arrives k m q p))
    (λ x t. choice o x (view t.now)) (λ t k m q p. taken on_words t (arrives k m q p)) Carried
    (λ x t u c. choice_agree (view_agree t.now c.sound) o x
    ∙ ap (λ (v : Run (List ℕ)). choice o x (view v.now)) (sym c.same))
    (λ x t u k m q p c e.
    let ok = moves_taken t.now k m q p (choice_moves o x t.now k m q p e) in
    record {
      same = ap (λ (v : Run (List ℕ)). taken on_words v (arrives k m q p)) c.same
          ∙ taken_carried t (arrives k m q p) ok c.sound;
      sound = step_sound t.now (arrives k m q p) ok c.sound;
    })
    b 0 0 r (written r) (record { same = refl; sound = h })

-- it is the settle of what there is now
pub settle_now : {S : Type 0} (o : Manner) (e : Engine S) (r : Run S) (b : ℕ)
    → Alike (λ t s. t.now ≡ s) (settle_run o e r b)
    (settle_from (λ x s. choice o x (e.reads s)) (λ s k m q p. e.does s (arrives k m q p)) b 0 0 r.now)
settle_now {S} o e r b =
    settle_related (λ x t. choice o x (e.reads t.now)) (λ t k m q p. taken e t (arrives k m q p))
    (λ x s. choice o x (e.reads s)) (λ s k m q p. e.does s (arrives k m q p)) (λ t s. t.now ≡ s)
    (λ x t s d. ap (λ (u : S). choice o x (e.reads u)) d)
    (λ x t s k m q p d _. ap (λ (u : S). e.does u (arrives k m q p)) d) b 0 0 r r.now refl

-- what the call gives on the words of a run
module _ (o : Manner) (r : Run State) (h : Sound r.now) (b : ℕ) where
  pub settled_sound : Sound (settle_run o on_states r b).world.now
  settled_sound = (settle_related_runs o r b h).worlds.sound

  pub settled_carried : settled_words o (encode r.now) b ≡ encode (settle_run o on_states r b).world.now
  unfolding settled_words settle_words step
  settled_carried =
      ap (λ (n : ℕ). pick (eqb n 0) (settle_words o (encode r.now) b).world (encode r.now))
      (sound_world r.now h 0)
      ∙ sym (settle_now o on_words (written r) b).worlds
      ∙ ap (λ (t : Run (List ℕ)). t.now) (settle_related_runs o r b h).worlds.same

  pub answer_carried : settle_reply o (encode r.now) b ≡ gives (settle_run o on_states r b).ending
  unfolding settle_reply settle_words step
  answer_carried =
      ap (λ (n : ℕ). reply n (settle_words o (encode r.now) b).ending) (sound_world r.now h 0)
      ∙ ap gives (sym (settle_now o on_words (written r) b).endings ∙ sym (settle_related_runs o r b h).endings)

-- and on the words of a state
module _ (o : Manner) (s : State) (h : Sound s) (b : ℕ) where
  -- it, with no history
  abbrev alone : Run State
  alone = record { now = s; seen = [] }

  pub settle_carried : settled_words o (encode s) b ≡ encode (settle o s b).world
  unfolding settle step
  settle_carried = settled_carried o alone h b ∙ ap encode (settle_now o on_states alone b).worlds

  pub reply_carried : settle_reply o (encode s) b ≡ gives (settle o s b).ending
  unfolding settle step
  reply_carried = answer_carried o alone h b ∙ ap gives (settle_now o on_states alone b).endings

-- ---- lists
-- an item
pub act_carried : (r : Run State) (i : Item) → Sound r.now
    → act on_words (written r) i ≡ written (act on_states r i)
unfolding act settles
act_carried r (given bytes) h = tick_carried r (read bytes) h
act_carried r (settling o b) h =
    ap (λ (n : ℕ). pick (eqb n 0) (settle_run o on_words (written r) b).world (written r)) (sound_world r.now h 0)
    ∙ (settle_related_runs o r b h).worlds.same

-- an item keeps the state sound
pub act_sound : (r : Run State) (i : Item) → Sound r.now → Sound (act on_states r i).now
unfolding run
act_sound r i h = run_sound r (i ∷ []) h

-- a list
pub run_carried : (r : Run State) (is : List Item) → Sound r.now
    → run on_words (written r) is ≡ written (run on_states r is)
unfolding run
run_carried r [] h = refl
run_carried r (i ∷ is) h =
    ap (λ (t : Run (List ℕ)). run on_words t is) (act_carried r i h)
    ∙ run_carried (act on_states r i) is (act_sound r i h)

-- from a setup record that is taken
module _ (w setup : List ℕ) (e : making_refusal w setup ≡ 0) where
  pub setup_taken : setup_refusal setup ≡ 0
  unfolding making_refusal
  setup_taken = (needs_none 0 (eqb (length w) 20480) (setup_refusal setup) e).1

  -- the words of a world just made are those of a fresh state
  pub start_carried : started_words w setup ≡ written (started setup)
  unfolding made_words
  start_carried = ap (λ (n : ℕ). record { now = pick (eqb n 0) (encode (made setup)) w; seen = [] }) e

  -- and the run over words from there is the run over states
  pub from_setup : (items : List Item)
      → run on_words (started_words w setup) items ≡ written (run on_states (started setup) items)
  from_setup items =
      ap (λ (r : Run (List ℕ)). run on_words r items) start_carried
      ∙ run_carried (started setup) items (fresh_sound setup setup_taken)

  pub words_after : (items : List Item)
      → (run on_words (started_words w setup) items).now ≡ encode (run on_states (started setup) items).now
  words_after items = ap (λ (r : Run (List ℕ)). r.now) (from_setup items)
