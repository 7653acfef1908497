-- Every call keeps a world sound: making one, every step, whatever is given as a step, settle, a list of
-- these; on states and on words. This file gathers what the files below it prove: a fresh world is sound, and
-- each of the five steps, where it is not refused, keeps soundness. Assumes nothing.
use Rattle.std.specs.Prelude.{◌≡◌, refl, Bool, true, false, List, [], ◌∷◌, ℕ, eqb, length}
use Rattle.std.proofs.Common.{sym, ap, ◌∙◌, subst, arith, eqb-true, eq-eqb}
use Rattle.definitions.specs.General.{pick, unless_refused}
use Rattle.definitions.specs.World.{State, encode, view}
use Rattle.definitions.specs.Sound.{sound}
use Rattle.definitions.specs.Setup.{setup_refusal, made}
use Rattle.definitions.specs.Machine.{arrival}
use Rattle.definitions.specs.Steps.{Step, multicasts, arrives, loses, trusts, crashes, malformed, read, refusal, accepted, step, after}
use Rattle.definitions.specs.Settle.{Choice, letter, Manner, choice, settle_from}
use Rattle.definitions.specs.History.{Run, Item, given, settling, taken, tick, settles, act, run}
use Rattle.definitions.specs.Words.{needs_world, making_refusal, made_words, step_words, step_refusal, stepped_words, settle_words, settled_words}
use Rattle.base.specs.Refusals.{needs_none}
use Rattle.world.specs.Layout.{length_encode, encode_view}
use Rattle.world.specs.SoundLaws.{Sound, size_high, count_high, sound_facts, facts_sound, sound_words}
use Rattle.world.specs.StepLaws.{accepted_multicast, accepted_arrival, accepted_loss, accepted_trust, moves_taken}
use Rattle.world.specs.TurnLaws.{choice_moves}
use Rattle.world.specs.SettleLaws.{settle, settle_keeps}
use Rattle.world.specs.Runs.{on_states, started}
use Rattle.world.specs.Calls.{item_words, run_words}
use Rattle.keeps.specs.Changes.{crash_sound, leave_sound}
use Rattle.keeps.specs.Cascade.{arrival_sound, trust_set_sound}
use Rattle.keeps.specs.Multicast.{multicast_sound}
use Rattle.keeps.specs.Fresh.{made_sound, setup_good}

-- ---- states
-- the fresh world of a setup record that is not refused
pub fresh_sound : (bytes : List ℕ) → setup_refusal bytes ≡ 0 → Sound (made bytes)
fresh_sound bytes e = made_sound bytes (setup_good bytes e)

-- a step that is accepted
pub step_sound : (s : State) (x : Step) → accepted s x ≡ true → Sound s → Sound (step s x)
unfolding step
step_sound s (multicasts p groups o) e h =
    let a = accepted_multicast s p groups o e in
    multicast_sound s p groups o h a.process a.mask a.room
step_sound s (arrives k m q p) e h =
    let a = (accepted_arrival s k m q p e).letter in
    arrival_sound s k m q p a.kind a.message a.from a.to a.flies h
step_sound s (loses k m q p) e h =
    let a = accepted_loss s k m q p e in
    leave_sound s k m q p a.kind (omega (arith, count_high s h)) (omega (arith, size_high s h)) h
step_sound s (trusts p set) e h =
    let a = accepted_trust s p set e in
    trust_set_sound s p set a.process a.mask h
step_sound s (crashes p) e h = crash_sound s p h
step_sound s malformed e h = h

-- whatever is given as a step (a refused one gives back the same state and the same words: Calls of world)
pub after_sound : (s : State) (x : Step) → Sound s → Sound (after s x)
unfolding after
after_sound s x h = go (accepted s x) refl
  where
    go : (b : Bool) → accepted s x ≡ b → Sound (pick b (step s x) s)
    go true e = step_sound s x e h
    go false e = h

-- settle, with any choice of letters whose arrivals are accepted
pub settle_from_sound : (choose : ℕ → State → Choice)
    → ((x : ℕ) (s : State) (k m q p : ℕ) → choose x s ≡ letter k m q p → accepted s (arrives k m q p) ≡ true)
    → (s : State) (b n x : ℕ) → Sound s → Sound (settle_from choose arrival b n x s).world
unfolding step
settle_from_sound choose able s b n x h =
    settle_keeps choose arrival Sound
    (λ y t k m q p e d. step_sound t (arrives k m q p) (able y t k m q p e) d) b n x s h

-- either manner has such a choice
able : (o : Manner) (x : ℕ) (s : State) (k m q p : ℕ) → choice o x s ≡ letter k m q p
    → accepted s (arrives k m q p) ≡ true
able o x s k m q p e = moves_taken s k m q p (choice_moves o x s k m q p e)

-- settle, of either manner and with any budget
pub settle_sound : (o : Manner) (s : State) (b : ℕ) → Sound s → Sound (settle o s b).world
unfolding settle
settle_sound o s b h = settle_from_sound (choice o) (able o) s b 0 0 h

-- one item of a run, a step or a settle
act_sound : (r : Run State) (i : Item) → Sound r.now → Sound (act on_states r i).now
unfolding act tick settles step
act_sound r (given bytes) h = go (accepted r.now (read bytes)) refl
  where
    go : (b : Bool) → accepted r.now (read bytes) ≡ b → Sound (pick b (taken on_states r (read bytes)) r).now
    go true e = step_sound r.now (read bytes) e h
    go false e = h
act_sound r (settling o b) h =
    settle_keeps (λ x t. choice o x t.now) (λ t k m q p. taken on_states t (arrives k m q p))
    (λ t. Sound t.now)
    (λ x t k m q p e d. step_sound t.now (arrives k m q p) (able o x t.now k m q p e) d) b 0 0 r h

-- a run of any list of items
pub run_sound : (r : Run State) (items : List Item) → Sound r.now → Sound (run on_states r items).now
unfolding run
run_sound r [] h = h
run_sound r (i ∷ items) h = run_sound (act on_states r i) items (act_sound r i h)

-- so every world that a list reaches from a setup record that is taken
pub reached_sound : (setup : List ℕ) (items : List Item) → setup_refusal setup ≡ 0
    → Sound (run on_states (started setup) items).now
reached_sound setup items ok = run_sound (started setup) items (fresh_sound setup ok)

-- ---- words
-- Words that are a sound world: those that are not refused with 1 or 2.
pub record SoundWords (w : List ℕ) : Type 0 where
  pub long : length w ≡ 20480
  pub reads : Sound (view w)

-- they are taken, and what comes after 1 and 2 decides; of a step, what it is refused for
pub sound_words_taken : (w : List ℕ) → SoundWords w → (n : ℕ) → needs_world w n ≡ n
sound_words_taken w h n = rw (eq-eqb (length w) 20480 h.long, facts_sound (view w) h.reads)

pub sound_refusal : (w bytes : List ℕ) → SoundWords w → step_refusal w bytes ≡ refusal (view w) (read bytes)
unfolding step_refusal
sound_refusal w bytes h = sound_words_taken w h (refusal (view w) (read bytes))

-- and the words after what is given as a step
pub sound_stepped : (w bytes : List ℕ) → SoundWords w → encode (after (view w) (read bytes)) ≡ stepped_words w bytes
unfolding stepped_words after
sound_stepped w bytes h =
    either_way (accepted (view w) (read bytes))
    ∙ ap (λ (n : ℕ). unless_refused n (step_words w (read bytes)) w) (sym (sound_refusal w bytes h))
  where
    either_way : (b : Bool) → encode (pick b (step (view w) (read bytes)) (view w)) ≡ pick b (step_words w (read bytes)) w
    either_way true = refl
    either_way false = encode_view w h.long

-- words that are taken are such, and what comes after 1 and 2 refuses nothing
pub world_taken : (w : List ℕ) (n : ℕ) → needs_world w n ≡ 0 → SoundWords w × (n ≡ 0)
world_taken w n e =
    let a = needs_none 0 (eqb (length w) 20480) _ e in
    let b = needs_none 1 (sound (view w)) n a.1 in
    (record { long = eqb-true (length w) 20480 a.0; reads = sound_facts (view w) b.0 }, b.1)

pub taken_sound_words : (w : List ℕ) → needs_world w 0 ≡ 0 → SoundWords w
taken_sound_words w e = (world_taken w 0 e).0

-- the words of a sound state
pub encoded : (s : State) → Sound s → SoundWords (encode s)
encoded s h = record { long = length_encode s; reads = sound_words (encode s) s refl h }

-- the words of a world just made
pub made_words_sound : (w bytes : List ℕ) → making_refusal w bytes ≡ 0 → SoundWords (made_words w bytes)
unfolding made_words making_refusal
made_words_sound w bytes e =
    let a = needs_none 0 (eqb (length w) 20480) (setup_refusal bytes) e in
    subst SoundWords (sym (ap (λ (n : ℕ). unless_refused n (encode (made bytes)) w) e))
    (encoded (made bytes) (fresh_sound bytes a.1))

-- the words after whatever is given as a step
pub stepped_words_sound : (w bytes : List ℕ) → SoundWords w → SoundWords (stepped_words w bytes)
unfolding stepped_words step_refusal
stepped_words_sound w bytes h = go (eqb (step_refusal w bytes) 0) refl
  where
    go : (b : Bool) → eqb (step_refusal w bytes) 0 ≡ b → SoundWords (pick b (step_words w (read bytes)) w)
    go false e = h
    go true e =
        let a = needs_none 0 (eqb (length w) 20480) _ (eqb-true (step_refusal w bytes) 0 e) in
        let b = needs_none 1 (sound (view w)) _ a.1 in
        encoded (step (view w) (read bytes)) (step_sound (view w) (read bytes) (eq-eqb (refusal (view w) (read bytes)) 0 b.1) h.reads)

-- the words after a settle with any budget
pub settled_words_sound : (o : Manner) (w : List ℕ) (b : ℕ) → SoundWords w → SoundWords (settled_words o w b)
unfolding settled_words settle_words step
settled_words_sound o w b h =
    subst SoundWords
    (sym (ap (λ (n : ℕ). unless_refused n (settle_words o w b).world w) (sound_words_taken w h 0)))
    (settle_keeps (λ x u. choice o x (view u)) (λ u k m q p. encode (arrival (view u) k m q p)) SoundWords
    (λ x u k m q p e d. encoded (arrival (view u) k m q p)
    (step_sound (view u) (arrives k m q p) (able o x (view u) k m q p e) d.reads)) b 0 0 w h)

-- the words after a list of steps and settles
pub run_words_sound : (w : List ℕ) (items : List Item) → SoundWords w → SoundWords (run_words w items)
unfolding run_words item_words
run_words_sound w [] h = h
run_words_sound w (given bytes ∷ items) h =
    run_words_sound (stepped_words w bytes) items (stepped_words_sound w bytes h)
run_words_sound w (settling o b ∷ items) h =
    run_words_sound (settled_words o w b) items (settled_words_sound o w b h)
