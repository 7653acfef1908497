-- The arrivals of a call, on the words that are lent: each settle makes them one by one, and of the one by turns each up
-- process for which a letter waits has one of the next n. Sound words are those of a state, and a call leaves the words of
-- its settle. Assumes nothing.
use Rattle.std.specs.Prelude.{◌≡◌, true, ℕ, ◌+◌, ◌<◌}
use Rattle.std.proofs.Math.Path.{sym, ap}
use Rattle.std.proofs.Common.{◌∙◌, ltb-true}
use mathlib.Core.List.{List}
use native.Mathlib.Omega.{arith}
use Rattle.definitions.specs.General.{gives, bit}
use Rattle.definitions.specs.World.{size, count, up, flight, State, encode, view}
use Rattle.definitions.specs.Machine.{arrival}
use Rattle.definitions.specs.Steps.{arrives, step}
use Rattle.definitions.specs.Settle.{Ending, Manner, by_turns, choice}
use Rattle.definitions.specs.Words.{needs_world, step_words, settle_words, settled_words, settle_reply}
use Rattle.definitions.specs.Answers.{arrivals_in}
use Rattle.definitions.specs.NothingToCome.{ToCome}
use Rattle.definitions.specs.NoStarving.{ArrivesAt, arrives_at, ArrivesWithin, arrives_within, Made}
use Rattle.base.specs.Refusals.{reply_gives}
use Rattle.world.specs.Layout.{get_encode, encode_view}
use Rattle.world.specs.SoundLaws.{Sound, size_high, count_high, letter_facts, origin_low}
use Rattle.world.specs.StepLaws.{Arrives, moves_taken}
use Rattle.world.specs.TurnLaws.{choice_moves}
use Rattle.world.specs.SettleLaws.{settle}
use Rattle.world.specs.Points.{Next, next, made_each}
use Rattle.keeps.specs.Keeps.{SoundWords, taken_sound_words, settle_sound}
use Rattle.carried.specs.Calls.{view_agree, same_words, step_agree}
use Rattle.carried.specs.Carried.{settle_carried, reply_carried}
use Rattle.no_starving.specs.Turns.{ServedAt, served_at, InTurn, in_turn_kept, waits_for, ServedSoon, served_soon, starves_none}

-- ---- the words of a sound state
module _ (s : State) (h : Sound s) (k m q p : ℕ) where
  -- a letter that is to come is one that can arrive
  pub come_arrives : ToCome (encode s) k m q p → Arrives s k m q p
  come_arrives (hk, hm, hq, l, z) =
      let hp : p < s size = omega (arith, l.0, get_encode s size tt) in
      let p16 : p < 16 = omega (arith, size_high s h) in
      let flies : bit (s (flight m k q)) p ≡ true =
      sym (ap (λ (v : ℕ). bit v p) (get_encode s (flight m k q) (hm, hk, hq))) ∙ z in
      let f = letter_facts s h k m q p hk hm hq p16 flies in
      record {
        letter = record {
          kind = hk;
          message = ltb-true m (s count) f.of;
          from = origin_low s h k m q p f;
          to = hp;
          flies = flies;
        };
        live = sym (get_encode s (up p) p16) ∙ l.1;
      }

  module _ (a : Arrives s k m q p) where
    -- and the other way round
    pub arrives_come : ToCome (encode s) k m q p
    arrives_come =
        let l = a.letter in
        let hm : m < 64 = omega (arith, l.message, count_high s h) in
        let hq : q < 16 = omega (arith, l.from, size_high s h) in
        let hp : p < 16 = omega (arith, l.to, size_high s h) in (
          l.kind,
          hm,
          hq,
          (omega (arith, l.to, get_encode s size tt), get_encode s (up p) hp ∙ a.live),
          ap (λ (v : ℕ). bit v p) (get_encode s (flight m k q) (hm, l.kind, hq)) ∙ l.flies,
        )

    -- its arrival leaves the words of the state after it
    pub arrival_words : step_words (encode s) (arrives k m q p) ≡ encode (arrival s k m q p)
    unfolding step
    arrival_words = same_words (step_agree (view_agree s h) (arrives k m q p) (moves_taken s k m q p a))

-- ---- of lent words that are a sound world
module _ (w : List ℕ) (h : SoundWords w) where
  settled_is : (o : Manner) (b : ℕ) → settled_words o w b ≡ encode (settle o (view w) b).world
  settled_is o b =
      ap (λ (u : List ℕ). settled_words o u b) (sym (encode_view w h.long)) ∙ settle_carried o (view w) h.reads b

  ends_with : (o : Manner) (b : ℕ) → settle_reply o w b ≡ gives (settle o (view w) b).ending
  ends_with o b =
      ap (λ (u : List ℕ). settle_reply o u b) (sym (encode_view w h.long)) ∙ reply_carried o (view w) h.reads b

  -- an arrival at p
  arrives_there : (o : Manner) (j p : ℕ) → ServedAt o 0 0 (view w) j p → ArrivesAt o w j p
  unfolding settle
  arrives_there o j p (served_at k m q a e) =
      let u : State = (settle o (view w) j).world in
      let sound_u = settle_sound o (view w) j h.reads in
      arrives_at k m q (rw (settled_is o j) (arrives_come u sound_u k m q p a))
      (settled_is o (j + 1) ∙ ap encode e ∙ sym (arrival_words u sound_u k m q p a)
      ∙ ap (λ (v : List ℕ). step_words v (arrives k m q p)) (sym (settled_is o j)))

  -- one by one
  made_words : (o : Manner) (b i : ℕ) → arrivals_in (settle o (view w) b).ending ≡ i → Made o w b i
  unfolding settle
  made_words o b i e =
      let z = made_each (choice o) arrival InTurn (in_turn_kept o) b 0 0 (view w) (omega arith, h.reads) i (omega arith) in
      record {
        allowed = z.allowed;
        leaves = settled_is o b ∙ ap encode z.leaves ∙ sym (settled_is o i);
        each = λ j l. at j (z.each j l);
      }
    where
      at : (j : ℕ) → Next (choice o) arrival InTurn (in_turn_kept o) j 0 0 (view w) → (p : ℕ) × ArrivesAt o w j p
      at j (next x k m q p _ c d) = (p, arrives_there o j p (served_at k m q (choice_moves o x _ k m q p c) d))

  -- no machine starves
  pub starves_none_words : (i k m q p : ℕ) → ToCome (settled_words by_turns w i) k m q p
      → ArrivesWithin by_turns w i (view w size) p
  starves_none_words i k m q p c =
      let u : State = (settle by_turns (view w) i).world in
      let a = come_arrives u (settle_sound by_turns (view w) i h.reads) k m q p (rw (settled_is by_turns i) at c) in
      soon (starves_none (view w) i p h.reads (waits_for k m q a))
    where
      soon : ServedSoon (view w) i (view w size) p → ArrivesWithin by_turns w i (view w size) p
      soon (served_soon j l g a) = arrives_within j l g (arrives_there by_turns j p a)

-- ---- of all lent words, from the answer
pub one_by_one_words : (o : Manner) (w : List ℕ) (b : ℕ) (e : Ending) → settle_reply o w b ≡ gives e
    → Made o w b (arrivals_in e)
unfolding settle_reply
one_by_one_words o w b e says =
    let h = taken_sound_words w (reply_gives (needs_world w 0) e (settle_words o w b).ending (sym says)).0 in
    let d = sym (ends_with w h o b) ∙ says in
    let c : (settle o (view w) b).ending ≡ e = cc in
    made_words w h o b (arrivals_in e) (ap arrivals_in c)
