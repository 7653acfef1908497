-- What is read off the words of a run: how many processes there are, to whom a message is, and the trust rule,
-- which holds of the words exactly when it holds of the states. Assumes nothing.
use Rattle.std.specs.Prelude.{◌≡◌, refl, Bool, ℕ, ◌<◌, eqb}
use Rattle.std.proofs.Common.{sym, ap, ap₂, ◌∙◌, arith}
use mathlib.Core.List.{List, [], ◌∷◌}
use Rattle.definitions.specs.General.{bit}
use Rattle.definitions.specs.World.{size, group, trust, up, mask, State, encode, view, addressed}
use Rattle.definitions.specs.Steps.{is_up}
use Rattle.definitions.specs.History.{Run, Item, act, run, Names, names, InForce, Fair, AllAlong, TrustRule}
use Rattle.definitions.specs.Words.{on_words}
use Rattle.world.specs.Layout.{get_encode}
use Rattle.world.specs.SoundLaws.{Sound, size_high}
use Rattle.world.specs.Runs.{on_states}
use Rattle.keeps.specs.Keeps.{run_sound}
use Rattle.effects.specs.Runs.{act_keeps, run_keeps}
use Rattle.effects.specs.Holding.{step_lasting}
use Rattle.carried.specs.Carried.{written, act_carried, act_sound, run_carried}

-- ---- the words of a sound state
module _ (s : State) (h : Sound s) where
  -- the number of processes
  pub size_read : view (encode s) size ≡ s size
  size_read = get_encode s size tt

  -- to whom a message is
  pub to_read : (m q : ℕ) → m < 64 → q < 16 → addressed (view (encode s)) m q ≡ addressed s m q
  to_read m q hm hq = ap₂ bit (get_encode s (mask m) hm) (get_encode s (group q) hq)

-- ---- the trust rule
-- two states that it reads alike
record Alike (s t : State) : Type 0 where
  pub sizes : s size ≡ t size
  pub groups : (p : ℕ) → p < s size → s (group p) ≡ t (group p)
  pub trusts : (p : ℕ) → p < s size → s (trust p) ≡ t (trust p)
  pub ups : (p : ℕ) → p < s size → s (up p) ≡ t (up p)

alike_sym : {s t : State} → Alike s t → Alike t s
alike_sym {s} {t} a = record {
  sizes = sym a.sizes;
  groups = λ p l. sym (a.groups p (low p l));
  trusts = λ p l. sym (a.trusts p (low p l));
  ups = λ p l. sym (a.ups p (low p l));
}
  where
    low : (p : ℕ) → p < t size → p < s size
    low p l = omega (arith, a.sizes)

-- the words of a sound state, and it
words_alike : (s : State) → Sound s → Alike (view (encode s)) s
words_alike s h = record {
  sizes = size_read s h;
  groups = λ p l. get_encode s (group p) (low p l);
  trusts = λ p l. get_encode s (trust p) (low p l);
  ups = λ p l. get_encode s (up p) (low p l);
}
  where
    low : (p : ℕ) → p < view (encode s) size → p < 16
    low p l = omega (arith, size_read s h, size_high s h)

-- its two parts, in one and in the other
module _ {s t : State} (a : Alike s t) where
  below : (p : ℕ) → p < t size → p < s size
  below p l = omega (arith, a.sizes)

  -- the trust sets in force
  in_force_alike : (live live' : ℕ → Bool) → ((q : ℕ) → q < s size → live q ≡ live' q) → InForce live s
      → InForce live' t
  in_force_alike live live' e f p q hp hq u l =
      go (f p q (below p hp) (below q hq) (a.ups p (below p hp) ∙ u) (e q (below q hq) ∙ l))
    where
      go : Names live s p q → Names live' t p q
      go (names v hv lv gv bv) =
          names v (omega (arith, a.sizes)) (sym (e v hv) ∙ lv)
          (sym (a.groups v hv) ∙ gv ∙ a.groups q (below q hq)) (rw (a.trusts p (below p hp)) at bv)

  -- and that up processes trust up processes only
  fair_alike : Fair s → Fair t
  fair_alike f p q hp hq u b =
      sym (a.ups q (below q hq))
      ∙ f p q (below p hp) (below q hq) (a.ups p (below p hp) ∙ u) (rw (a.trusts p (below p hp)) b)

-- ---- the number of processes is changed by no item
act_size : (r : Run State) (i : Item) → (act on_states r i).now size ≡ r.now size
act_size r i = act_keeps (λ t. t.now size ≡ r.now size) (λ t x _ e. (step_lasting t.now x).0 ∙ e) r i refl

-- nor by a list
pub run_size : (r : Run State) (items : List Item) → (run on_states r items).now size ≡ r.now size
run_size r items =
    run_keeps (λ t. t.now size ≡ r.now size) (λ t x _ e. (step_lasting t.now x).0 ∙ e) r items refl

-- along a list, in which every state has n processes: read off words, and carried to them
module _ (n : ℕ) (live live' : ℕ → Bool) (e : (q : ℕ) → q < n → live q ≡ live' q) where
  first_read : (r : Run State) → r.now size ≡ n → Sound r.now → InForce live (view (encode r.now))
      → InForce live' r.now
  first_read r z h f =
      in_force_alike (words_alike r.now h) live live' (λ q l. e q (omega (arith, size_read r.now h))) f

  first_written : (r : Run State) → r.now size ≡ n → Sound r.now → InForce live r.now
      → InForce live' (view (encode r.now))
  first_written r z h f = in_force_alike (alike_sym (words_alike r.now h)) live live' (λ q l. e q (omega arith)) f

  along_read : (items : List Item) (r : Run State) → r.now size ≡ n → Sound r.now
      → AllAlong on_words live (written r) items → AllAlong on_states live' r items
  unfolding AllAlong
  along_read [] r z h f = first_read r z h f
  along_read (i ∷ items) r z h f = (
    first_read r z h f.0,
    along_read items (act on_states r i) (act_size r i ∙ z) (act_sound r i h)
        (rw (act_carried r i h) at f.1),
  )

  along_written : (items : List Item) (r : Run State) → r.now size ≡ n → Sound r.now
      → AllAlong on_states live r items → AllAlong on_words live' (written r) items
  unfolding AllAlong
  along_written [] r z h f = first_written r z h f
  along_written (i ∷ items) r z h f = (
    first_written r z h f.0,
    rw (act_carried r i h) (along_written items (act on_states r i) (act_size r i ∙ z) (act_sound r i h) f.1),
  )

-- the trust rule of a list, over words and over states
module _ (r : Run State) (items : List Item) (h : Sound r.now) where
  -- after the list
  abbrev last : State
  last = (run on_states r items).now

  sound_last : Sound (run on_states r items).now
  sound_last = run_sound r items h

  carried : (run on_words (written r) items).now ≡ encode (run on_states r items).now
  carried = ap (λ (t : Run (List ℕ)). t.now) (run_carried r items h)

  -- who is up on the words of the last state is up
  live_read : (q : ℕ) → q < last size → is_up (view (run on_words (written r) items).now) q ≡ is_up last q
  live_read q l =
      ap (λ (w : List ℕ). is_up (view w) q) carried
      ∙ ap (λ (x : ℕ). eqb x 1) ((words_alike last sound_last).ups q (omega (arith, size_read last sound_last)))

  pub rule_read : TrustRule on_words (written r) items → TrustRule on_states r items
  rule_read t = record {
    in_force = along_read (last size) _ _ live_read items r (sym (run_size r items)) h t.in_force;
    fair = fair_alike (words_alike last sound_last) (rw carried at t.fair);
  }

  pub rule_written : TrustRule on_states r items → TrustRule on_words (written r) items
  rule_written t = record {
    in_force =
        along_written (last size) _ _ (λ q l. sym (live_read q l)) items r (sym (run_size r items)) h
        t.in_force;
    fair = rw carried (fair_alike (alike_sym (words_alike last sound_last)) t.fair);
  }
