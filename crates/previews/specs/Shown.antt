-- A preview gives the words that the step gives. Where it gives numbers the words are a sound world and the step is
-- taken; in a run the step then adds as many deliveries as the causal number says. Assumes nothing.
use Rattle.std.specs.Prelude.{◌≡◌, refl, Bool, true, ◌&&◌, List, ℕ, zero, suc, ◌+◌, ◌-◌, eqb, length}
use Rattle.std.proofs.Math.Path.{sym, ap, ap₂}
use Rattle.std.proofs.Common.{◌∙◌, arith, eqb-true, eq-eqb}
use Rattle.definitions.specs.General.{pick, gives, sum}
use Rattle.definitions.specs.World.{size, causal_length, causal, State, encode, view}
use Rattle.definitions.specs.Sound.{sound}
use Rattle.definitions.specs.Steps.{Step, multicasts, arrives, loses, trusts, crashes, malformed, read, refusal, accepted, step}
use Rattle.definitions.specs.History.{Event, deliveries, gained, casted, Run, given, taken, tick, act}
use Rattle.definitions.specs.Words.{needs_world, step_refusal, stepped_words, step_words, preview_refusal, previewed_words, log_growth, NewDeliveries, new_deliveries, preview_reply, on_words}
use Rattle.definitions.specs.Previews.{gots, AsStep}
use Rattle.base.specs.Refusals.{needs_none, reply_gives, refused_reply}
use Rattle.base.specs.Sums.{sum_cong}
use Rattle.world.specs.SoundLaws.{Sound, size_high, sound_facts}
use Rattle.world.specs.Calls.{preview_judged, preview_unjudged, preview_taken, preview_refused, tick_words}
use Rattle.keeps.specs.Keeps.{SoundWords, sound_words_taken}
use Rattle.effects.specs.Logs.{encoded_length}

-- ---- the preview, and then the step
pub as_step : (w bytes second : List ℕ) → AsStep w bytes second
unfolding preview_reply
as_step w bytes second = record {
  same_refusal = preview_judged w bytes second;
  other_length = preview_unjudged w bytes second;
  refused_answer = λ n. sym (refused_reply (preview_refusal w bytes second) _ _ n refl);
  refused_words = preview_refused w bytes second;
  taken_answer = λ e. (new_deliveries (view w) (step (view w) (read bytes)), rw e);
  taken_words = preview_taken w bytes second;
}

-- ---- a preview that gives numbers
-- the words are a sound world, the step is taken, the numbers are by how much the logs are longer after it
pub record Shown (w bytes : List ℕ) (d : NewDeliveries) (u : List ℕ) : Type 0 where
  pub lent : SoundWords w
  pub taken : accepted (view w) (read bytes) ≡ true
  pub numbers : d ≡ new_deliveries (view w) (step (view w) (read bytes))
  pub words : u ≡ step_words w (read bytes)

pub shown : (w bytes second : List ℕ) (d : NewDeliveries) → preview_reply w bytes second ≡ gives d
    → Shown w bytes d (previewed_words w bytes second)
unfolding preview_reply preview_refusal step_refusal stepped_words
shown w bytes second d e =
    let (none, numbers) = reply_gives (preview_refusal w bytes second) d _ (sym e) in
    let free = (needs_none 0 (eqb (length second) 20480) (step_refusal w bytes) none).1 in
    let (a, rest) = needs_none 0 (eqb (length w) 20480) _ free in
    let (b, taken) = needs_none 1 (sound (view w)) (refusal (view w) (read bytes)) rest in
    record {
      lent = record { long = eqb-true (length w) 20480 a; reads = sound_facts (view w) b };
      taken = eq-eqb (refusal (view w) (read bytes)) 0 taken;
      numbers = numbers;
      words = preview_taken w bytes second none
          ∙ ap (λ (n : ℕ). pick (eqb n 0) (step_words w (read bytes)) w) free;
    }

-- ---- in a run
-- deliveries are counted
gots_deliveries : (p a n : ℕ) (log : ℕ → ℕ) (es : List Event) → gots (deliveries p a n log es) ≡ gots es + n
unfolding gots deliveries
gots_deliveries p a zero log es = omega arith
gots_deliveries p a (suc n) log es = omega (arith, gots_deliveries p a n log es)

-- those that the causal logs have gained, too
gots_gained : (n : ℕ) (s t : State) (es : List Event)
    → gots (gained n s t es) ≡ gots es + sum n (λ p. t (causal_length p) - s (causal_length p))
unfolding gained sum
gots_gained zero s t es = omega arith
gots_gained (suc p) s t es =
    let k = gots_deliveries p (s (causal_length p)) (t (causal_length p) - s (causal_length p)) (λ i. t (causal p i))
    (gained p s t es) in
    omega (arith, k, gots_gained p s t es)

-- a multicast is none
gots_casted : (x : Step) (s : State) (es : List Event) → gots (casted x s es) ≡ gots es
unfolding gots
gots_casted (multicasts p groups o) s es = refl
gots_casted (arrives k m q p) s es = refl
gots_casted (loses k m q p) s es = refl
gots_casted (trusts p set) s es = refl
gots_casted (crashes p) s es = refl
gots_casted malformed s es = refl

-- the words after the step are read as the state after it, as far as the causal logs go
read_growth : (s t : State) → Sound s → log_growth true s (view (encode t)) ≡ log_growth true s t
read_growth s t h =
    sum_cong (s size) (λ p. view (encode t) (causal_length p) - s (causal_length p))
    (λ p. t (causal_length p) - s (causal_length p))
    (λ p l. ap (λ (n : ℕ). n - s (causal_length p)) (encoded_length t p (omega (arith, size_high s h)) true))

module _ (r : Run (List ℕ)) (bytes second : List ℕ) (d : NewDeliveries)
    (e : preview_reply r.now bytes second ≡ gives d) where
  pub run_words_shown : (act on_words r (given bytes)).now ≡ previewed_words r.now bytes second
  unfolding act preview_reply
  run_words_shown =
      tick_words r bytes
      ∙ sym (preview_taken r.now bytes second
      (reply_gives (preview_refusal r.now bytes second) d _ (sym e)).0)

  pub run_events_shown : gots (act on_words r (given bytes)).seen ≡ gots r.seen + d.causal_number
  unfolding act tick
  run_events_shown =
      let s = view r.now in
      let x = read bytes in
      let t = step s x in
      let h = shown r.now bytes second d e in
      let world = sound_words_taken r.now h.lent 0 in
      let n = ap (λ (z : NewDeliveries). z.causal_number) h.numbers in
      ap₂ (λ (b c : Bool). gots (pick (b && c) (taken on_words r x) r).seen) (eq-eqb (needs_world r.now 0) 0 world)
      h.taken
      ∙ gots_gained (s size) s (view (encode t)) (casted x s r.seen)
      ∙ ap₂ (λ (a b : ℕ). a + b) (gots_casted x s r.seen) (read_growth s t h.lent.reads ∙ sym n)
