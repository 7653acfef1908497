-- What a taken step may lean on in a sound world, and the words after a step that is taken or refused.
-- Assumes nothing.
use Rattle.std.specs.Prelude.{◌≡◌, Bool, List, ℕ, ◌<◌, length, Option, None, Result, Ok, Err}
use Rattle.std.specs.Option.{ok_or}
use Rattle.std.proofs.Common.{sym, ap, ◌∙◌, arith, eq-eqb, ne_eqb}
use Rattle.definitions.specs.General.{pick}
use Rattle.definitions.specs.World.{size, count, State, put, encode, view}
use Rattle.definitions.specs.Machine.{leave, crash}
use Rattle.definitions.specs.Steps.{Step, multicasts, arrives, loses, trusts, crashes, malformed, refusal, step, after}
use Rattle.definitions.specs.Answers.{refusal_number, outcome_number}
use Rattle.definitions.specs.declared.Refusal.{Refusal}
use Rattle.definitions.specs.declared.Refusal.TheVariants as variants
use Rattle.answers.specs.Laws.{refusal_some}
use Rattle.world.specs.Layout.{encode_view}
use Rattle.world.specs.SoundLaws.{Sound, size_high, count_high}
use Rattle.world.specs.StepLaws.{accepted_multicast, accepted_arrival, accepted_loss, accepted_trust, accepted_crash}
use Rattle.quiescence.specs.Quiescent.{AllQuiescentIf, one_of_all}
use Rattle.bounds.specs.Bounds.{Bounds, sound_bounds}
use Rattle.index.specs.Index.{Index, Logs, sound_logs, index_words}
use Rattle.arrivals.specs.Arrival.{Arrives}
use Rattle.multicasts.specs.Raise.{Low}
use Rattle.multicasts.specs.Multicast.{sound_low}
use Rattle.given.specs.declared.Given.{Given}
use Rattle.given.specs.Given.{step_of}

-- ---- what a judged step says of the step y in s: that it is taken, and asked for as x; or its refusal
abbrev pub Judges : Result Given Refusal → State → Step → Type 0
Judges (Ok x) s y = (refusal s y ≡ 0) × (step_of x ≡ y)
Judges (Err r) s y = refusal_number r ≡ refusal s y

-- ---- the words
pub words_taken : (w : List ℕ) (x : Step) → refusal (view w) x ≡ 0
    → encode (step (view w) x) ≡ encode (after (view w) x)
unfolding after
words_taken w x e =
    sym (ap (λ (b : Bool). encode (pick b (step (view w) x) (view w))) (eq-eqb (refusal (view w) x) 0 e))

pub words_refused : (w : List ℕ) (x : Step) (r : Refusal) → length w ≡ 20480
    → refusal_number r ≡ refusal (view w) x
    → w ≡ encode (after (view w) x)
unfolding after
words_refused w x r l e =
    sym (encode_view w l)
    ∙ sym (ap (λ (b : Bool). encode (pick b (step (view w) x) (view w)))
    (ne_eqb (refusal (view w) x) 0 (λ z. refusal_some r (e ∙ z))))

-- bytes that are not well formed
pub malformed_refused : (s : State) {x : Step} → malformed ≡ x → refusal_number variants.Malformed ≡ refusal s x
unfolding refusal
malformed_refused s e = ap (refusal s) e

pub malformed_number : {A : Type 0} {o : Option A} {r : Refusal} → Err r ≡ ok_or o variants.Malformed → o ≡ None
    → refusal_number r ≡ refusal_number variants.Malformed
malformed_number {A} h e = ap outcome_number (h ∙ ap (λ (z : Option A). ok_or z variants.Malformed) e)

-- ---- what a taken step leans on
module _ (w x : List ℕ) (l : length w ≡ 20480) (h : Sound (view w)) (z : Index (view w) x) where
  abbrev s : State
  s = view w

  process : (p : ℕ) → p < s size → p < 16
  process p k = omega (arith, size_high s h)

  pub can_multicast : (p groups o : ℕ) → refusal s (multicasts p groups o) ≡ 0
      → (p < 16) × (s count < 64) × Bounds s × Low s p
  can_multicast p groups o e =
      let a = accepted_multicast s p groups o (eq-eqb _ 0 e) in
      let k = process p a.process in
      (k, a.room, sound_bounds s h, sound_low s p k h)

  pub can_arrive : (k m q p : ℕ) (b : Bool) → AllQuiescentIf b s → refusal s (arrives k m q p) ≡ 0 → Arrives w x k m q p b
  can_arrive k m q p b all e =
      let a = (accepted_arrival s k m q p (eq-eqb _ 0 e)).letter in
      let y : p < 16 = process p a.to in
      record {
        long = l;
        kind = a.kind;
        message = a.message;
        from = process q a.from;
        to = y;
        bounds = sound_bounds s h;
        index = z;
        logs = sound_logs s p h a.to;
        known = one_of_all b s p y all;
      }

  pub can_lose : (k m q p : ℕ) → refusal s (loses k m q p) ≡ 0
      → (k < 3) × (m < 64) × (q < 16) × (p < 16)
  can_lose k m q p e =
      let a = accepted_loss s k m q p (eq-eqb _ 0 e) in
      let x : m < 64 = omega (arith, a.message, count_high s h) in
      (a.kind, x, process q a.from, process p a.to)

  pub can_trust : (p set : ℕ) → refusal s (trusts p set) ≡ 0
      → (p < 16) × Bounds s × Logs s p
  can_trust p set e =
      let a = (accepted_trust s p set (eq-eqb _ 0 e)).process in
      (process p a, sound_bounds s h, sound_logs s p h a)

  pub can_crash : (p : ℕ) → refusal s (crashes p) ≡ 0 → p < 16
  can_crash p e = process p (accepted_crash s p (eq-eqb _ 0 e)).0

-- ---- what is so of a kind of step is so of the step that has this kind
pub taken_as : {x y : Given} (s : State) → x ≡ y → refusal s (step_of x) ≡ 0 → refusal s (step_of y) ≡ 0
taken_as s e h = ap (λ (z : Given). refusal s (step_of z)) (sym e) ∙ h

pub acted : {u : List ℕ} {x y : Given} (s : State) → x ≡ y → u ≡ encode (step s (step_of y))
    → u ≡ encode (step s (step_of x))
acted s e h = h ∙ ap (λ (z : Given). encode (step s (step_of z))) (sym e)

-- ---- the index after the steps that it has no part in
module _ (w u x : List ℕ) (h : Sound (view w)) (z : Index (view w) x) where
  pub index_lost : (k m q p : ℕ) → u ≡ encode (leave (view w) k m q p) → Index (view u) x
  unfolding leave put
  index_lost k m q p e = index_words u (leave (view w) k m q p) e (sound_bounds (view w) h) z

  pub index_down : (p : ℕ) → u ≡ encode (crash (view w) p) → Index (view u) x
  unfolding crash put
  index_down p e = index_words u (crash (view w) p) e (sound_bounds (view w) h) z
