-- What a preview of a step of a sound world gives: the refusal of the step, or the words after it and the growth of the
-- logs of its process, which is that of all logs. Assumes nothing.
use Rattle.std.specs.Prelude.{◌≡◌, Bool, true, false, List, ℕ, ◌-◌, ◌≤◌, ◌<◌, length}
use Rattle.std.proofs.Math.Path.{sym, ap₂}
use Rattle.std.proofs.Common.{ap, ◌∙◌, arith, eq-eqb}
use Rattle.definitions.specs.General.{gives, refuses}
use Rattle.definitions.specs.World.{size, State, view}
use Rattle.definitions.specs.Steps.{read, refusal, accepted, step}
use Rattle.definitions.specs.Words.{step_words, stepped_words, log_length, log_growth, preview_refusal, previewed_words, new_deliveries, preview_reply}
use Rattle.definitions.specs.Previews.{step_process}
use Rattle.base.specs.Refusals.{refused_reply}
use Rattle.world.specs.Calls.{preview_judged, preview_taken, preview_refused}
use Rattle.world.specs.SoundLaws.{size_high, count_high, fifo_length_high, causal_length_high}
use Rattle.keeps.specs.Keeps.{step_sound, SoundWords, sound_refusal}
use Rattle.effects.specs.Logs.{encoded_length, step_onward, step_growth, taken_process}

-- what is refused is not shown
pub not_shown : (w bytes second : List ℕ) (n : ℕ) → (n ≡ 0 → ⊥) → n ≡ preview_refusal w bytes second
    → (refuses n ≡ preview_reply w bytes second) × (second ≡ previewed_words w bytes second)
unfolding preview_reply
not_shown w bytes second n some e = (
  refused_reply n (preview_refusal w bytes second) (new_deliveries (view w) (step (view w) (read bytes))) some e,
  sym (preview_refused w bytes second (λ z. some (e ∙ z))),
)

-- ---- a sound world, and a second slice that is as long
pub record Lent (w second : List ℕ) : Type 0 where
  pub world : SoundWords w
  pub second_long : length second ≡ 20480

module _ (w bytes second : List ℕ) (h : Lent w second) where
  shown : preview_refusal w bytes second ≡ refusal (view w) (read bytes)
  shown = preview_judged w bytes second h.second_long ∙ sound_refusal w bytes h.world

  pub refused : (n : ℕ) → (n ≡ 0 → ⊥) → n ≡ refusal (view w) (read bytes)
      → (refuses n ≡ preview_reply w bytes second) × (second ≡ previewed_words w bytes second)
  refused n some e = not_shown w bytes second n some (e ∙ sym shown)

-- ---- a step that is taken: u are the words after it, p is its process
pub record Done (w bytes second u : List ℕ) (p : ℕ) : Type 0 where
  pub lent : Lent w second
  pub not_refused : refusal (view w) (read bytes) ≡ 0
  pub leaves : u ≡ step_words w (read bytes)
  pub at : p ≡ step_process (read bytes)

module _ {w bytes second u : List ℕ} {p : ℕ} (h : Done w bytes second u p) where
  abbrev s : State
  s = view w

  abbrev t : State
  t = step (view w) (read bytes)

  accepts : accepted s (read bytes) ≡ true
  accepts = eq-eqb (refusal s (read bytes)) 0 h.not_refused

  in_size : step_process (read bytes) < s size
  in_size = taken_process s (read bytes) accepts

  low : p < 16
  low = omega (arith, h.at, in_size, size_high s h.lent.world.reads)

  -- the lengths of its logs
  lengths : (log : Bool) → log_length (view u) p log ≡ log_length t p log
  lengths log = ap (λ (z : List ℕ). log_length (view z) p log) h.leaves ∙ encoded_length t p low log

  short : (log : Bool) → log_length t p log ≤ 64
  short log =
      let z = step_sound s (read bytes) accepts h.lent.world.reads in
      let n = count_high t z in
      let f = fifo_length_high t z p low in
      elim log as (λ (b : Bool). log_length t p b ≤ 64) [
        | true ↦ omega (arith, causal_length_high t z p low, f, n)
        | false ↦ omega (arith, f, n)
      ]

  -- they can be counted
  pub countable : (log : Bool)
      → (p < 16) × (log_length s p log ≤ log_length (view u) p log) × (log_length (view u) p log ≤ 64)
  countable log =
      let o : log_length s p log ≤ log_length t p log = rw h.at (step_onward s (read bytes) log).longer in (
        low,
        omega (arith, lengths log, o),
        omega (arith, lengths log, short log),
      )

  -- and their growth is that of all logs
  counted : (log : Bool) → log_length (view u) p log - log_length s p log ≡ log_growth log s t
  counted log =
      ap (λ (n : ℕ). n - log_length s p log) (lengths log)
      ∙ ap (λ (q : ℕ). log_length t q log - log_length s q log) h.at
      ∙ sym (step_growth s (read bytes) log in_size)

  pub taken : {f c : ℕ} → f ≡ log_length (view u) p false - log_length s p false
      → c ≡ log_length (view u) p true - log_length s p true
      → (gives (record { fifo_number = f; causal_number = c }) ≡ preview_reply w bytes second)
      × (u ≡ previewed_words w bytes second)
  unfolding preview_reply stepped_words
  taken a b =
      let j = sound_refusal w bytes h.lent.world in
      let z = shown w bytes second h.lent in (
        ap₂ (λ (x y : ℕ). gives (record { fifo_number = x; causal_number = y })) (a ∙ counted false)
            (b ∙ counted true)
            ∙ rw (z, h.not_refused),
        h.leaves ∙ sym (preview_taken w bytes second (z ∙ h.not_refused) ∙ rw (j, h.not_refused)),
      )
