-- The call that gives the length of a log gives as many as the call that reads it shows. So at the process of a
-- previewed step its answers grow by the two numbers. Assumes nothing.
use Rattle.std.specs.Prelude.{◌≡◌, Bool, true, false, List, ℕ, ◌+◌, ◌<◌, length}
use Rattle.std.proofs.Common.{sym, ap, ◌∙◌, subst, arith, length-append, lt-ltb}
use Rattle.definitions.specs.General.{needs, gives}
use Rattle.definitions.specs.World.{size, view, is_process}
use Rattle.definitions.specs.Steps.{read, step}
use Rattle.definitions.specs.Words.{log_length, log_refusal, log_words, length_reply, previewed_words, NewDeliveries, preview_reply}
use Rattle.definitions.specs.Previews.{step_process}
use Rattle.base.specs.Tabulate.{length_tabulate}
use Rattle.world.specs.Layout.{get_encode, encode_view}
use Rattle.keeps.specs.Keeps.{SoundWords, sound_words_taken, encoded, step_sound}
use Rattle.effects.specs.Holding.{step_lasting}
use Rattle.effects.specs.Logs.{log_item, taken_process}
use Rattle.carried.specs.Calls.{log_carried}
use Rattle.previews.specs.Shown.{shown}
use Rattle.previews.specs.Appended.{appended}

-- ---- the two calls on a sound world
pub length_read : (w : List ℕ) → SoundWords w → (p : ℕ) → p < view w size → (log : Bool)
    → length_reply w p log ≡ gives (length (log_words w p log))
unfolding length_reply log_refusal
length_read w h p l log =
    rw (sound_words_taken w h (needs 5 (is_process (view w) p) 0), lt-ltb p (view w size) l) (ap gives (sym items))
  where
    items : length (log_words w p log) ≡ log_length (view w) p log
    items =
        ap (λ (u : List ℕ). length (log_words u p log)) (sym (encode_view w h.long))
        ∙ ap length (log_carried (view w) h.reads p l log)
        ∙ length_tabulate (log_length (view w) p log) (λ i. view w (log_item p log i))

-- ---- a preview that gives numbers
module _ (w bytes second : List ℕ) (d : NewDeliveries) (e : preview_reply w bytes second ≡ gives d) where
  -- the process of the step, and what each log of it has behind
  abbrev at : ℕ
  at = step_process (read bytes)

  abbrev behind : Bool → List ℕ
  behind = (appended w bytes second d e).news

  -- the words shown are a sound world, with that process
  shown_sound : SoundWords (previewed_words w bytes second)
      × (step_process (read bytes) < view (previewed_words w bytes second) size)
  shown_sound =
      let h = shown w bytes second d e in
      let t = step (view w) (read bytes) in
      subst (λ (u : List ℕ). SoundWords u × (at < view u size)) (sym h.words) (
        encoded t (step_sound (view w) (read bytes) h.taken h.lent.reads),
        omega (
          arith,
          get_encode t size tt,
          (step_lasting (view w) (read bytes)).0,
          taken_process (view w) (read bytes) h.taken,
        ),
      )

  grows : (log : Bool) (n : ℕ) → length_reply w at log ≡ gives n
      → length_reply (previewed_words w bytes second) at log ≡ gives (n + length (behind log))
  grows log n q =
      let h = shown w bytes second d e in
      let before = length_read w h.lent at (taken_process (view w) (read bytes) h.taken) log in
      let same : length (log_words w at log) ≡ n = cc in
      length_read (previewed_words w bytes second) shown_sound.0 at shown_sound.1 log
      ∙ ap (λ (l : List ℕ). gives (length l)) ((appended w bytes second d e).behind log)
      ∙ ap gives (length-append (log_words w at log) (behind log) ∙ ap (λ (k : ℕ). k + length (behind log)) same)

  pub fifo_grows : (n : ℕ) → length_reply w at false ≡ gives n
      → length_reply (previewed_words w bytes second) at false ≡ gives (n + d.fifo_number)
  fifo_grows n q = rw (← (appended w bytes second d e).fifo_news) (grows false n q)

  pub causal_grows : (n : ℕ) → length_reply w at true ≡ gives n
      → length_reply (previewed_words w bytes second) at true ≡ gives (n + d.causal_number)
  causal_grows n q = rw (← (appended w bytes second d e).causal_news) (grows true n q)
