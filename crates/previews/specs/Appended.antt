-- What a previewed step appends: at its process each log goes on with as many messages as the numbers say, at every
-- other process it stays, as the call that reads logs gives them. Without a cascade the numbers are 0. Assumes nothing.
use Rattle.std.specs.Prelude.{◌≡◌, refl, Bool, true, false, ◌≢◌, ℕ, ◌-◌, ◌≤◌, ◌<◌, ltb, take, drop}
use Rattle.std.proofs.Math.Path.{sym, ap, fun_ext}
use Rattle.std.proofs.Common.{ap₂, ◌∙◌, subst, subst₂, arith, length-take, take-append-drop, get_or-take, ltb-true}
use mathlib.Core.List.{List, ◌++◌}
use Rattle.std.proofs.Math.ListN.{length, length-drop}
use Rattle.definitions.specs.General.{gives, tabulate}
use Rattle.definitions.specs.World.{size, State, encode, view, is_process}
use Rattle.definitions.specs.Steps.{Step, read, accepted, step}
use Rattle.definitions.specs.Words.{step_words, log_length, log_words, previewed_words, log_growth, NewDeliveries, new_deliveries, preview_reply}
use Rattle.definitions.specs.Previews.{step_process, has_cascade, Appends}
use Rattle.base.specs.Sums.{sum_none}
use Rattle.base.specs.Tabulate.{length_tabulate, get_d_tabulate, is_tabulate}
use Rattle.world.specs.Layout.{encode_view}
use Rattle.world.specs.SoundLaws.{Sound}
use Rattle.keeps.specs.Keeps.{step_sound}
use Rattle.effects.specs.Holding.{step_lasting}
use Rattle.effects.specs.Logs.{log_item, step_onward, step_stays, no_cascade_stays, step_growth, taken_process}
use Rattle.carried.specs.Calls.{log_carried, log_absent}
use Rattle.previews.specs.Shown.{shown}

-- ---- logs as lists
-- the first items of a list, where these are those of f
taken_front : (n k : ℕ) (f g : ℕ → ℕ) → n ≤ k → ((i : ℕ) → i < n → g i ≡ f i) → take n (tabulate k g) ≡ tabulate n f
taken_front n k f g l h =
    is_tabulate 0 n f (take n (tabulate k g)) (simp length-take (omega (arith, length_tabulate k g)))
    (λ i u. get_or-take n (tabulate k g) i 0 u ∙ get_d_tabulate k g i 0 (omega arith) ∙ h i u)

-- ---- a step without a cascade
none_longer : (s : State) (x : Step) → has_cascade x ≡ false → (log : Bool)
    → log_growth log s (step s x) ≡ 0
none_longer s x c log =
    sum_none (s size) (λ r. log_length (step s x) r log - log_length s r log)
    (λ r _. let e = (no_cascade_stays s x c r log).as_long in omega arith)

-- ---- a step that is taken, on a sound state
module _ (s : State) (h : Sound s) (x : Step) (e : accepted s x ≡ true) where
  after_sound : Sound (step s x)
  after_sound = step_sound s x e h

  here : step_process x < s size
  here = taken_process s x e

  as_many : step s x size ≡ s size
  as_many = (step_lasting s x).0

  -- the log of its process after it
  abbrev new_log : Bool → List ℕ
  new_log log = log_words (encode (step s x)) (step_process x) log

  new_items : (log : Bool) → new_log log
      ≡ tabulate (log_length (step s x) (step_process x) log) (λ i. step s x (log_item (step_process x) log i))
  new_items log = log_carried (step s x) after_sound (step_process x) (omega (arith, here, as_many)) log

  -- begins with the log before it
  old_front : (log : Bool)
      → take (log_length s (step_process x) log) (new_log log) ≡ log_words (encode s) (step_process x) log
  old_front log =
      let o = step_onward s x log in
      let n = log_length s (step_process x) log in
      ap (take n) (new_items log)
      ∙ taken_front n (log_length (step s x) (step_process x) log) _ _ o.longer o.kept
      ∙ sym (log_carried s h (step_process x) here log)

  -- and goes on with as many as the logs of all processes are longer
  new_behind : Bool → List ℕ
  new_behind log = drop (log_length s (step_process x) log) (new_log log)

  new_number : (log : Bool) → length (new_behind log) ≡ log_growth log s (step s x)
  unfolding new_behind
  new_number log =
      length-drop (log_length s (step_process x) log) (new_log log)
      ∙ ap (λ (n : ℕ). n - log_length s (step_process x) log) (ap length (new_items log) ∙ length_tabulate _ _)
      ∙ sym (step_growth s x log here)

  -- at another process it stays
  log_stays : (r : ℕ) (log : Bool) → step_process x ≢ r
      → log_words (encode (step s x)) r log ≡ log_words (encode s) r log
  log_stays r log n = go (is_process s r) refl
    where
      go : (b : Bool) → is_process s r ≡ b → log_words (encode (step s x)) r log ≡ log_words (encode s) r log
      go true d =
          let l = ltb-true r (s size) d in
          let o = step_stays s x r n log in
          log_carried (step s x) after_sound r (omega (arith, as_many)) log
          ∙ ap₂ tabulate o.as_long (fun_ext o.same)
          ∙ sym (log_carried s h r l log)
      go false d =
          log_absent (step s x) after_sound r log (ap (ltb r) as_many ∙ d) ∙ sym (log_absent s h r log d)

  state_appends : Appends (encode s) (encode (step s x)) (step_process x) (new_deliveries s (step s x))
  unfolding new_behind
  state_appends = record {
    news = new_behind;
    behind = λ log.
        sym (take-append-drop (log_length s (step_process x) log) (new_log log))
        ∙ ap (λ (l : List ℕ). l ++ new_behind log) (old_front log);
    fifo_news = new_number false;
    causal_news = new_number true;
    others = log_stays;
  }

-- ---- a preview that gives numbers
module _ (w bytes second : List ℕ) (d : NewDeliveries) (e : preview_reply w bytes second ≡ gives d) where
  pub appended : Appends w (previewed_words w bytes second) (step_process (read bytes)) d
  appended =
      let s = view w in
      let x = read bytes in
      let h = shown w bytes second d e in
      subst₂ (λ (u : List ℕ) (c : NewDeliveries). Appends w u (step_process x) c) (sym h.words) (sym h.numbers)
      (subst (λ (v : List ℕ). Appends v (step_words w x) (step_process x) (new_deliveries s (step s x)))
      (encode_view w h.lent.long) (state_appends s h.lent.reads x h.taken))

  -- without a cascade they are 0
  pub none_appended : has_cascade (read bytes) ≡ false → (d.fifo_number ≡ 0) × (d.causal_number ≡ 0)
  none_appended c =
      let n = (shown w bytes second d e).numbers in (
        ap (λ (z : NewDeliveries). z.fifo_number) n ∙ none_longer (view w) (read bytes) c false,
        ap (λ (z : NewDeliveries). z.causal_number) n ∙ none_longer (view w) (read bytes) c true,
      )
