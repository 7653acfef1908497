-- The sentences on preview as a reader takes them from `previews`, on the words that the calls give: each with its
-- hypotheses written out, and no more. A weaker statement would not give them. Assumes nothing.
use Rattle.std.specs.Prelude.{◌≡◌, Bool, true, false, List, [], ◌∷◌, ◌++◌, ◌≢◌, get_or}
use Rattle.std.proofs.Math.Path.{refl, ap, subst}
use Rattle.std.proofs.Common.{sym, ◌∙◌, not-suc-le-zero, arith, length-append}
use Prim.Native.Nat.{ℕ, zero, suc, ◌+◌, ◌≤◌, ◌<◌}
use Rattle.std.proofs.Math.Decide.{ℕ_discrete}
use Rattle.std.proofs.Math.ListN.{length, get_or-append}
use Rattle.definitions.specs.General.{gives, refuses, sum}
use Rattle.definitions.specs.Steps.{multicasts, arrives, loses, trusts, crashes, read}
use Rattle.definitions.specs.History.{Event, sent, got, Run, given, act}
use Rattle.definitions.specs.Words.{step_refusal, stepped_words, log_words, preview_refusal, previewed_words, NewDeliveries, preview_reply, on_words}
use Rattle.definitions.specs.Previews.{step_process, has_cascade, gots, Appends, AsStep}
use Rattle.previews.specs.Theorem.{previews}

-- ---- the preview, and then the step
module _ (w bytes second : List ℕ) where
  as_step : AsStep w bytes second
  as_step = previews.as_step w bytes second

  -- a step that is refused: the same number, and the second slice as lent
  module _ (long : length second ≡ 20480) (n : ℕ) (refused : step_refusal w bytes ≡ n) (one : n ≢ 0) where
    number_seen : preview_refusal w bytes second ≡ n
    number_seen = as_step.same_refusal long ∙ refused

    pub same_number : preview_reply w bytes second ≡ refuses n
    same_number = as_step.refused_answer (λ z. one (sym number_seen ∙ z)) ∙ ap refuses number_seen

    pub second_as_lent : previewed_words w bytes second ≡ second
    second_as_lent = as_step.refused_words (λ z. one (sym number_seen ∙ z))

  -- a second slice of another length: 1, whatever the world and the step are, and it is as lent
  module _ (other : length second ≢ 20480) where
    one_seen : preview_refusal w bytes second ≢ 0
    one_seen z = let e = as_step.other_length other in omega arith

    pub other_length : preview_reply w bytes second ≡ refuses 1
    other_length = as_step.refused_answer one_seen ∙ ap refuses (as_step.other_length other)

    pub other_as_lent : previewed_words w bytes second ≡ second
    other_as_lent = as_step.refused_words one_seen

  -- a step that is taken: numbers, and the words that it gives
  module _ (long : length second ≡ 20480) (taken : step_refusal w bytes ≡ 0) where
    pub gives_numbers : (d : NewDeliveries) × (preview_reply w bytes second ≡ gives d)
    gives_numbers = as_step.taken_answer (as_step.same_refusal long ∙ taken)

    pub same_words : previewed_words w bytes second ≡ stepped_words w bytes
    same_words = as_step.taken_words (as_step.same_refusal long ∙ taken)

-- ---- the numbers
-- the lengths of the logs of the processes below n, all together
abbrev total : ℕ → List ℕ → Bool → ℕ
total n w log = sum n (λ r. length (log_words w r log))

-- an empty list
empty : (xs : List ℕ) → length xs ≡ 0 → xs ≡ []
empty [] e = refl
empty (x ∷ xs) e = absurd (omega arith)

append_none : (xs : List ℕ) → xs ++ [] ≡ xs
append_none [] = refl
append_none (x ∷ xs) = ap (λ (l : List ℕ). x ∷ l) (append_none xs)

module _ (w bytes second : List ℕ) (d : NewDeliveries) (e : preview_reply w bytes second ≡ gives d) where
  -- the words shown, and the process of the step
  abbrev shown : List ℕ
  shown = previewed_words w bytes second

  abbrev at : ℕ
  at = step_process (read bytes)

  appends : Appends w (previewed_words w bytes second) (step_process (read bytes)) d
  appends = previews.appends w bytes second d e

  -- what a log held it holds, at its place
  pub held_stays : (log : Bool) (i : ℕ) → i < length (log_words w at log)
      → get_or (log_words shown at log) i 0 ≡ get_or (log_words w at log) i 0
  held_stays log i l =
      ap (λ (xs : List ℕ). get_or xs i 0) (appends.behind log)
      ∙ get_or-append (log_words w at log) (appends.news log) 0 i l

  -- each log is longer by its number
  longer : (log : Bool) → length (log_words shown at log) ≡ length (log_words w at log) + length (appends.news log)
  longer log = ap length (appends.behind log) ∙ length-append (log_words w at log) (appends.news log)

  pub fifo_longer : length (log_words shown at false) ≡ length (log_words w at false) + d.fifo_number
  fifo_longer = longer false ∙ ap (λ (n : ℕ). length (log_words w at false) + n) appends.fifo_news

  pub causal_longer : length (log_words shown at true) ≡ length (log_words w at true) + d.causal_number
  causal_longer = longer true ∙ ap (λ (n : ℕ). length (log_words w at true) + n) appends.causal_news

  -- at every other process all logs stay
  pub elsewhere : (r : ℕ) (log : Bool) → r ≢ at → log_words shown r log ≡ log_words w r log
  elsewhere r log n = appends.others r log (λ z. n (sym z))

  -- so all logs together are longer by the numbers
  below : (log : Bool) (n : ℕ) → n ≤ at → total n shown log ≡ total n w log
  unfolding sum
  below log zero l = refl
  below log (suc r) l =
      omega (arith, below log r (omega arith), ap length (elsewhere r log (λ z. omega (arith, z))))

  together : (log : Bool) (k n : ℕ) → length (log_words shown at log) ≡ length (log_words w at log) + k → at < n
      → total n shown log ≡ total n w log + k
  unfolding sum
  together log k zero h l = absurd (not-suc-le-zero l)
  together log k (suc r) h l = elim (ℕ_discrete r at) [
    | yes z ↦
        let here : length (log_words shown r log) ≡ length (log_words w r log) + k =
        subst (λ x. length (log_words shown x log) ≡ length (log_words w x log) + k) (sym z) h in
        omega (arith, here, below log r (omega (arith, z)))
    | no z ↦ omega (arith, together log k r h (omega (arith, z)), ap length (elsewhere r log z))
  ]

  pub fifo_total : (n : ℕ) → at < n → total n shown false ≡ total n w false + d.fifo_number
  fifo_total n l = together false d.fifo_number n fifo_longer l

  pub causal_total : (n : ℕ) → at < n → total n shown true ≡ total n w true + d.causal_number
  causal_total n l = together true d.causal_number n causal_longer l

  -- an arrival adds to the logs of its receiver, a trust step to those of its process, and to no others
  pub only_receiver : (k m q p : ℕ) → read bytes ≡ arrives k m q p → (r : ℕ) (log : Bool) → r ≢ p
      → log_words shown r log ≡ log_words w r log
  only_receiver k m q p z r log n = elsewhere r log (λ y. n (y ∙ ap step_process z))

  pub only_trusting : (p set : ℕ) → read bytes ≡ trusts p set → (r : ℕ) (log : Bool) → r ≢ p
      → log_words shown r log ≡ log_words w r log
  only_trusting p set z r log n = elsewhere r log (λ y. n (y ∙ ap step_process z))

  -- a multicast, a loss and a crash add none
  pub multicast_none : (p groups o : ℕ) → read bytes ≡ multicasts p groups o
      → (d.fifo_number ≡ 0) × (d.causal_number ≡ 0)
  multicast_none p groups o z = previews.none w bytes second d e (ap has_cascade z)

  pub loss_none : (k m q p : ℕ) → read bytes ≡ loses k m q p → (d.fifo_number ≡ 0) × (d.causal_number ≡ 0)
  loss_none k m q p z = previews.none w bytes second d e (ap has_cascade z)

  pub crash_none : (p : ℕ) → read bytes ≡ crashes p → (d.fifo_number ≡ 0) × (d.causal_number ≡ 0)
  crash_none p z = previews.none w bytes second d e (ap has_cascade z)

  -- where they are 0 every log stays
  stays_here : (d.fifo_number ≡ 0) × (d.causal_number ≡ 0) → (log : Bool)
      → log_words shown at log ≡ log_words w at log
  stays_here z log =
      appends.behind log ∙ ap (λ (l : List ℕ). log_words w at log ++ l) (empty (appends.news log) (none log))
      ∙ append_none (log_words w at log)
    where
      none : (log : Bool) → length (appends.news log) ≡ 0
      none true = appends.causal_news ∙ z.1
      none false = appends.fifo_news ∙ z.0

  pub all_stay : (d.fifo_number ≡ 0) × (d.causal_number ≡ 0) → (r : ℕ) (log : Bool)
      → log_words shown r log ≡ log_words w r log
  all_stay z r log = elim (ℕ_discrete r at) [
    | yes y ↦ subst (λ x. log_words shown x log ≡ log_words w x log) (sym y) (stays_here z log)
    | no y ↦ elsewhere r log y
  ]

-- what the second slice held does not matter: another is shown the same words, with the same numbers
module _ (w bytes first second : List ℕ) (d : NewDeliveries) (e : preview_reply w bytes first ≡ gives d)
    (long : length second ≡ 20480) where
  first_long : length first ≡ 20480
  first_long = elim (ℕ_discrete (length first) 20480) [
    | yes z ↦ z
    | no z ↦ let y = sym (other_length w bytes first z) ∙ e in cc
  ]

  taken : step_refusal w bytes ≡ 0
  taken = elim (ℕ_discrete (step_refusal w bytes) 0) [
    | yes z ↦ z
    | no z ↦ let y = sym (same_number w bytes first first_long (step_refusal w bytes) refl z) ∙ e in cc
  ]

  pub whichever_words : previewed_words w bytes first ≡ previewed_words w bytes second
  whichever_words = same_words w bytes first first_long taken ∙ sym (same_words w bytes second long taken)

  pub whichever_numbers : (c : NewDeliveries) → preview_reply w bytes second ≡ gives c
      → (d.fifo_number ≡ c.fifo_number) × (d.causal_number ≡ c.causal_number)
  whichever_numbers c f =
      let log : Bool → List ℕ → ℕ = λ b u. length (log_words u (step_process (read bytes)) b) in (
        omega (
          arith,
          ap (log false) whichever_words,
          fifo_longer w bytes first d e,
          fifo_longer w bytes second c f,
        ),
        omega (
          arith,
          ap (log true) whichever_words,
          causal_longer w bytes first d e,
          causal_longer w bytes second c f,
        ),
      )

-- ---- in a run
-- n of the events are causal deliveries
pub data Delivered : List Event → ℕ → Type 0 where
  none : Delivered [] 0
  multicast : {p m n : ℕ} {es : List Event} → Delivered es n → Delivered (sent p m ∷ es) n
  one : {p m n : ℕ} {es : List Event} → Delivered es n → Delivered (got p m ∷ es) (1 + n)

counted : (es : List Event) → Delivered es (gots es)
unfolding gots
counted [] = none
counted (sent p m ∷ es) = multicast (counted es)
counted (got p m ∷ es) = subst (Delivered (got p m ∷ es)) (omega arith) (one (counted es))

counts : {es : List Event} {n : ℕ} → Delivered es n → gots es ≡ n
unfolding gots
counts none = refl
counts (multicast h) = counts h
counts (one h) = omega (arith, counts h)

module _ (r : Run (List ℕ)) (bytes second : List ℕ) (d : NewDeliveries)
    (e : preview_reply r.now bytes second ≡ gives d) where
  -- the run after the step
  abbrev then : Run (List ℕ)
  then = act on_words r (given bytes)

  -- has the words shown
  pub words_shown : then.now ≡ previewed_words r.now bytes second
  words_shown = (previews.in_run r bytes second d e).0

  -- and as many deliveries more as the causal number says
  pub deliveries_shown : (n : ℕ) → Delivered r.seen n → Delivered then.seen (n + d.causal_number)
  deliveries_shown n h =
      subst (Delivered then.seen)
      ((previews.in_run r bytes second d e).1 ∙ ap (λ (k : ℕ). k + d.causal_number) (counts h))
      (counted then.seen)

  -- which is by how much the causal log of its process is longer
  pub deliveries_logged : (n m : ℕ) → Delivered r.seen n → Delivered then.seen m
      → length (log_words then.now (step_process (read bytes)) true) + n
      ≡ length (log_words r.now (step_process (read bytes)) true) + m
  deliveries_logged n m h k =
      omega (
        arith,
        ap (λ (u : List ℕ). length (log_words u (step_process (read bytes)) true)) words_shown,
        causal_longer r.now bytes second d e,
        counts k,
        counts (deliveries_shown n h),
      )
