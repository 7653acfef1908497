-- What each part of a step leaves as it was, the whole leaves: the causal deliveries, the OKs and the cascade at
-- p, and an arrival up to its cascade. What is left may be a cell or any other reading of a state. Assumes
-- nothing.
use Rattle.std.specs.Prelude.{◌≡◌, Bool, true, false, ◌≢◌, eqb}
use Rattle.std.proofs.Math.Path.{refl}
use Rattle.std.proofs.Common.{◌∙◌, eqb-true}
use Rattle.std.proofs.lemmas.Bool.{eqb-false}
use Prim.Native.Nat.{ℕ, zero, suc, ◌-◌}
use Rattle.definitions.specs.General.{pick, with}
use Rattle.definitions.specs.World.{count, fifo_length, causal_length, held, marks, flight, State, put}
use Rattle.definitions.specs.Machine.{addressees, in_turn, ready, deliverable_at, causal_one, causal_all, due, send_ok, send_oks, fifo_one, cascade, leave, mark, hold, received}
use Rattle.base.specs.Loop.{loop_keeps}

-- ---- the cascade at p
module _ {A : Type 0} (f : State → A) (p : ℕ) where
  -- all causal deliveries
  pub causal_all_keeps : ((t : State) (i : ℕ) → f (causal_one t p i) ≡ f t)
      → (s : State) → f (causal_all s p) ≡ f s
  unfolding causal_all
  causal_all_keeps one s =
      loop_keeps (λ t. t (fifo_length p)) (λ t. deliverable_at t p) (λ t. causal_one t p) (λ t. f t ≡ f s)
      (λ t i _ _ _ e. one t i ∙ e) (s (fifo_length p) - s (causal_length p)) s refl

  -- all OKs
  pub oks_keep : ((t : State) (m v : ℕ) → f (put t (flight m 2 p) v) ≡ f t)
      → (s : State) (q k : ℕ) → f (send_oks s p q k) ≡ f s
  unfolding send_oks send_ok
  oks_keep one s q zero = refl
  oks_keep one s q (suc k) = go (due t p q k) ∙ oks_keep one s q k
    where
      t : State
      t = send_oks s p q k

      go : (b : Bool) → f (pick b (put t (flight k 2 p) (addressees t k)) t) ≡ f t
      go true = one t k (addressees t k)
      go false = refl

  -- all turns
  pub cascade_keeps : ((t : State) (m : ℕ) → f (fifo_one t p m) ≡ f t) → (s : State) → f (cascade s p) ≡ f s
  unfolding cascade
  cascade_keeps one s =
      loop_keeps (λ t. t count) (λ t. ready t p) (λ t. fifo_one t p) (λ t. f t ≡ f s)
      (λ t m _ _ _ e. one t m ∙ e) (s count - s (fifo_length p)) s refl

-- ---- a mark, and a message held, by cases
-- the mark of q for m is set at p, if the letter is an OK
pub mark_cases : (P : State → Type 0) (s : State) (k m q p : ℕ)
    → (k ≡ 2 → P (put s (marks p m) (with (s (marks p m)) q))) → (k ≢ 2 → P s) → P (mark s k m q p)
unfolding mark
mark_cases P s k m q p set unset = go (eqb k 2) refl
  where
    go : (b : Bool) → eqb k 2 ≡ b → P (pick b (put s (marks p m) (with (s (marks p m)) q)) s)
    go true e = set (eqb-true k 2 e)
    go false e = unset (eqb-false k 2 e)

-- p holds m, and answers it by a letter of kind k to all addressees
abbrev pub holding : State → ℕ → ℕ → ℕ → State
holding s p m k = put (put s (held p m) 1) (flight m k p) (addressees s m)

-- p holds m now, if it did not before, and answers it
pub hold_cases : (P : State → Type 0) (s : State) (p m : ℕ) → (s (held p m) ≡ 1 → P s)
    → (s (held p m) ≢ 1 → P (holding s p m (pick (in_turn s p m) 2 1))) → P (hold s p m)
unfolding hold
hold_cases P s p m old new = go (eqb (s (held p m)) 1) refl
  where
    go : (b : Bool) → eqb (s (held p m)) 1 ≡ b → P (pick b s (holding s p m (pick (in_turn s p m) 2 1)))
    go true e = old (eqb-true (s (held p m)) 1 e)
    go false e = new (eqb-false (s (held p m)) 1 e)

-- ---- an arrival before its cascade
module _ (s : State) (k m q p : ℕ) where
  -- what neither a letter nor a mark changes, up to where the mark is set
  pub marked_keeps : {A : Type 0} (f : State → A) → ((t : State) (j o v : ℕ) → f (put t (flight m j o) v) ≡ f t)
      → ((t : State) (v : ℕ) → f (put t (marks p m) v) ≡ f t) → f (mark (leave s k m q p) k m q p) ≡ f s
  unfolding leave
  marked_keeps f fly set =
      mark_cases (λ t. f t ≡ f s) (leave s k m q p) k m q p (λ _. set _ _ ∙ fly s k q _) (λ _. fly s k q _)

  -- nor that a message is held
  pub received_keeps : {A : Type 0} (f : State → A) → ((t : State) (j o v : ℕ) → f (put t (flight m j o) v) ≡ f t)
      → ((t : State) (v : ℕ) → f (put t (marks p m) v) ≡ f t)
      → ((t : State) (v : ℕ) → f (put t (held p m) v) ≡ f t) → f (received s k m q p) ≡ f s
  received_keeps f fly set has =
      hold_cases (λ t. f t ≡ f s) (mark (leave s k m q p) k m q p) p m (λ _. marked_keeps f fly set)
      (λ _. fly _ _ p _ ∙ has _ _ ∙ marked_keeps f fly set)
