-- One FIFO delivery with the index: what is ready after it, and where an OK was sent. Assumes nothing.
use Rattle.std.specs.Prelude.{◌≡◌, Bool, true, false, not, ◌≢◌, ◌⊎◌, ℕ, zero, suc, ◌+◌, ◌<◌, ltb, eqb}
use Rattle.std.proofs.Math.Path.{refl, ap}
use Rattle.std.proofs.Common.{sym, ap₂, ◌∙◌, subst, inl, inr, arith, ne_eqb, lt-ltb}
use Rattle.std.proofs.Math.Decide.{ℕ_discrete}
use Rattle.definitions.specs.General.{pick, bit, every}
use Rattle.base.specs.Tests.{both, both_l, both_r, both_i, bool_cases, clash}
use Rattle.sets.specs.Lowest.{Has}
use Rattle.index.specs.Index.{is_from, Logs, frame}
use Rattle.sends.specs.Sends.{oks_keep as keep_oks}
use Rattle.index.specs.Changes.{fifo_here}
use Rattle.sends.proofs.Oks.{oks_due, oks_ready}
use Rattle.definitions.specs.World.{size, count, group, next, held, fifo_length, sender, number, flight, State, put, outside_fifo}
use Rattle.world.specs.Layout.{put_same, put_other}
use Rattle.world.specs.Kept.{causal_all_keeps, oks_keep}
use Rattle.definitions.specs.Machine.{with_tables, addressees, in_turn, marked, ready, merge, causal_one, causal_all, appended, raised_next, due, send_ok, send_oks, fifo_one}

-- the state before the OKs
abbrev pub before : State → ℕ → ℕ → State
before s p m = raised_next (causal_all (appended s p m) p) p (s (sender m))

-- ---- what a turn leaves
module _ (s : State) (p m : ℕ) where
  pub turn_count : fifo_one s p m count ≡ s count
  unfolding fifo_one raised_next appended causal_one merge with_tables put
  turn_count =
      oks_keep (λ t. t count) p (λ t x v. refl) (before s p m) (s (sender m)) (before s p m count)
      ∙ causal_all_keeps (λ t. t count) p (λ t i. refl) (appended s p m)

  pub turn_sender : (x : ℕ) → fifo_one s p m (sender x) ≡ s (sender x)
  unfolding fifo_one raised_next appended causal_one merge with_tables put
  turn_sender x =
      oks_keep (λ t. t (sender x)) p (λ t x v. refl) (before s p m) (s (sender m)) (before s p m count)
      ∙ causal_all_keeps (λ t. t (sender x)) p (λ t i. refl) (appended s p m)

  pub turn_longer : fifo_one s p m (fifo_length p) ≡ s (fifo_length p) + 1
  unfolding fifo_one raised_next appended causal_one merge with_tables put
  turn_longer =
      oks_keep (λ t. t (fifo_length p)) p (λ t x v. refl) (before s p m) (s (sender m)) (before s p m count)
      ∙ causal_all_keeps (λ t. t (fifo_length p)) p (λ t i. refl) (appended s p m)
      ∙ put_same s (fifo_length p) (fifo_length p) (s (fifo_length p) + 1) refl

  before_count : before s p m count ≡ s count
  unfolding raised_next appended causal_one merge with_tables put
  before_count = causal_all_keeps (λ t. t count) p (λ t i. refl) (appended s p m)

  before_sender : (x : ℕ) → before s p m (sender x) ≡ s (sender x)
  unfolding raised_next appended causal_one merge with_tables put
  before_sender x = causal_all_keeps (λ t. t (sender x)) p (λ t i. refl) (appended s p m)

  before_flight : (x : ℕ) → before s p m (flight x 2 p) ≡ s (flight x 2 p)
  unfolding raised_next appended causal_one merge with_tables put
  before_flight x = causal_all_keeps (λ t. t (flight x 2 p)) p (λ t i. refl) (appended s p m)

  pub before_from : (q x : ℕ) → is_from (frame (before s p m)) q x ≡ is_from (frame s) q x
  before_from q x = ap₂ (λ (a b : ℕ). both (ltb x a) (eqb b q)) before_count (before_sender x)

  -- a message of another sender is ready as before
  appended_ready : (x : ℕ) → m ≢ x → ready (appended s p m) p x ≡ ready s p x
  unfolding ready appended put
  appended_ready x d =
      ap (λ (b : Bool). both (both (both (eqb (s (held p x)) 1) b) (in_turn s p x)) (every (s size) (marked s p x)))
      (fifo_here s p m x ∙ ap (λ (b : Bool). both (not b) (outside_fifo s p x)) (ne_eqb m x d))

  causal_ready : (t : State) (x : ℕ) → ready (causal_all t p) p x ≡ ready t p x
  unfolding ready causal_one merge with_tables put
  causal_ready t x = causal_all_keeps (λ u. ready u p x) p (λ u i. refl) t

  raised_ready : (t : State) (q x : ℕ) → q ≢ t (sender x) → ready (raised_next t p q) p x ≡ ready t p x
  unfolding ready raised_next put
  raised_ready t q x d =
      ap (λ (v : ℕ). both (both (both (eqb (t (held p x)) 1) (outside_fifo t p x)) (eqb (t (number x (t (group p)))) v))
      (every (t size) (marked t p x)))
      (put_other t (next p q) (next p (t (sender x))) (t (next p q) + 1)
      (λ e. d (let z : q ≡ t (sender x) = cc in z)))

  causal_sender : (x : ℕ) → causal_all (appended s p m) p (sender x) ≡ s (sender x)
  unfolding appended causal_one merge with_tables put
  causal_sender x = causal_all_keeps (λ t. t (sender x)) p (λ t i. refl) (appended s p m)

  pub turn_other : (x : ℕ) → s (sender m) ≢ s (sender x) → ready (fifo_one s p m) p x ≡ ready s p x
  unfolding fifo_one
  turn_other x d =
      oks_ready p (s (sender m)) (before s p m count) (before s p m) x
      ∙ raised_ready (causal_all (appended s p m) p) (s (sender m)) x (λ e. d (e ∙ causal_sender x))
      ∙ causal_ready (appended s p m) x
      ∙ appended_ready x (λ e. d (ap (λ (y : ℕ). s (sender y)) e))

  -- of the same sender, as the OKs find it
  pub turn_same : (x : ℕ) → ready (fifo_one s p m) p x ≡ ready (before s p m) p x
  unfolding fifo_one
  turn_same x = oks_ready p (s (sender m)) (before s p m count) (before s p m) x

-- ---- where no OK is owed, none is sent
oks_flight : (s : State) (p q x k : ℕ) → (x < k → due s p q x ≡ false) → send_oks s p q k (flight x 2 p) ≡ s (flight x 2 p)
unfolding send_oks send_ok
oks_flight s p q x zero h = refl
oks_flight s p q x (suc k) h = go (ℕ_discrete k x) ∙ oks_flight s p q x k (λ l. h (omega arith))
  where
    t : State
    t = send_oks s p q k

    pass : (b : Bool) → k ≢ x → pick b (put t (flight k 2 p) (addressees t k)) t (flight x 2 p) ≡ t (flight x 2 p)
    pass true d = put_other t (flight k 2 p) (flight x 2 p) (addressees t k) (λ e. d (let z : k ≡ x = cc in z))
    pass false d = refl

    go : Dec (k ≡ x) → pick (due t p q k) (put t (flight k 2 p) (addressees t k)) t (flight x 2 p) ≡ t (flight x 2 p)
    go (yes e) =
        ap (λ (b : Bool). pick b (put t (flight k 2 p) (addressees t k)) t (flight x 2 p))
        (oks_due p q k s q k ∙ ap (due s p q) e ∙ h (omega arith))
    go (no d) = pass (due t p q k) d

due_from : (t : State) (p q x : ℕ) → x < t count → due t p q x ≡ true → is_from (frame t) q x ≡ true
unfolding due
due_from t p q x k d =
    both_i (ltb x (t count)) (eqb (t (sender x)) q) (lt-ltb x (t count) k)
    (both_r (eqb (t (held p x)) 1) (eqb (t (sender x)) q)
    (both_l (both (eqb (t (held p x)) 1) (eqb (t (sender x)) q)) (in_turn t p x) d))

pub turn_unsent : (s : State) (p m set : ℕ)
    → Has set (λ x. both (is_from (frame (before s p m)) (s (sender m)) x) (due (before s p m) p (s (sender m)) x))
    → (x : ℕ) → x < 64 → bit set x ≡ false → fifo_one s p m (flight x 2 p) ≡ s (flight x 2 p)
unfolding fifo_one
turn_unsent s p m set h x l e =
    oks_flight t p q x (t count) (λ k. idle k (bool_cases (due t p q x))) ∙ before_flight s p m x
  where
    t : State
    t = before s p m

    q : ℕ
    q = s (sender m)

    idle : x < t count → (due t p q x ≡ true) ⊎ (due t p q x ≡ false) → due t p q x ≡ false
    idle k (inr d) = d
    idle k (inl d) = clash (h x l ∙ ap₂ both (due_from t p q x k d) d) e

-- ---- what the OKs tell, of the turn
module _ (s : State) (p m : ℕ) (hp : p < 16) where
  abbrev at : ℕ → State
  at q = raised_next (causal_all (appended s p m) p) p q

  abbrev pub Told : ℕ → ℕ → ℕ → Type 0
  Told q r t =
      Has r (λ k. both (is_from (frame (at q)) q k) (ready (at q) p k))
      × Has t (λ k. both (is_from (frame (at q)) q k) (due (at q) p q k))

  pub turn_told : {q : ℕ} (r t : ℕ) → q ≡ s (sender m) → Told q r t
      → Has r (λ k. both (is_from (frame s) (s (sender m)) k) (ready (fifo_one s p m) p k))
      × ((k : ℕ) → k < 64 → bit t k ≡ false → fifo_one s p m (flight k 2 p) ≡ s (flight k 2 p))
  turn_told {q} r t e h =
      let z = subst (λ (y : ℕ). Told y r t) e h in (
        λ k l. z.0 k l ∙ ap₂ both (before_from s p m (s (sender m)) k) (sym (turn_same s p m k)),
        turn_unsent s p m t z.1,
      )

-- ---- OKs keep the logs
pub oks_logs : (p q k : ℕ) (s : State) → Logs s p → Logs (send_oks s p q k) p
unfolding put
oks_logs p q k s h = keep_oks p q (λ t. Logs t p) (λ t m z. z) k s h

pub next_logs : (p q : ℕ) (s : State) → Logs s p → Logs (raised_next s p q) p
unfolding raised_next put
next_logs p q s h = h
