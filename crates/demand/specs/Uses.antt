-- The sentences of demand 3 as a reader takes them from `demand_3`, on the words that the calls give: each with its
-- hypotheses written out, and no more. A weaker statement of the demand would not give them. Assumes nothing.
use Rattle.std.specs.Prelude.{◌≡◌, Bool, ◌≢◌, ◌↔◌, eqb, length, get_or}
use Rattle.std.proofs.Math.Path.{refl, ap}
use Rattle.std.proofs.Common.{◌∙◌, subst, eq-eqb, eqb-true}
use Rattle.std.proofs.Math.Bool.{true, false}
use mathlib.Core.List.{List, [], ◌∷◌, ◌++◌, append_assoc}
use Prim.Native.Nat.{ℕ, zero, suc, ◌+◌, ◌≤◌, ◌<◌}
use Rattle.definitions.specs.General.{pick, Reply, gives, refuses, In, bit}
use Rattle.definitions.specs.World.{size, count, group, trust, up, mask, sender, view}
use Rattle.definitions.specs.Steps.{arrives, is_up, step}
use Rattle.definitions.specs.Settle.{Choice, letter, nothing, Ending, done, stopped, Settled, Manner, choice, settle_from}
use Rattle.definitions.specs.History.{Before, Run, Item, settling, taken as stepped, settles, act, run, names, InForce, AllAlong, TrustRule}
use Rattle.definitions.specs.Words.{needs_world, making_refusal, step_words, settle_words, settled_words, settle_reply, log_words, on_words, started_words}
use Rattle.definitions.specs.Demand.{AtMost, done_within, stopped_within, SaysDone, says_done}
use Rattle.demand.specs.Theorem.{demand_3}

-- m stands in the list.
abbrev Has : List ℕ → ℕ → Type 0
Has xs m = In (length xs) (λ i. get_or xs i 0) m

-- q is a process that is up, on the words w.
abbrev Up : List ℕ → ℕ → Type 0
Up w q = (q < view w size) × (view w (up q) ≡ 1)

-- ---- answers of settle
-- the number of arrivals in an answer
abbrev arrivals : Reply Ending → ℕ
arrivals (gives (done n)) = n
arrivals (gives (stopped n)) = n
arrivals (refuses n) = 0

named : {k : ℕ} {x y : Reply Ending} → AtMost k x → x ≡ y → arrivals y ≤ k
named {k} (done_within i l) e = subst (λ z. arrivals z ≤ k) e l
named {k} (stopped_within i l) e = subst (λ z. arrivals z ≤ k) e l

answer : {x : Reply Ending} → SaysDone x → (n : ℕ) × (x ≡ gives (done n))
answer (says_done n) = (n, refl)

-- ---- the run of a list with one item more
run_none : (r : Run (List ℕ)) → run on_words r [] ≡ r
unfolding run
run_none r = refl

run_last : (r : Run (List ℕ)) (is : List Item) (i : Item)
    → run on_words r (is ++ (i ∷ [])) ≡ act on_words (run on_words r is) i
unfolding run
run_last r [] i = refl
run_last r (j ∷ is) i = run_last (act on_words r j) is i

-- ---- the words of a run after a settle are those that the call leaves
-- a letter is named, or this is the end
abbrev goes : {S : Type 0} → Choice → (ℕ → ℕ → ℕ → ℕ → Settled S) → S → ℕ → Settled S
goes {S} c more s n =
    elim c as (λ _. Settled S) [ letter k m q p ↦ more k m q p | nothing ↦ record { world = s; ending = done n } ]

module _ (o : Manner) where
  abbrev run_settle : ℕ → ℕ → ℕ → Run (List ℕ) → Settled (Run (List ℕ))
  run_settle = settle_from (λ t u. choice o t (view u.now)) (λ u k m q p. stepped on_words u (arrives k m q p))

  abbrev call_settle : ℕ → ℕ → ℕ → List ℕ → Settled (List ℕ)
  call_settle = settle_from (λ t u. choice o t (view u)) (λ u k m q p. step_words u (arrives k m q p))

  same_goes : (n : ℕ) (r : Run (List ℕ)) (f : ℕ → ℕ → ℕ → ℕ → Settled (Run (List ℕ)))
      (g : ℕ → ℕ → ℕ → ℕ → Settled (List ℕ))
      → ((k m q p : ℕ) → (f k m q p).world.now ≡ (g k m q p).world) → (c : Choice)
      → (goes c f r n).world.now ≡ (goes c g r.now n).world
  same_goes n r f g more (letter k m q p) = more k m q p
  same_goes n r f g more nothing = refl

  same_now : (b n t : ℕ) (r : Run (List ℕ)) → (run_settle b n t r).world.now ≡ (call_settle b n t r.now).world
  unfolding settle_from
  same_now zero n t r =
      same_goes n r (λ k m q p. record { world = r; ending = stopped n })
      (λ k m q p. record { world = r.now; ending = stopped n }) (λ k m q p. refl) (choice o t (view r.now))
  same_now (suc b) n t r =
      same_goes n r (λ k m q p. run_settle b (n + 1) (p + 1) (stepped on_words r (arrives k m q p)))
      (λ k m q p. call_settle b (n + 1) (p + 1) (step_words r.now (arrives k m q p)))
      (λ k m q p. same_now b (n + 1) (p + 1) (stepped on_words r (arrives k m q p))) (choice o t (view r.now))

  settle_leaves : (b : ℕ) (r : Run (List ℕ)) → (act on_words r (settling o b)).now ≡ settled_words o r.now b
  unfolding act settles settled_words settle_words step
  settle_leaves b r = go (eqb (needs_world r.now 0) 0)
    where
      go : (x : Bool)
          → (pick x (run_settle b 0 0 r).world r).now ≡ pick x (call_settle b 0 0 r.now).world r.now
      go true = same_now b 0 0 r
      go false = refl

module _ (w setup : List ℕ) (items : List Item) (taken : making_refusal w setup ≡ 0) where
  -- the run of the list, and the words after it
  abbrev all : Run (List ℕ)
  all = run on_words (started_words w setup) items

  abbrev end : List ℕ
  end = all.now

  -- ---- conclusion 1
  -- what is in the causal log is in the FIFO log
  pub causal_in_fifo : (p m : ℕ) → p < view end size → Has (log_words end p true) m
      → Has (log_words end p false) m
  causal_in_fifo p m hp c = (((demand_3 w setup items taken).order.exact p m hp).0 c).0

  -- and so is every message to the group of p that precedes it
  pub past_in_fifo : (p m x : ℕ) → p < view end size → Has (log_words end p true) m → Before all.seen x m
      → bit (view end (mask x)) (view end (group p)) ≡ true → Has (log_words end p false) x
  past_in_fifo p m x hp c b t = (((demand_3 w setup items taken).order.exact p m hp).0 c).1 x b t

  -- what is in the FIFO log with all of these is in the causal log
  pub in_causal : (p m : ℕ) → p < view end size → Has (log_words end p false) m
      → ((x : ℕ) → Before all.seen x m → bit (view end (mask x)) (view end (group p)) ≡ true
      → Has (log_words end p false) x)
      → Has (log_words end p true) m
  in_causal p m hp f past = ((demand_3 w setup items taken).order.exact p m hp).1 (f, past)

  -- ---- conclusion 2
  pub no_message_twice : (p i j : ℕ) → p < view end size → i < j → j < length (log_words end p true)
      → get_or (log_words end p true) i 0 ≢ get_or (log_words end p true) j 0
  no_message_twice p i j hp a h = (demand_3 w setup items taken).order.once p hp i j a h

  pub none_ahead : (p i j : ℕ) → p < view end size
      → i < length (log_words end p true)
      → j < length (log_words end p true)
      → Before all.seen (get_or (log_words end p true) j 0) (get_or (log_words end p true) i 0)
      → j < i
  none_ahead p i j hp hi hj b = (demand_3 w setup items taken).order.ordered p i j hp hi hj b

  -- ---- both of what a settle leaves, of either manner and with any budget: every causal log keeps causal order
  module _ (o : Manner) (b : ℕ) where
    -- the run of the list with that settle at its end, and the words that it leaves
    abbrev with_settle : List Item
    with_settle = items ++ (settling o b ∷ [])

    abbrev whole : Run (List ℕ)
    whole = run on_words (started_words w setup) with_settle

    abbrev left : List ℕ
    left = settled_words o end b

    left_is : whole.now ≡ left
    left_is =
        ap (λ (r : Run (List ℕ)). r.now) (run_last (started_words w setup) items (settling o b)) ∙ settle_leaves o b all

    pub causal_exactly : (p m : ℕ) → p < view left size
        → Has (log_words left p true) m
        ↔ (Has (log_words left p false) m
        × ((x : ℕ) → Before whole.seen x m → bit (view left (mask x)) (view left (group p)) ≡ true
        → Has (log_words left p false) x))
    causal_exactly = rw left_is at (demand_3 w setup with_settle taken).order.exact

    pub causal_once : (p i j : ℕ) → p < view left size → i < j → j < length (log_words left p true)
        → get_or (log_words left p true) i 0 ≢ get_or (log_words left p true) j 0
    causal_once p i j hp a h = rw left_is at (demand_3 w setup with_settle taken).order.once p hp i j a h

    pub causal_ordered : (p i j : ℕ) → p < view left size
        → i < length (log_words left p true)
        → j < length (log_words left p true)
        → Before whole.seen (get_or (log_words left p true) j 0) (get_or (log_words left p true) i 0)
        → j < i
    causal_ordered = rw left_is at (demand_3 w setup with_settle taken).order.ordered

  -- ---- settle's bound, of both settles: whatever its budget, its answer names at most 33,792 arrivals
  pub few_done : (o : Manner) (b n : ℕ) → settle_reply o end b ≡ gives (done n) → n ≤ 33792
  few_done o b n e = named ((demand_3 w setup items taken).bounded o b) e

  pub few_stopped : (o : Manner) (b n : ℕ) → settle_reply o end b ≡ gives (stopped n) → n ≤ 33792
  few_stopped o b n e = named ((demand_3 w setup items taken).bounded o b) e

  -- ---- conclusion 3, of a list for which the trust rule held
  -- the words after a first part of the list
  abbrev after : List Item → List ℕ
  after before = (run on_words (started_words w setup) before).now

  -- after each first part of the list, whoever is up trusts for every process q that is up at the end one that is
  -- up at the end and of the group of q; and at the end whoever is up trusts only who is up
  module _
      (in_force : (before rest : List Item) → before ++ rest ≡ items → (p q : ℕ)
      → Up (after before) p → q < view (after before) size → view end (up q) ≡ 1
      → (v : ℕ) × (v < view (after before) size) × (view end (up v) ≡ 1)
      × (view (after before) (group v) ≡ view (after before) (group q))
      × (bit (view (after before) (trust p)) v ≡ true))
      (fair : (p q : ℕ) → Up end p → q < view end size → bit (view end (trust p)) q ≡ true → view end (up q) ≡ 1)
    where
      -- that is the trust rule
      at_run : (before rest : List Item) (r : Run (List ℕ)) → run on_words (started_words w setup) before ≡ r
          → before ++ rest ≡ items → InForce (is_up (view end)) (view r.now)
      at_run before rest r e d = subst (λ t. InForce (is_up (view end)) (view t.now)) e here
        where
          here : InForce (is_up (view end)) (view (after before))
          here p q hp hq u l =
              let (v, hv, lv, gv, bv) = in_force before rest d p q (hp, u) hq (eqb-true (view end (up q)) 1 l) in
              names v hv (eq-eqb (view end (up v)) 1 lv) gv bv

      all_along : (before rest : List Item) (r : Run (List ℕ)) → run on_words (started_words w setup) before ≡ r
          → before ++ rest ≡ items → AllAlong on_words (is_up (view end)) r rest
      unfolding AllAlong
      all_along before [] r e d = at_run before [] r e d
      all_along before (i ∷ rest) r e d = (
        at_run before (i ∷ rest) r e d,
        all_along (before ++ (i ∷ [])) rest (act on_words r i)
            (run_last (started_words w setup) before i ∙ ap (λ (t : Run (List ℕ)). act on_words t i) e)
            (append_assoc before (i ∷ []) rest ∙ d),
      )

      pub trust_rule : TrustRule on_words (started_words w setup) items
      trust_rule = record {
        in_force = all_along [] items (started_words w setup) (run_none (started_words w setup)) refl;
        fair = λ p q hp hq u b. fair p q (hp, u) hq b;
      }

      -- a settle, of either manner, allowed at least 33,792 arrivals
      module _ (o : Manner) (b : ℕ) (enough : 33792 ≤ b) where
        abbrev settled : List ℕ
        settled = settled_words o end b

        -- says done
        pub is_done : (n : ℕ) × (settle_reply o end b ≡ gives (done n))
        is_done = answer ((demand_3 w setup items taken).settles trust_rule o b enough).0

        -- brings each message of a live process to every live addressee
        pub live_sender : (m q : ℕ) → m < view settled count → Up settled (view settled (sender m))
            → Up settled q → bit (view settled (mask m)) (view settled (group q)) ≡ true
            → Has (log_words settled q false) m
        live_sender m q hm s l t = ((demand_3 w setup items taken).settles trust_rule o b enough).1.valid m q hm s l t

        -- and each that any process FIFO-delivered, whether it is up or not
        pub any_delivered : (m p q : ℕ) → p < view settled size → Has (log_words settled p false) m
            → Up settled q → bit (view settled (mask m)) (view settled (group q)) ≡ true
            → Has (log_words settled q false) m
        any_delivered m p q hp f l t =
            ((demand_3 w setup items taken).settles trust_rule o b enough).1.uniform m p q hp f l t
