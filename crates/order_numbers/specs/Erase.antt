-- Order numbers have no part in what a step does to anything else: a step with zeros on a state with zeros for all
-- of them is the step, erased, at every state. What is erased of a cell depends on that cell alone, so that
-- every store and every loop of the machine passes through the erasure. Assumes nothing.
use Rattle.std.specs.Prelude.{◌≡◌, refl, Bool, true, false, ◌⊎◌, ℕ, zero, suc, ◌+◌, ◌-◌, eqb}
use Rattle.std.proofs.Common.{sym, ap, ◌∙◌, subst, inl, inr}
use Rattle.std.proofs.Math.Path.{fun_ext}
use Rattle.definitions.specs.General.{pick}
use Rattle.definitions.specs.World.{Cell, size, count, rule, group, trust, counter, sequence, next, delivered, up, fifo_length, causal_length, held, marks, fifo, causal, sender, mask, stamp, number, flight, order, unused, State, put, has_group}
use Rattle.definitions.specs.Machine.{Tables, with_tables, addressees, in_turn, ready, lowest_short, lowest_awaited, short_of, awaited, deliverable, deliverable_at, merge, causal_one, causal_all, appended, raised_next, due, send_ok, send_oks, fifo_one, cascade, raised, stamped, numbered, posted, multicast, leave, mark, hold, arrival, trust_set, crash}
use Rattle.definitions.specs.Steps.{Step, multicasts, arrives, loses, trusts, crashes, malformed, good_mask, refusal, accepted, step, after}
use Rattle.definitions.specs.OrderNumbers.{erased, erased_step}
use Rattle.base.specs.Loop.{loop_related}
use Rattle.world.specs.Layout.{put_same, put_other, put_at}

-- ---- one cell
-- a cell is a message's order number, or is left as it was
pub order_or_same : (c : Cell) → ((m : ℕ) × (c ≡ order m)) ⊎ ((s : State) → erased s c ≡ s c)
unfolding erased
order_or_same size = inr (λ s. refl)
order_or_same count = inr (λ s. refl)
order_or_same rule = inr (λ s. refl)
order_or_same (group p) = inr (λ s. refl)
order_or_same (trust p) = inr (λ s. refl)
order_or_same (counter p g q) = inr (λ s. refl)
order_or_same (sequence p g) = inr (λ s. refl)
order_or_same (next p q) = inr (λ s. refl)
order_or_same (delivered p q) = inr (λ s. refl)
order_or_same (up p) = inr (λ s. refl)
order_or_same (fifo_length p) = inr (λ s. refl)
order_or_same (causal_length p) = inr (λ s. refl)
order_or_same (held p m) = inr (λ s. refl)
order_or_same (marks p m) = inr (λ s. refl)
order_or_same (fifo p i) = inr (λ s. refl)
order_or_same (causal p i) = inr (λ s. refl)
order_or_same (sender m) = inr (λ s. refl)
order_or_same (mask m) = inr (λ s. refl)
order_or_same (stamp m g q) = inr (λ s. refl)
order_or_same (number m g) = inr (λ s. refl)
order_or_same (flight m k q) = inr (λ s. refl)
order_or_same (order m) = inl (m, refl)
order_or_same (unused i) = inr (λ s. refl)

-- what stands in a cell after the erasure depends on what stood in that cell
pub erased_same : (s t : State) (c : Cell) → s c ≡ t c → erased s c ≡ erased t c
unfolding erased
erased_same s t c e = go (order_or_same c)
  where
    go : ((m : ℕ) × (c ≡ order m)) ⊎ ((u : State) → erased u c ≡ u c) → erased s c ≡ erased t c
    go (inl (m, d)) = subst (λ (x : Cell). erased s x ≡ erased t x) (sym d) refl
    go (inr f) = f s ∙ e ∙ sym (f t)

-- a state with zeros for all of them is its own erasure
pub erased_zeros : (s : State) → ((m : ℕ) → s (order m) ≡ 0) → erased s ≡ s
unfolding erased
erased_zeros s z = fun_ext (λ c. go c (order_or_same c))
  where
    go : (c : Cell) → ((m : ℕ) × (c ≡ order m)) ⊎ ((u : State) → erased u c ≡ u c) → erased s c ≡ s c
    go c (inl (m, d)) = subst (λ (x : Cell). erased s x ≡ s x) (sym d) (sym (z m))
    go c (inr f) = f s

-- ---- stores
-- a word stored: what the erasure leaves of it
put_erased : (s : State) (c : Cell) (v : ℕ) → put (erased s) c (erased (λ _. v) c) ≡ erased (put s c v)
put_erased s c v = fun_ext (λ d.
    put_at (erased s) c d (erased (λ _. v) c) (λ x. x ≡ erased (put s c v) d)
    (λ e. ap (erased (λ _. v)) e ∙ erased_same (λ _. v) (put s c v) d (sym (put_same s c d v e)))
    (λ n. erased_same s (put s c v) d (sym (put_other s c d v n))))

-- tables stored
tables_at : (s : State) (t : Tables) (c : Cell) → with_tables (erased s) t c ≡ erased (with_tables s t) c
unfolding erased with_tables
tables_at s t size = refl
tables_at s t count = refl
tables_at s t rule = refl
tables_at s t (group p) = refl
tables_at s t (trust p) = refl
tables_at s t (counter p g q) = refl
tables_at s t (sequence p g) = refl
tables_at s t (next p q) = refl
tables_at s t (delivered p q) = refl
tables_at s t (up p) = refl
tables_at s t (fifo_length p) = refl
tables_at s t (causal_length p) = refl
tables_at s t (held p m) = refl
tables_at s t (marks p m) = refl
tables_at s t (fifo p i) = refl
tables_at s t (causal p i) = refl
tables_at s t (sender m) = refl
tables_at s t (mask m) = refl
tables_at s t (stamp m g q) = refl
tables_at s t (number m g) = refl
tables_at s t (flight m k q) = refl
tables_at s t (order m) = refl
tables_at s t (unused i) = refl

tables_erased : (s : State) (t : Tables) → with_tables (erased s) t ≡ erased (with_tables s t)
tables_erased s t = fun_ext (tables_at s t)

-- two words stored
twice_erased : (s : State) (c d : Cell) (v w : ℕ)
    → put (put (erased s) c (erased (λ _. v) c)) d (erased (λ _. w) d) ≡ erased (put (put s c v) d w)
twice_erased s c d v w =
    ap (λ (u : State). put u d (erased (λ _. w) d)) (put_erased s c v) ∙ put_erased (put s c v) d w

-- a store that is made or not
pick_erased : (b : Bool) (s t u v : State) → s ≡ erased u → t ≡ erased v → pick b s t ≡ erased (pick b u v)
pick_erased true s t u v e f = e
pick_erased false s t u v e f = f

-- ---- the cascade
-- a causal delivery
merge_erased : (s : State) (p m : ℕ) → merge (erased s) p m ≡ erased (merge s p m)
unfolding erased merge
merge_erased s p m = tables_erased s _

causal_one_erased : (s : State) (p i : ℕ) → causal_one (erased s) p i ≡ erased (causal_one s p i)
unfolding erased causal_one
causal_one_erased s p i =
    let m = s (fifo p i) in
    let q = s (sender m) in
    let n = s (causal_length p) in
    let v = s (stamp m (s (group p)) q) in
    let t = put (put s (causal p n) m) (causal_length p) (n + 1) in
    ap (λ (u : State). merge (put u (delivered p q) v) p m)
    (twice_erased s (causal p n) (causal_length p) m (n + 1))
    ∙ ap (λ (u : State). merge u p m) (put_erased t (delivered p q) v)
    ∙ merge_erased (put t (delivered p q) v) p m

-- all of them
causal_all_erased : (s : State) (p : ℕ) → causal_all (erased s) p ≡ erased (causal_all s p)
unfolding erased causal_all deliverable_at deliverable awaited short_of lowest_short lowest_awaited
causal_all_erased s p =
    loop_related (λ t. t (fifo_length p)) (λ t. deliverable_at t p) (λ t. causal_one t p)
    (λ _ t u. u ≡ erased t) (λ t u. u ≡ erased t) (λ _ t u e. e)
    (λ _ t u e. ap (λ (v : State). v (fifo_length p)) (sym e))
    (λ _ t u e j _. ap (λ (v : State). deliverable_at v p j) (sym e))
    (λ _ t u j _ _ e. ap (λ (v : State). causal_one v p j) e ∙ causal_one_erased t p j)
    (s (fifo_length p) - s (causal_length p)) s (erased s) refl

-- the OKs
oks_erased : (s : State) (p q k : ℕ) → send_oks (erased s) p q k ≡ erased (send_oks s p q k)
unfolding erased send_oks send_ok due
oks_erased s p q zero = refl
oks_erased s p q (suc k) =
    let t = send_oks s p q k in
    ap (λ (u : State). send_ok u p q k) (oks_erased s p q k)
    ∙ pick_erased (due t p q k) _ _ _ t (put_erased t (flight k 2 p) (addressees t k)) refl

-- a FIFO delivery
appended_erased : (s : State) (p m : ℕ) → appended (erased s) p m ≡ erased (appended s p m)
unfolding erased appended
appended_erased s p m = twice_erased s (fifo p (s (fifo_length p))) (fifo_length p) m (s (fifo_length p) + 1)

next_erased : (s : State) (p q : ℕ) → raised_next (erased s) p q ≡ erased (raised_next s p q)
unfolding erased raised_next
next_erased s p q = put_erased s (next p q) (s (next p q) + 1)

fifo_one_erased : (s : State) (p m : ℕ) → fifo_one (erased s) p m ≡ erased (fifo_one s p m)
unfolding erased fifo_one
fifo_one_erased s p m =
    let q = s (sender m) in
    let t = causal_all (appended s p m) p in
    ap (λ (u : State). send_oks (raised_next u p q) p q (raised_next u p q count))
    (ap (λ (u : State). causal_all u p) (appended_erased s p m) ∙ causal_all_erased (appended s p m) p)
    ∙ ap (λ (u : State). send_oks u p q (u count)) (next_erased t p q)
    ∙ oks_erased (raised_next t p q) p q (raised_next t p q count)

-- all of them
cascade_erased : (s : State) (p : ℕ) → cascade (erased s) p ≡ erased (cascade s p)
unfolding erased cascade ready
cascade_erased s p =
    loop_related (λ t. t count) (λ t. ready t p) (λ t. fifo_one t p)
    (λ _ t u. u ≡ erased t) (λ t u. u ≡ erased t) (λ _ t u e. e)
    (λ _ t u e. ap (λ (v : State). v count) (sym e))
    (λ _ t u e j _. ap (λ (v : State). ready v p j) (sym e))
    (λ _ t u j _ _ e. ap (λ (v : State). fifo_one v p j) e ∙ fifo_one_erased t p j)
    (s count - s (fifo_length p)) s (erased s) refl

-- ---- the steps
raised_erased : (s : State) (p groups : ℕ) → raised (erased s) p groups ≡ erased (raised s p groups)
unfolding erased raised
raised_erased s p groups = tables_erased s _

stamped_erased : (s : State) (p m : ℕ) → stamped (erased s) p m ≡ erased (stamped s p m)
unfolding erased stamped
stamped_erased s p m = tables_erased s _

numbered_erased : (s : State) (p groups o : ℕ) → numbered (erased s) p groups 0 ≡ erased (numbered s p groups o)
unfolding erased numbered
numbered_erased s p groups o =
    let m = s count in
    ap (λ (u : State). put (put u (order m) 0) count (m + 1)) (twice_erased s (sender m) (mask m) p groups)
    ∙ twice_erased (put (put s (sender m) p) (mask m) groups) (order m) count o (m + 1)

posted_erased : (s : State) (p m : ℕ) → posted (erased s) p m ≡ erased (posted s p m)
unfolding erased posted
posted_erased s p m = put_erased s (flight m 0 p) (addressees s m)

-- the number is erased with the rest
multicast_erased : (s : State) (p groups o : ℕ)
    → multicast (erased s) p groups 0 ≡ erased (multicast s p groups o)
unfolding erased multicast
multicast_erased s p groups o =
    let m = s count in
    let t = stamped (raised s p groups) p m in
    ap (λ (u : State). posted (numbered (stamped u p m) p groups 0) p m) (raised_erased s p groups)
    ∙ ap (λ (u : State). posted (numbered u p groups 0) p m) (stamped_erased (raised s p groups) p m)
    ∙ ap (λ (u : State). posted u p m) (numbered_erased t p groups o)
    ∙ posted_erased (numbered t p groups o) p m

leave_erased : (s : State) (k m q p : ℕ) → leave (erased s) k m q p ≡ erased (leave s k m q p)
unfolding erased leave
leave_erased s k m q p = put_erased s (flight m k q) _

mark_erased : (s : State) (k m q p : ℕ) → mark (erased s) k m q p ≡ erased (mark s k m q p)
unfolding erased mark
mark_erased s k m q p = pick_erased (eqb k 2) _ _ _ s (put_erased s (marks p m) _) refl

hold_erased : (s : State) (p m : ℕ) → hold (erased s) p m ≡ erased (hold s p m)
unfolding erased hold
hold_erased s p m =
    pick_erased (eqb (s (held p m)) 1) _ _ s _ refl
    (twice_erased s (held p m) (flight m (pick (in_turn s p m) 2 1) p) 1 (addressees s m))

arrival_erased : (s : State) (k m q p : ℕ) → arrival (erased s) k m q p ≡ erased (arrival s k m q p)
unfolding arrival
arrival_erased s k m q p =
    let t = leave s k m q p in
    ap (λ (u : State). cascade (hold (mark u k m q p) p m) p) (leave_erased s k m q p)
    ∙ ap (λ (u : State). cascade (hold u p m) p) (mark_erased t k m q p)
    ∙ ap (λ (u : State). cascade u p) (hold_erased (mark t k m q p) p m)
    ∙ cascade_erased (hold (mark t k m q p) p m) p

trust_erased : (s : State) (p set : ℕ) → trust_set (erased s) p set ≡ erased (trust_set s p set)
unfolding erased trust_set
trust_erased s p set =
    ap (λ (u : State). cascade u p) (put_erased s (trust p) set) ∙ cascade_erased (put s (trust p) set) p

crash_erased : (s : State) (p : ℕ) → crash (erased s) p ≡ erased (crash s p)
unfolding erased crash
crash_erased s p = put_erased s (up p) 0

-- which are refused
pub refusal_erased : (s : State) (x : Step) → refusal (erased s) (erased_step x) ≡ refusal s x
unfolding erased refusal good_mask has_group
refusal_erased s (multicasts p groups o) = refl
refusal_erased s (arrives k m q p) = refl
refusal_erased s (loses k m q p) = refl
refusal_erased s (trusts p set) = refl
refusal_erased s (crashes p) = refl
refusal_erased s malformed = refl

-- what they do
pub step_erased : (s : State) (x : Step) → step (erased s) (erased_step x) ≡ erased (step s x)
unfolding step
step_erased s (multicasts p groups o) = multicast_erased s p groups o
step_erased s (arrives k m q p) = arrival_erased s k m q p
step_erased s (loses k m q p) = leave_erased s k m q p
step_erased s (trusts p set) = trust_erased s p set
step_erased s (crashes p) = crash_erased s p
step_erased s malformed = refl

-- a step that may be refused
pub accepted_erased : (s : State) (x : Step) → accepted (erased s) (erased_step x) ≡ accepted s x
accepted_erased s x = ap (λ (n : ℕ). eqb n 0) (refusal_erased s x)

pub after_erased : (s : State) (x : Step) → after (erased s) (erased_step x) ≡ erased (after s x)
unfolding after
after_erased s x =
    ap (λ (b : Bool). pick b (step (erased s) (erased_step x)) (erased s)) (accepted_erased s x)
    ∙ pick_erased (accepted s x) _ _ _ s (step_erased s x) refl
