-- The two logs of a process, over the views: each is a prefix of every sender's messages to the group. FIFO:
-- what is in the log has a number below next, what is to the group with such a number is in it. Causal: the
-- same with del. A delivery adds a message whose earlier ones of the same sender are in the log, and sets the
-- bound to its number: one law for both. Assumes nothing.
use Rattle.std.specs.Prelude.{◌≡◌, refl, Bool, true, ◌⊎◌, ◌≢◌, ℕ, ◌+◌, ◌≤◌, ◌<◌}
use Rattle.std.proofs.Math.Path.{sym, subst}
use Rattle.std.proofs.Common.{ap, ◌∙◌, arith, ne_eqb}
use Rattle.std.proofs.Math.Logic.{inl, inr}
use Rattle.std.proofs.Math.Decide.{ℕ_discrete}
use Rattle.definitions.specs.General.{In, in_at}
use Rattle.definitions.specs.History.{sent}
use Rattle.base.specs.Tests.{le_or_lt, pick_yes, pick_no, eqb_refl, at_or_off}
use Rattle.base.specs.Count.{in_wider}
use Rattle.effects.specs.Views.{Messages, Process}
use Rattle.effects.specs.Cascade.{at_place, fifo_delivered, causal_delivered}
use Rattle.order.specs.Knowledge.{Knowledge, learn}
use Rattle.order.specs.Counters.{To, all_of, Counting, stamp_le, sender_before, stamp_lt, stamp_most, OneMore, old_or_new, all_grows, before_same, new_above}

-- ---- a list with one more item
pub at_here : (f : ℕ → ℕ) (i v : ℕ) → at_place f i v i ≡ v
at_here f i v = pick_yes v (f i) (eqb_refl i)

-- at another place nothing has changed
pub at_else : (f : ℕ → ℕ) (i v j : ℕ) → i ≢ j → at_place f i v j ≡ f j
at_else f i v j n = pick_no v (f j) (ne_eqb i j n)

module _ (n : ℕ) (log : ℕ → ℕ) (m : ℕ) where
  -- an item is an old one, or the new one
  pub item_cases : (i : ℕ) → i < n + 1
      → ((i < n) × (at_place log n m i ≡ log i)) ⊎ ((i ≡ n) × (at_place log n m i ≡ m))
  item_cases i h = elim (ℕ_discrete n i) [
    | yes e ↦ inr (sym e, ap (at_place log n m) (sym e) ∙ at_here log n m)
    | no e ↦ inl (omega arith, at_else log n m i e)
  ]

  -- each item has what the old ones and m have
  pub every_item : (P : ℕ → Type 0) → ((i : ℕ) → i < n → P (log i)) → P m → (i : ℕ) → i < n + 1
      → P (at_place log n m i)
  every_item P old new i h = elim (item_cases i h) [
    | inl a ↦ rw a.1 (old i a.0)
    | inr a ↦ rw a.1 new
  ]

  -- an old item stands where it stood
  pub in_older : (l : ℕ) {x : ℕ} → l ≤ n → In l log x → In l (at_place log n m) x
  in_older l h (in_at j a e) = in_at j a (at_else log n m j (omega arith) ∙ e)

  -- what is in the list is in the longer one
  pub in_longer : {x : ℕ} → In n log x → In (n + 1) (at_place log n m) x
  in_longer i = in_wider (omega arith) (in_older n (omega arith) i)

  -- and so is m
  pub in_new : In (n + 1) (at_place log n m) m
  in_new = in_at n (omega arith) (at_here log n m)

  -- no item is twice in it
  pub once_longer : ((i j : ℕ) → i < j → j < n → log i ≢ log j) → (¬ In n log m)
      → (i j : ℕ) → i < j → j < n + 1 → at_place log n m i ≢ at_place log n m j
  once_longer once out i j l h e = elim (item_cases j h) [
    | inl b ↦ once i j l b.0 (sym (at_else log n m i (omega (arith, b.0))) ∙ e ∙ b.1)
    | inr b ↦ out (in_at i (omega (arith, b.0)) (sym (at_else log n m i (omega (arith, b.0))) ∙ e ∙ b.1))
  ]

-- ---- a log of n items is a prefix, up to a bound, of each sender's messages to g
-- m's place among its sender's messages to g
abbrev pub rank : Messages → ℕ → ℕ → ℕ
rank w g m = w.stamp m g (w.sender m)

-- e is 1 for next, which is one more than the last number, and 0 for del
pub record Prefix (e : ℕ) (w : Messages) (g n : ℕ) (log bound : ℕ → ℕ) : Type 0 where
  pub in_below : (i : ℕ) → i < n → e + rank w g (log i) ≤ bound (w.sender (log i))
  pub below_in : (m : ℕ) → m < w.total → To w g m → e + rank w g m ≤ bound (w.sender m) → In n log m
  pub most : (q : ℕ) → bound q ≤ e + all_of w q g

-- one delivery more
module _ {s : ℕ} {e : ℕ} {w : Messages} {k : Knowledge} {g n : ℕ} {log bound : ℕ → ℕ} (c : Counting s w k)
    (o : Prefix e w g n log bound) (m : ℕ) (hm : m < w.total) (tm : To w g m) (out : ¬ In n log m)
    (earlier : (x : ℕ) → x < m → w.sender x ≡ w.sender m → To w g x → In n log x) where
  -- the bound rises: m was above it
  rise : (q : ℕ) → bound q ≤ at_place bound (w.sender m) (e + rank w g m) q
  rise =
      at_or_off (w.sender m) (λ x. bound x ≤ at_place bound (w.sender m) (e + rank w g m) x)
      (elim (le_or_lt (e + rank w g m) (bound (w.sender m))) [
        | inl z ↦ absurd (out (o.below_in m hm tm z))
        | inr z ↦ omega (arith, at_here bound (w.sender m) (e + rank w g m))
      ])
      (λ q d. omega (arith, at_else bound (w.sender m) (e + rank w g m) q d))

  -- the longer log is a prefix up to the raised bound
  pub prefix_more : Prefix e w g (n + 1) (at_place log n m) (at_place bound (w.sender m) (e + rank w g m))
  prefix_more = record {
    in_below =
        every_item n log m (λ x. e + rank w g x ≤ at_place bound (w.sender m) (e + rank w g m) (w.sender x))
        (λ i h. omega (arith, o.in_below i h, rise (w.sender (log i))))
        (omega (arith, at_here bound (w.sender m) (e + rank w g m)));
    below_in =
        λ x h t l. inside x h t l (ℕ_discrete (w.sender m) (w.sender x)) (ℕ_discrete m x) (le_or_lt m x);
    most = at_or_off (w.sender m)
        (λ x. at_place bound (w.sender m) (e + rank w g m) x ≤ e + all_of w x g)
        (omega (arith, at_here bound (w.sender m) (e + rank w g m), stamp_most c m g (w.sender m) hm))
        (λ q d. omega (arith, at_else bound (w.sender m) (e + rank w g m) q d, o.most q));
  }
    where
      inside : (x : ℕ) → x < w.total → To w g x
          → e + rank w g x ≤ at_place bound (w.sender m) (e + rank w g m) (w.sender x)
          → Dec (w.sender m ≡ w.sender x) → Dec (m ≡ x) → (m ≤ x) ⊎ (x < m)
          → In (n + 1) (at_place log n m) x
      inside x h t l (no d) a b =
          in_longer n log m
          (o.below_in x h t (omega (arith, at_else bound (w.sender m) (e + rank w g m) (w.sender x) d)))
      inside x h t l (yes d) (yes a) b = subst (In (n + 1) (at_place log n m)) a (in_new n log m)
      inside x h t l (yes d) (no a) (inr b) = in_longer n log m (earlier x b (sym d) t)
      inside x h t l (yes d) (no a) (inl b) =
          let z : e + rank w g x ≤ e + rank w g m =
          rw (at_here bound (w.sender m) (e + rank w g m)) at
          (subst (λ (y : ℕ). e + rank w g x ≤ at_place bound (w.sender m) (e + rank w g m) y) (sym d) l) in
          let up = stamp_lt c x m g h (omega arith) t in
          absurd (omega (arith, ap (λ (q : ℕ). w.stamp m g q) d))

-- a multicast: the new message is above every bound
module _ {s : ℕ} {w : Messages} {k : Knowledge} {p groups : ℕ} {w' : Messages} (c : Counting s w k)
    (x : OneMore w k p groups w') (g : ℕ) where
  rank_old : (m : ℕ) → m < w.total → rank w' g m ≡ rank w g m
  rank_old m h = x.old_stamp m g (w'.sender m) h ∙ ap (w.stamp m g) (x.old_sender m h)

  -- an old message is to the same groups
  to_old : (m : ℕ) → m < w.total → To w' g m → To w g m
  to_old m h t = rw (x.old_mask m h) at t

  -- every log stays a prefix
  pub prefix_sent : {e n : ℕ} {log bound : ℕ → ℕ} → ((i : ℕ) → i < n → log i < w.total)
      → Prefix e w g n log bound → Prefix e w' g n log bound
  prefix_sent {e} {n} {log} {bound} old o = record {
    in_below = λ i h.
        let hi = old i h in
        rw (x.old_sender (log i) hi) (omega (arith, rank_old (log i) hi, o.in_below i h));
    below_in = old_or_new c x (λ m. To w' g m → e + rank w' g m ≤ bound (w'.sender m) → In n log m)
        (λ t l. absurd (omega (
          arith,
          o.most p,
          new_above c x g (rw x.new_mask at t),
          ap bound x.new_sender,
          ap (w'.stamp w.total g) x.new_sender,
        )))
        (λ m h t l. o.below_in m h (to_old m h t) (omega (arith, rank_old m h, ap bound (x.old_sender m h))));
    most = λ q. omega (arith, o.most q, all_grows c x q g);
  }

-- ---- the FIFO log
pub record FifoLog (w : Messages) (g n : ℕ) (log next : ℕ → ℕ) : Type 0 where
  pub old : (i : ℕ) → i < n → log i < w.total
  pub to_group : (i : ℕ) → i < n → To w g (log i)
  pub once : (i j : ℕ) → i < j → j < n → log i ≢ log j
  -- the earlier messages of the same sender stand ahead
  pub order : (i x : ℕ) → i < n → x < log i → w.sender x ≡ w.sender (log i) → To w g x → In i log x
  pub prefix : Prefix 1 w g n log next

-- of a process
abbrev pub FifoLogOf : Messages → Process → Type 0
FifoLogOf w r = FifoLog w r.group r.fifo_length r.fifo r.next

-- m is next of its sender: it goes in last
module _ {s : ℕ} {w : Messages} {k : Knowledge} {g n : ℕ} {log next : ℕ → ℕ} (c : Counting s w k)
    (o : FifoLog w g n log next) (m : ℕ) (hm : m < w.total) (tm : To w g m) (out : ¬ In n log m)
    (turn : w.number m g ≡ next (w.sender m)) where
  -- next is m's number
  at_next : rank w g m ≡ next (w.sender m)
  at_next = sym (c.numbers m g hm) ∙ turn

  -- the sender's earlier messages to the group are in the log
  earlier : (x : ℕ) → x < m → w.sender x ≡ w.sender m → To w g x → In n log x
  earlier x l e t =
      o.prefix.below_in x (omega arith) t
      (omega (arith, stamp_lt c m x g hm l tm, at_next, ap next e, ap (w.stamp x g) e))

  -- the log with m is a FIFO log again
  pub fifo_log_more : FifoLog w g (n + 1) (at_place log n m)
      (at_place next (w.sender m) (next (w.sender m) + 1))
  fifo_log_more = record {
    old = every_item n log m (λ x. x < w.total) o.old hm;
    to_group = every_item n log m (To w g) o.to_group tm;
    once = once_longer n log m o.once out;
    order = λ i x h l e t. elim (item_cases n log m i h) [
      | inl a ↦ in_older n log m i (omega (arith, a.0))
          (o.order i x a.0 (omega (arith, a.1)) (e ∙ ap w.sender a.1) t)
      | inr a ↦ rw a.0 (in_older n log m n (omega arith)
          (earlier x (omega (arith, a.1)) (e ∙ ap w.sender a.1) t))
    ];
    prefix =
        subst (λ (v : ℕ). Prefix 1 w g (n + 1) (at_place log n m) (at_place next (w.sender m) v))
        (omega (arith, at_next))
        (prefix_more c o.prefix m hm tm out earlier);
  }

-- ---- the causal log, beside the FIFO log
pub record CausalLog (w : Messages) (before : ℕ → ℕ → Bool) (g k : ℕ) (fifo : ℕ → ℕ) (n : ℕ) (log del : ℕ → ℕ)
    : Type 0 where
  pub in_fifo : (i : ℕ) → i < n → In k fifo (log i)
  pub once : (i j : ℕ) → i < j → j < n → log i ≢ log j
  -- what is before a message, and to the group, stands ahead of it
  pub order : (i x : ℕ) → i < n → before (log i) x ≡ true → x ≢ log i → To w g x → In i log x
  pub prefix : Prefix 0 w g n log del

-- of a process
abbrev pub CausalLogOf : Messages → (ℕ → ℕ → Bool) → Process → Type 0
CausalLogOf w before r =
    CausalLog w before r.group r.fifo_length r.fifo r.causal_length r.causal r.delivered

-- a FIFO delivery does not concern it
pub causal_log_fifo : {w : Messages} {before : ℕ → ℕ → Bool} (r : Process) (m : ℕ) → CausalLogOf w before r
    → CausalLogOf w before (fifo_delivered w r m)
unfolding fifo_delivered
causal_log_fifo r m o = record {
  in_fifo = λ i h. in_longer r.fifo_length r.fifo m (o.in_fifo i h);
  once = o.once;
  order = o.order;
  prefix = o.prefix;
}

-- m of the FIFO log is outside the causal log, and waits for a message of another sender q
pub data Waits (n : ℕ) (w : Messages) (g : ℕ) (del : ℕ → ℕ) (m : ℕ) : Type 0 where
  waits : (q : ℕ) → q < n → q ≢ w.sender m → del q < w.stamp m g q → Waits n w g del m

-- m is in the causal log, or waits
abbrev pub Stuck : ℕ → Messages → Process → ℕ → Type 0
Stuck n w r m = In r.causal_length r.causal m ⊎ Waits n w r.group r.delivered m

-- nothing is left to deliver causally
abbrev pub Quiet : ℕ → Messages → Process → Type 0
Quiet n w r = (i : ℕ) → i < r.fifo_length → Stuck n w r (r.fifo i)

-- The causal delivery of item i of the FIFO log, the earliest that can be delivered. All that is before it,
-- and to the group, is in the causal log already: of another sender, by del; of the same one, since it stands
-- earlier in the FIFO log and could be delivered too. This is the only use of "earliest".
module _ {n : ℕ} {w : Messages} {k : Knowledge} (r : Process) (c : Counting n w k) (f : FifoLogOf w r)
    (o : CausalLogOf w k.before r) (i : ℕ) (hi : i < r.fifo_length)
    (out : ¬ In r.causal_length r.causal (r.fifo i))
    (free : (q : ℕ) → q < n → q ≢ w.sender (r.fifo i) → w.stamp (r.fifo i) r.group q ≤ r.delivered q)
    (first : (j : ℕ) → j < i → Stuck n w r (r.fifo j)) where
  -- the message
  abbrev m : ℕ
  m = r.fifo i

  -- the earlier ones of the same sender are in the causal log
  same_in : (x : ℕ) → x < r.fifo i → w.sender x ≡ w.sender (r.fifo i) → To w r.group x
      → In r.causal_length r.causal x
  same_in x l e t = go (f.order i x hi l e t)
    where
      stuck : (j : ℕ) → r.fifo j ≡ x → Stuck n w r (r.fifo j) → In r.causal_length r.causal x
      stuck j d (inl a) = rw d at a
      stuck j d (inr (waits q hq ne lt)) =
          let b = sender_before c (r.fifo i) x (f.old i hi) (omega arith) e in
          absurd (omega (
            arith,
            ap (λ (z : ℕ). w.stamp z r.group q) d,
            stamp_le c (r.fifo i) x r.group q b,
            free q hq (λ z. ne (z ∙ sym e ∙ ap w.sender (sym d))),
          ))

      go : In i r.fifo x → In r.causal_length r.causal x
      go (in_at j h d) = stuck j d (first j h)

  -- all that is before it is
  before_in : (x : ℕ) → k.before (r.fifo i) x ≡ true → x ≢ r.fifo i → To w r.group x
      → In r.causal_length r.causal x
  before_in x b ne t =
      let lx : x < r.fifo i = omega (arith, (c.closed.before (r.fifo i)).low x b) in
      let hx : x < w.total = omega (arith, f.old i hi) in
      elim (ℕ_discrete (w.sender x) (w.sender (r.fifo i))) [
        | yes e ↦ same_in x lx e t
        | no e ↦ o.prefix.below_in x hx t (omega (
          arith,
          stamp_le c (r.fifo i) x r.group (w.sender x) b,
          free (w.sender x) (c.senders x hx) e,
        ))
      ]

  -- the log with it is a causal log again
  pub causal_log_more : CausalLogOf w k.before (causal_delivered w r (r.fifo i))
  unfolding causal_delivered
  causal_log_more = record {
    in_fifo =
        every_item r.causal_length r.causal (r.fifo i) (In r.fifo_length r.fifo) o.in_fifo
        (in_at i hi refl);
    once = once_longer r.causal_length r.causal (r.fifo i) o.once out;
    order = λ j x h b ne t. elim (item_cases r.causal_length r.causal (r.fifo i) j h) [
      | inl a ↦ in_older r.causal_length r.causal (r.fifo i) j (omega (arith, a.0))
          (o.order j x a.0 (rw a.1 at b) (λ e. ne (e ∙ sym a.1))
          t)
      | inr a ↦ rw a.0 (in_older r.causal_length r.causal (r.fifo i) r.causal_length (omega arith)
          (before_in x (rw a.1 at b) (λ e. ne (e ∙ sym a.1)) t))
    ];
    prefix =
        subst
        (λ (v : ℕ). Prefix 0 w r.group (r.causal_length + 1)
        (at_place r.causal r.causal_length (r.fifo i))
        (at_place r.delivered (w.sender (r.fifo i)) v)) (omega arith)
        (prefix_more c o.prefix (r.fifo i) (f.old i hi) (f.to_group i hi) out same_in);
  }

-- ---- a multicast concerns no log
module _ {s : ℕ} {w : Messages} {k : Knowledge} {p groups : ℕ} {w' : Messages} (c : Counting s w k)
    (x : OneMore w k p groups w') (r : Process) (f : FifoLogOf w r) where
  pub fifo_log_sent : FifoLogOf w' r
  fifo_log_sent = record {
    old = λ i h. omega (arith, f.old i h, x.total);
    to_group = λ i h. rw (x.old_mask (r.fifo i) (f.old i h)) (f.to_group i h);
    once = f.once;
    order = λ i y h l e t.
        let hi = f.old i h in
        let hy : y < w.total = omega arith in
        f.order i y h l (sym (x.old_sender y hy) ∙ e ∙ x.old_sender (r.fifo i) hi)
        (to_old c x r.group y hy t);
    prefix = prefix_sent c x r.group f.old f.prefix;
  }

  -- what is in the causal log is an old message
  causal_old : CausalLogOf w k.before r → (i : ℕ) → i < r.causal_length → r.causal i < w.total
  causal_old o i h = elim (o.in_fifo i h) [ in_at j hj e ↦ rw e at (f.old j hj) ]

  -- nor a causal log
  pub causal_log_sent : CausalLogOf w k.before r → CausalLogOf w' (learn (sent p w.total) k).before r
  causal_log_sent o = record {
    in_fifo = o.in_fifo;
    once = o.once;
    order = λ i y h b ne t.
        let hi = causal_old o i h in
        let b' = sym (before_same c x (r.causal i) y hi) ∙ b in
        let hy = (c.closed.before (r.causal i)).low y b' in
        o.order i y h b' ne (to_old c x r.group y (omega arith) t);
    prefix = prefix_sent c x r.group (causal_old o) o.prefix;
  }

  -- and what waited still waits
  pub quiet_sent : Quiet s w r → Quiet s w' r
  quiet_sent z i h = go (z i h)
    where
      hi : r.fifo i < w.total
      hi = f.old i h

      go : Stuck s w r (r.fifo i) → Stuck s w' r (r.fifo i)
      go (inl a) = inl a
      go (inr (waits q hq ne lt)) =
          inr (waits q hq (λ e. ne (e ∙ x.old_sender (r.fifo i) hi))
          (rw (x.old_stamp (r.fifo i) r.group q hi) lt))
