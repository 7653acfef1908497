-- What the cascade at p leaves as it was, and what each of its parts writes. The causal deliveries write p's
-- causal log, del and counters; a FIFO delivery besides these p's FIFO log, next of the sender, and OKs from
-- p. Assumes nothing.
use Rattle.std.specs.Prelude.{◌≡◌, refl, Bool, true, false, ◌&&◌, ◌≢◌, ℕ, zero, suc, ◌+◌, ◌≤◌, ◌<◌, max, eqb}
use Rattle.std.proofs.Common.{sym, ap, ◌∙◌, subst₂, not-suc-le-zero, arith, ne_eqb, eq-eqb, eqb-true}
use Rattle.std.proofs.Math.Path.{ap₂}
use Rattle.std.proofs.Math.Decide.{ℕ_discrete}
use Rattle.definitions.specs.General.{pick, bit, mask_of}
use Rattle.definitions.specs.World.{Cell, count, group, counter, sequence, next, delivered, fifo_length, causal_length, held, fifo, causal, sender, stamp, number, flight, State, put}
use Rattle.definitions.specs.Machine.{with_tables, addressees, merge, causal_one, causal_all, appended, raised_next, due, send_ok, send_oks, fifo_one, cascade}
use Rattle.base.specs.Tests.{pick_no, pick_yes, both, both_l, both_r, clash, eqb_refl, at_or_off}
use Rattle.world.specs.Layout.{put_same, put_at}
use Rattle.world.specs.Kept.{causal_all_keeps, oks_keep, cascade_keeps}
use Rattle.world.specs.Local.{other_away, causal_one_away, appended_away, raised_next_away, fifo_one_away}
use Rattle.keeps.specs.Next.{next_before}
use Rattle.effects.specs.Views.{process_local, Messages, messages, Process, process, Scene, scene, Ground, ground, Still, still, letters}

-- ---- what no part writes
-- the OKs are letters, and nothing else
oks_still : (s : State) (p q k : ℕ) → still (send_oks s p q k) ≡ still s
unfolding put
oks_still s p q k = oks_keep still p (λ t m v. refl) s q k

-- and change no process's record
oks_scene : (s : State) (p q k : ℕ) → scene (send_oks s p q k) ≡ scene s
unfolding put
oks_scene s p q k = oks_keep scene p (λ t m v. refl) s q k

-- ---- deliveries on views
-- f with v at i
abbrev pub at_place : (ℕ → ℕ) → ℕ → ℕ → ℕ → ℕ
at_place f i v j = pick (eqb i j) v (f j)

-- a store in one of the cells c i
put_place : (s : State) (c : ℕ → Cell) → ((i j : ℕ) → c i ≡ c j → i ≡ j) → (i v j : ℕ)
    → put s (c i) v (c j) ≡ at_place (λ k. s (c k)) i v j
put_place s c one i v j =
    put_at s (c i) (c j) v (λ x. x ≡ at_place (λ k. s (c k)) i v j) (λ e. rw (eq-eqb i j (one i j e)))
    (λ n. rw (ne_eqb i j (λ e. n (ap c e))))

-- A process after the FIFO delivery of m: m stands last in the FIFO log, next of its sender has risen.
unfoldable pub fifo_delivered : Messages → Process → ℕ → Process
fifo_delivered w r m = record {
  group = r.group;
  fifo_length = r.fifo_length + 1;
  fifo = at_place r.fifo r.fifo_length m;
  causal_length = r.causal_length;
  causal = r.causal;
  next = at_place r.next (w.sender m) (r.next (w.sender m) + 1);
  delivered = r.delivered;
  counter = r.counter;
  sequence = r.sequence;
}

-- A process after the causal delivery of m: m stands last in the causal log, del of its sender is m's number
-- among the sender's messages, the counters are the larger ones.
unfoldable pub causal_delivered : Messages → Process → ℕ → Process
causal_delivered w r m = record {
  group = r.group;
  fifo_length = r.fifo_length;
  fifo = r.fifo;
  causal_length = r.causal_length + 1;
  causal = at_place r.causal r.causal_length m;
  next = r.next;
  delivered = at_place r.delivered (w.sender m) (w.stamp m r.group (w.sender m));
  counter = λ g q. max (r.counter g q) (w.stamp m g q);
  sequence = r.sequence;
}

-- the part of a turn before the causal deliveries
abbrev pub fifo_started : State → ℕ → ℕ → State
fifo_started s p m = raised_next (appended s p m) p (s (sender m))

-- p's record then is that of the FIFO delivery
pub fifo_started_here : (s : State) (p m : ℕ)
    → process (fifo_started s p m) p ≡ fifo_delivered (messages s) (process s p) m
unfolding raised_next appended put fifo_delivered
fifo_started_here s p m = λ j. record {
  group = s (group p);
  fifo_length = put_same s (fifo_length p) (fifo_length p) (s (fifo_length p) + 1) refl j;
  fifo = λ i. put_place s (fifo p) (λ _ _ e. cc) (s (fifo_length p)) m i j;
  causal_length = s (causal_length p);
  causal = λ i. s (causal p i);
  next = λ q. put_place s (next p) (λ _ _ e. cc) (s (sender m)) (s (next p (s (sender m))) + 1) q j;
  delivered = λ q. s (delivered p q);
  counter = λ g q. s (counter p g q);
  sequence = λ g. s (sequence p g);
}

-- every other record is as it was
pub fifo_started_there : (s : State) (p m r : ℕ) → p ≢ r → process (fifo_started s p m) r ≡ process s r
fifo_started_there s p m r n = process_local s (fifo_started s p m) r (λ c o.
    let a = other_away p r c o n in
    raised_next_away p (appended s p m) (s (sender m)) c a ∙ appended_away p s m c a)

-- ---- causal deliveries
pub causal_one_here : (s : State) (p i : ℕ)
    → process (causal_one s p i) p ≡ causal_delivered (messages s) (process s p) (s (fifo p i))
unfolding causal_one merge with_tables put causal_delivered
causal_one_here s p i = λ j. record {
  group = s (group p);
  fifo_length = s (fifo_length p);
  fifo = λ k. s (fifo p k);
  causal_length = put_same s (causal_length p) (causal_length p) (s (causal_length p) + 1) refl j;
  causal = λ k. put_place s (causal p) (λ _ _ e. cc) (s (causal_length p)) (s (fifo p i)) k j;
  next = λ q. s (next p q);
  delivered = λ q.
      (let o : ℕ = s (sender (s (fifo p i))) in
      put_place s (delivered p) (λ _ _ e. cc) o (s (stamp (s (fifo p i)) (s (group p)) o)) q j);
  counter =
      λ g q. pick_yes (max (s (counter p g q)) (s (stamp (s (fifo p i)) g q))) (s (counter p g q))
      (eqb_refl p) j;
  sequence = λ g. s (sequence p g);
}

-- every other record is as it was
pub causal_one_there : (s : State) (p i r : ℕ) → p ≢ r → process (causal_one s p i) r ≡ process s r
causal_one_there s p i r n =
    process_local s (causal_one s p i) r (λ c o. causal_one_away p s i c (other_away p r c o n))

-- what of p's own record the causal deliveries leave: the FIFO side
pub record Front : Type 0 where
  pub group : ℕ
  pub fifo_length : ℕ
  pub fifo : ℕ → ℕ
  pub next : ℕ → ℕ

-- of a record
abbrev front_of : Process → Front
front_of r = record { group = r.group; fifo_length = r.fifo_length; fifo = r.fifo; next = r.next }

-- of p in s
abbrev pub front : State → ℕ → Front
front s p = front_of (process s p)

-- ---- a turn: next may rise before the causal deliveries
-- the state of a turn before its OKs
abbrev pub fifo_middle : State → ℕ → ℕ → State
fifo_middle s p m = causal_all (fifo_started s p m) p

-- a turn is its middle, then the OKs
pub fifo_one_is : (s : State) (p m : ℕ)
    → fifo_one s p m ≡ send_oks (fifo_middle s p m) p (s (sender m)) (fifo_middle s p m count)
unfolding fifo_one
fifo_one_is s p m =
    ap (λ (t : State). send_oks t p (s (sender m)) (t count))
    (sym (next_before (appended s p m) p (s (sender m))))

-- the OKs change no record
pub fifo_one_scene : (s : State) (p m : ℕ) → scene (fifo_one s p m) ≡ scene (fifo_middle s p m)
fifo_one_scene s p m =
    ap scene (fifo_one_is s p m) ∙ oks_scene (fifo_middle s p m) p (s (sender m)) (fifo_middle s p m count)

-- a turn at p leaves every other record
pub fifo_one_there : (s : State) (p m r : ℕ) → p ≢ r → process (fifo_one s p m) r ≡ process s r
fifo_one_there s p m r n =
    process_local s (fifo_one s p m) r (λ c o. fifo_one_away p s m c (other_away p r c o n))

-- the middle of a turn leaves what no part writes
pub fifo_middle_still : (s : State) (p m : ℕ) → still (fifo_middle s p m) ≡ still s
unfolding causal_one merge with_tables raised_next appended put
fifo_middle_still s p m = causal_all_keeps still p (λ t i. refl) (fifo_started s p m)

-- so does the turn
pub fifo_one_still : (s : State) (p m : ℕ) → still (fifo_one s p m) ≡ still s
fifo_one_still s p m =
    ap still (fifo_one_is s p m) ∙ oks_still (fifo_middle s p m) p (s (sender m)) _ ∙ fifo_middle_still s p m

-- and the whole cascade
pub cascade_still : (s : State) (p : ℕ) → still (cascade s p) ≡ still s
cascade_still s p = cascade_keeps still p (λ t m. fifo_one_still t p m) s

-- ---- the letters of a turn
-- its middle leaves them
fifo_middle_letters : (s : State) (p m : ℕ) → letters (fifo_middle s p m) ≡ letters s
unfolding causal_one merge with_tables raised_next appended put
fifo_middle_letters s p m = causal_all_keeps letters p (λ t i. refl) (fifo_started s p m)

-- whether p owes an OK for m of the sender q looks at what a cascade keeps, and at next
abbrev due_by : Still → (ℕ → ℕ) → ℕ → ℕ → ℕ → Bool
due_by v nexts p q m =
    eqb (v.held p m) 1 && eqb (v.ground.messages.sender m) q
    && eqb (v.ground.messages.number m (v.ground.group p)) (nexts (v.ground.messages.sender m))

-- the addressees look at size, masks and groups
pub addressees_same : (s t : State) (m : ℕ) → ground t ≡ ground s → addressees t m ≡ addressees s m
addressees_same s t m e =
    ap (λ (v : Ground). mask_of v.size (λ q. bit (v.messages.mask m) (v.group q))) e

-- the letter of kind k for x from r, after p's OKs for the messages of q below n: one of these, or as it was
data Sent (s : State) (p q n x k r v : ℕ) : Type 0 where
  ok : 2 ≡ k → p ≡ r → x < n → due s p q x ≡ true → v ≡ addressees s x → Sent s p q n x k r v
  old : v ≡ s (flight x k r) → (2 ≡ k → p ≡ r → x < n → due s p q x ≡ false) → Sent s p q n x k r v

-- one message more, for which it is no OK
sent_more : {s : State} {p q n x k r v : ℕ} → (2 ≡ k → p ≡ r → n ≡ x → due s p q x ≡ false)
    → Sent s p q n x k r v → Sent s p q (suc n) x k r v
sent_more f (ok a b l d e) = ok a b (omega arith) d e
sent_more {n = n} {x = x} f (old e g) =
    old e (λ a b l. elim (ℕ_discrete n x) [ yes d ↦ f a b d | no d ↦ g a b (omega arith) ])

-- the OKs, one after the other
oks_letters : (s : State) (p q n x k r : ℕ) → Sent s p q n x k r (send_oks s p q n (flight x k r))
unfolding send_oks send_ok due
oks_letters s p q zero x k r = old refl (λ _ _ l. absurd (not-suc-le-zero l))
oks_letters s p q (suc n) x k r = go (due (send_oks s p q n) p q n) refl (oks_letters s p q n x k r)
  where
    due_is : due s p q n ≡ due (send_oks s p q n) p q n
    due_is =
        sym (ap₂ (λ (v : Still) (w : Scene). due_by v (w.own p).next p q n) (oks_still s p q n)
        (oks_scene s p q n))

    go : (b : Bool) → due (send_oks s p q n) p q n ≡ b
        → Sent s p q n x k r (send_oks s p q n (flight x k r))
        → Sent s p q (suc n) x k r
        (pick b (put (send_oks s p q n) (flight n 2 p) (addressees (send_oks s p q n) n)) (send_oks s p q n)
        (flight x k r))
    go true e ih =
        put_at (send_oks s p q n) (flight n 2 p) (flight x k r) (addressees (send_oks s p q n) n)
        (Sent s p q (suc n) x k r)
        (λ c. let d : n ≡ x = cc in
        ok (cc) (cc) (omega arith) (ap (due s p q) (sym d) ∙ due_is ∙ e)
        (addressees_same s (send_oks s p q n) n (ap (λ (v : Still). v.ground) (oks_still s p q n))
        ∙ ap (addressees s) d))
        (λ c. sent_more (λ a b d. absurd (c (cc))) ih)
    go false e ih = sent_more (λ _ _ d. ap (due s p q) (sym d) ∙ due_is ∙ e) ih

-- ---- p's FIFO side after a turn: m stands last in the FIFO log, next of its sender has risen
abbrev pub turned : State → ℕ → ℕ → Front
turned t p m = record {
  group = t (group p);
  fifo_length = t (fifo_length p) + 1;
  fifo = at_place (λ i. t (fifo p i)) (t (fifo_length p)) m;
  next = at_place (λ q. t (next p q)) (t (sender m)) (t (next p (t (sender m))) + 1);
}

-- p's FIFO side in the middle of a turn
pub fifo_middle_front : (t : State) (p m : ℕ) → front (fifo_middle t p m) p ≡ turned t p m
unfolding causal_one merge with_tables put fifo_delivered
fifo_middle_front t p m =
    causal_all_keeps (λ s. front s p) p (λ s i. refl) (fifo_started t p m) ∙ ap front_of (fifo_started_here t p m)

-- and after it
pub fifo_one_front : (t : State) (p m : ℕ) → front (fifo_one t p m) p ≡ turned t p m
fifo_one_front t p m = ap (λ (v : Scene). front_of (v.own p)) (fifo_one_scene t p m) ∙ fifo_middle_front t p m

-- next of m's sender at p has risen
pub raised : (t : State) (p m : ℕ) → fifo_one t p m (next p (t (sender m))) ≡ t (next p (t (sender m))) + 1
raised t p m =
    ap (λ (v : Front). v.next (t (sender m))) (fifo_one_front t p m)
    ∙ pick_yes _ (t (next p (t (sender m)))) (eqb_refl (t (sender m)))

-- next of any process after a turn: as it was, or p's of m's sender, one more
pub next_cases : (t : State) (p m : ℕ) (P : ℕ → ℕ → ℕ → Type 0) → ((r q : ℕ) → P r q (t (next r q)))
    → P p (t (sender m)) (t (next p (t (sender m))) + 1) → (r q : ℕ) → P r q (fifo_one t p m (next r q))
next_cases t p m P stays new r q =
    at_or_off p (λ z. P z q (fifo_one t p m (next z q)))
    (at_or_off (t (sender m)) (λ z. P p z (fifo_one t p m (next p z))) (rw (raised t p m) new)
    (λ z n. rw (ap (λ (v : Front). v.next z) (fifo_one_front t p m)
    ∙ pick_no _ (t (next p z)) (ne_eqb (t (sender m)) z n)) (stays p z)) q)
    (λ z n. rw (ap (λ (v : Process). v.next q) (fifo_one_there t p m z n)) (stays z q)) r

-- ---- the OKs of a turn, as facts
-- p sends an OK for x: it holds x, of the same sender as m, and its number is next as it is now
pub record NewOk (t : State) (p m x : ℕ) : Type 0 where
  pub low : x < t count
  pub has : t (held p x) ≡ 1
  pub of : t (sender x) ≡ t (sender m)
  pub turn : t (number x (t (group p))) ≡ t (next p (t (sender m))) + 1

module _ (t : State) (p m x : ℕ) where
  -- the count in the middle of the turn
  mid_count : fifo_middle t p m count ≡ t count
  mid_count = ap (λ (v : Still). v.ground.messages.total) (fifo_middle_still t p m)

  -- what is owed there, by what there was before
  mid_due : due (fifo_middle t p m) p (t (sender m)) x
      ≡ due_by (still t) (turned t p m).next p (t (sender m)) x
  unfolding due
  mid_due =
      ap₂ (λ (v : Still) (f : Front). due_by v f.next p (t (sender m)) x) (fifo_middle_still t p m)
      (fifo_middle_front t p m)

  -- next of m's sender has risen
  mid_next : t (sender x) ≡ t (sender m) → (turned t p m).next (t (sender x)) ≡ t (next p (t (sender m))) + 1
  mid_next e = ap (turned t p m).next e ∙ pick_yes _ (t (next p (t (sender m)))) (eqb_refl (t (sender m)))

  -- an OK that is owed is a new one
  owed_facts : x < t count → due (fifo_middle t p m) p (t (sender m)) x ≡ true → NewOk t p m x
  owed_facts l e =
      let held_of = both (eqb (t (held p x)) 1) (eqb (t (sender x)) (t (sender m))) in
      let a = both_l held_of _ (sym mid_due ∙ e) in
      let of = eqb-true (t (sender x)) (t (sender m)) (both_r (eqb (t (held p x)) 1) _ a) in
      record {
        low = l;
        has = eqb-true (t (held p x)) 1 (both_l (eqb (t (held p x)) 1) _ a);
        of = of;
        turn = eqb-true (t (number x (t (group p)))) _ (both_r held_of _ (sym mid_due ∙ e)) ∙ mid_next of;
      }

  -- and a new one is owed
  owed_is : NewOk t p m x → due (fifo_middle t p m) p (t (sender m)) x ≡ true
  owed_is o =
      mid_due ∙ rw (eq-eqb (t (held p x)) 1 o.has, eq-eqb (t (sender x)) (t (sender m)) o.of)
      (eq-eqb (t (number x (t (group p)))) _ (o.turn ∙ sym (mid_next o.of)))

  -- the letters after the turn are those of its middle after the OKs
  after_oks : (k r : ℕ) → Sent (fifo_middle t p m) p (t (sender m)) (fifo_middle t p m count) x k r
      (fifo_one t p m (flight x k r))
  after_oks k r =
      rw (fifo_one_is t p m) (oks_letters (fifo_middle t p m) p (t (sender m)) (fifo_middle t p m count) x k r)

  -- the addressees are as they were
  mid_to : addressees (fifo_middle t p m) x ≡ addressees t x
  mid_to = addressees_same t (fifo_middle t p m) x (ap (λ (v : Still). v.ground) (fifo_middle_still t p m))

  -- a new OK flies to all addressees
  pub ok_sent : NewOk t p m x → fifo_one t p m (flight x 2 p) ≡ addressees t x
  ok_sent o = elim (after_oks 2 p) [
    | ok a b l d e ↦ e ∙ mid_to
    | old e f ↦ clash (owed_is o) (f refl refl (omega (arith, o.low, mid_count)))
  ]

  -- a letter of the turn is a new OK, or flies as it did
  pub letter_cases : (P : ℕ → ℕ → ℕ → Type 0) → ((k r : ℕ) → P k r (t (flight x k r)))
      → (NewOk t p m x → P 2 p (addressees t x)) → (k r : ℕ) → P k r (fifo_one t p m (flight x k r))
  letter_cases P same new k r = elim (after_oks k r) [
    | ok a b l d e ↦ rw (e ∙ mid_to)
        (subst₂ (λ (j q : ℕ). P j q (addressees t x)) a b (new (owed_facts (omega (arith, mid_count)) d)))
    | old e f ↦ rw (e ∙ ap (λ (g : ℕ → ℕ → ℕ → ℕ). g x k r) (fifo_middle_letters t p m)) (same k r)
  ]

-- ---- in turn
-- x is in turn at r, or past it
abbrev pub Near : State → ℕ → ℕ → Type 0
Near s x r = s (number x (s (group r))) ≤ s (next r (s (sender x)))

module _ (t : State) (p m x r : ℕ) where
  -- after a turn it depends on next alone
  pub turn_near : Near (fifo_one t p m) x r
      ≡ (t (number x (t (group r))) ≤ fifo_one t p m (next r (t (sender x))))
  turn_near =
      ap (λ (s : Still). s.ground.messages.number x (s.ground.group r)
      ≤ fifo_one t p m (next r (s.ground.messages.sender x))) (fifo_one_still t p m)

  -- what was in turn or past it still is
  pub near_on : Near t x r → Near (fifo_one t p m) x r
  near_on h =
      rw turn_near (next_cases t p m
      (λ z q v. t (number x (t (group z))) ≤ t (next z q) → t (number x (t (group z))) ≤ v) (λ _ _ l. l)
      (λ l. omega arith) r (t (sender x)) h)

-- a message with a new OK was out of turn before the delivery
pub ok_far : (t : State) (p m x : ℕ) → NewOk t p m x → t (next p (t (sender x))) < t (number x (t (group p)))
ok_far t p m x o = omega (arith, o.turn, ap (λ (q : ℕ). t (next p q)) o.of)

-- and is in turn after it
pub ok_near : (t : State) (p m x : ℕ) → NewOk t p m x → Near (fifo_one t p m) x p
ok_near t p m x o =
    rw (turn_near t p m x p)
    (omega (arith, o.turn, raised t p m, ap (λ (q : ℕ). fifo_one t p m (next p q)) o.of))
