-- States that agree on the world's cells: what the steps read lies within the layout, so that a step from
-- states that agree ends in states that agree. A cell that names a process, a message, a group or a length
-- holds one that the layout has (Fits); every store keeps that, since the fuel of the two loops is the room
-- that the logs have. Assumes nothing.
use Rattle.std.specs.Prelude.{◌≡◌, Bool, ◌&&◌, ℕ, zero, suc, ◌+◌, ◌-◌, ◌≤◌, ◌<◌, max, eqb}
use Rattle.std.proofs.Math.Path.{refl, ap, ap₂}
use Rattle.std.proofs.Common.{sym, ◌∙◌, subst, arith, ltb-true}
use Rattle.std.proofs.Math.Bool.{true, false, not}
use Rattle.std.proofs.Math.Dec.{ltb}
use Rattle.definitions.specs.General.{pick, first_from, loop, bit, with, without, mask_of}
use Rattle.definitions.specs.World.{Cell, size, count, rule, group, trust, counter, sequence, next, delivered, up, fifo_length, causal_length, held, marks, fifo, causal, sender, mask, stamp, number, flight, order, unused, State, put, addressed, outside_causal}
use Rattle.definitions.specs.Machine.{Tables, with_tables, addressees, in_turn, marked, ready, fits, yes_now, message_of, process_alone, lowest_short, is_awaited, lowest_awaited, short_of, awaited, is_yes, deliverable, deliverable_at, merge, causal_one, causal_all, due, send_ok, send_oks, appended, raised_next, fifo_one, cascade, raised, stamped, numbered, posted, multicast, leave, mark, hold, arrival, trust_set, crash}
use Rattle.base.specs.Search.{first_cong, every_cong}
use Rattle.base.specs.Loop.{loop_related}
use Rattle.base.specs.Count.{absent_cong}
use Rattle.base.specs.Bits.{mask_of_cong}
use Rattle.world.specs.Layout.{Within, put_same, put_other, put_at}
use Rattle.effects.specs.Views.{Process}
use Rattle.effects.specs.Cascade.{Front, causal_delivered, causal_one_here, fifo_one_front}

-- ---- what a cell may hold, so that whatever is read by it lies within the layout
abbrev pub Fits : Cell → ℕ → Type 0
Fits size v = v ≤ 16
Fits count v = v ≤ 64
Fits rule v = Unit {0}
Fits (group p) v = v < 8
Fits (trust p) v = Unit {0}
Fits (counter p g q) v = Unit {0}
Fits (sequence p g) v = Unit {0}
Fits (next p q) v = Unit {0}
Fits (delivered p q) v = Unit {0}
Fits (up p) v = Unit {0}
Fits (fifo_length p) v = v ≤ 64
Fits (causal_length p) v = v ≤ 64
Fits (held p m) v = Unit {0}
Fits (marks p m) v = Unit {0}
Fits (fifo p i) v = v < 64
Fits (causal p i) v = Unit {0}
Fits (sender m) v = v < 16
Fits (mask m) v = Unit {0}
Fits (stamp m g q) v = Unit {0}
Fits (number m g) v = Unit {0}
Fits (flight m k q) v = Unit {0}
Fits (order m) v = Unit {0}
Fits (unused i) v = Unit {0}

-- two states that agree on every cell of the world, and fit it
pub record Agree (s t : State) : Type 0 where
  pub at : (c : Cell) → Within c → (s c ≡ t c) × Fits c (s c)

-- ---- stores
put_agree : {s t : State} (c d : Cell) (v w : ℕ) → c ≡ d → v ≡ w → Fits c v → Agree s t
    → Agree (put s c v) (put t d w)
put_agree {s} {t} c d v w ec ev f a =
    record { at = λ e i. (same e i ∙ ap₂ (λ (x : Cell) (y : ℕ). put t x y e) ec ev, fit e i) }
  where
    same : (e : Cell) → Within e → put s c v e ≡ put t c v e
    same e i =
        put_at s c e v (λ x. x ≡ put t c v e) (λ q. sym (put_same t c e v q))
        (λ n. (a.at e i).0 ∙ sym (put_other t c e v n))

    fit : (e : Cell) → Within e → Fits e (put s c v e)
    fit e i = put_at s c e v (Fits e) (λ q. rw q at f) (λ _. (a.at e i).1)

-- a choice between two
pick_agree : {s t s' t' : State} (b b' : Bool) → b ≡ b' → Agree s t → Agree s' t'
    → Agree (pick b s s') (pick b' t t')
pick_agree {s} {t} {s'} {t'} b b' e x y = subst (λ (z : Bool). Agree (pick b s s') (pick z t t')) e (go b)
  where
    go : (z : Bool) → Agree (pick z s s') (pick z t t')
    go true = x
    go false = y

-- tables that agree within the layout
record SameTables (t u : Tables) : Type 0 where
  pub counters : (p g q : ℕ) → Within (counter p g q) → t.counters p g q ≡ u.counters p g q
  pub sequences : (p g : ℕ) → Within (sequence p g) → t.sequences p g ≡ u.sequences p g
  pub stamps : (m g q : ℕ) → Within (stamp m g q) → t.stamps m g q ≡ u.stamps m g q
  pub numbers : (m g : ℕ) → Within (number m g) → t.numbers m g ≡ u.numbers m g

-- states with such tables
tables_agree : {s t : State} (u v : Tables) → SameTables u v → Agree s t
    → Agree (with_tables s u) (with_tables t v)
unfolding with_tables
tables_agree {s} {t} u v e z = record { at = go }
  where
    go : (c : Cell) → Within c → (with_tables s u c ≡ with_tables t v c) × Fits c (with_tables s u c)
    go size w = z.at size w
    go count w = z.at count w
    go rule w = z.at rule w
    go (group p) w = z.at (group p) w
    go (trust p) w = z.at (trust p) w
    go (counter p g q) w = (e.counters p g q w, tt)
    go (sequence p g) w = (e.sequences p g w, tt)
    go (next p q) w = z.at (next p q) w
    go (delivered p q) w = z.at (delivered p q) w
    go (up p) w = z.at (up p) w
    go (fifo_length p) w = z.at (fifo_length p) w
    go (causal_length p) w = z.at (causal_length p) w
    go (held p m) w = z.at (held p m) w
    go (marks p m) w = z.at (marks p m) w
    go (fifo p i) w = z.at (fifo p i) w
    go (causal p i) w = z.at (causal p i) w
    go (sender m) w = z.at (sender m) w
    go (mask m) w = z.at (mask m) w
    go (stamp m g q) w = (e.stamps m g q w, tt)
    go (number m g) w = (e.numbers m g w, tt)
    go (flight m k q) w = z.at (flight m k q) w
    go (order m) w = z.at (order m) w
    go (unused a) w = z.at (unused a) w

-- ---- what the tests read
module _ {s t : State} (a : Agree s t) where
  -- cell by cell
  pub same : (c : Cell) → Within c → s c ≡ t c
  same c w = (a.at c w).0

  -- below n, below count: within the layout
  pub process_low : (q : ℕ) → q < s size → q < 16
  process_low q l = omega (arith, (a.at size tt).1)

  pub message_low : (m : ℕ) → m < s count → m < 64
  message_low m l = omega (arith, (a.at count tt).1)

  -- to whom a message is
  pub to_agree : (m q : ℕ) → m < 64 → q < 16 → addressed s m q ≡ addressed t m q
  to_agree m q hm hq = rw (same (mask m) hm, same (group q) hq)

  -- the addressees
  all_agree : (m : ℕ) → m < 64 → addressees s m ≡ addressees t m
  all_agree m hm =
      mask_of_cong (s size) (addressed s m) (addressed t m) (λ q l. to_agree m q hm (process_low q l))
      ∙ ap (λ (n : ℕ). mask_of n (addressed t m)) (same size tt)

  module _ (p : ℕ) (hp : p < 16) where
    -- what stands in the entry of p's group
    number_agree : (m : ℕ) → m < 64 → s (number m (s (group p))) ≡ t (number m (t (group p)))
    number_agree m hm = rw (same (number m (s (group p))) (hm, (a.at (group p) hp).1), same (group p) hp)

    -- for a sender too
    stamp_agree : (m q : ℕ) → m < 64 → q < 16 → s (stamp m (s (group p)) q) ≡ t (stamp m (t (group p)) q)
    stamp_agree m q hm hq =
        rw (same (stamp m (s (group p)) q) (hm, (a.at (group p) hp).1, hq), same (group p) hp)

    -- the tests
    turn_agree : (m : ℕ) → m < 64 → in_turn s p m ≡ in_turn t p m
    turn_agree m hm =
        rw (
          number_agree m hm,
          same (next p (s (sender m))) (hp, (a.at (sender m) hm).1),
          same (sender m) hm,
        )

    held_agree : (m : ℕ) → m < 64 → eqb (s (held p m)) 1 ≡ eqb (t (held p m)) 1
    held_agree m hm = ap (λ (v : ℕ). eqb v 1) (same (held p m) (hp, hm))

    due_agree : (q m : ℕ) → m < 64 → due s p q m ≡ due t p q m
    unfolding due
    due_agree q m hm = rw (turn_agree m hm, same (held p m) (hp, hm), same (sender m) hm)

    ready_agree : (m : ℕ) → m < 64 → ready s p m ≡ ready t p m
    unfolding ready
    ready_agree m hm =
        rw (
          turn_agree m hm,
          same (held p m) (hp, hm),
          absent_cong (s (fifo_length p)) (t (fifo_length p)) m (λ i. s (fifo p i)) (λ i. t (fifo p i))
              (same (fifo_length p) hp)
              (λ i l. same (fifo p i) (omega (arith, (a.at (fifo_length p) hp).1))),
          every_cong (s size) (marked s p m) (marked t p m) (λ q l. mark_agree q (process_low q l)),
          same size tt,
        )
      where
        mark_agree : (q : ℕ) → q < 16 → marked s p m q ≡ marked t p m q
        mark_agree q hq =
            rw (same (trust p) hp, same (mask m) hm, same (group q) hq, same (marks p m) (hp, hm))

    -- the answer of the deliverable test
    fits_agree : (m q : ℕ) → m < 64 → q < 16 → fits s p m q ≡ fits t p m q
    fits_agree m q hm hq = rw (same (sender m) hm, stamp_agree m q hm hq, same (delivered p q) (hp, hq))

    lowest_short_agree : (m : ℕ) → m < 64 → lowest_short s p m ≡ lowest_short t p m
    unfolding lowest_short
    lowest_short_agree m hm =
        first_cong (s size) 0 (λ q. not (fits s p m q)) (λ q. not (fits t p m q))
        (λ q _ l. ap not (fits_agree m q hm (process_low q (omega arith))))
        ∙ ap (λ (n : ℕ). first_from n 0 (λ q. not (fits t p m q))) (same size tt)

    lowest_awaited_agree : (q : ℕ) → q < 16 → lowest_awaited s p q ≡ lowest_awaited t p q
    unfolding lowest_awaited
    lowest_awaited_agree q hq =
        first_cong (s count) 0 (is_awaited s p q) (is_awaited t p q)
        (λ x _ l. is_agree x (message_low x (omega arith)))
        ∙ ap (λ (n : ℕ). first_from n 0 (is_awaited t p q)) (same count tt)
      where
        is_agree : (x : ℕ) → x < 64 → is_awaited s p q x ≡ is_awaited t p q x
        is_agree x hx =
            rw (same (sender x) hx, to_agree x p hx hp, stamp_agree x q hx hq, same (delivered p q) (hp, hq))

    short_agree : (q : ℕ) → q < 16 → short_of s p q ≡ short_of t p q
    unfolding short_of
    short_agree q hq =
        ap₂ (λ (x n : ℕ). pick (ltb x n) (message_of q x) (process_alone q)) (lowest_awaited_agree q hq)
        (same count tt)

    pub awaited_agree : (m : ℕ) → m < 64 → awaited s p m ≡ awaited t p m
    unfolding awaited
    awaited_agree m hm =
        go (ltb (lowest_short s p m) (s size)) refl
        ∙ ap₂ (λ (q n : ℕ). pick (ltb q n) (short_of t p q) yes_now) (lowest_short_agree m hm) (same size tt)
      where
        go : (b : Bool) → ltb (lowest_short s p m) (s size) ≡ b
            → pick b (short_of s p (lowest_short s p m)) yes_now ≡ pick b (short_of t p (lowest_short s p m)) yes_now
        go true e = short_agree (lowest_short s p m) (process_low (lowest_short s p m) (ltb-true _ (s size) e))
        go false e = refl

    deliverable_agree : (i : ℕ) → i < 64 → deliverable_at s p i ≡ deliverable_at t p i
    unfolding deliverable_at deliverable
    deliverable_agree i hi =
        ap₂ (λ (x y : Bool). x && y)
        (absent_cong (s (causal_length p)) (t (causal_length p)) (s (fifo p i)) (λ j. s (causal p j))
        (λ j. t (causal p j)) (same (causal_length p) hp)
        (λ j l. same (causal p j) (omega (arith, (a.at (causal_length p) hp).1))))
        (ap is_yes (awaited_agree (s (fifo p i)) (a.at (fifo p i) (hp, hi)).1))
        ∙ ap (λ (x : ℕ). outside_causal t p x && is_yes (awaited t p x)) (same (fifo p i) (hp, hi))

-- ---- causal deliveries
one_agree : {s t : State} (p i : ℕ) → p < 16 → i < 64 → s (causal_length p) < 64 → Agree s t
    → Agree (causal_one s p i) (causal_one t p i)
unfolding causal_one merge put
one_agree {s} {t} p i hp hi room a =
    tables_agree _ _ (record {
      counters = λ r g q w. ap₂ (λ (x y : ℕ). pick (eqb p r) (max x y) x) (same a (counter r g q) w)
          (same a (stamp (s (fifo p i)) g q) (hm, w.1, w.2) ∙ ap (λ (x : ℕ). t (stamp x g q)) em);
      sequences = λ r g. same a (sequence r g);
      stamps = λ m g q. same a (stamp m g q);
      numbers = λ m g. same a (number m g);
    })
    (put_agree (delivered p (s (sender (s (fifo p i))))) (delivered p (t (sender (t (fifo p i))))) _ _
    (ap (delivered p) eq)
    (stamp_agree a p hp (s (fifo p i)) (s (sender (s (fifo p i)))) hm (a.at (sender (s (fifo p i))) hm).1
    ∙ ap₂ (λ (x q : ℕ). t (stamp x (t (group p)) q)) em eq) tt
    (put_agree (causal_length p) (causal_length p) (s (causal_length p) + 1) (t (causal_length p) + 1) refl
    (ap (λ (n : ℕ). n + 1) en) (omega arith)
    (put_agree (causal p (s (causal_length p))) (causal p (t (causal_length p))) (s (fifo p i)) (t (fifo p i))
    (ap (causal p) en) em tt a)))
  where
    hm : s (fifo p i) < 64
    hm = (a.at (fifo p i) (hp, hi)).1

    em : s (fifo p i) ≡ t (fifo p i)
    em = same a (fifo p i) (hp, hi)

    en : s (causal_length p) ≡ t (causal_length p)
    en = same a (causal_length p) hp

    eq : s (sender (s (fifo p i))) ≡ t (sender (t (fifo p i)))
    eq = same a (sender (s (fifo p i))) hm ∙ ap (λ (x : ℕ). t (sender x)) em

-- with k turns left, and room for them in the log whose length stands in a cell
record Turns (c : Cell) (k : ℕ) (s t : State) : Type 0 where
  pub agree : Agree s t
  pub room : s c + k ≤ 64

-- all causal deliveries
causal_agree : {s t : State} (p : ℕ) → p < 16 → Agree s t → Agree (causal_all s p) (causal_all t p)
unfolding causal_all causal_delivered
causal_agree {s} {t} p hp a =
    subst (λ (k : ℕ). Agree (turns (s (fifo_length p) - s (causal_length p)) s) (turns k t))
    (ap₂ (λ (x y : ℕ). x - y) (same a (fifo_length p) hp) (same a (causal_length p) hp))
    (loop_related (λ u. u (fifo_length p)) (λ u. deliverable_at u p) (λ u. causal_one u p)
    (Turns (causal_length p)) Agree (λ k u v r. r.agree) (λ k u v r. same r.agree (fifo_length p) hp)
    (λ k u v r i l. deliverable_agree r.agree p hp i (item_low u v r.agree i l))
    (λ k u v i l e r. record {
      agree = one_agree p i hp (item_low u v r.agree i l) (omega (arith, r.room)) r.agree;
      room = omega (arith, ap (λ (o : Process). o.causal_length) (causal_one_here u p i), r.room);
    })
    (s (fifo_length p) - s (causal_length p)) s t (record {
      agree = a;
      room = omega (arith, (a.at (fifo_length p) hp).1, (a.at (causal_length p) hp).1);
    }))
  where
    turns : ℕ → State → State
    turns k u = loop (λ u. u (fifo_length p)) (λ u. deliverable_at u p) (λ u. causal_one u p) k u

    item_low : (u v : State) → Agree u v → (i : ℕ) → i < u (fifo_length p) → i < 64
    item_low u v b i l = omega (arith, (b.at (fifo_length p) hp).1)

-- ---- the OKs
oks_agree : {s t : State} (p q k : ℕ) → p < 16 → k ≤ 64 → Agree s t
    → Agree (send_oks s p q k) (send_oks t p q k)
unfolding send_oks send_ok
oks_agree p q zero hp l a = a
oks_agree {s} {t} p q (suc k) hp l a =
    let b = oks_agree p q k hp (omega arith) a in
    pick_agree (due (send_oks s p q k) p q k) (due (send_oks t p q k) p q k) (due_agree b p hp q k l)
    (put_agree (flight k 2 p) (flight k 2 p) _ _ refl (all_agree b k l) tt b) b

-- ---- a FIFO delivery
fifo_agree : {s t : State} (p m : ℕ) → p < 16 → m < 64 → s (fifo_length p) < 64 → Agree s t
    → Agree (fifo_one s p m) (fifo_one t p m)
unfolding fifo_one appended raised_next
fifo_agree {s} {t} p m hp hm room a =
    subst (λ (k : ℕ). Agree (fifo_one s p m) (send_oks (u k) p k (u k count))) (same a (sender m) hm)
    (subst (λ (k : ℕ). Agree (fifo_one s p m) (send_oks (u q) p q k)) (same z count tt)
    (oks_agree p q _ hp (z.at count tt).1 z))
  where
    q : ℕ
    q = s (sender m)

    u : ℕ → State
    u k = raised_next (causal_all (appended t p m) p) p k

    el : s (fifo_length p) ≡ t (fifo_length p)
    el = same a (fifo_length p) hp

    y : Agree (causal_all (appended s p m) p) (causal_all (appended t p m) p)
    y = causal_agree p hp
        (put_agree (fifo_length p) (fifo_length p) (s (fifo_length p) + 1) (t (fifo_length p) + 1) refl
        (ap (λ (x : ℕ). x + 1) el) (omega arith)
        (put_agree (fifo p (s (fifo_length p))) (fifo p (t (fifo_length p))) m m (ap (fifo p) el) refl hm a))

    z : Agree (raised_next (causal_all (appended s p m) p) p (s (sender m))) (u (s (sender m)))
    z = put_agree (next p q) (next p q) _ _ refl
        (ap (λ (x : ℕ). x + 1) (same y (next p q) (hp, (a.at (sender m) hm).1))) tt y

-- ---- the cascade
cascade_agree : {s t : State} (p : ℕ) → p < 16 → Agree s t → Agree (cascade s p) (cascade t p)
unfolding cascade
cascade_agree {s} {t} p hp a =
    subst (λ (k : ℕ). Agree (turns (s count - s (fifo_length p)) s) (turns k t))
    (ap₂ (λ (x y : ℕ). x - y) (same a count tt) (same a (fifo_length p) hp))
    (loop_related (λ u. u count) (λ u. ready u p) (λ u. fifo_one u p) (Turns (fifo_length p)) Agree
    (λ k u v r. r.agree) (λ k u v r. same r.agree count tt)
    (λ k u v r m l. ready_agree r.agree p hp m (message_low r.agree m l))
    (λ k u v m l e r. record {
      agree = fifo_agree p m hp (message_low r.agree m l) (omega (arith, r.room)) r.agree;
      room = omega (arith, ap (λ (f : Front). f.fifo_length) (fifo_one_front u p m), r.room);
    })
    (s count - s (fifo_length p)) s t (record {
      agree = a;
      room = omega (arith, (a.at count tt).1, (a.at (fifo_length p) hp).1);
    }))
  where
    turns : ℕ → State → State
    turns k u = loop (λ u. u count) (λ u. ready u p) (λ u. fifo_one u p) k u

-- ---- the steps
pub leave_agree : {s t : State} (k m q p : ℕ) → k < 3 → m < 64 → q < 16 → Agree s t
    → Agree (leave s k m q p) (leave t k m q p)
unfolding leave
leave_agree k m q p hk hm hq a =
    put_agree (flight m k q) (flight m k q) _ _ refl
    (ap (λ (x : ℕ). without x p) (same a (flight m k q) (hm, hk, hq))) tt a

-- a mark
mark_agree : {s t : State} (k m q p : ℕ) → m < 64 → p < 16 → Agree s t
    → Agree (mark s k m q p) (mark t k m q p)
unfolding mark
mark_agree k m q p hm hp a =
    pick_agree (eqb k 2) (eqb k 2) refl
    (put_agree (marks p m) (marks p m) _ _ refl (ap (λ (x : ℕ). with x q) (same a (marks p m) (hp, hm))) tt a)
    a

-- a message held
hold_agree : {s t : State} (p m : ℕ) → p < 16 → m < 64 → Agree s t → Agree (hold s p m) (hold t p m)
unfolding hold
hold_agree {s} {t} p m hp hm a =
    pick_agree (eqb (s (held p m)) 1) (eqb (t (held p m)) 1) (held_agree a p hp m hm) a
    (put_agree (flight m (pick (in_turn s p m) 2 1) p) (flight m (pick (in_turn t p m) 2 1) p) _ _
    (ap (λ (b : Bool). flight m (pick b 2 1) p) (turn_agree a p hp m hm)) (all_agree a m hm) tt
    (put_agree (held p m) (held p m) 1 1 refl refl tt a))

-- an arrival
pub arrival_agree : {s t : State} (k m q p : ℕ) → k < 3 → m < 64 → q < 16 → p < 16 → Agree s t
    → Agree (arrival s k m q p) (arrival t k m q p)
unfolding arrival
arrival_agree k m q p hk hm hq hp a =
    cascade_agree p hp (hold_agree p m hp hm (mark_agree k m q p hm hp (leave_agree k m q p hk hm hq a)))

-- a trust step
pub trust_agree : {s t : State} (p set : ℕ) → p < 16 → Agree s t → Agree (trust_set s p set) (trust_set t p set)
unfolding trust_set
trust_agree p set hp a = cascade_agree p hp (put_agree (trust p) (trust p) set set refl refl tt a)

-- a crash
pub crash_agree : {s t : State} (p : ℕ) → Agree s t → Agree (crash s p) (crash t p)
unfolding crash
crash_agree p a = put_agree (up p) (up p) 0 0 refl refl tt a

-- ---- a multicast
raised_agree : {s t : State} (p groups : ℕ) → Agree s t → Agree (raised s p groups) (raised t p groups)
unfolding raised
raised_agree p groups a = tables_agree _ _ (record {
  counters =
      λ r g q w. ap (λ (v : ℕ). pick (eqb p r && eqb p q && bit groups g) (v + 1) v) (same a (counter r g q) w);
  sequences = λ r g w. ap (λ (v : ℕ). pick (eqb p r && bit groups g) (v + 1) v) (same a (sequence r g) w);
  stamps = λ m g q. same a (stamp m g q);
  numbers = λ m g. same a (number m g);
}) a

-- counters copied onto the message
stamped_agree : {s t : State} (p m : ℕ) → p < 16 → Agree s t → Agree (stamped s p m) (stamped t p m)
unfolding stamped
stamped_agree p m hp a = tables_agree _ _ (record {
  counters = λ r g q. same a (counter r g q);
  sequences = λ r g. same a (sequence r g);
  stamps = λ x g q w.
      ap₂ (λ (u v : ℕ). pick (eqb m x) u v) (same a (counter p g q) (hp, w.1, w.2)) (same a (stamp x g q) w);
  numbers = λ x g w.
      ap₂ (λ (u v : ℕ). pick (eqb m x) u v) (same a (sequence p g) (hp, w.1)) (same a (number x g) w);
}) a

-- the message numbered
numbered_agree : {s t : State} (p groups o : ℕ) → p < 16 → s count < 64 → Agree s t
    → Agree (numbered s p groups o) (numbered t p groups o)
unfolding numbered
numbered_agree {s} {t} p groups o hp hc a =
    let e : s count ≡ t count = same a count tt in
    put_agree count count (s count + 1) (t count + 1) refl (ap (λ (x : ℕ). x + 1) e) (omega arith)
    (put_agree (order (s count)) (order (t count)) o o (ap order e) refl tt
    (put_agree (mask (s count)) (mask (t count)) groups groups (ap mask e) refl tt
    (put_agree (sender (s count)) (sender (t count)) p p (ap sender e) refl hp a)))

-- the whole of it
pub multicast_agree : {s t : State} (p groups o : ℕ) → p < 16 → s count < 64 → Agree s t
    → Agree (multicast s p groups o) (multicast t p groups o)
unfolding multicast posted stamped raised with_tables
multicast_agree {s} {t} p groups o hp hc a =
    subst
    (λ (m : ℕ). Agree (multicast s p groups o)
    (posted (numbered (stamped (raised t p groups) p m) p groups o) p m)) (same a count tt)
    (put_agree (flight (s count) 0 p) (flight (s count) 0 p) _ _ refl (all_agree b (s count) hc) tt b)
  where
    b : Agree (numbered (stamped (raised s p groups) p (s count)) p groups o)
        (numbered (stamped (raised t p groups) p (s count)) p groups o)
    b = numbered_agree p groups o hp hc (stamped_agree p (s count) hp (raised_agree p groups a))
