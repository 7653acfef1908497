-- The changes of a world before its cascade keep what letters tell: a letter arrives (it leaves flight, the
-- mark is set, the message is held and answered), a letter is lost with an end down, a process crashes, a
-- trust set is replaced, a message is multicast. When a message is first held, its number is next or above:
-- were it below, it would be in the FIFO log and held. Assumes nothing.
use Rattle.std.specs.Prelude.{◌≡◌, Bool, true, false, List, ◌⊎◌, ◌≢◌, ℕ, ◌+◌, ◌≤◌, ◌<◌, eqb}
use Rattle.std.proofs.Math.Path.{refl, ap, subst₂}
use Rattle.std.proofs.Common.{sym, ap₂, ◌∙◌, subst, inr, arith}
use Rattle.std.proofs.Math.Logic.{inl}
use borrow.Author.Tests.{eqb-false, ltb-true}
use Rattle.definitions.specs.General.{pick, In, in_at, bit, with}
use Rattle.definitions.specs.World.{size, count, group, trust, up, fifo_length, next, held, marks, fifo, sender, stamp, number, flight, State, put, addressed}
use Rattle.definitions.specs.Machine.{with_tables, addressees, in_turn, raised, stamped, numbered, multicast, leave, mark, received, posted as post}
use Rattle.definitions.specs.History.{Event}
use Rattle.base.specs.Bits.{with_old, with_hit, with_cases}
use Rattle.world.specs.Layout.{put_same, put_at}
use Rattle.world.specs.SoundLaws.{Sound, size_high, letter_facts, held_facts, mark_facts, sender_low, fifo_exists}
use Rattle.world.specs.StepLaws.{InFlight}
use Rattle.world.specs.Kept.{mark_cases, hold_cases}
use Rattle.effects.specs.Views.{messages, Process, process, Ground}
use Rattle.effects.specs.Arrival.{Held, Fly, put_letter, leave_cases, marked_held, mark_process, mark_ground, received_process, received_ground, received_held}
use Rattle.effects.specs.Flying.{in_addressees, received_holds, received_flies}
use Rattle.effects.specs.Holding.{sound_letter}
use Rattle.effects.specs.Spent.{once_then, leave_once, mark_once, hold_once, multicast_once, marked_low}
use Rattle.effects.specs.Cascade.{Near}
use Rattle.order.specs.Knowledge.{knowledge}
use Rattle.order.specs.Counters.{OneMore, old_or_new}
use Rattle.order.specs.Logs.{FifoLogOf}
use Rattle.order.specs.Cascade.{MeaningOf}
use Rattle.order.specs.Multicast.{one_more}
use Rattle.agreement.specs.Letters.{Mark, Down, Told, is_done, from_down, to_down, flies, Net, Flown, still, landed, lost_from, lost_to, ToAll, Progress, net_progress}

-- ---- marks when a letter arrives
module _ (s : State) (k m q p : ℕ) where
  -- the marks of p for m have q's besides, if the letter is an OK; others are as they were
  received_marks : (P : ℕ → ℕ → ℕ → Type 0) → (k ≡ 2 → P p m (with (s (marks p m)) q))
      → ((r x : ℕ) → (k ≡ 2 → p ≡ r → m ≢ x) → P r x (s (marks r x)))
      → (r x : ℕ) → P r x (received s k m q p (marks r x))
  unfolding leave put
  received_marks P hit other r x =
      hold_cases (λ t. P r x (t (marks r x))) (mark (leave s k m q p) k m q p) p m (λ _. here) (λ _. here)
    where
      here : P r x (mark (leave s k m q p) k m q p (marks r x))
      here =
          mark_cases (λ t. P r x (t (marks r x))) (leave s k m q p) k m q p
          (λ two. put_at (leave s k m q p) (marks p m) (marks r x) (with (s (marks p m)) q) (P r x)
          (λ e. subst₂ (λ (z y : ℕ). P z y (with (s (marks p m)) q)) (cc) (cc) (hit two))
          (λ n. other r x (λ _ d e. n (ap₂ marks d e))))
          (λ n. other r x (λ two. absurd (n two)))

  -- no mark is taken away
  pub marked_on : (r x o : ℕ) → Mark s r x o → Mark (received s k m q p) r x o
  marked_on r x o =
      received_marks (λ r x v. Mark s r x o → bit v o ≡ true) (λ _ z. with_old (s (marks p m)) q o z)
      (λ _ _ _ z. z) r x

  -- an OK sets the mark of its origin
  pub marked_hit : k ≡ 2 → Mark (received s k m q p) p m q
  marked_hit two =
      received_marks (λ r x v. p ≡ r → m ≡ x → bit v q ≡ true) (λ _ _ _. with_hit (s (marks p m)) q)
      (λ r x n d e. absurd (n two d e)) p m refl refl

  -- no other mark is new
  marked_back : (P : ℕ → ℕ → ℕ → Type 0) → ((r x o : ℕ) → Mark s r x o → P r x o) → (k ≡ 2 → P p m q)
      → (r x o : ℕ) → Mark (received s k m q p) r x o → P r x o
  marked_back P old new r x o =
      received_marks (λ r x v. bit v o ≡ true → P r x o)
      (λ two z. elim (with_cases (s (marks p m)) q o z) [
        | inl a ↦ old p m o a
        | inr a ↦ rw a at (new two)
      ])
      (λ r x _ z. old r x o z) r x

-- ---- an arrival, up to its cascade
module _ (s : State) (k m q p : ℕ) (l : InFlight s k m q p) (sound : Sound s)
    (f : FifoLogOf (messages s) (process s p))
    (number_rank : s (number m (s (group p))) ≡ s (stamp m (s (group p)) (s (sender m)))) (n : Net s) where
  -- the state before p holds m, and after
  abbrev t₁ : State
  t₁ = mark (leave s k m q p) k m q p

  abbrev t : State
  t = received s k m q p

  -- what it looks at, by the views
  to_same : (x u : ℕ) → addressed (received s k m q p) x u ≡ addressed s x u
  to_same x u = ap (λ (g : Ground). bit (g.messages.mask x) (g.group u)) (received_ground s k m q p)

  size_same : received s k m q p size ≡ s size
  size_same = ap (λ (g : Ground). g.size) (received_ground s k m q p)

  count_same : received s k m q p count ≡ s count
  count_same = ap (λ (g : Ground). g.messages.total) (received_ground s k m q p)

  near_back : (x r : ℕ) → Near (received s k m q p) x r → Near s x r
  near_back x r =
      subst (λ (T : Type 0). T)
      (ap₂ (λ (g : Ground) (o : Process). g.messages.number x (g.group r) ≤ o.next (g.messages.sender x))
      (received_ground s k m q p) (received_process s k m q p r))

  -- m is to all addressees
  to_all : (u : ℕ) → u < s size → addressed s m u ≡ true
      → bit (addressees (mark (leave s k m q p) k m q p) m) u ≡ true
  to_all u hu au =
      in_addressees t₁ m u (omega (arith, ap (λ (g : Ground). g.size) (mark_ground s k m q p)))
      (ap (λ (g : Ground). bit (g.messages.mask m) (g.group u)) (mark_ground s k m q p) ∙ au)

  -- p answers what is new to it, by a letter of kind 2 if it is in turn, else of kind 1
  module _ (new : s (held p m) ≢ 1) where
    answered : (u : ℕ) → u < s size → addressed s m u ≡ true
        → Fly (received s k m q p) m (pick (in_turn s p m) 2 1) p u
    answered u hu au =
        hold_cases (λ t. Fly t m (pick (in_turn s p m) 2 1) p u) t₁ p m
        (λ e. absurd (new (sym (marked_held s k m q p p m) ∙ e)))
        (λ _. rw (turn_same, put_same _ (flight m (pick (in_turn t₁ p m) 2 1) p) _ (addressees t₁ m) refl)
        (to_all u hu au))
      where
        turn_same : in_turn s p m ≡ in_turn (mark (leave s k m q p) k m q p) p m
        turn_same =
            sym (ap₂ (λ (g : Ground) (o : Process).
            eqb (g.messages.number m (g.group p)) (o.next (g.messages.sender m)))
            (mark_ground s k m q p) (mark_process s k m q p p))

    -- of either kind
    answer : (u : ℕ) → u < s size → addressed s m u ≡ true
        → Fly (received s k m q p) m 1 p u ⊎ Fly (received s k m q p) m 2 p u
    answer u hu au = go (in_turn s p m) (answered u hu au)
      where
        go : (b : Bool) → Fly (received s k m q p) m (pick b 2 1) p u
            → Fly (received s k m q p) m 1 p u ⊎ Fly (received s k m q p) m 2 p u
        go true z = inr z
        go false z = inl z

    -- of kind 2, if it is in turn or past it: were its number below next, m would be in the FIFO log, and held
    ok_answer : Near s m p → (u : ℕ) → u < s size → addressed s m u ≡ true → Fly (received s k m q p) m 2 p u
    ok_answer y u hu au =
        rw (go (in_turn s p m) refl) at (answered u hu au)
      where
        in_log : In (s (fifo_length p)) (λ i. s (fifo p i)) m → Held s p m
        in_log (in_at i h e) = rw e at (n.kept p i l.to h)

        go : (b : Bool) → in_turn s p m ≡ b → in_turn s p m ≡ true
        go true e = e
        go false e =
            let ne = eqb-false (s (number m (s (group p)))) (s (next p (s (sender m)))) e in
            absurd (new (in_log (f.prefix.below_in m l.message (sound_letter s sound k m q p l)
            (omega (arith, number_rank)))))

  -- an arrival before its cascade loses no letter and sends what it owes
  received_progress : Progress s (received s k m q p)
  received_progress = record {
    same_size = size_same;
    same_to = λ x r _. to_same x r;
    same_sender = λ x _. ap (λ (g : Ground). g.messages.sender x) (received_ground s k m q p);
    once = once_then (leave_once s k m q p) (once_then (mark_once (leave s k m q p) k m q p)
        (hold_once t₁ p m (marked_low s k m q p l.message)));
    mark_on = λ x r u _ _. marked_on s k m q p u x r;
    down_on = λ r d e. d (sym (ap (λ (g : Ground). g.up r) (received_ground s k m q p)) ∙ e);
    flown = λ x j r u _ _ hu au z.
        leave_cases s k m q p (λ x j r u. u < s size → addressed s x u ≡ true → Flown t x j r u)
        (λ _ _. landed (received_holds s k m q p) (marked_hit s k m q p))
        (λ x j r u w hu au. still (received_flies s k m q p x j r u hu au w))
        x j r u z hu au;
    old_ok = λ x r u hx _ _ _. omega (arith, count_same);
    new_mark = λ x r u hx _ _ z.
        marked_back s k m q p
        (λ u x r. x < s count → ((x < s count) × Mark s u x r) ⊎ ((x < s count) × Fly s x 2 r u))
        (λ _ _ _ w h. inl (h, w)) (λ two h. inr (h, rw two at l.flies)) u x r z
        (omega (arith, count_same));
    new_holder = λ x r hx _ z.
        received_held s k m q p
        (λ r x. x < s count
        → ((x < s count) × Held s r x) ⊎ ToAll t x r (λ r u. Fly t x 1 r u ⊎ Fly t x 2 r u))
        (λ _ _ w h. inl (h, w))
        (λ new _. inr (λ u hu au. answer new u (omega (arith, size_same)) (sym (to_same m u) ∙ au))) r x z
        (omega (arith, count_same));
    new_near = λ x r hx _ z y.
        received_held s k m q p
        (λ r x. x < s count → Near s x r
        → ((x < s count) × Held s r x × Near s x r) ⊎ ToAll t x r (λ r u. Fly t x 2 r u))
        (λ _ _ w h y. inl (h, w, y))
        (λ new _ y. inr (λ u hu au. ok_answer new y u (omega (arith, size_same)) (sym (to_same m u) ∙ au)))
        r x z (omega (arith, count_same)) (near_back x r y);
    new_message = λ x hx. inl (omega (arith, count_same));
    logged = λ r i hr hi.
        let e = received_process s k m q p r in
        let h : i < s (fifo_length r) = omega (arith, ap (λ (o : Process). o.fifo_length) e) in
        inl (
          h,
          ap (λ (o : Process). o.fifo i) e,
          fifo_exists s sound r i hr h,
        );
    senders = sender_low s sound;
  }

  -- so it keeps what letters tell
  pub received_net : Net (received s k m q p)
  received_net = net_progress s (received s k m q p) received_progress n

-- ---- a letter is lost, with an end down
pub lost_net : (s : State) (k m q p : ℕ) → Sound s → Down s q ⊎ Down s p → Net s → Net (leave s k m q p)
unfolding leave put
lost_net s k m q p sound d n = net_progress s (leave s k m q p) (record {
  same_size = refl;
  same_to = λ x r _. refl;
  same_sender = λ x _. refl;
  once = leave_once s k m q p;
  mark_on = λ x r u _ _ z. z;
  down_on = λ r e. e;
  flown = λ x j r u _ _ _ _. leave_cases s k m q p (Flown (leave s k m q p))
      (elim d [ inl a ↦ lost_from a | inr a ↦ lost_to a ]) (λ _ _ _ _ w. still w) x j r u;
  old_ok = λ x r u hx _ _ _. hx;
  new_mark = λ x r u hx hr hu z. inl (hx, z);
  new_holder = λ x r hx hr h. inl (hx, h);
  new_near = λ x r hx hr h y. inl (hx, h, y);
  new_message = λ x hx. inl hx;
  logged =
      λ r i hr hi. inl (hi, refl, fifo_exists s sound r i hr hi);
  senders = sender_low s sound;
}) n

-- ---- a process crashes: down is for good
pub crashed_net : (s : State) (p : ℕ) → Net s → Net (put s (up p) 0)
unfolding put
crashed_net s p n = record {
  kept = n.kept;
  ok_flies = n.ok_flies;
  ok_marked = n.ok_marked;
  relayed = λ m r u hm hr hu h a. fall r u (n.relayed m r u hm hr hu h a);
  okayed = λ m r u hm hr hu h y a. fall r u (n.okayed m r u hm hr hu h y a);
  posted = λ m u hm hu a. fall (s (sender m)) u (n.posted m u hm hu a);
}
  where
    down : (r : ℕ) → Down s r → Down (put s (up p) 0) r
    down r d = put_at s (up p) (up r) 0 (λ v. v ≢ 1) (λ _. omega arith) (λ _. d)

    fall : (r u : ℕ) {a b : Type 0} → Told (Down s r) (Down s u) a b
        → Told (Down (put s (up p) 0) r) (Down (put s (up p) 0) u) a b
    fall r u (is_done x) = is_done x
    fall r u (from_down x) = from_down (down r x)
    fall r u (to_down x) = to_down (down u x)
    fall r u (flies x) = flies x

-- ---- a trust set is replaced: no letter looks at it
pub trusted_net : (s : State) (p set : ℕ) → Net s → Net (put s (trust p) set)
unfolding put
trusted_net s p set n = record {
  kept = n.kept;
  ok_flies = n.ok_flies;
  ok_marked = n.ok_marked;
  relayed = n.relayed;
  okayed = n.okayed;
  posted = n.posted;
}

-- ---- a multicast: first letters to all addressees of a message that nobody holds
module _ (s : State) (es : List Event) (p groups order_no : ℕ) (o : MeaningOf s es) (sound : Sound s) where
  -- an old letter still flies
  sent_old : (x j r u : ℕ) → x < s count → Fly s x j r u → Fly (multicast s p groups order_no) x j r u
  unfolding multicast post numbered stamped raised put with_tables
  sent_old x j r u =
      put_letter s (s count) 0 p (addressees (multicast s p groups order_no) (s count))
      (λ x j r v. x < s count → Fly s x j r u → bit v u ≡ true) (λ h _. absurd (omega arith)) (λ _ _ _ _ f. f)
      x j r

  -- the first letters fly to all addressees
  first_letters : (u : ℕ) → u < s size → addressed (multicast s p groups order_no) (s count) u ≡ true
      → Fly (multicast s p groups order_no) (s count) 0 p u
  unfolding multicast post numbered stamped raised put with_tables
  first_letters u h a =
      rw (put_same s (flight (s count) 0 p) (flight (s count) 0 p)
      (addressees (multicast s p groups order_no) (s count)) refl) (in_addressees (multicast s p groups order_no) (s count) u h a)

  -- a multicast keeps what letters tell
  pub multicast_net : s count < 64 → Net s → Net (multicast s p groups order_no)
  unfolding multicast post numbered stamped raised put with_tables
  multicast_net hc n = net_progress s (multicast s p groups order_no) (record {
    same_size = refl;
    same_to = λ x r h. ap (λ (v : ℕ). bit v (s (group r))) (w.old_mask x h);
    same_sender = w.old_sender;
    once = multicast_once s p groups order_no;
    mark_on = λ x r u _ _ z. z;
    down_on = λ r e. e;
    flown = λ x j r u hx hr hu au z. still (sent_old x j r u hx z);
    old_ok = λ x r u hx hr hu y.
        ltb-true x (s count)
        (letter_facts s sound 2 x r u (omega arith) (omega arith) (low r hr) (low u hu) y).of;
    new_mark = λ x r u hx hr hu z.
        inl (ltb-true x (s count) (mark_facts s sound u x r (low u hu) (omega arith) (low r hr) z).0.of, z);
    new_holder = λ x r hx hr h. inl (old_held x r hx hr h, h);
    new_near = λ x r hx hr h y.
        let hx' = old_held x r hx hr h in
        inl (hx', h, rw (near_is x r hx') at y);
    new_message = old_or_new o.counting w
        (λ x. (x < s count)
        ⊎ ToAll (multicast s p groups order_no) x (multicast s p groups order_no (sender x))
        (λ r u. Fly (multicast s p groups order_no) x 0 r u))
        (inr (λ u hu au. rw w.new_sender (first_letters u hu au)))
        (λ x hx. inl hx);
    logged =
        λ r i hr hi. inl (hi, refl, fifo_exists s sound r i hr hi);
    senders = sender_low s sound;
  }) n
    where
      w : OneMore (messages s) (knowledge es) p groups (messages (multicast s p groups order_no))
      w = one_more s es p groups order_no o

      near_is : (x r : ℕ) → x < s count → Near (multicast s p groups order_no) x r ≡ Near s x r
      near_is x r h =
          ap₂ (λ (a b : ℕ). a ≤ s (next r b)) (w.old_number x (s (group r)) h) (w.old_sender x h)

      low : (r : ℕ) → r < s size → r < 16
      low r h = omega (arith, size_high s sound)

      -- nobody holds the new message
      old_held : (x r : ℕ) → x < s count + 1 → r < s size → Held s r x → x < s count
      old_held x r hx hr h =
          ltb-true x (s count) (held_facts s sound r x (low r hr) (omega arith) (omega arith)).of
