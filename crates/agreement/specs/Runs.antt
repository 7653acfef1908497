-- Every step of a run keeps what letters and trust tell (Live), for any set of live processes that every
-- trust set in force names enough of. The trust rule of a list, its set put to the processes up at the end,
-- is just such a set; a settle changes no trust set and no process's being up, so it stays one. Assumes
-- nothing.
use Rattle.std.specs.Prelude.{◌≡◌, Bool, true, false, List, [], ◌∷◌, ◌≢◌, ℕ, ◌<◌}
use Rattle.std.proofs.Math.Path.{refl, ap, subst}
use Rattle.std.proofs.Common.{sym, ◌∙◌, arith, not-suc-le-zero}
use borrow.Author.Tests.{ltb-true}
use Rattle.definitions.specs.General.{pick, In, in_at, bit}
use Rattle.definitions.specs.World.{size, count, group, trust, up, causal_length, next, held, marks, State, put}
use Rattle.definitions.specs.Setup.{fresh, made}
use Rattle.definitions.specs.Machine.{with_tables, cascade, raised, stamped, numbered, posted, multicast, leave, received, arrival, trust_set, crash}
use Rattle.definitions.specs.Steps.{Step, multicasts, arrives, loses, trusts, crashes, malformed, read, accepted, step}
use Rattle.definitions.specs.Settle.{choice}
use Rattle.definitions.specs.History.{Event, Run, Item, given, settling, taken, tick, settles, act, run, InForce, AllAlong}
use Rattle.world.specs.Layout.{put_other}
use Rattle.world.specs.SoundLaws.{size_high, held_facts}
use Rattle.world.specs.StepLaws.{accepted_multicast, accepted_arrival, accepted_trust, moves_taken}
use Rattle.world.specs.TurnLaws.{choice_moves}
use Rattle.world.specs.SettleLaws.{settle_keeps}
use Rattle.world.specs.Runs.{on_states}
use Rattle.world.specs.Local.{received_local}
use Rattle.effects.specs.Views.{place_local, messages, Process, process, Ground, ground, Still, place}
use Rattle.effects.specs.Cascade.{cascade_still}
use Rattle.effects.specs.Arrival.{received_scene, received_process, received_ground}
use Rattle.effects.specs.Holding.{loss_needs, arrival_ground, received_to, trusted_held}
use Rattle.order.specs.Knowledge.{knowledge}
use Rattle.order.specs.Counters.{OneMore}
use Rattle.order.specs.Multicast.{one_more}
use Rattle.order.specs.Runs.{with_history, Whole, cascade_begins, whole_step, whole_act}
use Rattle.agreement.specs.Letters.{Net}
use Rattle.agreement.specs.Arrivals.{marked_on, received_net, lost_net, crashed_net, trusted_net, multicast_net}
use Rattle.agreement.specs.Turns.{names_same, Covers, Vouched, vouched, TrustedAt, Trusted, Pending, delivered, not_in_turn, unmarked, IdleAt, Live, live_cascade}

-- ---- trust sets
-- they stay in force where size, groups, trust sets and who is up stay
pub in_force_same : (live : ℕ → Bool) (s t : State) → ground t ≡ ground s → InForce live s → InForce live t
in_force_same live s t e f p q hp hq u l =
    names_same live s t p q e
    (f p q (omega (arith, ap (λ (g : Ground). g.size) e)) (omega (arith, ap (λ (g : Ground). g.size) e))
    (sym (ap (λ (g : Ground). g.up p) e) ∙ u) l)

-- ---- an arrival, up to its cascade
module _ (s : State) (k m q p : ℕ) where
  -- a process that it is not for has no part in it
  aside_received : (r : ℕ) → p ≢ r → place (received s k m q p) r ≡ place s r
  aside_received r n =
      place_local s (received s k m q p) r (λ c o. received_local p r n c o s k m q) (received_ground s k m q p)

  -- what trust gives stays
  received_trusted : (live : ℕ → Bool) → Trusted live s → Trusted live (received s k m q p)
  received_trusted live tr r x o f ho lo a =
      let g = received_ground s k m q p in
      go (tr r x o (subst (λ (v : Process). In v.fifo_length v.fifo x) (received_process s k m q p r) f)
      (omega (arith, ap (λ (v : Ground). v.size) g)) lo
      (sym (ap (λ (v : Ground). bit (v.messages.mask x) (v.group o)) g) ∙ a))
    where
      go : Vouched live (s size) (λ u. s (group u)) (s (marks r x)) o
          → Vouched live (received s k m q p size) (λ u. received s k m q p (group u))
          (received s k m q p (marks r x)) o
      go (vouched u hu lu gu mu) =
          let g = received_ground s k m q p in
          vouched u (omega (arith, ap (λ (v : Ground). v.size) g)) lu
          (ap (λ (v : Ground). v.group u) g ∙ gu ∙ sym (ap (λ (v : Ground). v.group o) g))
          (marked_on s k m q p r x u mu)

-- ---- every accepted step
module _ (live : ℕ → Bool) (s : State) (es : List Event) (w : Whole (with_history s es))
    (v : Live live s) where
  multicast_live : (p groups order_no : ℕ) → s count < 64 → Live live (multicast s p groups order_no)
  unfolding multicast posted numbered stamped raised put with_tables
  multicast_live p groups order_no hc = record {
    net = multicast_net s es p groups order_no w.meaning w.sound hc v.net;
    idle = λ r hr x hx h.
        let hx' =
        ltb-true x (s count)
        (held_facts s w.sound r x (omega (arith, size_high s w.sound)) (omega arith)
        (omega arith)).of in
        pending r x hx' (v.idle r hr x hx' h);
    trusted = λ r x q f hq lq a.
        let hx : x < s count =
        elim f [ in_at i h e ↦ rw e at ((w.meaning.each r).fifo_log.old i h) ] in
        v.trusted r x q f hq lq (rw (o.old_mask x hx) at a);
  }
    where
      o : OneMore (messages s) (knowledge es) p groups (messages (multicast s p groups order_no))
      o = one_more s es p groups order_no w.meaning

      pending : (r x : ℕ) → x < s count → Pending (place s r) x → Pending (place (multicast s p groups order_no) r) x
      pending r x hx (delivered f) = delivered f
      pending r x hx (not_in_turn d) =
          not_in_turn
          (λ e. d
          (sym (o.old_number x (s (group r)) hx) ∙ e
          ∙ ap (λ (z : ℕ). s (next r z)) (o.old_sender x hx)))
      pending r x hx (unmarked q hq b a d) = unmarked q hq b (rw (o.old_mask x hx) a) d

  -- an arrival
  arrival_live : (k m q p : ℕ) → accepted s (arrives k m q p) ≡ true → Covers live s p
      → Live live (arrival s k m q p)
  unfolding arrival
  arrival_live k m q p e c =
      let l = (accepted_arrival s k m q p e).letter in
      let g = received_ground s k m q p in
      live_cascade live p (s (causal_length p)) es (received s k m q p) (received_to s w.sound k m q p l)
      (cascade_begins s (received s k m q p) es (received_scene s k m q p) p w.meaning w.quiet)
      (λ x hx lx. names_same live s (received s k m q p) p x g
      (c x (omega (arith, ap (λ (v : Ground). v.size) g)) lx))
      (received_net s k m q p l w.sound (w.meaning.each p).fifo_log
      (w.meaning.counting.numbers m (s (group p)) l.message) v.net)
      (received_trusted s k m q p live v.trusted)
      (λ r hr n. subst IdleAt (sym (aside_received s k m q p r n))
      (v.idle r (omega (arith, ap (λ (v : Ground). v.size) g))))

  -- a trust step, whose new set names enough
  trust_live : (p set : ℕ) → p < s size → Covers live (put s (trust p) set) p → Live live (trust_set s p set)
  unfolding trust_set put
  trust_live p set hp c =
      live_cascade live p (s (causal_length p)) es (put s (trust p) set) (trusted_held s w.sound p set hp)
      (cascade_begins s (put s (trust p) set) es refl p w.meaning w.quiet) c
      (trusted_net s p set v.net)
      v.trusted (λ r hr n. rw (aside r n) (v.idle r hr))
    where
      aside : (r : ℕ) → p ≢ r → place (put s (trust p) set) r ≡ place s r
      aside r n = λ j. record {
        size = s size;
        messages = messages s;
        groups = λ q. s (group q);
        own = process s r;
        trust = put_other s (trust p) (trust r) set (λ e. n (cc)) j;
        held = λ m. s (held r m);
        marks = λ m. s (marks r m);
      }

  -- a letter is lost, or a process crashes: no message is delivered, and none that was held is ready now
  plain_live : (t : State) → Net t → t size ≡ s size → ((r : ℕ) → place t r ≡ place s r) → Live live t
  plain_live t n z a = record {
    net = n;
    idle = λ r hr. subst IdleAt (sym (a r)) (v.idle r (omega arith));
    trusted = λ r. subst (TrustedAt live) (sym (a r)) (v.trusted r);
  }

  -- every accepted step
  pub live_step : (x : Step) → accepted s x ≡ true → InForce live s → InForce live (step s x)
      → Live live (step s x)
  unfolding step trust_set crash leave put
  live_step (multicasts p groups order_no) e f f' = multicast_live p groups order_no (accepted_multicast s p groups order_no e).room
  live_step (arrives k m q p) e f f' =
      let a = accepted_arrival s k m q p e in
      arrival_live k m q p e (λ x hx lx. f p x a.letter.to hx a.live lx)
  live_step (loses k m q p) e f f' =
      plain_live (leave s k m q p) (lost_net s k m q p w.sound (loss_needs s k m q p e) v.net) refl
      (λ r. refl)
  live_step (trusts p set) e f f' =
      trust_live p set (accepted_trust s p set e).process
      (covered (accepted_trust s p set e).process (accepted_trust s p set e).live)
    where
      -- the cascade leaves the new trust set in force
      covered : p < s size → s (up p) ≡ 1 → Covers live (put s (trust p) set) p
      covered hp u q hq lq =
          let g = ap (λ (x : Still). x.ground) (cascade_still (put s (trust p) set) p) in
          let z : cascade (put s (trust p) set) p size ≡ s size = ap (λ (x : Ground). x.size) g in
          names_same live (cascade (put s (trust p) set) p) (put s (trust p) set) p q (sym g)
          (f' p q (omega (arith, z)) (omega (arith, z)) (ap (λ (x : Ground). x.up p) g ∙ u) lq)
  live_step (crashes p) e f f' = plain_live (put s (up p) 0) (crashed_net s p v.net) refl (λ r. refl)
  live_step malformed e f f' = v

-- ---- a fresh world
pub live_started : (live : ℕ → Bool) (setup : List ℕ) → Live live (made setup)
unfolding made fresh
live_started live setup = record {
  net = record {
    kept = λ p i hp h. absurd (not-suc-le-zero h);
    ok_flies = λ m r u h. absurd (not-suc-le-zero h);
    ok_marked = λ m r u h. absurd (not-suc-le-zero h);
    relayed = λ m r u h. absurd (not-suc-le-zero h);
    okayed = λ m r u h. absurd (not-suc-le-zero h);
    posted = λ m u h. absurd (not-suc-le-zero h);
  };
  idle = λ p hp m h. absurd (not-suc-le-zero h);
  trusted = λ p m q f. elim f [ in_at i h e ↦ absurd (not-suc-le-zero h) ];
}

-- ---- settles, and lists
-- a run in the midst of a settle that began at r
pub record During (live : ℕ → Bool) (r t : Run State) : Type 0 where
  pub whole : Whole t
  pub lives : Live live t.now
  pub ground_is : ground t.now ≡ ground r.now

-- an arrival of a settle
pub arrival_during : (live : ℕ → Bool) (r t : Run State) (k m q p : ℕ) → InForce live r.now
    → accepted t.now (arrives k m q p) ≡ true → During live r t
    → During live r (taken on_states t (arrives k m q p))
unfolding step
arrival_during live r t k m q p f e d =
    let g = arrival_ground t.now k m q p ∙ d.ground_is in
    record {
      whole = whole_step t.now t.seen (arrives k m q p) e d.whole;
      lives = live_step live t.now t.seen d.whole d.lives (arrives k m q p) e
          (in_force_same live r.now t.now d.ground_is f)
          (in_force_same live r.now (arrival t.now k m q p) g f);
      ground_is = g;
    }

-- an item
live_act : (live : ℕ → Bool) (r : Run State) (i : Item) → Whole r → Live live r.now → InForce live r.now
    → InForce live (act on_states r i).now → Live live (act on_states r i).now
unfolding act tick settles
live_act live r (given bytes) w v f f' = go (accepted r.now (read bytes)) refl f'
  where
    go : (b : Bool) → accepted r.now (read bytes) ≡ b
        → InForce live (pick b (taken on_states r (read bytes)) r).now
        → Live live (pick b (taken on_states r (read bytes)) r).now
    go true e f' = live_step live r.now r.seen w v (read bytes) e f f'
    go false e f' = v
live_act live r (settling o b) w v f f' =
    (settle_keeps (λ x t. choice o x t.now) (λ t k m q p. taken on_states t (arrives k m q p)) (During live r)
    (λ x t k m q p e d. arrival_during live r t k m q p f
    (moves_taken t.now k m q p (choice_moves o x t.now k m q p e)) d) b 0 0 r
    (record { whole = w; lives = v; ground_is = refl })).lives

-- the trust sets are in force where a list begins, and where it ends
along_begins : (live : ℕ → Bool) (r : Run State) (items : List Item) → AllAlong on_states live r items
    → InForce live r.now
unfolding AllAlong
along_begins live r [] f = f
along_begins live r (i ∷ items) f = f.0

-- and where it ends
pub along_ends : (live : ℕ → Bool) (r : Run State) (items : List Item) → AllAlong on_states live r items
    → InForce live (run on_states r items).now
unfolding AllAlong run
along_ends live r [] f = f
along_ends live r (i ∷ items) f = along_ends live (act on_states r i) items f.1

-- a list
pub live_run : (live : ℕ → Bool) (r : Run State) (items : List Item) → Whole r → Live live r.now
    → AllAlong on_states live r items
    → Live live (run on_states r items).now
unfolding run AllAlong
live_run live r [] w v f = v
live_run live r (i ∷ items) w v f =
    live_run live (act on_states r i) items (whole_act r i w)
    (live_act live r i w v f.0 (along_begins live (act on_states r i) items f.1)) f.1
