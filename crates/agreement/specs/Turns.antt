-- The cascade keeps what letters tell, and what trust gives: a message goes into a FIFO log with the marks of
-- every trusted addressee, so of a live one of each group that its process's trust set names (Trusted, for
-- any set of live processes). At the end nothing is ready at its process: each message that it holds is in
-- the FIFO log, not in turn, or unmarked (Idle). Assumes nothing.
use Rattle.std.specs.Prelude.{◌≡◌, refl, Bool, true, false, not, List, ◌⊎◌, ◌≢◌, ℕ, ◌-◌, ◌≤◌, ◌<◌}
use Rattle.std.proofs.Common.{sym, ap, ap₂, ◌∙◌, subst, inl, inr, arith, eq-eqb}
use Rattle.std.proofs.Math.Decide.{ℕ_discrete}
use Rattle.std.proofs.lemmas.Bool.{not-true}
use Rattle.definitions.specs.General.{In, in_at, bit}
use Rattle.definitions.specs.World.{size, count, group, trust, fifo_length, next, held, marks, fifo, sender, number, State, addressed}
use Rattle.definitions.specs.Machine.{marked, ready, fifo_one, cascade}
use Rattle.definitions.specs.History.{Event, Names, names}
use Rattle.base.specs.Tests.{le_or_lt, clash, both, both_l, both_r, both_i, either, either_e, at_or_off}
use Rattle.base.specs.Loop.{loop_keeps}
use Rattle.base.specs.Search.{every_true, every_false}
use Rattle.base.specs.Count.{in_dec, out_absent}
use Rattle.world.specs.Fuel.{cascade_quiet}
use Rattle.effects.specs.Views.{Process, Ground, ground, Still, Place, place_of, place, still as still_view}
use Rattle.effects.specs.Cascade.{Near, turn_near, Front, fifo_one_front, next_cases, ok_sent, letter_cases, fifo_one_still, fifo_one_there}
use Rattle.effects.specs.Holding.{HeldTo}
use Rattle.effects.specs.Spent.{turn_once}
use Rattle.effects.specs.Arrival.{Held, Fly}
use Rattle.effects.specs.Flying.{in_addressees}
use Rattle.order.specs.Logs.{item_cases}
use Rattle.order.specs.Cascade.{Fifo, MeaningOf, Ready, ready_facts, Cascading, cascading_more}
use Rattle.agreement.specs.Letters.{Mark, Net, still, ToAll, Progress, net_progress}

-- ---- a turn of the cascade
module _ (t : State) (p m : ℕ) (y : Ready t p m) (es : List Event) (o : MeaningOf t es) where
  -- what no part of it writes
  same : still_view (fifo_one t p m) ≡ still_view t
  same = fifo_one_still t p m

  -- to whom a message is
  turn_to : (x r : ℕ) → addressed (fifo_one t p m) x r ≡ addressed t x r
  turn_to x r = ap (λ (s : Still). bit (s.ground.messages.mask x) (s.ground.group r)) same

  -- the number of processes
  turn_size : fifo_one t p m size ≡ t size
  turn_size = ap (λ (s : Still). s.ground.size) same

  -- the count
  turn_count : fifo_one t p m count ≡ t count
  turn_count = ap (λ (s : Still). s.ground.messages.total) same

  -- what is held
  turn_held : (r x : ℕ) → fifo_one t p m (held r x) ≡ t (held r x)
  turn_held r x = ap (λ (s : Still). s.held r x) same

  -- the marks
  turn_marks : (r x : ℕ) → fifo_one t p m (marks r x) ≡ t (marks r x)
  turn_marks r x = ap (λ (s : Still). s.marks r x) same

  -- x was in turn at r or past it, or comes in turn now, and then p sends its OK
  newly_near : (x r : ℕ) → x < t count → Held t r x → Near (fifo_one t p m) x r
      → ((x < t count) × Held t r x × Near t x r)
      ⊎ ToAll (fifo_one t p m) x r (λ r u. Fly (fifo_one t p m) x 2 r u)
  newly_near x r hx h n =
      next_cases t p m
      (λ z q v. t (sender x) ≡ q → Held t z x → t (number x (t (group z))) ≤ v
      → ((x < t count) × Held t z x × (t (number x (t (group z))) ≤ t (next z q)))
      ⊎ ToAll (fifo_one t p m) x z (λ z u. Fly (fifo_one t p m) x 2 z u))
      (λ _ _ _ h l. inl (hx, h, l))
      (λ e h l. elim (le_or_lt (t (number x (t (group p)))) (t (next p (t (sender m))))) [
        | inl a ↦ inl (hx, h, a)
        | inr a ↦ inr (λ u hu au.
            rw (ok_sent t p m x (record { low = hx; has = h; of = e; turn = omega arith }))
            (in_addressees t x u (omega (arith, turn_size)) (sym (turn_to x u) ∙ au)))
      ])
      r (t (sender x)) refl h (rw (turn_near t p m x r) at n)

  -- the item of a FIFO log is an old one, or m in that of p
  item_now : (P : ℕ → ℕ → ℕ → Type 0) → ((r i : ℕ) → i < t (fifo_length r) → P r i (t (fifo r i)))
      → ((i : ℕ) → P p i m) → (r i : ℕ) → i < fifo_one t p m (fifo_length r)
      → P r i (fifo_one t p m (fifo r i))
  item_now P old new r i h =
      at_or_off p (λ z. i < fifo_one t p m (fifo_length z) → P z i (fifo_one t p m (fifo z i)))
      (λ l.
      let f = fifo_one_front t p m in
      rw (ap (λ (w : Front). w.fifo i) f)
      (elim (item_cases (t (fifo_length p)) (λ j. t (fifo p j)) m i
      (omega (arith, ap (λ (w : Front). w.fifo_length) f))) [
        | inl a ↦ rw a.1 (old p i a.0)
        | inr a ↦ rw a.1 (new i)
      ]))
      (λ z n l.
      let e = fifo_one_there t p m z n in
      rw (ap (λ (w : Process). w.fifo i) e) (old z i (omega (arith, ap (λ (w : Process). w.fifo_length) e))))
      r h

  -- a turn loses no letter and sends what it owes
  turn_progress : Progress t (fifo_one t p m)
  turn_progress = record {
    same_size = turn_size;
    same_to = λ x r _. turn_to x r;
    same_sender = λ x _. ap (λ (s : Still). s.ground.messages.sender x) same;
    once = turn_once t p m;
    mark_on = λ x r u _ _ z. rw (turn_marks u x) z;
    down_on = λ r d e. d (sym (ap (λ (s : Still). s.ground.up r) same) ∙ e);
    flown = λ x k r u hx hr hu a z. still (letter_cases t p m x (λ k r v. Fly t x k r u → bit v u ≡ true)
        (λ _ _ f. f) (λ _ _. in_addressees t x u hu a) k r z);
    old_ok = λ x r u hx _ _ _. omega (arith, turn_count);
    new_mark =
        λ x r u hx hr hu z. inl
        (omega (arith, turn_count), rw (turn_marks u x) at z);
    new_holder = λ x r hx hr h. inl (omega (arith, turn_count), sym (turn_held r x) ∙ h);
    new_near = λ x r hx hr h n. newly_near x r (omega (arith, turn_count)) (sym (turn_held r x) ∙ h) n;
    new_message = λ x hx. inl (omega (arith, turn_count));
    logged = λ r i hr hi. item_now
        (λ r i z. ((i < t (fifo_length r)) × (z ≡ t (fifo r i)) × (t (fifo r i) < t count))
        ⊎ Held (fifo_one t p m) r z)
        (λ r i h. inl (h, refl, (o.each r).fifo_log.old i h)) (λ _. inr (turn_held p m ∙ y.has)) r i hi;
    senders = o.counting.senders;
  }

  -- so it keeps what letters tell
  pub turn_net : Net t → Net (fifo_one t p m)
  turn_net n = net_progress t (fifo_one t p m) turn_progress n

-- ---- trust
-- the trust set of p names, for the group of each live process, a live process of that group
abbrev pub Covers : (ℕ → Bool) → State → ℕ → Type 0
Covers live s p = (q : ℕ) → q < s size → live q ≡ true → Names live s p q

-- of n processes in these groups, a live one of the group of q is among the marks
pub data Vouched (live : ℕ → Bool) (n : ℕ) (groups : ℕ → ℕ) (marks q : ℕ) : Type 0 where
  vouched : (r : ℕ) → r < n → live r ≡ true → groups r ≡ groups q → bit marks r ≡ true
      → Vouched live n groups marks q

-- so of every message in the FIFO log of a process, for each group of its mask with a live process
abbrev pub TrustedAt : (ℕ → Bool) → Place → Type 0
TrustedAt live v =
    (m q : ℕ) → In v.own.fifo_length v.own.fifo m → q < v.size → live q ≡ true
    → bit (v.messages.mask m) (v.groups q) ≡ true
    → Vouched live v.size v.groups (v.marks m) q

-- and of every process
abbrev pub Trusted : (ℕ → Bool) → State → Type 0
Trusted live s = (p : ℕ) → TrustedAt live (place s p)

-- a ready message has the marks of all that its process trusts
pub ready_marks : (s : State) (p m : ℕ) → Ready s p m → (q : ℕ) → q < s size → bit (s (trust p)) q ≡ true
    → addressed s m q ≡ true
    → Mark s p m q
ready_marks s p m y q h b a =
    elim (either_e (not (both (bit (s (trust p)) q) (addressed s m q))) (bit (s (marks p m)) q)
    (every_true (s size) (marked s p m) y.marks q h)) [
      | inl x ↦ clash (both_i (bit (s (trust p)) q) (addressed s m q) b a)
          (not-true (both (bit (s (trust p)) q) (addressed s m q)) x)
      | inr x ↦ x
    ]

-- the trust sets look at size, groups, trust sets and who is up
pub names_same : (live : ℕ → Bool) (s t : State) (p q : ℕ) → ground t ≡ ground s → Names live s p q
    → Names live t p q
names_same live s t p q e (names r hr lr gr br) =
    names r (omega (arith, ap (λ (g : Ground). g.size) e)) lr
    (ap (λ (g : Ground). g.group r) e ∙ gr ∙ sym (ap (λ (g : Ground). g.group q) e))
    (rw (ap (λ (g : Ground). g.trust p) e) br)

-- so where these are as they were, a trust set names as much
pub covers_same : (live : ℕ → Bool) (s t : State) (p : ℕ) → ground t ≡ ground s → Covers live s p
    → Covers live t p
covers_same live s t p e c q hq lq =
    names_same live s t p q e (c q (omega (arith, ap (λ (g : Ground). g.size) e)) lq)

-- a turn keeps what trust gives
turn_trusted : (live : ℕ → Bool) (t : State) (p m : ℕ) (y : Ready t p m) (es : List Event) → MeaningOf t es
    → Covers live t p
    → Trusted live t → Trusted live (fifo_one t p m)
turn_trusted live t p m y es o c tr r x q (in_at i h e) hq lq a =
    subst (λ (v : Still). Vouched live v.ground.size v.ground.group (v.marks r x) q)
    (sym (fifo_one_still t p m))
    (item_now t p m y es o (λ r i z. z ≡ x → Vouched live (t size) (λ u. t (group u)) (t (marks r x)) q)
    (λ r i l e. tr r x q (in_at i l e) hq' lq a') (λ _ e. rw e at (new_one (c q hq' lq) (rw e a'))) r i h e)
  where
    hq' : q < t size
    hq' = omega (arith, turn_size t p m y es o)

    a' : addressed t x q ≡ true
    a' = sym (turn_to t p m y es o x q) ∙ a

    new_one : Names live t p q → addressed t m q ≡ true
        → Vouched live (t size) (λ u. t (group u)) (t (marks p m)) q
    new_one (names u hu lu gu bu) am = vouched u hu lu gu (ready_marks t p m y u hu bu (rw gu am))

-- ---- why a held message is not delivered: it is, it is not in turn, or a trusted addressee's mark is
-- missing
pub data Pending (v : Place) (m : ℕ) : Type 0 where
  delivered : In v.own.fifo_length v.own.fifo m → Pending v m
  not_in_turn : v.messages.number m v.own.group ≢ v.own.next (v.messages.sender m) → Pending v m
  unmarked : (q : ℕ) → q < v.size → bit v.trust q ≡ true
      → bit (v.messages.mask m) (v.groups q) ≡ true
      → bit (v.marks m) q ≡ false
      → Pending v m

-- so of every message that a process holds
abbrev pub IdleAt : Place → Type 0
IdleAt v = (m : ℕ) → m < v.messages.total → v.held m ≡ 1 → Pending v m

-- of p in a state
abbrev pub Idle : State → ℕ → Type 0
Idle s p = IdleAt (place s p)

-- a message that is not ready
not_ready : (s : State) (p m : ℕ) → ready s p m ≡ false → Held s p m → Pending (place s p) m
unfolding ready
not_ready s p m e h =
    go (in_dec (s (fifo_length p)) (λ j. s (fifo p j)) m)
    (ℕ_discrete (s (number m (s (group p)))) (s (next p (s (sender m)))))
  where
    neither : (a b : Bool) → either (not a) b ≡ false → (a ≡ true) × (b ≡ false)
    neither true b z = (refl, z)
    neither false b z = clash {b = true} refl z

    found : (q : ℕ) × (q < s size) × (marked s p m q ≡ false) → Pending (place s p) m
    found (q, hq, z) =
        let d = neither (both (bit (s (trust p)) q) (addressed s m q)) (bit (s (marks p m)) q) z in
        unmarked q hq (both_l (bit (s (trust p)) q) (addressed s m q) d.0)
        (both_r (bit (s (trust p)) q) (addressed s m q) d.0) d.1

    go : Dec (Fifo s p m) → Dec (s (number m (s (group p))) ≡ s (next p (s (sender m))))
        → Pending (place s p) m
    go (yes x) d = delivered x
    go (no x) (no d) = not_in_turn d
    go (no x) (yes d) = found (every_false (s size) (marked s p m) (simp (
      eq-eqb (s (held p m)) 1 h,
      out_absent x,
      eq-eqb (s (number m (s (group p)))) (s (next p (s (sender m)))) d,
    ) at e))

-- ---- the cascade
-- what holds of a state for a set of live processes
pub record Live (live : ℕ → Bool) (s : State) : Type 0 where
  pub net : Net s
  pub idle : (p : ℕ) → p < s size → Idle s p
  pub trusted : Trusted live s

-- between two turns; the cascade began in b
record Turning (live : ℕ → Bool) (p a : ℕ) (es : List Event) (b t : State) : Type 0 where
  pub cascading : Cascading p a es b t
  pub net : Net t
  pub trusted : Trusted live t

-- the cascade keeps it all
pub live_cascade : (live : ℕ → Bool) (p a : ℕ) (es : List Event) (b : State) → HeldTo b p
    → Cascading p a es b b → Covers live b p
    → Net b → Trusted live b → ((r : ℕ) → r < b size → p ≢ r → Idle b r) → Live live (cascade b p)
unfolding cascade
live_cascade live p a es b h c cov n tr idle =
    let end =
    loop_keeps (λ u. u count) (λ u. ready u p) (λ u. fifo_one u p) (Turning live p a es b)
    (λ u m hm e _ k.
    let y = ready_facts u p m e in
    let o = k.cascading.order.meaning in
    record {
      cascading = cascading_more p a es b u h m hm y k.cascading;
      net = turn_net u p m y _ o k.net;
      trusted =
          turn_trusted live u p m y _ o
          (covers_same live b u p (ap (λ (v : Still). v.ground) k.cascading.same) cov) k.trusted;
    }) (b count - b (fifo_length p)) b (record { cascading = c; net = n; trusted = tr }) in
    let log = (c.order.meaning.each p).fifo_log in
    record {
      net = end.net;
      idle = λ r hr. at_or_off p (λ x. x < cascade b p size → Idle (cascade b p) x)
          (λ _ m hm d. not_ready (cascade b p) p m (cascade_quiet p b log.old log.once m hm) d)
          (λ x d hx. subst IdleAt
          (sym (ap₂ (place_of x) end.cascading.same (end.cascading.there x d)))
          (idle x (omega (arith, ap (λ (w : Still). w.ground.size) end.cascading.same)) d)) r hr;
      trusted = end.trusted;
    }
