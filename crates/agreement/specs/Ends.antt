-- Any two ways to settle end with the same messages in every FIFO log. Let T be where one has ended, with no letter
-- left to an up process. Along the other (Under): whoever holds a message holds it in T, every mark is in T, next is
-- at most next in T, what is delivered is delivered in T, and a letter to an up process has landed in T. An arrival
-- keeps this, since what a holder has told is done in T (Net), and what is ready and were not delivered in T would be
-- ready there, where nothing is (Idle). No trust rule is needed. Assumes nothing.
use Rattle.std.specs.Prelude.{◌≡◌, Bool, List, [], ◌∷◌, ◌↔◌, ℕ, ◌+◌, ◌-◌, ◌≤◌, ◌<◌}
use Rattle.std.proofs.Math.Path.{refl, sym, ap, subst}
use Rattle.std.proofs.Common.{◌∙◌, arith}
use Rattle.std.proofs.Math.Bool.{true, false}
use Rattle.std.proofs.Math.Logic.{inl, inr}
use borrow.Author.Tests.{eqb-true}
use Rattle.definitions.specs.General.{pick, In, in_at, bit, with}
use Rattle.definitions.specs.World.{size, count, group, up, fifo_length, next, held, marks, fifo, sender, stamp, number, State, put, addressed}
use Rattle.definitions.specs.Machine.{addressees, in_turn, ready, fifo_one, cascade, leave, mark, hold, received, arrival}
use Rattle.definitions.specs.Steps.{arrives, step}
use Rattle.definitions.specs.Settle.{Choice, nothing, done, Settled, settle_from}
use Rattle.definitions.specs.History.{Event, gained, Run, Item, taken, act, AllAlong}
use Rattle.base.specs.Tests.{clash, at_or_off}
use Rattle.base.specs.Loop.{loop_keeps}
use Rattle.base.specs.Bits.{with_cases, mask_of_member}
use Rattle.world.specs.Layout.{put_at}
use Rattle.world.specs.SoundLaws.{Sound}
use Rattle.world.specs.Kept.{mark_cases, hold_cases}
use Rattle.world.specs.StepLaws.{InFlight, Arrives, Chosen, moves_taken, none_flies}
use Rattle.world.specs.SettleLaws.{Says, settle_says, settle_keeps}
use Rattle.world.specs.Runs.{on_states}
use Rattle.effects.specs.Views.{Process, Ground, ground, Still}
use Rattle.effects.specs.Cascade.{at_place, Near, Front, NewOk, fifo_one_front, fifo_one_there, fifo_one_still, next_cases, letter_cases}
use Rattle.effects.specs.Arrival.{Held, Fly, put_letter, leave_less}
use Rattle.effects.specs.Holding.{sound_held, sound_letter}
use Rattle.effects.specs.Events.{gained_keeps}
use Rattle.order.specs.Knowledge.{knowledge}
use Rattle.order.specs.Logs.{every_item}
use Rattle.order.specs.Precedence.{precedes_before, before_precedes}
use Rattle.order.specs.Cascade.{Fifo, Causal, Ready, ready_facts}
use Rattle.order.specs.Runs.{Whole}
use Rattle.order.specs.Order.{causal_past, past_causal}
use Rattle.agreement.specs.Letters.{Mark, told_done}
use Rattle.agreement.specs.Turns.{delivered, not_in_turn, unmarked, ready_marks, Live}
use Rattle.agreement.specs.Runs.{During, arrival_during}
use Rattle.agreement.specs.Onward.{Landed, Onward, onward_none, onward_then, arrival_onward}

-- ---- s is under T
pub record Under (s T : State) : Type 0 where
  pub same : ground s ≡ ground T
  pub held_in : (p m : ℕ) → Held s p m → Held T p m
  pub mark_in : (p m r : ℕ) → Mark s p m r → Mark T p m r
  pub next_in : (p q : ℕ) → s (next p q) ≤ T (next p q)
  pub fifo_in : (p m : ℕ) → Fifo s p m → Fifo T p m
  pub fly_in : (m k r u : ℕ) → k < 3 → m < T count → r < T size → u < T size → T (up u) ≡ 1 → Fly s m k r u
      → Landed T m k r u

-- no letter flies to an up process
abbrev pub Rest : State → Type 0
Rest T =
    (k m r u : ℕ) → k < 3 → m < T count → r < T size → u < T size → T (up u) ≡ 1 → ¬ Fly T m k r u

-- where the choice names nothing
pub rests : (T : State) → Chosen T nothing → Rest T
rests T c k m r u hk hm hr hu l f = clash f (none_flies T c k m r u hk hm hr hu l)

-- what a settle began with is under what it ends with
pub onward_under : (s T : State) → Sound s → Onward s T → Rest T → Under s T
onward_under s T h o rest = record {
  same = sym o.same;
  held_in = o.held_on;
  mark_in = o.mark_on;
  next_in = o.next_on;
  fifo_in = o.fifo_on;
  fly_in = λ m k r u hk hm hr hu l f.
      let n = ap (λ (g : Ground). g.size) o.same in
      let c = ap (λ (g : Ground). g.messages.total) o.same in
      let i : InFlight s k m r u =
      record {
        kind = hk;
        message = omega arith;
        from = omega arith;
        to = omega arith;
        flies = f;
      } in
      elim (o.fly_on m k r u i.to (sound_letter s h k m r u i) f) [
        | inl g ↦ absurd (rest k m r u hk hm hr hu l g)
        | inr g ↦ g
      ];
}

-- who is in a mask of addressees is an addressee in T; what is in turn or past it is so in T
under_to : (s T : State) → ground s ≡ ground T → (m u : ℕ) → bit (addressees s m) u ≡ true
    → addressed T m u ≡ true
under_to s T e m u f =
    sym (ap (λ (g : Ground). bit (g.messages.mask m) (g.group u)) e)
    ∙ (mask_of_member (s size) (addressed s m) u f).1

under_near : (s T : State) → Under s T → (x p : ℕ) → Near s x p → Near T x p
under_near s T o x p n =
    omega (
      arith,
      o.next_in p (s (sender x)),
      ap (λ (g : Ground). g.messages.number x (g.group p)) o.same,
      ap (λ (g : Ground). T (next p (g.messages.sender x))) o.same,
    )

-- ---- an arrival keeps it
-- T is a run's state that rests
module _ (R : Run State) (w : Whole R) (v : Live (λ _. false) R.now) (rest : Rest R.now) where
  abbrev T : State
  T = R.now

  -- what p holds every up addressee holds, and has the mark of p for it if it is in turn at p or past it
  module _ (m p u : ℕ) (hm : m < R.now count) (hp : p < R.now size) (up_p : R.now (up p) ≡ 1)
      (hu : u < R.now size) (up_u : R.now (up u) ≡ 1) (h : Held R.now p m)
      (a : addressed R.now m u ≡ true) where
    told : Held R.now u m
    told =
        told_done (λ d. d up_p) (λ d. d up_u)
        (λ f. elim f [
          | inl z ↦ rest 1 m p u (omega arith) hm hp hu up_u z
          | inr z ↦ rest 2 m p u (omega arith) hm hp hu up_u z
        ])
        (v.net.relayed m p u hm hp hu h a)

    okayed : Near R.now m p → Mark R.now u m p
    okayed n =
        told_done (λ d. d up_p) (λ d. d up_u) (rest 2 m p u (omega arith) hm hp hu up_u)
        (v.net.okayed m p u hm hp hu h n a)

  -- the letter leaves
  leave_under : (s : State) (k m q p : ℕ) → Under s R.now → Under (leave s k m q p) R.now
  unfolding leave put
  leave_under s k m q p o = record {
    same = o.same;
    held_in = o.held_in;
    mark_in = o.mark_in;
    next_in = o.next_in;
    fifo_in = o.fifo_in;
    fly_in = λ x j r u hk hm hr hu l f. o.fly_in x j r u hk hm hr hu l (leave_less s k m q p x j r u f);
  }

  -- its mark is set
  mark_under : (s : State) (k m q p : ℕ) → Landed R.now m k q p → Under s R.now
      → Under (mark s k m q p) R.now
  unfolding put
  mark_under s k m q p d o =
      mark_cases (λ t. Under t T) s k m q p
      (λ two. record {
        same = o.same;
        held_in = o.held_in;
        mark_in = λ r x y. put_at s (marks p m) (marks r x) (with (s (marks p m)) q)
            (λ z. bit z y ≡ true → Mark T r x y)
            (λ e f.
            let ep : p ≡ r = cc in
            let em : m ≡ x = cc in
            elim (with_cases (s (marks p m)) q y f) [
              | inl g ↦ rw (ep, em) at (o.mark_in p m y g)
              | inr g ↦ rw (ep, em, g) at (d.1 two)
            ])
            (λ _. o.mark_in r x y);
        next_in = o.next_in;
        fifo_in = o.fifo_in;
        fly_in = o.fly_in;
      })
      (λ _. o)

  -- its message is held, and answered
  hold_under : (s : State) (p m : ℕ) → m < R.now count → p < R.now size → R.now (up p) ≡ 1
      → Held R.now p m
      → Under s R.now → Under (hold s p m) R.now
  unfolding put
  hold_under s p m hm hp up_p h o =
      hold_cases (λ t. Under t T) s p m (λ _. o)
      (λ _. record {
        same = o.same;
        held_in = λ r x. put_at s (held p m) (held r x) 1 (λ z. z ≡ 1 → Held T r x)
            (λ e _.
            let ep : p ≡ r = cc in
            let em : m ≡ x = cc in
            rw (ep, em) at h)
            (λ _. o.held_in r x);
        mark_in = o.mark_in;
        next_in = o.next_in;
        fifo_in = o.fifo_in;
        fly_in = λ x j r u hk hx hr hu l.
            put_letter s m (pick (in_turn s p m) 2 1) p (addressees s m)
            (λ x j r z. j < 3 → x < T count → r < T size → bit z u ≡ true → Landed T x j r u)
            (λ _ _ _ f. answer u hu l (in_turn s p m) refl (under_to s T o.same m u f))
            (λ x j r hk hx hr f. o.fly_in x j r u hk hx hr hu l f) x j r hk hx hr;
      })
    where
      answer : (u : ℕ) → u < R.now size → R.now (up u) ≡ 1 → (b : Bool) → in_turn s p m ≡ b
          → addressed R.now m u ≡ true
          → Landed R.now m (pick b 2 1) p u
      answer u hu l true e a = (
        told m p u hm hp up_p hu l h a,
        λ _. okayed m p u hm hp up_p hu l h a
            (under_near s T o m p
            (omega (arith, eqb-true (s (number m (s (group p)))) (s (next p (s (sender m)))) e))),
      )
      answer u hu l false e a = (told m p u hm hp up_p hu l h a, λ two. absurd (omega arith))

  -- ---- a turn of the cascade
  module _ (t : State) (p m : ℕ) (hp : p < R.now size) (up_p : R.now (up p) ≡ 1) (hm : m < R.now count)
      (y : Ready t p m) (o : Under t R.now) where
    -- p holds m in T
    holds : Held R.now p m
    holds = o.held_in p m y.has

    -- the number of m is next
    number_next : R.now (number m (R.now (group p))) ≡ t (next p (R.now (sender m)))
    number_next =
        sym (ap (λ (g : Ground). g.messages.number m (g.group p)) o.same) ∙ y.turn
        ∙ ap (λ (g : Ground). t (next p (g.messages.sender m))) o.same

    -- its number is its rank
    number_rank : R.now (number m (R.now (group p))) ≡ R.now (stamp m (R.now (group p)) (R.now (sender m)))
    number_rank = w.meaning.counting.numbers m (R.now (group p)) hm

    -- so m is in the FIFO log of p in T: else it were ready there
    in_log : Fifo R.now p m
    in_log = elim (v.idle p hp m hm holds) [
      | delivered f ↦ f
      | not_in_turn d ↦
          (w.meaning.each p).fifo_log.prefix.below_in m hm (sound_held T w.sound p hp m hm holds)
          (omega (arith, o.next_in p (T (sender m)), number_next, number_rank))
      | unmarked q hq b a z ↦ clash
          (o.mark_in p m q
          (ready_marks t p m y q (omega (arith, ap (λ (g : Ground). g.size) o.same))
          (rw (ap (λ (g : Ground). g.trust p) o.same) b)
          (ap (λ (g : Ground). bit (g.messages.mask m) (g.group q)) o.same ∙ a)))
          z
    ]

    -- and next has risen there
    risen : t (next p (R.now (sender m))) + 1 ≤ R.now (next p (R.now (sender m)))
    risen = elim in_log [
      | in_at i h e ↦
          let b =
          subst
          (λ (x : ℕ). R.now (stamp x (R.now (group p)) (R.now (sender x))) < R.now (next p (R.now (sender x)))) e
          (omega (arith, (w.meaning.each p).fifo_log.prefix.in_below i h)) in
          omega (arith, number_next, number_rank)
    ]

    -- the FIFO log of p has m besides
    fifo_under : (r x : ℕ) → Fifo (fifo_one t p m) r x → Fifo R.now r x
    fifo_under r x =
        at_or_off p (λ z. Fifo (fifo_one t p m) z x → Fifo T z x)
        (λ f. longer (subst (λ (a : Front). In a.fifo_length a.fifo x) (fifo_one_front t p m) f))
        (λ z n f. o.fifo_in z x
        (subst (λ (a : Process). In a.fifo_length a.fifo x) (fifo_one_there t p m z n) f)) r
      where
        longer : In (t (fifo_length p) + 1) (at_place (λ i. t (fifo p i)) (t (fifo_length p)) m) x
            → Fifo R.now p x
        longer (in_at i h e) =
            every_item (t (fifo_length p)) (λ i. t (fifo p i)) m (λ z. z ≡ x → Fifo T p x)
            (λ i l d. o.fifo_in p x (in_at i l d)) (λ d. rw d at in_log) i h e

    turn_under : Under (fifo_one t p m) R.now
    turn_under =
        let still = fifo_one_still t p m in
        record {
          same = ap (λ (a : Still). a.ground) still ∙ o.same;
          held_in = λ r x h. o.held_in r x (sym (ap (λ (a : Still). a.held r x) still) ∙ h);
          mark_in = λ r x q h. o.mark_in r x q (rw (ap (λ (a : Still). a.marks r x) still) at h);
          next_in = next_cases t p m (λ r q z. z ≤ T (next r q)) o.next_in (rw senders risen);
          fifo_in = fifo_under;
          fly_in = λ x k r u hk hx hr hu l.
              letter_cases t p m x (λ k r z. k < 3 → r < T size → bit z u ≡ true → Landed T x k r u)
              (λ k r hk hr f. o.fly_in x k r u hk hx hr hu l f)
              (λ c _ _ f.
              let a = under_to t T o.same x u f in
              let h = o.held_in p x c.has in (
                told x p u hx hp up_p hu l h a,
                λ _. okayed x p u hx hp up_p hu l h a (new_near x c),
              )) k r hk hr;
        }
      where
        senders : t (sender m) ≡ R.now (sender m)
        senders = ap (λ (g : Ground). g.messages.sender m) o.same

        new_near : (x : ℕ) → NewOk t p m x → Near R.now x p
        new_near x c =
            omega (
              arith,
              c.turn,
              risen,
              ap (λ (g : Ground). g.messages.number x (g.group p)) o.same,
              ap (λ (q : ℕ). t (next p q)) senders,
              ap (λ (q : ℕ). T (next p q)) (sym (ap (λ (g : Ground). g.messages.sender x) o.same) ∙ c.of ∙ senders),
            )

  -- the whole arrival
  arrival_under : (s : State) (k m q p : ℕ) → Arrives s k m q p → Under s R.now
      → Under (arrival s k m q p) R.now
  unfolding arrival cascade
  arrival_under s k m q p a o =
      let l = a.letter in
      let n = ap (λ (g : Ground). g.size) o.same in
      let c = ap (λ (g : Ground). g.messages.total) o.same in
      let hm : m < T count = omega (arith, l.message) in
      let hp : p < T size = omega (arith, l.to) in
      let up_p : T (up p) ≡ 1 = sym (ap (λ (g : Ground). g.up p) o.same) ∙ a.live in
      let d = o.fly_in m k q p l.kind hm (omega (arith, l.from)) hp up_p l.flies in
      let b : State = received s k m q p in
      loop_keeps (λ t. t count) (λ t. ready t p) (λ t. fifo_one t p) (λ t. Under t T)
      (λ t x hx e _ z. turn_under t p x hp up_p
      (omega (arith, ap (λ (g : Ground). g.messages.total) z.same)) (ready_facts t p x e) z)
      (b count - b (fifo_length p)) b
      (hold_under (mark (leave s k m q p) k m q p) p m hm hp up_p d.0
      (mark_under (leave s k m q p) k m q p d (leave_under s k m q p o)))

-- ---- the theorem
-- a run, settled with any choice of the next letter
abbrev pub settled_by : (ℕ → State → Choice) → Run State → ℕ → Settled (Run State)
settled_by choose r b =
    settle_from (λ x t. choose x t.now) (λ t k m q p. taken on_states t (arrives k m q p)) b 0 0 r

-- a choice that names only letters that can move, and nothing only where none can
abbrev pub Good : (ℕ → State → Choice) → Type 0
Good choose = (x : ℕ) (s : State) → Chosen s (choose x s)

-- with nobody named live every trust set names enough
pub along_none : (r : Run State) (items : List Item) → AllAlong on_states (λ _. false) r items
unfolding AllAlong
along_none r [] = λ _ _ _ _ _ l. clash {b = false} l refl
along_none r (i ∷ items) = ((λ _ _ _ _ _ l. clash {b = false} l refl), along_none (act on_states r i) items)

-- deliveries leave what is before each message
before_kept : (s t : State) (es : List Event) → (knowledge (gained (s size) s t es)).before ≡ (knowledge es).before
unfolding knowledge
before_kept s t es =
    gained_keeps (λ l. (knowledge l).before ≡ (knowledge es).before) (λ _ _ _ h. h) (s size) s t es refl

-- from a run with what every run has, and no trust rule
module _ (r : Run State) (w : Whole r) (v : Live (λ _. false) r.now) where
  -- where a settle has got, from r
  record Since (t : Run State) : Type 0 where
    pub during : During (λ _. false) r t
    pub onward : Onward r.now t.now
    pub past : (knowledge t.seen).before ≡ (knowledge r.seen).before

  -- a settle keeps that
  since : (c : ℕ → State → Choice) → Good c → (b : ℕ) → Since (settled_by c r b).world
  unfolding step
  since c good b =
      settle_keeps (λ x t. c x t.now) (λ t k m q p. taken on_states t (arrives k m q p)) Since
      (λ x t k m q p e d. record {
        during =
            arrival_during (λ _. false) r t k m q p (λ _ _ _ _ _ l. clash {b = false} l refl)
            (moves_taken t.now k m q p (subst (Chosen t.now) e (good x t.now))) d.during;
        onward = onward_then d.onward (arrival_onward t.now k m q p);
        past = before_kept t.now (arrival t.now k m q p) t.seen ∙ d.past;
      }) b 0 0 r
      (record {
        during = record { whole = w; lives = v; ground_is = refl };
        onward = onward_none r.now;
        past = refl;
      })

  -- two of them: the first with any budget, the second says done
  module _ (c d : ℕ → State → Choice) (good_c : Good c) (good_d : Good d) (a b i : ℕ)
      (e : (settled_by d r b).ending ≡ done i) where
    -- the first is under the second
    under : Under (settled_by c r a).world.now (settled_by d r b).world.now
    unfolding step
    under =
        let R : Run State = (settled_by d r b).world in
        let z =
        subst (Says (0 + b) (λ x. d x R.now)) e
        (settle_says (λ x t. d x t.now) (λ t k m q p. taken on_states t (arrives k m q p)) b 0 0 r) in
        let rest = rests R.now (subst (Chosen R.now) z.1 (good_d z.0 R.now)) in
        let h = since d good_d b in
        settle_keeps (λ x t. c x t.now) (λ t k m q p. taken on_states t (arrives k m q p))
        (λ t. Under t.now R.now)
        (λ x t k m q p e o. arrival_under R h.during.whole h.during.lives rest t.now k m q p
        (subst (Chosen t.now) e (good_c x t.now)) o)
        a 0 0 r (onward_under r.now R.now w.sound h.onward rest)

    -- the same processes and messages
    pub same_ground : ground (settled_by c r a).world.now ≡ ground (settled_by d r b).world.now
    same_ground = under.same

    -- what the first has brought into a FIFO log the second has
    pub more_messages : (p m : ℕ) → Fifo (settled_by c r a).world.now p m
        → Fifo (settled_by d r b).world.now p m
    more_messages = under.fifo_in

    -- and so of the causal logs: a message is in one exactly when it and all that precede it are in the FIFO log
    pub more_causal : (p m : ℕ) → Causal (settled_by c r a).world.now p m
        → Causal (settled_by d r b).world.now p m
    more_causal p m f =
        let C : Run State = (settled_by c r a).world in
        let R : Run State = (settled_by d r b).world in
        let hc = since c good_c a in
        let hr = since d good_d b in
        let y = causal_past hc.during.whole p m f in
        past_causal hr.during.whole p m (more_messages p m y.0)
        (λ x z t.
        let q = precedes_before R.seen (R.now count) hr.during.whole.formed x m z in
        more_messages p x (y.1 x
        (before_precedes C.seen (C.now count) hc.during.whole.formed x m
        (ap (λ (g : ℕ → ℕ → Bool). g m x) (hc.past ∙ sym hr.past) ∙ q.0) q.1)
        (ap (λ (g : Ground). bit (g.messages.mask x) (g.group p)) under.same ∙ t)))

  -- two settles that say done end with the same messages in every FIFO log, and in every causal log
  pub same_messages : (c d : ℕ → State → Choice) → Good c → Good d → (a b i j : ℕ)
      → (settled_by c r a).ending ≡ done i → (settled_by d r b).ending ≡ done j
      → (p m : ℕ)
      → (Fifo (settled_by c r a).world.now p m ↔ Fifo (settled_by d r b).world.now p m)
      × (Causal (settled_by c r a).world.now p m ↔ Causal (settled_by d r b).world.now p m)
  same_messages c d good_c good_d a b i j e f p m = (
    (more_messages c d good_c good_d a b j f p m, more_messages d c good_d good_c b a i e p m),
    (more_causal c d good_c good_d a b j f p m, more_causal d c good_d good_c b a i e p m),
  )
