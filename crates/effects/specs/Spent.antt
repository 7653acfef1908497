-- No part of a step sends a letter twice. A letter is spent when it cannot be sent any more: a first letter
-- once its message is multicast, a relay once its origin holds the message, an OK once its origin holds it in
-- turn or past it. What is sent was not spent before and is spent after, and what is spent stays so. Assumes
-- nothing.
use Rattle.std.specs.Prelude.{◌≡◌, refl, Bool, true, false, ◌⊎◌, ◌≢◌, ℕ, zero, suc, ◌-◌, ◌≤◌, ◌<◌}
use Rattle.std.proofs.Common.{sym, ap, ◌∙◌, subst, inl, inr, arith, eqb-true, ne_eqb}
use Rattle.definitions.specs.General.{pick, bit}
use Rattle.definitions.specs.World.{count, group, trust, up, fifo_length, next, held, sender, number, State, put}
use Rattle.definitions.specs.Machine.{with_tables, addressees, in_turn, ready, fifo_one, cascade, raised, stamped, numbered, multicast, leave, mark, hold, arrival, trust_set, crash, posted as post}
use Rattle.definitions.specs.Steps.{Step, multicasts, arrives, loses, trusts, crashes, malformed, accepted, step}
use Rattle.base.specs.Tests.{pick_no}
use Rattle.base.specs.Loop.{loop_keeps}
use Rattle.world.specs.Layout.{put_at, put_other}
use Rattle.world.specs.StepLaws.{accepted_arrival}
use Rattle.world.specs.Kept.{mark_cases, hold_cases, holding}
use Rattle.effects.specs.Views.{Scene, scene, Still}
use Rattle.effects.specs.Cascade.{Near, near_on, ok_far, ok_near, letter_cases, fifo_one_still}
use Rattle.effects.specs.Arrival.{Held, Fly, put_letter, leave_less}

-- ---- a letter that cannot be sent any more
abbrev pub SentBy : State → ℕ → ℕ → ℕ → Type 0
SentBy s zero m q = Unit {0}
SentBy s (suc zero) m q = Held s q m
SentBy s (suc (suc k)) m q = Held s q m × Near s m q

-- of a message that there is
abbrev pub Spent : State → ℕ → ℕ → ℕ → Type 0
Spent s k m q = (m < s count) × SentBy s k m q

-- ---- a change that sends no letter twice
pub record Once (s t : State) : Type 0 where
  pub grows : s count ≤ t count
  pub held_on : (m r : ℕ) → m < s count → Held s r m → Held t r m
  pub near_on : (m r : ℕ) → m < s count → Near s m r → Near t m r
  -- a letter in flight flew before, or was not spent and is now
  pub new_letter : (k m q u : ℕ) → Fly t m k q u → Fly s m k q u ⊎ ((¬ Spent s k m q) × Spent t k m q)

-- what is spent stays so
pub spent_on : {s t : State} → Once s t → (k m q : ℕ) → Spent s k m q → Spent t k m q
spent_on o zero m q (h, x) = (omega (arith, o.grows), tt)
spent_on o (suc zero) m q (h, x) = (omega (arith, o.grows), o.held_on m q h x)
spent_on o (suc (suc k)) m q (h, x) =
    (omega (arith, o.grows), (o.held_on m q h x.0, o.near_on m q h x.1))

-- a change that concerns no process's record and nothing that is held, and sends nothing
once_by : (s t : State) → scene t ≡ scene s → ◌≡◌ {A = ℕ → ℕ → ℕ} (λ r m. t (held r m)) (λ r m. s (held r m))
    → ((k m q u : ℕ) → Fly t m k q u → Fly s m k q u) → Once s t
once_by s t e h less = record {
  grows = omega (arith, ap (λ (v : Scene). v.messages.total) e);
  held_on = λ m r _ d. ap (λ (g : ℕ → ℕ → ℕ). g r m) h ∙ d;
  near_on = λ m r _.
      subst (λ (v : Scene). v.messages.number m (v.own r).group ≤ (v.own r).next (v.messages.sender m))
      (sym e);
  new_letter = λ k m q u f. inl (less k m q u f);
}

-- no change at all
pub once_self : (s : State) → Once s s
once_self s = once_by s s refl refl (λ _ _ _ _ f. f)

-- one change after another
pub once_then : {s t u : State} → Once s t → Once t u → Once s u
once_then {s} {t} {u} a b = record {
  grows = omega (arith, a.grows, b.grows);
  held_on = λ m r hm h. b.held_on m r (omega (arith, a.grows)) (a.held_on m r hm h);
  near_on = λ m r hm h. b.near_on m r (omega (arith, a.grows)) (a.near_on m r hm h);
  new_letter = λ k m q x f. elim (b.new_letter k m q x f) [
    | inr c ↦ inr ((λ z. c.0 (spent_on a k m q z)), c.1)
    | inl c ↦ elim (a.new_letter k m q x c) [
      | inl d ↦ inl d
      | inr d ↦ inr (d.0, spent_on b k m q d.1)
    ]
  ];
}

-- ---- the parts of a step
pub leave_once : (s : State) (k m q p : ℕ) → Once s (leave s k m q p)
unfolding leave put
leave_once s k m q p = once_by s (leave s k m q p) refl refl (λ j x o u. leave_less s k m q p x j o u)

-- a mark sends nothing
pub mark_once : (s : State) (k m q p : ℕ) → Once s (mark s k m q p)
unfolding put
mark_once s k m q p =
    mark_cases (Once s) s k m q p (λ _. once_by s _ refl refl (λ _ _ _ _ f. f)) (λ _. once_self s)

-- the answer to a message that is first held
pub hold_once : (s : State) (p m : ℕ) → m < s count → Once s (hold s p m)
unfolding put
hold_once s p m hm = hold_cases (Once s) s p m (λ _. once_self s) (λ new. record {
  grows = omega arith;
  held_on = λ x r _ h. put_at s (held p m) (held r x) 1 (λ v. v ≡ 1) (λ _. refl) (λ _. h);
  near_on = λ x r _ h. h;
  new_letter = λ k x o u. put_letter s m (pick (in_turn s p m) 2 1) p (addressees s m)
      (λ x k o v. bit v u ≡ true
      → Fly s x k o u ⊎ ((¬ Spent s k x o) × Spent (holding s p m (pick (in_turn s p m) 2 1)) k x o))
      (λ _. inr (kinds new (in_turn s p m) refl)) (λ _ _ _ f. inl f) x k o;
})
  where
    holds : put s (held p m) 1 (held p m) ≡ 1
    holds = put_at s (held p m) (held p m) 1 (λ v. v ≡ 1) (λ _. refl) (λ n. absurd (n refl))

    kinds : s (held p m) ≢ 1 → (b : Bool) → in_turn s p m ≡ b
        → (¬ Spent s (pick b 2 1) m p) × Spent (holding s p m (pick (in_turn s p m) 2 1)) (pick b 2 1) m p
    kinds new true e = (
      (λ z. new z.1.0),
      (hm, (holds, omega (arith, eqb-true (s (number m (s (group p)))) (s (next p (s (sender m)))) e))),
    )
    kinds new false e = ((λ z. new z.1), (hm, holds))

-- a turn of the cascade: the OKs are for messages that come in turn now
pub turn_once : (t : State) (p m : ℕ) → Once t (fifo_one t p m)
turn_once t p m = record {
  grows = omega (arith, count_is);
  held_on = λ x r _ h. held_is r x ∙ h;
  near_on = λ x r _. near_on t p m x r;
  new_letter = λ k x q u.
      letter_cases t p m x
      (λ k q v. bit v u ≡ true → Fly t x k q u ⊎ ((¬ Spent t k x q) × Spent (fifo_one t p m) k x q))
      (λ _ _ f. inl f)
      (λ c _. inr (
        (λ z. absurd (omega (arith, z.1.1, ok_far t p m x c))),
        (omega (arith, count_is, c.low), (held_is p x ∙ c.has, ok_near t p m x c)),
      )) k q;
}
  where
    count_is : fifo_one t p m count ≡ t count
    count_is = ap (λ (s : Still). s.ground.messages.total) (fifo_one_still t p m)

    held_is : (r x : ℕ) → fifo_one t p m (held r x) ≡ t (held r x)
    held_is r x = ap (λ (s : Still). s.held r x) (fifo_one_still t p m)

-- the cascade
cascade_once : (s : State) (p : ℕ) → Once s (cascade s p)
unfolding cascade
cascade_once s p =
    loop_keeps (λ t. t count) (λ t. ready t p) (λ t. fifo_one t p) (Once s)
    (λ t m _ _ _ o. once_then o (turn_once t p m))
    (s count - s (fifo_length p)) s (once_self s)

-- a multicast sends the first letters of a new message
pub multicast_once : (s : State) (p groups o : ℕ) → Once s (multicast s p groups o)
unfolding multicast post numbered stamped raised put with_tables
multicast_once s p groups o = record {
  grows = omega arith;
  held_on = λ x r _ h. h;
  near_on = λ x r hx h. omega (arith, h, number_is x r hx, ap (λ (q : ℕ). s (next r q)) (sender_is x hx));
  new_letter = λ k x q u.
      put_letter s (s count) 0 p (addressees (multicast s p groups o) (s count))
      (λ x k q v. bit v u ≡ true
      → Fly s x k q u ⊎ ((¬ Spent s k x q) × Spent (multicast s p groups o) k x q))
      (λ _. inr ((λ z. absurd (omega (arith, z.0))), (omega arith, tt))) (λ _ _ _ f. inl f) x k q;
}
  where
    number_is : (x r : ℕ) → x < s count
        → multicast s p groups o (number x (s (group r))) ≡ s (number x (s (group r)))
    number_is x r hx = pick_no _ (s (number x (s (group r)))) (ne_eqb (s count) x (omega arith))

    sender_is : (x : ℕ) → x < s count → multicast s p groups o (sender x) ≡ s (sender x)
    sender_is x hx =
        put_other s (sender (s count)) (sender x) p (λ e. let z : s count ≡ x = cc in omega arith)

-- the message is one still
pub marked_low : (s : State) (k m q p : ℕ) → m < s count → m < mark (leave s k m q p) k m q p count
unfolding leave put
marked_low s k m q p h = mark_cases (λ t. m < t count) (leave s k m q p) k m q p (λ _. h) (λ _. h)

-- an arrival, once the letter has left flight
pub arrived_once : (s : State) (k m q p : ℕ) → m < s count → Once (leave s k m q p) (arrival s k m q p)
unfolding arrival
arrived_once s k m q p l =
    once_then (mark_once (leave s k m q p) k m q p)
    (once_then (hold_once (mark (leave s k m q p) k m q p) p m (marked_low s k m q p l))
    (cascade_once (hold (mark (leave s k m q p) k m q p) p m) p))

-- ---- every step
pub step_once : (s : State) (x : Step) → (accepted s x ≡ true) → Once s (step s x)
unfolding step trust_set crash put
step_once s (multicasts p groups o) e = multicast_once s p groups o
step_once s (arrives k m q p) e =
    once_then (leave_once s k m q p)
    (arrived_once s k m q p (accepted_arrival s k m q p e).letter.message)
step_once s (loses k m q p) e = leave_once s k m q p
step_once s (trusts p set) e =
    once_then (once_by s (put s (trust p) set) refl refl (λ _ _ _ _ f. f)) (cascade_once (put s (trust p) set) p)
step_once s (crashes p) e = once_by s (put s (up p) 0) refl refl (λ _ _ _ _ f. f)
step_once s malformed e = once_self s
