-- What there was stays, through every arrival: what is held, marks, next and the FIFO logs only grow, and a letter
-- in flight flies on or has landed, at a process that holds its message and has its mark (Onward). It asks nothing
-- of the state. Assumes nothing.
use Rattle.std.specs.Prelude.{◌≡◌, refl, true, ◌⊎◌, ℕ, ◌-◌, ◌≤◌, ◌<◌}
use Rattle.std.proofs.Common.{sym, ap, ◌∙◌, subst, inl, inr, arith}
use Rattle.definitions.specs.General.{bit, In}
use Rattle.definitions.specs.World.{size, count, fifo_length, next, held, fifo, State, put, addressed}
use Rattle.definitions.specs.Machine.{ready, fifo_one, cascade, leave, mark, received, arrival}
use Rattle.base.specs.Tests.{at_or_off}
use Rattle.base.specs.Loop.{loop_keeps}
use Rattle.world.specs.Layout.{put_at}
use Rattle.world.specs.Kept.{hold_cases}
use Rattle.effects.specs.Views.{Process, Ground, ground, Still}
use Rattle.effects.specs.Cascade.{Front, fifo_one_front, fifo_one_there, fifo_one_still, next_cases, letter_cases}
use Rattle.effects.specs.Arrival.{Held, Fly, leave_cases, marked_held, received_process, received_ground}
use Rattle.effects.specs.Flying.{in_addressees, received_holds, received_flies}
use Rattle.order.specs.Logs.{in_longer}
use Rattle.order.specs.Cascade.{Fifo}
use Rattle.agreement.specs.Letters.{Mark}
use Rattle.agreement.specs.Arrivals.{marked_on, marked_hit}

-- the letter has landed: its receiver holds the message, and has the mark if it was an OK
abbrev pub Landed : State → ℕ → ℕ → ℕ → ℕ → Type 0
Landed t m k r u = Held t u m × (k ≡ 2 → Mark t u m r)

pub record Onward (s t : State) : Type 0 where
  pub same : ground t ≡ ground s
  pub held_on : (p m : ℕ) → Held s p m → Held t p m
  pub mark_on : (p m r : ℕ) → Mark s p m r → Mark t p m r
  pub next_on : (p q : ℕ) → s (next p q) ≤ t (next p q)
  pub fifo_on : (p m : ℕ) → Fifo s p m → Fifo t p m
  pub fly_on : (m k r u : ℕ) → u < s size → addressed s m u ≡ true → Fly s m k r u
      → Fly t m k r u ⊎ Landed t m k r u

-- nothing changes
pub onward_none : (s : State) → Onward s s
onward_none s = record {
  same = refl;
  held_on = λ p m h. h;
  mark_on = λ p m r h. h;
  next_on = λ p q. omega arith;
  fifo_on = λ p m h. h;
  fly_on = λ m k r u _ _ f. inl f;
}

-- one change after another
pub onward_then : {s t v : State} → Onward s t → Onward t v → Onward s v
onward_then {s} {t} {v} a b = record {
  same = b.same ∙ a.same;
  held_on = λ p m h. b.held_on p m (a.held_on p m h);
  mark_on = λ p m r h. b.mark_on p m r (a.mark_on p m r h);
  next_on = λ p q. omega (arith, a.next_on p q, b.next_on p q);
  fifo_on = λ p m h. b.fifo_on p m (a.fifo_on p m h);
  fly_on = λ m k r u hu au f. elim (a.fly_on m k r u hu au f) [
    | inl g ↦ b.fly_on m k r u (omega (arith, ap (λ (x : Ground). x.size) a.same))
        (ap (λ (x : Ground). bit (x.messages.mask m) (x.group u)) a.same ∙ au) g
    | inr g ↦ inr (b.held_on u m g.0, λ two. b.mark_on u m r (g.1 two))
  ];
}

-- an arrival up to its cascade
module _ (s : State) (k m q p : ℕ) where
  -- what was held still is
  held_still : (r x : ℕ) → Held s r x → Held (received s k m q p) r x
  unfolding put
  held_still r x h =
      hold_cases (λ t. Held t r x) (mark (leave s k m q p) k m q p) p m (λ _. marked_held s k m q p r x ∙ h)
      (λ _. put_at (mark (leave s k m q p) k m q p) (held p m) (held r x) 1 (λ v. v ≡ 1) (λ _. refl)
      (λ _. marked_held s k m q p r x ∙ h))

  received_onward : Onward s (received s k m q p)
  received_onward = record {
    same = received_ground s k m q p;
    held_on = held_still;
    mark_on = marked_on s k m q p;
    next_on = λ r o. omega (arith, ap (λ (v : Process). v.next o) (received_process s k m q p r));
    fifo_on = λ r x.
        subst (λ (v : Process). In v.fifo_length v.fifo x) (sym (received_process s k m q p r));
    fly_on = λ x j r u hu au z.
        leave_cases s k m q p
        (λ x j r u. u < s size → addressed s x u ≡ true
        → Fly (received s k m q p) x j r u ⊎ Landed (received s k m q p) x j r u)
        (λ _ _. inr (received_holds s k m q p, marked_hit s k m q p))
        (λ x j r u w hu au. inl (received_flies s k m q p x j r u hu au w)) x j r u z hu au;
  }

-- a turn of the cascade
module _ (t : State) (p m : ℕ) where
  -- the FIFO log of p has m besides
  fifo_longer : (r x : ℕ) → Fifo t r x → Fifo (fifo_one t p m) r x
  fifo_longer r x =
      at_or_off p (λ z. Fifo t z x → Fifo (fifo_one t p m) z x)
      (λ f. subst (λ (v : Front). In v.fifo_length v.fifo x) (sym (fifo_one_front t p m))
      (in_longer (t (fifo_length p)) (λ i. t (fifo p i)) m f))
      (λ z n. subst (λ (v : Process). In v.fifo_length v.fifo x) (sym (fifo_one_there t p m z n))) r

  turn_onward : Onward t (fifo_one t p m)
  turn_onward =
      let still = fifo_one_still t p m in
      record {
        same = ap (λ (v : Still). v.ground) still;
        held_on = λ r x h. ap (λ (v : Still). v.held r x) still ∙ h;
        mark_on = λ r x o h. rw (ap (λ (v : Still). v.marks r x) still) h;
        next_on = next_cases t p m (λ r q v. t (next r q) ≤ v) (λ _ _. omega arith) (omega arith);
        fifo_on = fifo_longer;
        fly_on = λ x k r u hu au z.
            inl (letter_cases t p m x (λ k r v. Fly t x k r u → bit v u ≡ true) (λ _ _ f. f)
            (λ _ _. in_addressees t x u hu au) k r z);
      }

-- the whole arrival
pub arrival_onward : (s : State) (k m q p : ℕ) → Onward s (arrival s k m q p)
unfolding arrival cascade
arrival_onward s k m q p =
    let b : State = received s k m q p in
    loop_keeps (λ t. t count) (λ t. ready t p) (λ t. fifo_one t p) (Onward s)
    (λ t x _ _ _ o. onward_then o (turn_onward t p x)) (b count - b (fifo_length p)) b (received_onward s k m q p)
