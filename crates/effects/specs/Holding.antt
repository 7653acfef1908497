-- What is held is to its holder, and a letter in flight to an addressee: soundness says so, and it stays so
-- while a letter arrives and in the cascade. And a loss is accepted only where an end is down; who holds a
-- message after a step; what no step changes. Assumes nothing.
use Rattle.std.specs.Prelude.{◌≡◌, refl, Bool, true, false, not, ◌&&◌, ◌⊎◌, ◌≢◌, ℕ, ◌<◌, ltb}
use Rattle.std.proofs.Common.{sym, ap, ◌∙◌, inl, inr, arith, eqb-true}
use Rattle.std.proofs.lemmas.Bool.{eqb-false}
use Rattle.definitions.specs.General.{bit}
use Rattle.definitions.specs.World.{size, count, group, trust, up, held, mask, State, put, addressed, is_process, is_message}
use Rattle.definitions.specs.Machine.{with_tables, raised, stamped, numbered, posted, multicast, cascade, leave, received, arrival, trust_set, crash}
use Rattle.definitions.specs.Steps.{Step, multicasts, arrives, loses, trusts, crashes, malformed, is_up, in_flight, refusal, accepted, step}
use Rattle.base.specs.Tests.{clash, both, both_r}
use Rattle.base.specs.Refusals.{needs_none}
use Rattle.world.specs.Layout.{put_other}
use Rattle.world.specs.SoundLaws.{Sound, size_high, count_high, letter_facts, held_facts}
use Rattle.world.specs.StepLaws.{InFlight, accepted_arrival}
use Rattle.effects.specs.Views.{Ground, ground, Still, still}
use Rattle.effects.specs.Cascade.{cascade_still}
use Rattle.effects.specs.Arrival.{Held, received_ground, received_held}

-- what p holds is to p
abbrev pub HeldTo : State → ℕ → Type 0
HeldTo s p = (m : ℕ) → m < s count → s (held p m) ≡ 1 → addressed s m p ≡ true

-- m is to p, in b and so in t
pub held_to : (p : ℕ) (b t : State) → still t ≡ still b → HeldTo b p → HeldTo t p
held_to p b t e h m hm d =
    ap (λ (v : Still). bit (v.ground.messages.mask m) (v.ground.group p)) e
    ∙ h m (omega (arith, ap (λ (v : Still). v.ground.messages.total) e))
    (sym (ap (λ (v : Still). v.held p m) e) ∙ d)

-- ---- by soundness
pub sound_held : (s : State) → Sound s → (p : ℕ) → p < s size → HeldTo s p
sound_held s h p hp m hm d =
    let f = held_facts s h p m (omega (arith, size_high s h)) (omega (arith, count_high s h)) (omega arith) in
    both_r (ltb p (s size)) (addressed s m p) f.to

-- a letter in flight is to an addressee
pub sound_letter : (s : State) → Sound s → (k m q p : ℕ) → InFlight s k m q p → addressed s m p ≡ true
sound_letter s h k m q p l =
    let f =
    letter_facts s h k m q p l.kind (omega (arith, l.message, count_high s h))
    (omega (arith, l.from, size_high s h))
    (omega (arith, l.to, size_high s h)) l.flies in
    both_r (ltb p (s size)) (addressed s m p) f.to

-- what p holds when a letter has arrived is to p
pub received_to : (s : State) → Sound s → (k m q p : ℕ) → InFlight s k m q p → HeldTo (received s k m q p) p
received_to s h k m q p l x hx d =
    ap (λ (v : Ground). bit (v.messages.mask x) (v.group p)) (received_ground s k m q p)
    ∙ received_held s k m q p (λ r y. r < s size → y < s count → addressed s y r ≡ true)
    (λ r y a hr hy. sound_held s h r hr y hy a) (λ _ _ _. sound_letter s h k m q p l) p x d l.to
    (omega (arith, ap (λ (v : Ground). v.messages.total) (received_ground s k m q p)))

-- a trust set is replaced
pub trusted_held : (s : State) → Sound s → (p set : ℕ) → p < s size → HeldTo (put s (trust p) set) p
unfolding put
trusted_held s h p set hp m hm d = sound_held s h p hp m hm d

-- ---- a loss is accepted only where one end is down
pub loss_needs : (s : State) (k m q p : ℕ) → accepted s (loses k m q p) ≡ true → (s (up q) ≢ 1) ⊎ (s (up p) ≢ 1)
unfolding refusal
loss_needs s k m q p e =
    let a = needs_none 3 (ltb k 3) _ (eqb-true (refusal s (loses k m q p)) 0 e) in
    let b = needs_none 4 (is_process s q && is_process s p) _ a.1 in
    let c = needs_none 6 (is_message s m) _ b.1 in
    let d = needs_none 10 (in_flight s k m q p) _ c.1 in
    which (is_up s q) (is_up s p) refl refl
    (needs_none 11 (not (is_up s q && is_up s p)) 0 d.1).0
  where
    which : (a b : Bool) → is_up s q ≡ a → is_up s p ≡ b → not (both a b) ≡ true → (s (up q) ≢ 1) ⊎ (s (up p) ≢ 1)
    which false b x y z = inl (eqb-false (s (up q)) 1 x)
    which true false x y z = inr (eqb-false (s (up p)) 1 y)
    which true true x y z = clash {b = false} z refl

-- ---- an arrival changes no trust set, no group, and nobody goes down
pub arrival_ground : (s : State) (k m q p : ℕ) → ground (arrival s k m q p) ≡ ground s
unfolding arrival
arrival_ground s k m q p =
    ap (λ (v : Still). v.ground) (cascade_still (received s k m q p) p) ∙ received_ground s k m q p

-- ---- who holds a message after a step
-- a letter for m to r is in flight
pub data Lands (s : State) (r m : ℕ) : Type 0 where
  lands : (k q : ℕ) → InFlight s k m q r → Lands s r m

-- whoever holds it after a step held it before, or a letter for it was in flight
pub step_held : (s : State) (x : Step) → accepted s x ≡ true → (r m : ℕ) → Held (step s x) r m
    → Held s r m ⊎ Lands s r m
unfolding step multicast posted numbered stamped raised with_tables arrival trust_set leave crash put
step_held s (multicasts p groups o) e r m h = inl h
step_held s (arrives k x q p) e r m h =
    received_held s k x q p (λ u y. Held s u y ⊎ Lands s u y) (λ _ _ a. inl a)
    (λ _. inr (lands k q (accepted_arrival s k x q p e).letter)) r m
    (sym (ap (λ (v : Still). v.held r m) (cascade_still (received s k x q p) p)) ∙ h)
step_held s (loses k x q p) e r m h = inl h
step_held s (trusts p set) e r m h =
    inl (sym (ap (λ (v : Still). v.held r m) (cascade_still (put s (trust p) set) p)) ∙ h)
step_held s (crashes p) e r m h = inl h
step_held s malformed e r m h = inl h

-- ---- what no step changes
-- how many processes there are, their groups, and the masks of the messages that there are
abbrev pub Lasting : State → State → Type 0
Lasting s t =
    (t size ≡ s size) × ((p : ℕ) → t (group p) ≡ s (group p))
    × ((m : ℕ) → m < s count → t (mask m) ≡ s (mask m))

-- where the ground is the same they are
lasts : (s t : State) → ground t ≡ ground s → Lasting s t
lasts s t e = (
  ap (λ (v : Ground). v.size) e,
  (λ p. ap (λ (v : Ground). v.group p) e),
  λ m _. ap (λ (v : Ground). v.messages.mask m) e,
)

pub step_lasting : (s : State) (x : Step) → Lasting s (step s x)
unfolding step multicast posted numbered stamped raised with_tables trust_set leave crash put
step_lasting s (multicasts p groups o) = (
  refl,
  (λ _. refl),
  λ m l. put_other s (mask (s count)) (mask m) groups (λ e. let z : s count ≡ m = cc in omega arith),
)
step_lasting s (arrives k m q p) = lasts s (arrival s k m q p) (arrival_ground s k m q p)
step_lasting s (loses k m q p) = (refl, (λ _. refl), λ _ _. refl)
step_lasting s (trusts p set) =
    let u : State = put s (trust p) set in
    lasts u (cascade u p) (ap (λ (v : Still). v.ground) (cascade_still u p))
step_lasting s (crashes p) = (refl, (λ _. refl), λ _ _. refl)
step_lasting s malformed = (refl, (λ _. refl), λ _ _. refl)
