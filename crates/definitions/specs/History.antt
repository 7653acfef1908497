-- The history of a list of items, and what is said of it: document 01, section "Precedence, trust rule,
-- settle". Events, precedence with no counter in it, the run of items that are steps (any bytes at all) or
-- settles, the trust rule. A run is taken over states or over lent words by the same definitions. It rests
-- on Steps and Settle. Assumes nothing.
use Rattle.std.specs.Prelude.{◌≡◌, Bool, true, ◌&&◌, List, [], ◌∷◌, ℕ, zero, suc, ◌+◌, ◌-◌, ◌<◌, length}
use Rattle.definitions.specs.General.{pick, bit}
use Rattle.definitions.specs.World.{size, count, group, trust, up, causal_length, causal, State}
use Rattle.definitions.specs.Steps.{Step, multicasts, arrives, loses, trusts, crashes, malformed, read, is_up, accepted}
use Rattle.definitions.specs.Settle.{Manner, choice, settle_afresh}

-- ---- "Events are accepted multicasts and causal deliveries": p multicast m; p causally delivered m.
pub data Event : Type 0 where
  sent got : ℕ → ℕ → Event

-- The process of an event.
abbrev pub who : Event → ℕ
who (sent p m) = p
who (got p m) = p

-- A history lists its events with the newest first; the place of an event is the number of those before it.
pub data At : List Event → ℕ → Event → Type 0 where
  here : {e : Event} {es : List Event} {i : ℕ} → i ≡ length es → At (e ∷ es) i e
  there : {e d : Event} {es : List Event} {i : ℕ} → At es i e → At (d ∷ es) i e

-- "One precedes another if it is earlier at the same process, or is the multicast of a message that the other
-- delivers, or through a chain of these."
pub data Precedes (es : List Event) : ℕ → ℕ → Type 0 where
  same : {i j : ℕ} (d e : Event) → i < j → At es i d → At es j e → who d ≡ who e → Precedes es i j
  carried : {i j : ℕ} (p q m : ℕ) → i < j → At es i (sent p m) → At es j (got q m) → Precedes es i j
  chain : {i j k : ℕ} → Precedes es i j → Precedes es j k → Precedes es i k

-- "Message m precedes m' if its multicast precedes that of m'": x precedes m.
pub data Before (es : List Event) (x m : ℕ) : Type 0 where
  casts : {i j : ℕ} (p q : ℕ) → At es i (sent p x) → At es j (sent q m) → Precedes es i j → Before es x m

-- ---- the events of a step
-- n deliveries of p, read off a log from place a on.
unfoldable pub deliveries : ℕ → ℕ → ℕ → (ℕ → ℕ) → List Event → List Event
deliveries p a zero log es = es
deliveries p a (suc n) log es = got p (log (a + n)) ∷ deliveries p a n log es

-- What the causal log of p in s has from place a on.
abbrev pub grown : ℕ → ℕ → State → List Event → List Event
grown p a s es = deliveries p a (s (causal_length p) - a) (λ i. s (causal p i)) es

-- "a delivery happens in the step that appends the message to the causal log, several in one step in the
-- log's order": what the causal logs of the processes below n have gained from s to t.
unfoldable pub gained : ℕ → State → State → List Event → List Event
gained zero s t es = es
gained (suc p) s t es = grown p (s (causal_length p)) t (gained p s t es)

-- The event of an accepted multicast.
abbrev pub casted : Step → State → List Event → List Event
casted (multicasts p groups o) s es = sent p (s count) ∷ es
casted (arrives k m q p) s es = es
casted (loses k m q p) s es = es
casted (trusts p set) s es = es
casted (crashes p) s es = es
casted malformed s es = es

-- ---- runs
-- What takes the steps: how its state is read, whether it is a world at all, and what an accepted step gives.
pub record Engine (S : Type 0) : Type 0 where
  pub reads : S → State
  pub world : S → Bool
  pub does : S → Step → S

-- A run: what there is now, and the history so far.
pub record Run (S : Type 0) : Type 0 where
  pub now : S
  pub seen : List Event

-- Bytes given as a step, or a settle of either manner with a budget.
pub data Item : Type 0 where
  given : List ℕ → Item
  settling : Manner → ℕ → Item

module _ {S : Type 0} (e : Engine S) where
  -- The run after an accepted step.
  abbrev pub taken : Run S → Step → Run S
  taken r x =
      let s = e.reads r.now in
      let u = e.does r.now x in
      record { now = u; seen = gained (s size) s (e.reads u) (casted x s r.seen) }

  -- "Its items are whatever is given as a step, malformed ones included; a refused one is no event."
  unfoldable pub tick : Run S → Step → Run S
  tick r x = pick (e.world r.now && accepted (e.reads r.now) x) (taken r x) r

  -- "A settle .. counts as the arrivals that it makes": none where there is no world.
  unfoldable pub settles : Manner → Run S → ℕ → Run S
  settles o r b =
      pick (e.world r.now)
      (settle_afresh (λ t u. choice o t (e.reads u.now)) (λ u k m q p. taken u (arrives k m q p)) b r).world r

  unfoldable pub act : Run S → Item → Run S
  act r (given bytes) = tick r (read bytes)
  act r (settling o b) = settles o r b

  unfoldable pub run : Run S → List Item → Run S
  run r [] = r
  run r (i ∷ is) = run (act r i) is

-- ---- the trust rule
-- "names for each group that has members up at the end at least one of those": p trusts one of the live
-- processes that is of the group of q.
pub data Names (live : ℕ → Bool) (s : State) (p q : ℕ) : Type 0 where
  names : (r : ℕ) → r < s size → live r ≡ true → s (group r) ≡ s (group q) → bit (s (trust p)) r ≡ true
      → Names live s p q

-- So of the trust set of each up process in s, for the group of each live process.
abbrev pub InForce : (ℕ → Bool) → State → Type 0
InForce live s =
    (p q : ℕ) → p < s size → q < s size → s (up p) ≡ 1 → live q ≡ true → Names live s p q

-- "at the end each up process trusts only up processes"
abbrev pub Fair : State → Type 0
Fair s = (p q : ℕ) → p < s size → q < s size → s (up p) ≡ 1 → bit (s (trust p)) q ≡ true → s (up q) ≡ 1

module _ {S : Type 0} (e : Engine S) where
  -- "every trust set in force at a process while it was up, the starting set included": a trust set stays
  -- in force from one item to the next.
  unfoldable pub AllAlong : (ℕ → Bool) → Run S → List Item → Type 0
  AllAlong live r [] = InForce live (e.reads r.now)
  AllAlong live r (i ∷ is) = InForce live (e.reads r.now) × AllAlong live (act e r i) is

  pub record TrustRule (r : Run S) (is : List Item) : Type 0 where
    pub in_force : AllAlong (is_up (e.reads (run e r is).now)) r is
    pub fair : Fair (e.reads (run e r is).now)
