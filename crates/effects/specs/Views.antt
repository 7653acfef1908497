-- Views of a state: the records of all messages, the own record of one process, the letters in flight, and
-- what no cascade changes. Two states with the same view agree on all its cells, so that what is said of a
-- view need not be said again of each state. A change that leaves a process's own words leaves its record.
-- Assumes nothing.
use Rattle.std.specs.Prelude.{◌≡◌, refl, ℕ}
use Rattle.definitions.specs.World.{Cell, size, count, group, trust, counter, sequence, next, delivered, up, fifo_length, causal_length, held, marks, fifo, causal, sender, mask, stamp, number, flight, State}
use Rattle.world.specs.Local.{Own}

-- ---- the messages: how many, and of each its sender, mask, counters and sequence numbers
pub record Messages : Type 0 where
  pub total : ℕ
  pub sender : ℕ → ℕ
  pub mask : ℕ → ℕ
  pub stamp : ℕ → ℕ → ℕ → ℕ
  pub number : ℕ → ℕ → ℕ

-- the messages of a state
abbrev pub messages : State → Messages
messages s = record {
  total = s count;
  sender = λ m. s (sender m);
  mask = λ m. s (mask m);
  stamp = λ m g q. s (stamp m g q);
  number = λ m g. s (number m g);
}

-- ---- one process: its group, its two logs, its arrays
pub record Process : Type 0 where
  pub group : ℕ
  pub fifo_length : ℕ
  pub fifo : ℕ → ℕ
  pub causal_length : ℕ
  pub causal : ℕ → ℕ
  pub next : ℕ → ℕ
  pub delivered : ℕ → ℕ
  pub counter : ℕ → ℕ → ℕ
  pub sequence : ℕ → ℕ

-- the record of p in a state
abbrev pub process : State → ℕ → Process
process s p = record {
  group = s (group p);
  fifo_length = s (fifo_length p);
  fifo = λ i. s (fifo p i);
  causal_length = s (causal_length p);
  causal = λ i. s (causal p i);
  next = λ q. s (next p q);
  delivered = λ q. s (delivered p q);
  counter = λ g q. s (counter p g q);
  sequence = λ g. s (sequence p g);
}

-- ---- what the order of the logs looks at: how many processes, the messages, each process's record
pub record Scene : Type 0 where
  pub size : ℕ
  pub messages : Messages
  pub own : ℕ → Process

-- of a state
abbrev pub scene : State → Scene
scene s = record { size = s size; messages = messages s; own = process s }

-- ---- the letters in flight: of message m, kind k and origin q, the receivers
abbrev pub letters : State → ℕ → ℕ → ℕ → ℕ
letters s m k q = s (flight m k q)

-- ---- what neither a cascade nor an arrival changes: how many processes, the messages, who is in which
-- group, whom a process trusts, whether it is up
pub record Ground : Type 0 where
  pub size : ℕ
  pub messages : Messages
  pub group : ℕ → ℕ
  pub trust : ℕ → ℕ
  pub up : ℕ → ℕ

-- the ground of a state
abbrev pub ground : State → Ground
ground s = record {
  size = s size;
  messages = messages s;
  group = λ p. s (group p);
  trust = λ p. s (trust p);
  up = λ p. s (up p);
}

-- ---- what no cascade changes: besides these, what a process holds and which marks it has
pub record Still : Type 0 where
  pub ground : Ground
  pub held : ℕ → ℕ → ℕ
  pub marks : ℕ → ℕ → ℕ

-- what no cascade changes, of a state
abbrev pub still : State → Still
still s = record { ground = ground s; held = λ p m. s (held p m); marks = λ p m. s (marks p m) }

-- ---- what it looks at whether p may deliver a message: how many processes, the messages, the groups, p's own
-- record, whom it trusts, what it holds and which marks it has
pub record Place : Type 0 where
  pub size : ℕ
  pub messages : Messages
  pub groups : ℕ → ℕ
  pub own : Process
  pub trust : ℕ
  pub held : ℕ → ℕ
  pub marks : ℕ → ℕ

-- of p, given what no cascade changes and p's record
abbrev pub place_of : ℕ → Still → Process → Place
place_of p v r = record {
  size = v.ground.size;
  messages = v.ground.messages;
  groups = v.ground.group;
  own = r;
  trust = v.ground.trust p;
  held = v.held p;
  marks = v.marks p;
}

-- of p in a state
abbrev pub place : State → ℕ → Place
place s p = place_of p (still s) (process s p)

-- ---- a change that leaves r's own words as they were
module _ (s t : State) (r : ℕ) (e : (c : Cell) → Own r c → t c ≡ s c) where
  -- leaves its record
  pub process_local : process t r ≡ process s r
  process_local = λ j. record {
    group = e (group r) refl j;
    fifo_length = e (fifo_length r) refl j;
    fifo = λ i. e (fifo r i) refl j;
    causal_length = e (causal_length r) refl j;
    causal = λ i. e (causal r i) refl j;
    next = λ q. e (next r q) refl j;
    delivered = λ q. e (delivered r q) refl j;
    counter = λ g q. e (counter r g q) refl j;
    sequence = λ g. e (sequence r g) refl j;
  }

  -- and, with the ground, what it looks at
  pub place_local : ground t ≡ ground s → place t r ≡ place s r
  place_local g = λ j. record {
    size = (g j).size;
    messages = (g j).messages;
    groups = (g j).group;
    own = process_local j;
    trust = e (trust r) refl j;
    held = λ m. e (held r m) refl j;
    marks = λ m. e (marks r m) refl j;
  }
