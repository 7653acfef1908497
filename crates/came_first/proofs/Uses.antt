-- The sentences on which of two messages came first as a reader takes them from `came_first`, on the bytes that the calls
-- leave: each with its hypotheses written out, and no more. A weaker statement would not give them. Assumes nothing.
use Rattle.std.specs.Prelude.{◌≡◌, refl, List, ◌⊎◌, ℕ, ◌<◌, length, get_or}
use Rattle.std.proofs.Common.{inl, inr, arith}
use Rattle.std.proofs.Math.Decide.{ℕ_discrete}
use Rattle.definitions.specs.History.{Before, Run, Item, run}
use Rattle.definitions.specs.Words.{making_refusal, first_of, second_of, precedes_refusal, precedes_bytes, on_words, started_words}
use Rattle.definitions.specs.CameFirst.{Says}
use Rattle.came_first.proofs.Theorem.{came_first}

-- a place in the answers of a call that the words w allow
pub record Place (w : List ℕ) : Type 0 where
  pub pairs : List ℕ
  pub answers : List ℕ
  pub allowed : precedes_refusal w pairs answers ≡ 0
  pub place : ℕ
  pub inside : place < length answers

-- the two messages of its pair, and its byte
module _ {w : List ℕ} (c : Place w) where
  abbrev pub first : ℕ
  first = first_of c.pairs c.place

  abbrev pub second : ℕ
  second = second_of c.pairs c.place

  abbrev pub byte : ℕ
  byte = get_or (precedes_bytes w c.pairs c.answers) c.place 0

  says : {x m b : ℕ} → first ≡ x → second ≡ m → byte ≡ b → Says w x m b
  says e f g = record {
    pairs = c.pairs;
    answers = c.answers;
    allowed = c.allowed;
    place = c.place;
    inside = c.inside;
    first = e;
    second = f;
    byte = g;
  }

  -- ---- any lent words
  pub zero_or_one : (byte ≡ 0) ⊎ (byte ≡ 1)
  zero_or_one = elim (ℕ_discrete byte 1) [
    | yes e ↦ inr e
    | no d ↦ inl (omega (arith, came_first.small w first second byte (says refl refl refl)))
  ]

  pub itself_zero : first ≡ second → byte ≡ 0
  itself_zero e = came_first.itself w second byte (says e refl refl)

-- ---- after a list of items from a fresh world
module _ (w setup : List ℕ) (taken : making_refusal w setup ≡ 0) (items : List Item) where
  abbrev r : Run (List ℕ)
  r = run on_words (started_words w setup) items

  -- 1 exactly when the first precedes the second
  module _ (c : Place r.now) where
    pub one_precedes : byte c ≡ 1 → Before r.seen (first c) (second c)
    one_precedes =
        ((came_first.reached w setup items taken).exact (first c) (second c) (byte c) (says c refl refl refl)).0

    pub precedes_one : Before r.seen (first c) (second c) → byte c ≡ 1
    precedes_one =
        ((came_first.reached w setup items taken).exact (first c) (second c) (byte c) (says c refl refl refl)).1

    -- so 0 exactly when it does not
    pub zero_not : byte c ≡ 0 → ¬ Before r.seen (first c) (second c)
    zero_not e b = omega (arith, precedes_one b)

    pub not_zero : (¬ Before r.seen (first c) (second c)) → byte c ≡ 0
    not_zero n = elim (zero_or_one c) [ inl e ↦ e | inr e ↦ absurd (n (one_precedes e)) ]

  -- a message never precedes itself
  pub never : (x : ℕ) → ¬ Before r.seen x x
  never = (came_first.reached w setup items taken).never

  -- so the answers are a strict partial order: 1 for x and y and for y and z is 1 for x and z, by whichever calls
  chained : (a b : Place r.now) → second a ≡ first b → byte a ≡ 1 → byte b ≡ 1 → Before r.seen (first a) (second b)
  chained a b e p q =
      (came_first.reached w setup items taken).chain (first a) (first b) (second b) (rw e at (one_precedes a p))
      (one_precedes b q)

  pub through : (a b c : Place r.now) → second a ≡ first b → first a ≡ first c → second b ≡ second c
      → byte a ≡ 1 → byte b ≡ 1 → byte c ≡ 1
  through a b c e f g p q = precedes_one c (rw (← f, ← g) (chained a b e p q))

  -- and 1 for x and y is 0 for y and x
  pub one_way : (a b : Place r.now) → second a ≡ first b → first a ≡ second b → byte a ≡ 1 → byte b ≡ 0
  one_way a b e f p = elim (zero_or_one b) [
    | inl z ↦ z
    | inr q ↦ absurd (never (second b) (rw f at (chained a b e p q)))
  ]
