-- What a history tells each process and each message, as sets computed from the events alone: the past of p,
-- and what is before m. A multicast adds the message to its sender's past, and its sender's past is what is
-- before it; a delivery of m adds all that is before m. These sets are closed: with a message they have all
-- that is before it, and the earlier messages of its sender. Assumes nothing.
use Rattle.std.specs.Prelude.{◌≡◌, refl, Bool, true, false, List, [], ◌∷◌, ◌≢◌, ℕ, suc, ◌≤◌, ◌<◌, eqb}
use Rattle.std.proofs.Common.{sym, ap, ◌∙◌, subst, inl, inr, arith, not-suc-le-zero, eqb-true, eq-eqb, ne_eqb}
use Rattle.std.proofs.Math.Decide.{ℕ_discrete}
use Rattle.definitions.specs.General.{pick}
use Rattle.definitions.specs.History.{Event, sent, got}
use Rattle.base.specs.Tests.{clash, both, either, both_i, either_e, either_l, either_r}

-- ---- the sets
pub record Knowledge : Type 0 where
  pub past : ℕ → ℕ → Bool
  pub before : ℕ → ℕ → Bool

-- one event more
abbrev pub learn : Event → Knowledge → Knowledge
learn (sent p m) k = record {
  past = λ q x. either (both (eqb p q) (eqb m x)) (k.past q x);
  before = λ n x. pick (eqb m n) (either (eqb m x) (k.past p x)) (k.before n x);
}
learn (got p m) k = record {
  past = λ q x. either (both (eqb p q) (k.before m x)) (k.past q x);
  before = k.before;
}

-- of a history, the newest event first
unfoldable pub knowledge : List Event → Knowledge
knowledge [] = record { past = λ q x. false; before = λ n x. false }
knowledge (e ∷ es) = learn e (knowledge es)

-- what was known still is
pub past_grows : (e : Event) (k : Knowledge) (q x : ℕ) → k.past q x ≡ true → (learn e k).past q x ≡ true
past_grows (sent p m) k q x a = either_r (both (eqb p q) (eqb m x)) (k.past q x) a
past_grows (got p m) k q x a = either_r (both (eqb p q) (k.before m x)) (k.past q x) a

-- before the message n that p multicasts is p's past, and itself
pub before_new : (k : Knowledge) (p n m x : ℕ) → n ≡ m
    → (learn (sent p n) k).before m x ≡ either (eqb n x) (k.past p x)
before_new k p n m x e = rw (eq-eqb n m e)

-- before another message is what was
pub before_old : (k : Knowledge) (p n m x : ℕ) → n ≢ m → (learn (sent p n) k).before m x ≡ k.before m x
before_old k p n m x e = rw (ne_eqb n m e)

-- ---- closed sets
-- a set of messages below b that has, with a message, all that is before it and its sender's earlier ones
pub record Closure (sender : ℕ → ℕ) (before : ℕ → ℕ → Bool) (b : ℕ) (f : ℕ → Bool) : Type 0 where
  pub low : (x : ℕ) → f x ≡ true → x < b
  pub chain : (x y : ℕ) → f x ≡ true → before x y ≡ true → f y ≡ true
  pub prefix : (x y : ℕ) → f x ≡ true → y ≤ x → sender y ≡ sender x → f y ≡ true

-- the sets of n messages with these senders are such
pub record Closed (n : ℕ) (sender : ℕ → ℕ) (k : Knowledge) : Type 0 where
  pub past : (p : ℕ) → Closure sender k.before n (k.past p)
  pub before : (m : ℕ) → Closure sender k.before (suc m) (k.before m)
  pub before_low : (m x : ℕ) → k.before m x ≡ true → m < n
  pub before_self : (m : ℕ) → m < n → k.before m m ≡ true
  pub past_own : (m : ℕ) → m < n → k.past (sender m) m ≡ true

-- the empty set
empty : {sender : ℕ → ℕ} {before : ℕ → ℕ → Bool} {b : ℕ} → Closure sender before b (λ x. false)
empty = record { low = λ x e. clash e refl; chain = λ x y e d. e; prefix = λ x y e h q. e }

-- nothing is known at first
pub closed_fresh : (sender : ℕ → ℕ) → Closed 0 sender (knowledge [])
unfolding knowledge
closed_fresh sender = record {
  past = λ p. empty;
  before = λ m. empty;
  before_low = λ m x e. clash e refl;
  before_self = λ m h. absurd (not-suc-le-zero h);
  past_own = λ m h. absurd (not-suc-le-zero h);
}

-- ---- a delivery of m by p: its past is the union of two such sets
pub closed_got : {n : ℕ} {sender : ℕ → ℕ} {k : Knowledge} (p m : ℕ) → Closed n sender k
    → Closed n sender (learn (got p m) k)
closed_got {n} {sender} {k} p m c = record {
  past = λ q. union q (eqb p q);
  before = c.before;
  before_low = c.before_low;
  before_self = c.before_self;
  past_own = λ x h. past_grows (got p m) k (sender x) x (c.past_own x h);
}
  where
    union : (q : ℕ) (b : Bool)
        → Closure sender k.before n (λ x. either (both b (k.before m x)) (k.past q x))
    union q false = c.past q
    union q true = record {
      low = λ x e. elim (either_e (k.before m x) (k.past q x) e) [
        | inl a ↦ omega (arith, (c.before m).low x a, c.before_low m x a)
        | inr a ↦ (c.past q).low x a
      ];
      chain = λ x y e d. elim (either_e (k.before m x) (k.past q x) e) [
        | inl a ↦ either_l (k.before m y) (k.past q y) ((c.before m).chain x y a d)
        | inr a ↦ either_r (k.before m y) (k.past q y) ((c.past q).chain x y a d)
      ];
      prefix = λ x y e h s. elim (either_e (k.before m x) (k.past q x) e) [
        | inl a ↦ either_l (k.before m y) (k.past q y) ((c.before m).prefix x y a h s)
        | inr a ↦ either_r (k.before m y) (k.past q y) ((c.past q).prefix x y a h s)
      ];
    }

-- ---- p multicasts message n
module _ {n : ℕ} {sender : ℕ → ℕ} {k : Knowledge} (p : ℕ) (c : Closed n sender k) (sender' : ℕ → ℕ)
    (old : (x : ℕ) → x < n → sender' x ≡ sender x) (new : sender' n ≡ p) where
  -- a closed set of older messages stays one
  still_closed : {b : ℕ} {f : ℕ → Bool} → ((x : ℕ) → f x ≡ true → x < n) → Closure sender k.before b f
      → Closure sender' (learn (sent p n) k).before b f
  still_closed less d = record {
    low = d.low;
    chain = λ x y e z.
        let l = less x e in
        d.chain x y e (sym (before_old k p n x y (omega arith)) ∙ z);
    prefix = λ x y e h s.
        let l = less x e in
        d.prefix x y e h (sym (old y (omega arith)) ∙ s ∙ old x l);
  }

  -- p's past with the new message is one
  with_new : Closure sender' (learn (sent p n) k).before (suc n) (λ x. either (eqb n x) (k.past p x))
  with_new = record {
    low = λ x e. elim (either_e (eqb n x) (k.past p x) e) [
      | inl a ↦ omega (arith, eqb-true n x a)
      | inr a ↦ omega (arith, (c.past p).low x a)
    ];
    chain = λ x y e z. elim (either_e (eqb n x) (k.past p x) e) [
      | inl a ↦ sym (before_new k p n x y (eqb-true n x a)) ∙ z
      | inr a ↦ either_r (eqb n y) (k.past p y) (older.chain x y a z)
    ];
    prefix = λ x y e h s. elim (either_e (eqb n x) (k.past p x) e) [
      | inl a ↦ mine x y (eqb-true n x a) h s (ℕ_discrete n y)
      | inr a ↦ either_r (eqb n y) (k.past p y) (older.prefix x y a h s)
    ];
  }
    where
      older : Closure sender' (learn (sent p n) k).before n (k.past p)
      older = still_closed (c.past p).low (c.past p)

      -- an earlier message of p's is in p's past
      mine : (x y : ℕ) → n ≡ x → y ≤ x → sender' y ≡ sender' x → Dec (n ≡ y)
          → either (eqb n y) (k.past p y) ≡ true
      mine x y a h s (yes b) = either_l (eqb n y) (k.past p y) (eq-eqb n y b)
      mine x y a h s (no b) =
          let l : y < n = omega arith in
          either_r (eqb n y) (k.past p y)
          (rw (sym (old y l) ∙ s ∙ ap sender' (sym a) ∙ new) at (c.past_own y l))

  pub closed_sent : Closed (suc n) sender' (learn (sent p n) k)
  closed_sent = record {
    past = λ q. pasts q (eqb p q) refl;
    before = λ m. befores m (eqb n m) refl;
    before_low = λ m x e. elim (ℕ_discrete n m) [
      | yes a ↦ omega arith
      | no a ↦ omega (arith, c.before_low m x (sym (before_old k p n m x a) ∙ e))
    ];
    before_self = λ m h. elim (ℕ_discrete n m) [
      | yes a ↦ before_new k p n m m a ∙ either_l (eqb n m) (k.past p m) (eq-eqb n m a)
      | no a ↦ before_old k p n m m a ∙ c.before_self m (omega arith)
    ];
    past_own = λ m h. elim (ℕ_discrete n m) [
      | yes a ↦ either_l (both (eqb p (sender' m)) (eqb n m)) (k.past (sender' m) m)
          (both_i (eqb p (sender' m)) (eqb n m) (eq-eqb p (sender' m) (sym new ∙ ap sender' a))
          (eq-eqb n m a))
      | no a ↦
          let l : m < n = omega arith in
          past_grows (sent p n) k (sender' m) m (rw (old m l) (c.past_own m l))
    ];
  }
    where
      pasts : (q : ℕ) (b : Bool) → eqb p q ≡ b
          → Closure sender' (learn (sent p n) k).before (suc n)
          (λ x. either (both b (eqb n x)) (k.past q x))
      pasts q true e =
          subst (λ (r : ℕ). Closure sender' (learn (sent p n) k).before (suc n)
          (λ x. either (eqb n x) (k.past r x))) (eqb-true p q e) with_new
      pasts q false e =
          let d = still_closed (c.past q).low (c.past q) in
          record { low = λ x z. omega (arith, d.low x z); chain = d.chain; prefix = d.prefix }

      befores : (m : ℕ) (b : Bool) → eqb n m ≡ b
          → Closure sender' (learn (sent p n) k).before (suc m)
          (λ x. pick b (either (eqb n x) (k.past p x)) (k.before m x))
      befores m true e =
          subst (λ (b : ℕ). Closure sender' (learn (sent p n) k).before (suc b)
          (λ x. either (eqb n x) (k.past p x))) (eqb-true n m e) with_new
      befores m false e =
          still_closed (λ x z. omega (arith, (c.before m).low x z, c.before_low m x z)) (c.before m)
