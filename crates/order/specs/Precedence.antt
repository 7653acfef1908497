-- Precedence of messages, by the relation on events, is what the sets of Knowledge say: x precedes m exactly
-- when x is before m and is not m. What a process knew of right after an event only grows along precedence,
-- and right after a multicast it is what is before the message; that is one half. The other half is by
-- induction over the history: what is known came by a chain of events. Assumes nothing.
use Rattle.std.specs.Prelude.{◌≡◌, refl, Bool, true, false, List, [], ◌∷◌, ◌⊎◌, ◌≢◌, ℕ, suc, ◌<◌, eqb, length}
use Rattle.std.proofs.Common.{sym, ◌∙◌, subst, inl, inr, arith, not-suc-le-zero, eqb-true, eq-eqb, ne_eqb}
use Rattle.std.proofs.Math.Decide.{ℕ_discrete}
use Rattle.definitions.specs.General.{pick}
use Rattle.definitions.specs.History.{Event, sent, got, who, At, here, there, Precedes, same, carried, chain, Before, casts}
use Rattle.base.specs.Tests.{clash, pick_yes, pick_no, eqb_refl, both, both_l, both_r, both_i, either_e, either_l}
use Rattle.order.specs.Knowledge.{Knowledge, learn, knowledge, past_grows, before_new, before_old}

-- ---- a history of n messages: each is multicast once, in the order of the numbers
abbrev pub Formed : ℕ → List Event → Type 0
Formed n [] = n ≡ 0
Formed n (sent p m ∷ es) = (n ≡ suc m) × Formed m es
Formed n (got p m ∷ es) = Formed n es

-- ---- places of events
-- a place is below the length
at_low : {es : List Event} {i : ℕ} {e : Event} → At es i e → i < length es
at_low (here h) = omega arith
at_low (there a) = let l = at_low a in omega arith

-- an empty history has none
pub no_event : {i : ℕ} {e : Event} → At [] i e → ⊥
no_event a = not-suc-le-zero (at_low a)

-- one event at a place
at_one : {es : List Event} {i j : ℕ} {d e : Event} → i ≡ j → At es i d → At es j e → d ≡ e
at_one q (here h) (here k) = refl
at_one q (here h) (there b) = absurd (omega (arith, at_low b))
at_one q (there a) (here k) = absurd (omega (arith, at_low a))
at_one q (there a) (there b) = at_one q a b

-- a multicast is older than a delivery
pub old_cast : {p m i r x : ℕ} {es : List Event} → At (got p m ∷ es) i (sent r x) → At es i (sent r x)
old_cast (there a) = a

-- messages that were multicast are below n, and each is multicast at one place
pub cast_low : (es : List Event) {n i p m : ℕ} → Formed n es → At es i (sent p m) → m < n
cast_low [] _ a = elim a [ ]
cast_low (got r k ∷ es) f (there a) = cast_low es f a
cast_low (sent r k ∷ es) f (here h) = omega (arith, f.0)
cast_low (sent r k ∷ es) f (there a) = omega (arith, f.0, cast_low es f.1 a)

-- a message is multicast at one place
cast_once_at : (es : List Event) (n : ℕ) {i j p q m m' : ℕ} → Formed n es → At es i (sent p m) → At es j (sent q m')
    → m ≡ m' → i ≡ j
cast_once_at [] _ _ a _ _ = elim a [ ]
cast_once_at (got r k ∷ es) n f (there a) (there b) e = cast_once_at es n f a b e
cast_once_at (sent r k ∷ es) n f (here h) (here l) e = omega arith
cast_once_at (sent r k ∷ es) n f (here h) (there b) e = absurd (omega (arith, cast_low es f.1 b))
cast_once_at (sent r k ∷ es) n f (there a) (here l) e = absurd (omega (arith, cast_low es f.1 a))
cast_once_at (sent r k ∷ es) n f (there a) (there b) e = cast_once_at es k f.1 a b e

cast_once : (es : List Event) (n : ℕ) {i j p q m : ℕ} → Formed n es → At es i (sent p m) → At es j (sent q m)
    → i ≡ j
cast_once es n f a b = cast_once_at es n f a b refl

-- every message below n was multicast, by some process
pub data Cast (es : List Event) (m : ℕ) : Type 0 where
  cast_at : (i p : ℕ) → At es i (sent p m) → Cast es m

-- one event more
cast_up : {d : Event} {es : List Event} {m : ℕ} → Cast es m → Cast (d ∷ es) m
cast_up (cast_at i p a) = cast_at i p (there a)

-- so it is
pub cast_there : (es : List Event) {n : ℕ} → Formed n es → (m : ℕ) → m < n → Cast es m
cast_there [] f m h = absurd (omega (arith, f))
cast_there (got r k ∷ es) f m h = cast_up (cast_there es f m h)
cast_there (sent r k ∷ es) f m h = elim (ℕ_discrete k m) [
  | yes e ↦ cast_at (length es) r (subst (λ (z : ℕ). At (sent r k ∷ es) (length es) (sent r z)) e (here refl))
  | no d ↦ cast_up (cast_there es f.1 m (omega (arith, f.0)))
]

-- ---- along precedence, what is known grows
-- what its process knows of right after the event at place i
unfoldable known_at : List Event → ℕ → ℕ → Bool
known_at [] i x = false
known_at (e ∷ es) i x = pick (eqb i (length es)) ((knowledge (e ∷ es)).past (who e) x) (known_at es i x)

-- after the newest event, and after an older one
at_newest : (e : Event) (es : List Event) (i x : ℕ) → i ≡ length es
    → known_at (e ∷ es) i x ≡ (knowledge (e ∷ es)).past (who e) x
unfolding known_at
at_newest e es i x h = pick_yes _ (known_at es i x) (eq-eqb i (length es) h)

at_older : (e : Event) (es : List Event) (i x : ℕ) → i < length es → known_at (e ∷ es) i x ≡ known_at es i x
unfolding known_at
at_older e es i x h = pick_no _ (known_at es i x) (ne_eqb i (length es) (omega arith))

-- what was known after an event of a process is in its past
known_past : {es : List Event} {i : ℕ} {e : Event} (x : ℕ) → At es i e → known_at es i x ≡ true
    → (knowledge es).past (who e) x ≡ true
unfolding knowledge
known_past {es = []} _ a _ = elim a [ ]
known_past {es = e ∷ es} {i} x (here h) z = sym (at_newest e es i x h) ∙ z
known_past {es = d ∷ es} {i} {e} x (there a) z =
    past_grows d (knowledge es) (who e) x (known_past x a (sym (at_older d es i x (at_low a)) ∙ z))

-- after its multicast, a message is known
known_own : {es : List Event} {i p x : ℕ} → At es i (sent p x) → known_at es i x ≡ true
unfolding knowledge
known_own {es = []} a = elim a [ ]
known_own {es = e ∷ es} {i} {p} {x} (here h) =
    at_newest e es i x h
    ∙ either_l (both (eqb p p) (eqb x x)) ((knowledge es).past p x)
    (both_i (eqb p p) (eqb x x) (eqb_refl p) (eqb_refl x))
known_own {es = d ∷ es} {i} {p} {x} (there a) = at_older d es i x (at_low a) ∙ known_own a

-- and what is known then is before it
known_before : (es : List Event) (n : ℕ) {i p m : ℕ} (x : ℕ) → Formed n es → At es i (sent p m)
    → known_at es i x ≡ true → (knowledge es).before m x ≡ true
unfolding knowledge
known_before [] _ _ _ a _ = elim a [ ]
known_before (got r k ∷ es) n {i} x f (there b) z =
    known_before es n x f b (sym (at_older (got r k) es i x (at_low b)) ∙ z)
known_before (sent r k ∷ es) n {i} x f (here h) z =
    let y = sym (at_newest (sent r k) es i x h) ∙ z in
    before_new (knowledge es) r k k x refl ∙ (simp (eqb_refl r) at y)
known_before (sent r k ∷ es) n {i} {p} {m} x f (there b) z =
    let l = cast_low es f.1 b in
    before_old (knowledge es) r k m x (omega arith)
    ∙ known_before es k x f.1 b (sym (at_older (sent r k) es i x (at_low b)) ∙ z)

-- an event that precedes is older
precedes_low : {es : List Event} {i j : ℕ} → Precedes es i j → i < j
precedes_low (same d e h a b w) = h
precedes_low (carried p q m h a b) = h
precedes_low (chain a b) = omega (arith, precedes_low a, precedes_low b)

-- of two events at the same process the later knows more
known_same : (es : List Event) {i j : ℕ} {d e : Event} (x : ℕ) → i < j → At es i d → At es j e → who d ≡ who e
    → known_at es i x ≡ true → known_at es j x ≡ true
unfolding knowledge
known_same [] _ _ a _ _ _ = elim a [ ]
known_same (h ∷ es) x l (here q) (here k) w z = absurd (omega arith)
known_same (h ∷ es) x l (here q) (there b) w z = absurd (omega (arith, at_low b))
known_same (h ∷ es) {i} {j} x l (there a) (here k) w z =
    at_newest h es j x k
    ∙ past_grows h (knowledge es) (who h) x (rw w at (known_past x a (sym (at_older h es i x (at_low a)) ∙ z)))
known_same (h ∷ es) {i} {j} x l (there a) (there b) w z =
    at_older h es j x (at_low b) ∙ known_same es x l a b w (sym (at_older h es i x (at_low a)) ∙ z)

-- a delivery knows what its message's multicast knew
known_carried : (es : List Event) (n : ℕ) {i j p q m : ℕ} (x : ℕ) → Formed n es → i < j → At es i (sent p m)
    → At es j (got q m) → known_at es i x ≡ true → known_at es j x ≡ true
unfolding knowledge
known_carried [] _ _ _ _ a _ _ = elim a [ ]
known_carried (sent r k ∷ es) n x f l (here q) (there b) z = absurd (omega (arith, at_low b))
known_carried (sent r k ∷ es) n {i} {j} x f l (there a) (there b) z =
    at_older (sent r k) es j x (at_low b)
    ∙ known_carried es k x f.1 l a b (sym (at_older (sent r k) es i x (at_low a)) ∙ z)
known_carried (got r k ∷ es) n {i} {j} x f l (there a) (here h) z =
    at_newest (got r k) es j x h
    ∙ either_l (both (eqb r r) ((knowledge es).before k x)) ((knowledge es).past r x)
    (both_i (eqb r r) ((knowledge es).before k x) (eqb_refl r)
    (known_before es n x f a (sym (at_older (got r k) es i x (at_low a)) ∙ z)))
known_carried (got r k ∷ es) n {i} {j} x f l (there a) (there b) z =
    at_older (got r k) es j x (at_low b)
    ∙ known_carried es n x f l a b (sym (at_older (got r k) es i x (at_low a)) ∙ z)

-- so along every chain
known_grows : (es : List Event) (n : ℕ) {i j : ℕ} (x : ℕ) → Formed n es → Precedes es i j → known_at es i x ≡ true
    → known_at es j x ≡ true
known_grows es n x f (same d e l a b w) z = known_same es x l a b w z
known_grows es n x f (carried p q m l a b) z = known_carried es n x f l a b z
known_grows es n x f (chain a b) z = known_grows es n x f b (known_grows es n x f a z)

-- ---- what is known came by a chain
-- what precedes still does in a longer history
precedes_up : {d : Event} {es : List Event} {i j : ℕ} → Precedes es i j → Precedes (d ∷ es) i j
precedes_up (same d e h a b w) = same d e h (there a) (there b) w
precedes_up (carried p q m h a b) = carried p q m h (there a) (there b)
precedes_up (chain a b) = chain (precedes_up a) (precedes_up b)

-- the same place, or one that precedes
abbrev Weak : List Event → ℕ → ℕ → Type 0
Weak es i j = (i ≡ j) ⊎ Precedes es i j

-- in a longer history
weak_up : {d : Event} {es : List Event} {i j : ℕ} → Weak es i j → Weak (d ∷ es) i j
weak_up (inl e) = inl e
weak_up (inr p) = inr (precedes_up p)

-- followed by an edge
weak_then : {es : List Event} {i j k : ℕ} → Weak es i j → Precedes es j k → Precedes es i k
weak_then {es} {i} {j} {k} (inl e) p = rw e p
weak_then (inr q) p = chain q p

-- the multicast of x is, or precedes, an event of p
data Knows (es : List Event) (p x : ℕ) : Type 0 where
  knows : (i r j : ℕ) (e : Event) → At es i (sent r x) → At es j e → who e ≡ p → Weak es i j → Knows es p x

-- x is m, or precedes it
data Linked (es : List Event) (m x : ℕ) : Type 0 where
  linked : (i r j q : ℕ) → At es i (sent r x) → At es j (sent q m) → Weak es i j → Linked es m x

-- in a longer history
knows_up : {d : Event} {es : List Event} {p x : ℕ} → Knows es p x → Knows (d ∷ es) p x
knows_up (knows i r j e a b w z) = knows i r j e (there a) (there b) w (weak_up z)

linked_up : {d : Event} {es : List Event} {m x : ℕ} → Linked es m x → Linked (d ∷ es) m x
linked_up (linked i r j q a b w) = linked i r j q (there a) (there b) (weak_up w)

-- the sets say no more than that
record Founded (es : List Event) (k : Knowledge) : Type 0 where
  pub past_out : (p x : ℕ) → k.past p x ≡ true → Knows es p x
  pub before_out : (m x : ℕ) → k.before m x ≡ true → Linked es m x

-- after a delivery: what is before its message reaches it
founded_got : {es : List Event} {k : Knowledge} (p m : ℕ) → Founded es k
    → Founded (got p m ∷ es) (learn (got p m) k)
founded_got {es} {k} p m c = record {
  past_out = λ q x e. elim (either_e (both (eqb p q) (k.before m x)) (k.past q x) e) [
    | inl a ↦ reaches q x (eqb-true p q (both_l (eqb p q) (k.before m x) a))
        (c.before_out m x (both_r (eqb p q) (k.before m x) a))
    | inr a ↦ knows_up (c.past_out q x a)
  ];
  before_out = λ n x e. linked_up (c.before_out n x e);
}
  where
    reaches : (q x : ℕ) → p ≡ q → Linked es m x → Knows (got p m ∷ es) q x
    reaches q x e (linked i r j s a b w) =
        knows i r (length es) (got p m) (there a) (here refl) e
        (inr (weak_then (weak_up w) (carried s p m (at_low b) (there b) (here refl))))

-- after a multicast: what its sender knows precedes it
founded_sent : {es : List Event} {k : Knowledge} (p m : ℕ) → Founded es k
    → Founded (sent p m ∷ es) (learn (sent p m) k)
founded_sent {es} {k} p m c = record {
  past_out = λ q x e. elim (either_e (both (eqb p q) (eqb m x)) (k.past q x) e) [
    | inl a ↦ knows (length es) p (length es) (sent p m) (now x (eqb-true m x (both_r (eqb p q) (eqb m x) a)))
        (here refl) (eqb-true p q (both_l (eqb p q) (eqb m x) a)) (inl refl)
    | inr a ↦ knows_up (c.past_out q x a)
  ];
  before_out = λ n x e. elim (ℕ_discrete m n) [
    | no d ↦ linked_up (c.before_out n x (sym (before_old k p m n x d) ∙ e))
    | yes d ↦ elim (either_e (eqb m x) (k.past p x) (sym (before_new k p m n x d) ∙ e)) [
      | inl a ↦ linked (length es) p (length es) p (now x (eqb-true m x a)) (now n d) (inl refl)
      | inr a ↦ follows n x d (c.past_out p x a)
    ]
  ];
}
  where
    -- the newest event
    now : (x : ℕ) → m ≡ x → At (sent p m ∷ es) (length es) (sent p x)
    now x e = subst (λ (z : ℕ). At (sent p m ∷ es) (length es) (sent p z)) e (here refl)

    follows : (n x : ℕ) → m ≡ n → Knows es p x → Linked (sent p m ∷ es) n x
    follows n x e (knows i r j d a b v w) =
        linked i r (length es) p (there a) (now n e)
        (inr (weak_then (weak_up w) (same d _ (at_low b) (there b) (here refl) v)))

-- so of every history
founded : (es : List Event) → Founded es (knowledge es)
unfolding knowledge
founded [] = record { past_out = λ p x e. clash e refl; before_out = λ m x e. clash e refl }
founded (sent p m ∷ es) = founded_sent p m (founded es)
founded (got p m ∷ es) = founded_got p m (founded es)

-- ---- x precedes m exactly when it is before m, and not m
module _ (es : List Event) (n : ℕ) (f : Formed n es) (x m : ℕ) where
  pub precedes_before : Before es x m → ((knowledge es).before m x ≡ true) × (x ≢ m)
  precedes_before (casts {i} {j} p q a b z) = (
    known_before es n x f b (known_grows es n x f z (known_own a)),
    λ e. (let l = cast_once es n f a (subst (λ (y : ℕ). At es j (sent q y)) (sym e) b) in
        absurd (omega (arith, precedes_low z))),
  )

  -- and the other way round
  pub before_precedes : (knowledge es).before m x ≡ true → x ≢ m → Before es x m
  before_precedes e ne = elim ((founded es).before_out m x e) [
    | linked i r j q a b (inr w) ↦ casts r q a b w
    | linked i r j q a b (inl w) ↦
        let d = at_one w a b in
        absurd (ne (let y : x ≡ m = cc (d) in y))
  ]
