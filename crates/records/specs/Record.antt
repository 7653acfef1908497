-- The record of a process: of a state, and stored in one. Assumes nothing.
use Rattle.std.specs.Prelude.{◌≡◌, Bool, true, false, ℕ, ◌+◌, ◌-◌, ◌*◌, ◌/◌, ◌%◌, ◌≤◌, ◌<◌, eqb, take, drop, set}
use Rattle.std.proofs.Math.Path.{refl, sym, ap}
use Rattle.std.proofs.Common.{◌∙◌, eq-eqb, ne_eqb, eqb-true}
use mathlib.Core.List.{List, [], ◌∷◌, ◌++◌}
use native.Mathlib.Omega.{arith}
use Rattle.std.proofs.Math.ListN.{length, get_or, length-append, get_or-append}
use Rattle.std.proofs.Math.Seq.{get_or-append-add}
use Rattle.definitions.specs.General.{tabulate, pick}
use Rattle.definitions.specs.World.{rule, order, Cell, size, count, group, trust, counter, sequence, next, delivered, up, fifo_length, causal_length, held, marks, fifo, causal, sender, mask, stamp, number, flight, unused, addr, State, encode}
use Rattle.base.specs.Tabulate.{splice, splice_two, splice_append}
use Rattle.world.specs.Layout.{length_encode, get_encode, part_encode, splice_encode, Within, Reads, Changes}
use Rattle.records.specs.declared.Process.{Process}

-- p's record
abbrev pub record_of : State → ℕ → Process
record_of s p = record {
  group = s (group p);
  trust = s (trust p);
  counters = tabulate 128 (λ i. s (counter p (i / 16) (i % 16)));
  sequences = tabulate 8 (λ g. s (sequence p g));
  next = tabulate 16 (λ q. s (next p q));
  delivered = tabulate 16 (λ q. s (delivered p q));
}

-- r as p's record
unfoldable pub with_record : State → ℕ → Process → State
with_record s p r size = s size
with_record s p r count = s count
with_record s p r rule = s rule
with_record s p r (group x) = pick (eqb p x) r.group (s (group x))
with_record s p r (trust x) = pick (eqb p x) r.trust (s (trust x))
with_record s p r (counter x g q) = pick (eqb p x) (get_or r.counters (g * 16 + q) 0) (s (counter x g q))
with_record s p r (sequence x g) = pick (eqb p x) (get_or r.sequences g 0) (s (sequence x g))
with_record s p r (next x q) = pick (eqb p x) (get_or r.next q 0) (s (next x q))
with_record s p r (delivered x q) = pick (eqb p x) (get_or r.delivered q 0) (s (delivered x q))
with_record s p r (up x) = s (up x)
with_record s p r (fifo_length x) = s (fifo_length x)
with_record s p r (causal_length x) = s (causal_length x)
with_record s p r (held x m) = s (held x m)
with_record s p r (marks x m) = s (marks x m)
with_record s p r (fifo x i) = s (fifo x i)
with_record s p r (causal x i) = s (causal x i)
with_record s p r (sender m) = s (sender m)
with_record s p r (mask m) = s (mask m)
with_record s p r (stamp m g q) = s (stamp m g q)
with_record s p r (number m g) = s (number m g)
with_record s p r (flight m k f) = s (flight m k f)
with_record s p r (order m) = s (order m)
with_record s p r (unused a) = s (unused a)

-- p with other counters, and what it delivered of q
abbrev pub with_delivery : Process → List ℕ → ℕ → ℕ → Process
with_delivery r cs q x =
    record {
      group = r.group;
      trust = r.trust;
      counters = cs;
      sequences = r.sequences;
      next = r.next;
      delivered = set r.delivered q x;
    }

-- ---- the same in words
abbrev pub part : List ℕ → ℕ → ℕ → List ℕ
part w k n = take n (drop k w)

abbrev pub record_at : List ℕ → ℕ → Process
record_at w b = record {
  group = get_or w b 0;
  trust = get_or w (b + 1) 0;
  counters = part w (b + 2) 128;
  sequences = part w (b + 130) 8;
  next = part w (b + 138) 16;
  delivered = part w (b + 154) 16;
}

abbrev pub stored_at : List ℕ → ℕ → Process → List ℕ
stored_at w b r =
    splice (splice (splice (splice (set (set w b r.group) (b + 1) r.trust) (b + 2) r.counters)
    (b + 130) r.sequences) (b + 138) r.next) (b + 154) r.delivered

same_process : {a a' b b' : ℕ} {c c' d d' e e' f f' : List ℕ} → a ≡ a' → b ≡ b' → c ≡ c' → d ≡ d' → e ≡ e'
    → f ≡ f'
    → ◌≡◌ {A = Process}
    (record { group = a; trust = b; counters = c; sequences = d; next = e; delivered = f })
    (record { group = a'; trust = b'; counters = c'; sequences = d'; next = e'; delivered = f' })
same_process h1 h2 h3 h4 h5 h6 = cc

pub reads_process : (w : List ℕ) (p : ℕ) → p < 16 → Reads w (record_at w (3 + p * 429)) (λ s. record_of s p)
reads_process w p h s e =
    rw e (same_process
    (get_encode s (group p) (omega arith))
    (get_encode s (trust p) (omega arith))
    (part_encode s (3 + p * 429 + 2) 128 (λ i. counter p (i / 16) (i % 16)) (omega arith)
    (λ i l. omega arith) (λ i l. omega arith))
    (part_encode s (3 + p * 429 + 130) 8 (sequence p) (omega arith) (λ i l. omega arith) (λ i l. omega arith))
    (part_encode s (3 + p * 429 + 138) 16 (next p) (omega arith) (λ i l. omega arith) (λ i l. omega arith))
    (part_encode s (3 + p * 429 + 154) 16 (delivered p) (omega arith) (λ i l. omega arith)
    (λ i l. omega arith)))

-- the arrays are as long as their types say
pub record Long (r : Process) : Type 0 where
  pub counters_long : length r.counters ≡ 128
  pub sequences_long : length r.sequences ≡ 8
  pub next_long : length r.next ≡ 16
  pub delivered_long : length r.delivered ≡ 16

front : Process → List ℕ
front r = r.group ∷ r.trust ∷ r.counters

-- the record's words
block : Process → List ℕ
block r = front r ++ r.sequences ++ r.next ++ r.delivered

module _ (r : Process) (l : Long r) where
  long1 : length (front r) ≡ 130
  unfolding front
  long1 = omega (arith, l.counters_long)

  long2 : length (front r ++ r.sequences) ≡ 138
  long2 = simp length-append (omega (arith, long1, l.sequences_long))

  long3 : length (front r ++ r.sequences ++ r.next) ≡ 154
  long3 = simp length-append (omega (arith, long1, l.sequences_long, l.next_long))

  long4 : length (block r) ≡ 170
  unfolding block
  long4 = simp length-append (omega (arith, long1, l.sequences_long, l.next_long, l.delivered_long))

  one_splice : (w : List ℕ) (b : ℕ) → b + 170 ≤ length w → stored_at w b r ≡ splice w b (block r)
  unfolding block front
  one_splice w b h =
      ap (λ (x : List ℕ). splice (splice (splice x (b + 130) r.sequences) (b + 138) r.next) (b + 154)
      r.delivered) (splice_two w b r.group r.trust r.counters (omega arith))
      ∙ ap (λ (x : List ℕ). splice (splice x (b + 138) r.next) (b + 154) r.delivered)
      (splice_append w b (front r) r.sequences (b + 130) (omega (arith, long1))
      (omega (arith, l.sequences_long)))
      ∙ ap (λ (x : List ℕ). splice x (b + 154) r.delivered)
      (splice_append w b (front r ++ r.sequences) r.next (b + 138) (omega (arith, long2))
      (omega (arith, l.next_long)))
      ∙ splice_append w b (front r ++ r.sequences ++ r.next) r.delivered (b + 154)
      (omega (arith, long3)) (omega (arith, l.delivered_long))

  at_front : (k : ℕ) → k < 130 → get_or (block r) k 0 ≡ get_or (front r) k 0
  unfolding block
  at_front k h =
      get_or-append (front r ++ r.sequences ++ r.next) r.delivered 0 k (omega (arith, long3))
      ∙ get_or-append (front r ++ r.sequences) r.next 0 k (omega (arith, long2))
      ∙ get_or-append (front r) r.sequences 0 k (omega (arith, long1))

  at_group : (k : ℕ) → k ≡ 0 → get_or (block r) k 0 ≡ r.group
  unfolding front
  at_group k e = at_front k (omega arith) ∙ ap (λ (n : ℕ). get_or (front r) n 0) e

  at_trust : (k : ℕ) → k ≡ 1 → get_or (block r) k 0 ≡ r.trust
  unfolding front
  at_trust k e = at_front k (omega arith) ∙ ap (λ (n : ℕ). get_or (front r) n 0) e

  at_counters : (k i : ℕ) → k ≡ 2 + i → i < 128 → get_or (block r) k 0 ≡ get_or r.counters i 0
  unfolding front
  at_counters k i e h =
      at_front k (omega arith) ∙ ap (λ (n : ℕ). get_or (front r) n 0) e
      ∙ get_or-append-add (r.group ∷ r.trust ∷ []) r.counters i 0

  at_seq : (k i : ℕ) → k ≡ 130 + i → i < 8 → get_or (block r) k 0 ≡ get_or r.sequences i 0
  unfolding block
  at_seq k i e h =
      get_or-append (front r ++ r.sequences ++ r.next) r.delivered 0 k (omega (arith, long3))
      ∙ get_or-append (front r ++ r.sequences) r.next 0 k (omega (arith, long2))
      ∙ ap (λ (n : ℕ). get_or (front r ++ r.sequences) n 0)
      (let z : k ≡ length (front r) + i = omega (arith, long1) in z)
      ∙ get_or-append-add (front r) r.sequences i 0

  at_next : (k i : ℕ) → k ≡ 138 + i → i < 16 → get_or (block r) k 0 ≡ get_or r.next i 0
  unfolding block
  at_next k i e h =
      get_or-append (front r ++ r.sequences ++ r.next) r.delivered 0 k (omega (arith, long3))
      ∙ ap (λ (n : ℕ). get_or (front r ++ r.sequences ++ r.next) n 0)
      (let z : k ≡ length (front r ++ r.sequences) + i = omega (arith, long2) in z)
      ∙ get_or-append-add (front r ++ r.sequences) r.next i 0

  at_del : (k i : ℕ) → k ≡ 154 + i → i < 16 → get_or (block r) k 0 ≡ get_or r.delivered i 0
  unfolding block
  at_del k i e h =
      ap (λ (n : ℕ). get_or (block r) n 0)
      (let z : k ≡ length (front r ++ r.sequences ++ r.next) + i = omega (arith, long3) in z)
      ∙ get_or-append-add (front r ++ r.sequences ++ r.next) r.delivered i 0

pick_yes : (p x a b : ℕ) → p ≡ x → pick (eqb p x) a b ≡ a
pick_yes p x a b e = rw (eq-eqb p x e)

pick_no : (p x a b : ℕ) → (p ≡ x → ⊥) → pick (eqb p x) a b ≡ b
pick_no p x a b n = rw (ne_eqb p x n)

module _ (s : State) (p : ℕ) (r : Process) (l : Long r) (h : p < 16) where
  -- a cell in the record's words
  own : (c : Cell) → Within c → 3 + p * 429 ≤ addr c → addr c < 3 + p * 429 + length (block r)
      → get_or (block r) (addr c - (3 + p * 429)) 0 ≡ with_record s p r c
  unfolding with_record
  own c k a b = go c k a (let z : addr c < 3 + p * 429 + 170 = omega (arith, long4 r l) in z)
    where
      go : (c : Cell) → Within c → 3 + p * 429 ≤ addr c → addr c < 3 + p * 429 + 170
          → get_or (block r) (addr c - (3 + p * 429)) 0 ≡ with_record s p r c
      go size k a b = absurd (omega arith)
      go count k a b = absurd (omega arith)
      go rule k a b = absurd (omega arith)
      go (group x) k a b =
          let e : p ≡ x = omega arith in at_group r l _ (omega arith)
          ∙ sym (pick_yes p x r.group (s (group x)) e)
      go (trust x) k a b =
          let e : p ≡ x = omega arith in at_trust r l _ (omega arith)
          ∙ sym (pick_yes p x r.trust (s (trust x)) e)
      go (counter x g q) k a b =
          let e : p ≡ x = omega arith in at_counters r l _ (g * 16 + q) (omega arith) (omega arith)
          ∙ sym (pick_yes p x (get_or r.counters (g * 16 + q) 0) (s (counter x g q)) e)
      go (sequence x g) k a b =
          let e : p ≡ x = omega arith in at_seq r l _ g (omega arith) (omega arith)
          ∙ sym (pick_yes p x (get_or r.sequences g 0) (s (sequence x g)) e)
      go (next x q) k a b =
          let e : p ≡ x = omega arith in at_next r l _ q (omega arith) (omega arith)
          ∙ sym (pick_yes p x (get_or r.next q 0) (s (next x q)) e)
      go (delivered x q) k a b =
          let e : p ≡ x = omega arith in at_del r l _ q (omega arith) (omega arith)
          ∙ sym (pick_yes p x (get_or r.delivered q 0) (s (delivered x q)) e)
      go (up x) k a b = absurd (omega arith)
      go (fifo_length x) k a b = absurd (omega arith)
      go (causal_length x) k a b = absurd (omega arith)
      go (held x m) k a b = absurd (omega arith)
      go (marks x m) k a b = absurd (omega arith)
      go (fifo x i) k a b = absurd (omega arith)
      go (causal x i) k a b = absurd (omega arith)
      go (sender m) k a b = absurd (omega arith)
      go (mask m) k a b = absurd (omega arith)
      go (stamp m g q) k a b = absurd (omega arith)
      go (number m g) k a b = absurd (omega arith)
      go (flight m x f) k a b = absurd (omega arith)
      go (order m) k a b = absurd (omega arith)
      go (unused x) k a b = absurd (omega arith)

  -- any other cell
  other : (c : Cell) → Within c → (3 + p * 429 ≤ addr c → addr c < 3 + p * 429 + length (block r) → ⊥)
      → s c ≡ with_record s p r c
  unfolding with_record
  other c k a =
      go c k (λ b d. a b (let z : addr c < 3 + p * 429 + length (block r) = omega (arith, long4 r l) in z))
    where
      go : (c : Cell) → Within c → (3 + p * 429 ≤ addr c → addr c < 3 + p * 429 + 170 → ⊥)
          → s c ≡ with_record s p r c
      go size k a = refl
      go count k a = refl
      go rule k a = refl
      go (group x) k a = sym (pick_no p x r.group (s (group x)) (λ e. a (omega arith) (omega arith)))
      go (trust x) k a = sym (pick_no p x r.trust (s (trust x)) (λ e. a (omega arith) (omega arith)))
      go (counter x g q) k a =
          sym (pick_no p x (get_or r.counters (g * 16 + q) 0) (s (counter x g q))
          (λ e. a (omega arith) (omega arith)))
      go (sequence x g) k a =
          sym (pick_no p x (get_or r.sequences g 0) (s (sequence x g))
          (λ e. a (omega arith) (omega arith)))
      go (next x q) k a =
          sym (pick_no p x (get_or r.next q 0) (s (next x q)) (λ e. a (omega arith) (omega arith)))
      go (delivered x q) k a =
          sym (pick_no p x (get_or r.delivered q 0) (s (delivered x q))
          (λ e. a (omega arith) (omega arith)))
      go (up x) k a = refl
      go (fifo_length x) k a = refl
      go (causal_length x) k a = refl
      go (held x m) k a = refl
      go (marks x m) k a = refl
      go (fifo x i) k a = refl
      go (causal x i) k a = refl
      go (sender m) k a = refl
      go (mask m) k a = refl
      go (stamp m g q) k a = refl
      go (number m g) k a = refl
      go (flight m x f) k a = refl
      go (order m) k a = refl
      go (unused x) k a = refl

-- the six stores are the change of the record
pub changes_process : (w : List ℕ) (p : ℕ) (r : Process) → Long r → p < 16
    → Changes w (stored_at w (3 + p * 429) r) (λ s. with_record s p r)
changes_process w p r l h s e =
    ap (λ (x : List ℕ). stored_at x (3 + p * 429) r) e
    ∙ one_splice r l (encode s) (3 + p * 429) (omega (arith, length_encode s))
    ∙ splice_encode s (with_record s p r) (3 + p * 429) (block r) (omega (arith, long4 r l)) (own s p r l h)
    (other s p r l h)

pub load_law : (w : List ℕ) (p : ℕ) {r : Process} → p < 16 → r ≡ record_at w (3 + p * 429)
    → Reads w r (λ s. record_of s p)
load_law w p h q s e = q ∙ reads_process w p h s e

-- the code's words u after the four parts
pub store_law : (w : List ℕ) (p : ℕ) (r : Process) {u : List ℕ} → Long r → p < 16
    → u ≡ stored_at w (3 + p * 429) r → Changes w u (λ s. with_record s p r)
store_law w p r l h q s e = q ∙ changes_process w p r l h s e

-- ---- what is picked where p is y
pub pick_to : (p y a b : ℕ) → (p ≡ y → a ≡ b) → pick (eqb p y) a b ≡ b
pick_to p y a b f = go (eqb p y) refl
  where
    go : (t : Bool) → eqb p y ≡ t → pick t a b ≡ b
    go true e = f (eqb-true p y e)
    go false e = refl

pub pick_both : (p y a a' b : ℕ) → (p ≡ y → a ≡ a') → pick (eqb p y) a b ≡ pick (eqb p y) a' b
pick_both p y a a' b f = go (eqb p y) refl
  where
    go : (t : Bool) → eqb p y ≡ t → pick t a b ≡ pick t a' b
    go true e = f (eqb-true p y e)
    go false e = refl
