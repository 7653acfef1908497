-- A process is quiescent if no message is ready at it. A cascade ends so; an arrival at a quiescent process can make
-- only its own message ready, so that its cascade has nothing to do unless that one is; and every step keeps all
-- processes quiescent, as they are in a fresh world. Assumes nothing.
use Rattle.std.specs.Prelude.{◌≡◌, Bool, true, false, not, ◌&&◌, ◌||◌, ◌≢◌, ◌⊎◌, eqb}
use Rattle.std.proofs.Math.Path.{refl}
use Rattle.std.proofs.Common.{sym, ap, ap₂, ◌∙◌, subst, inl, inr, arith}
use Prim.Native.Nat.{ℕ, ◌+◌, ◌-◌, ◌≤◌, ◌<◌}
use Rattle.std.proofs.Math.Decide.{ℕ_discrete}
use Rattle.definitions.specs.General.{every, first_from, chosen, bit}
use Rattle.definitions.specs.World.{Cell, size, count, rule, group, trust, counter, sequence, next, delivered, up, fifo_length, causal_length, held, marks, fifo, causal, sender, mask, stamp, number, flight, order, unused, State, put, addressed, outside_fifo}
use Rattle.definitions.specs.Machine.{with_tables, in_turn, marked, ready, merge, causal_one, causal_all, appended, raised_next, send_oks, fifo_one, cascade, received, arrival}
use Rattle.base.specs.Tests.{clash, le_or_lt}
use Rattle.base.specs.Search.{every_cong, first_law}
use Rattle.base.specs.Count.{absent_cong}
use Rattle.base.specs.Loop.{loop_stops}
use Rattle.world.specs.Layout.{put_other}
use Rattle.world.specs.SoundLaws.{Sound}
use Rattle.world.specs.Kept.{causal_all_keeps, oks_keep, cascade_keeps, received_keeps}
use Rattle.world.specs.Local.{Own, other_away, cascade_away}
use Rattle.world.specs.Fuel.{cascade_ends}
use Rattle.world.specs.StepLaws.{InFlight}
use Rattle.keeps.specs.Cascade.{received_sound}

abbrev pub Quiescent : State → ℕ → Type 0
Quiescent s p = (m : ℕ) → m < s count → ready s p m ≡ false

-- of all messages, only m may be ready at p
abbrev pub OnlyReady : State → ℕ → ℕ → Type 0
OnlyReady s p m = (x : ℕ) → x < s count → m ≢ x → ready s p x ≡ false

-- ---- the words that tell whether m is ready at p
abbrev pub Tested : ℕ → ℕ → Cell → Type 0
Tested p m size = Unit {0}
Tested p m count = ⊥
Tested p m rule = ⊥
Tested p m (group x) = Unit {0}
Tested p m (trust x) = p ≡ x
Tested p m (counter x g q) = ⊥
Tested p m (sequence x g) = ⊥
Tested p m (next x q) = p ≡ x
Tested p m (delivered x q) = ⊥
Tested p m (up x) = ⊥
Tested p m (fifo_length x) = p ≡ x
Tested p m (causal_length x) = ⊥
Tested p m (held x y) = (p ≡ x) × (m ≡ y)
Tested p m (marks x y) = (p ≡ x) × (m ≡ y)
Tested p m (fifo x i) = p ≡ x
Tested p m (causal x i) = ⊥
Tested p m (sender y) = m ≡ y
Tested p m (mask y) = m ≡ y
Tested p m (stamp y g q) = ⊥
Tested p m (number y g) = m ≡ y
Tested p m (flight y k q) = ⊥
Tested p m (order y) = ⊥
Tested p m (unused i) = ⊥

-- s and t have the same such words
abbrev pub Same : ℕ → ℕ → State → State → Type 0
Same p m s t = (c : Cell) → Tested p m c → t c ≡ s c

-- another word stored
pub put_same_test : (p m : ℕ) (s : State) (d : Cell) (v : ℕ) → ¬ Tested p m d → Same p m s (put s d v)
put_same_test p m s d v n c y = put_other s d c v (λ e. n (subst (Tested p m) (sym e) y))

pub ready_same : (p m : ℕ) (s t : State) → Same p m s t → ready t p m ≡ ready s p m
unfolding ready
ready_same p m s t e =
    ap₂ (λ (x y : Bool). x && y)
    (ap₂ (λ (x y : Bool). x && y)
    (ap₂ (λ (x y : Bool). x && y) (ap (λ (v : ℕ). eqb v 1) (e (held p m) (refl, refl))) same_log) same_turn)
    (every_cong (t size) (marked t p m) (marked s p m) (λ q _. same_mark q)
    ∙ ap (λ (n : ℕ). every n (marked s p m)) (e size tt))
  where
    same_log : outside_fifo t p m ≡ outside_fifo s p m
    same_log =
        absent_cong (t (fifo_length p)) (s (fifo_length p)) m (λ i. t (fifo p i)) (λ i. s (fifo p i))
        (e (fifo_length p) refl) (λ i _. e (fifo p i) refl)

    same_turn : in_turn t p m ≡ in_turn s p m
    same_turn =
        ap₂ eqb
        (ap (λ (g : ℕ). t (number m g)) (e (group p) tt)
        ∙ e (number m (s (group p))) refl)
        (ap (λ (q : ℕ). t (next p q)) (e (sender m) refl)
        ∙ e (next p (s (sender m))) refl)

    same_to : (q : ℕ) → addressed t m q ≡ addressed s m q
    same_to q = ap₂ bit (e (mask m) refl) (e (group q) tt)

    same_mark : (q : ℕ) → marked t p m q ≡ marked s p m q
    same_mark q =
        ap₂ (λ (x y : Bool). not x || y)
        (ap₂ (λ (x y : Bool). x && y) (ap (λ (v : ℕ). bit v q) (e (trust p) refl)) (same_to q))
        (ap (λ (v : ℕ). bit v q) (e (marks p m) (refl, refl)))

-- ---- what a cascade at p never writes
pub data Fixed (p : ℕ) : Cell → Type 0 where
  the_size : Fixed p size
  the_count : Fixed p count
  a_group : (x : ℕ) → Fixed p (group x)
  a_life : (x : ℕ) → Fixed p (up x)
  a_sender : (m : ℕ) → Fixed p (sender m)
  a_mask : (m : ℕ) → Fixed p (mask m)
  a_number : (m g : ℕ) → Fixed p (number m g)
  a_letter : (m k q : ℕ) → (k ≢ 2) ⊎ (q ≢ p) → Fixed p (flight m k q)

module _ (p : ℕ) where
  causal_one_fixed : (t : State) (i : ℕ) (c : Cell) → Fixed p c → causal_one t p i c ≡ t c
  unfolding causal_one merge with_tables put
  causal_one_fixed t i c the_size = refl
  causal_one_fixed t i c the_count = refl
  causal_one_fixed t i c (a_group x) = refl
  causal_one_fixed t i c (a_life x) = refl
  causal_one_fixed t i c (a_sender m) = refl
  causal_one_fixed t i c (a_mask m) = refl
  causal_one_fixed t i c (a_number m g) = refl
  causal_one_fixed t i c (a_letter m k q d) = refl

  pub causal_all_fixed : (t : State) (c : Cell) → Fixed p c → causal_all t p c ≡ t c
  causal_all_fixed t c k = causal_all_keeps (λ u. u c) p (λ u i. causal_one_fixed u i c k) t

  not_ok : (x m k q : ℕ) → (k ≢ 2) ⊎ (q ≢ p) → flight x 2 p ≢ flight m k q
  not_ok x m k q (inl d) e = let z : 2 ≡ k = cc in d (sym z)
  not_ok x m k q (inr d) e = let z : p ≡ q = cc in d (sym z)

  turn_fixed : (t : State) (q n m v w x : ℕ) (c : Cell) → Fixed p c
      → (put (put t (fifo p n) m) (fifo_length p) v c ≡ t c) × (put t (next p q) w c ≡ t c)
      × (put t (flight m 2 p) x c ≡ t c)
  unfolding put
  turn_fixed t q n m v w x c the_size = (refl, refl, refl)
  turn_fixed t q n m v w x c the_count = (refl, refl, refl)
  turn_fixed t q n m v w x c (a_group y) = (refl, refl, refl)
  turn_fixed t q n m v w x c (a_life y) = (refl, refl, refl)
  turn_fixed t q n m v w x c (a_sender z) = (refl, refl, refl)
  turn_fixed t q n m v w x c (a_mask z) = (refl, refl, refl)
  turn_fixed t q n m v w x c (a_number z g) = (refl, refl, refl)
  turn_fixed t q n m v w x c (a_letter y k z d) =
      (refl, refl, put_other t (flight m 2 p) (flight y k z) x (not_ok m y k z d))

  send_oks_fixed : (t : State) (q n : ℕ) (c : Cell) → Fixed p c → send_oks t p q n c ≡ t c
  send_oks_fixed t q n c k = oks_keep (λ u. u c) p (λ u m v. (turn_fixed u 0 0 m 0 0 v c k).2) t q n

  pub fifo_one_fixed : (t : State) (m : ℕ) (c : Cell) → Fixed p c → fifo_one t p m c ≡ t c
  unfolding fifo_one appended raised_next
  fifo_one_fixed t m c k =
      let q : ℕ = t (sender m) in
      let n : ℕ = t (fifo_length p) in
      let u : State = causal_all (appended t p m) p in
      send_oks_fixed (raised_next u p q) q (raised_next u p q count) c k
      ∙ (turn_fixed u q 0 0 0 (u (next p q) + 1) 0 c k).1 ∙ causal_all_fixed (appended t p m) c k
      ∙ (turn_fixed t 0 n m (n + 1) 0 0 c k).0

  pub cascade_fixed : (t : State) (c : Cell) → Fixed p c → cascade t p c ≡ t c
  cascade_fixed t c k = cascade_keeps (λ u. u c) p (λ u m. fifo_one_fixed u m c k) t

-- ---- a cascade at p
-- it leaves p quiescent
pub cascade_quiescent : (s : State) (p : ℕ) → Sound s → p < s size → Quiescent (cascade s p) p
cascade_quiescent s p h hp m l = cascade_ends p s h hp m l

-- and every other process as quiescent as it was
pub cascade_others : (s : State) (p r : ℕ) → p ≢ r → Quiescent s r → Quiescent (cascade s p) r
cascade_others s p r d h m l =
    ready_same r m s (cascade s p) same ∙ h m (omega (arith, cascade_fixed p s count the_count))
  where
    own : (c : Cell) → Own r c → cascade s p c ≡ s c
    own c o = cascade_away p s c (other_away p r c o d)

    same : Same r m s (cascade s p)
    same size y = cascade_fixed p s size the_size
    same (group x) y = cascade_fixed p s (group x) (a_group x)
    same (trust x) y = own (trust x) y
    same (next x q) y = own (next x q) y
    same (fifo_length x) y = own (fifo_length x) y
    same (fifo x i) y = own (fifo x i) y
    same (held x z) y = own (held x z) y.0
    same (marks x z) y = own (marks x z) y.0
    same (sender z) y = cascade_fixed p s (sender z) (a_sender z)
    same (mask z) y = cascade_fixed p s (mask z) (a_mask z)
    same (number z g) y = cascade_fixed p s (number z g) (a_number z g)
    same count y = absurd y
    same rule y = absurd y
    same (counter x g q) y = absurd y
    same (sequence x g) y = absurd y
    same (delivered x q) y = absurd y
    same (up x) y = absurd y
    same (causal_length x) y = absurd y
    same (causal x i) y = absurd y
    same (stamp z g q) y = absurd y
    same (flight z k q) y = absurd y
    same (order z) y = absurd y
    same (unused i) y = absurd y

-- has nothing to do where p is quiescent
pub cascade_none : (s : State) (p : ℕ) → Quiescent s p → cascade s p ≡ s
unfolding cascade chosen
cascade_none s p h =
    loop_stops (λ t. t count) (λ t. ready t p) (λ t. fifo_one t p) (s count - s (fifo_length p)) s
    (go (le_or_lt (s count) first))
  where
    first : ℕ
    first = first_from (s count) 0 (ready s p)

    go : (s count ≤ first) ⊎ (first < s count) → s count ≤ first
    go (inl l) = l
    go (inr l) = clash ((first_law (s count) 0 (ready s p)).hit (omega arith)) (h first l)

-- ---- an arrival before its cascade
module _ (k m q p : ℕ) where
  -- another process or another message
  abbrev Other : ℕ → ℕ → Type 0
  Other r x = (p ≢ r) ⊎ (m ≢ x)

  not_it : (r x : ℕ) → Other r x → ¬ ((r ≡ p) × (x ≡ m))
  not_it r x (inl d) y = d (sym y.0)
  not_it r x (inr d) y = d (sym y.1)

  -- it changes neither the numbers of processes and messages, nor who is up
  pub received_count : (s : State) → received s k m q p count ≡ s count
  unfolding put
  received_count s = received_keeps s k m q p (λ t. t count) (λ _ _ _ _. refl) (λ _ _. refl) (λ _ _. refl)

  pub received_size : (s : State) → received s k m q p size ≡ s size
  unfolding put
  received_size s = received_keeps s k m q p (λ t. t size) (λ _ _ _ _. refl) (λ _ _. refl) (λ _ _. refl)

  pub received_up : (s : State) (r : ℕ) → received s k m q p (up r) ≡ s (up r)
  unfolding put
  received_up s r = received_keeps s k m q p (λ t. t (up r)) (λ _ _ _ _. refl) (λ _ _. refl) (λ _ _. refl)

  -- nor what tells whether another message, or at another process, is ready
  received_same : (s : State) (r x : ℕ) → Other r x → Same r x s (received s k m q p)
  received_same s r x o c y =
      received_keeps s k m q p (λ t. t c) (λ t j z v. put_same_test r x t (flight m j z) v (λ e. e) c y)
      (λ t v. put_same_test r x t (marks p m) v (not_it r x o) c y)
      (λ t v. put_same_test r x t (held p m) v (not_it r x o) c y)

  -- so if p was quiescent, only m may be ready at it, and if m is not, p still is quiescent
  pub received_only : (s : State) → Quiescent s p → OnlyReady (received s k m q p) p m
  received_only s h x l d =
      ready_same p x s (received s k m q p) (received_same s p x (inr d))
      ∙ h x (omega (arith, received_count s))

  pub received_quiescent : (s : State) → Quiescent s p → ready (received s k m q p) p m ≡ false
      → Quiescent (received s k m q p) p
  received_quiescent s h e x l = go (ℕ_discrete m x)
    where
      go : Dec (m ≡ x) → ready (received s k m q p) p x ≡ false
      go (yes d) = ap (ready (received s k m q p) p) (sym d) ∙ e
      go (no d) = received_only s h x l d

  -- and every other process is as quiescent as it was
  pub received_others : (s : State) (r : ℕ) → p ≢ r → Quiescent s r → Quiescent (received s k m q p) r
  received_others s r d h x l =
      ready_same r x s (received s k m q p) (received_same s r x (inl d))
      ∙ h x (omega (arith, received_count s))

-- ---- a whole arrival
pub arrival_size : (s : State) (k m q p : ℕ) → arrival s k m q p size ≡ s size
unfolding arrival
arrival_size s k m q p = cascade_fixed p _ size the_size ∙ received_size k m q p s

pub arrival_count : (s : State) (k m q p : ℕ) → arrival s k m q p count ≡ s count
unfolding arrival
arrival_count s k m q p = cascade_fixed p _ count the_count ∙ received_count k m q p s

pub arrival_up : (s : State) (k m q p r : ℕ) → arrival s k m q p (up r) ≡ s (up r)
unfolding arrival
arrival_up s k m q p r = cascade_fixed p _ (up r) (a_life r) ∙ received_up k m q p s r

-- after that of a letter in flight, p is quiescent, and the others are as they were
pub arrival_quiescent : (s : State) (k m q p : ℕ) → Sound s → InFlight s k m q p → (r : ℕ)
    → (p ≢ r → Quiescent s r) → Quiescent (arrival s k m q p) r
unfolding arrival
arrival_quiescent s k m q p h a r others = go (ℕ_discrete p r)
  where
    t : State
    t = received s k m q p

    go : Dec (p ≡ r) → Quiescent (cascade t p) r
    go (yes d) =
        let z = received_sound s k m q p a.kind a.message a.from a.to a.flies h in
        subst (Quiescent (cascade t p)) d (cascade_quiescent t p z.0 z.1)
    go (no d) = cascade_others t p r d (received_others k m q p s r d (others d))

-- ---- what a caller may know: of one process
abbrev pub QuiescentIf : Bool → State → ℕ → Type 0
QuiescentIf true s p = Quiescent s p
QuiescentIf false s p = Unit {0}

-- of every process of a world
abbrev pub AllQuiescent : State → Type 0
AllQuiescent s = (r : ℕ) → r < 16 → Quiescent s r

abbrev pub AllQuiescentIf : Bool → State → Type 0
AllQuiescentIf true s = AllQuiescent s
AllQuiescentIf false s = Unit {0}

pub one_of_all : (b : Bool) (s : State) (p : ℕ) → p < 16 → AllQuiescentIf b s → QuiescentIf b s p
one_of_all true s p l h = h p l
one_of_all false s p l h = tt
