-- An arrival in two parts, with the index: the letter and its mark, and then what may follow. Where letters were sent is
-- told as the set of their messages, or as a place, 48 m + 16 k + q, below which none was. Assumes nothing.
use Rattle.std.specs.Prelude.{◌≡◌, refl, Bool, true, false, List, [], ◌≢◌, ℕ, ◌+◌, ◌*◌, ◌≤◌, ◌<◌, ltb, eqb, length, set}
use Rattle.std.proofs.Common.{sym, ap, ap₂, ◌∙◌, subst, inl, inr, arith, lt-ltb, ltb-true, eq-eqb}
use Rattle.std.proofs.Math.Decide.{ℕ_discrete}
use Rattle.definitions.specs.General.{pick, bit, with, every}
use Rattle.base.specs.Tests.{bool_cases, both, clash}
use Rattle.base.specs.Bits.{bit_zero, with_old, with_hit, with_other}
use Rattle.base.specs.Search.{first_law}
use Rattle.sets.specs.Lowest.{lowest}
use Rattle.bounds.specs.Bounds.{Bounds, bounds_state, bounds_words}
use Rattle.index.specs.Index.{Index, Logs, index_words, logs_words}
use Rattle.cascade.specs.Ready.{Ready, ready_state}
use Rattle.sends.specs.Ready.{ready_words, ready_law}
use Rattle.receiving.specs.Receiving.{bounds_marked}
use Rattle.arrivals.specs.Hold.{hold_held, bounds_hold}
use Rattle.quiescence.specs.Quiescent.{Quiescent, QuiescentIf, OnlyReady, a_letter, cascade_fixed, cascade_none, received_quiescent, ready_same, put_same_test}
use Rattle.world.specs.Kept.{mark_cases, hold_cases, marked_keeps}
use Rattle.world.specs.Layout.{put_other, get_encode, reads_cell, changes_put, changes_own, Changes}
use Rattle.definitions.specs.Machine.{in_turn, marked, ready, cascade, leave, mark, hold, received, arrival}
use Rattle.definitions.specs.World.{outside_fifo, size, count, held, marks, flight, addr, State, put, encode, view}

-- No letter stands anew below the place r.
abbrev pub Silent : State → State → ℕ → Type 0
Silent s t r = (x j o : ℕ) → x < 64 → j < 3 → o < 16 → x * 48 + j * 16 + o < r → t (flight x j o) ≡ s (flight x j o)

pub silent_both : (s t u : State) (a b r : ℕ) → r ≤ a → r ≤ b → Silent s t a → Silent t u b → Silent s u r
silent_both s t u a b r ha hb f g x j o hx hj ho l =
    g x j o hx hj ho (omega arith) ∙ f x j o hx hj ho (omega arith)

-- ---- a message held: it is answered at one place
pub hold_silent : (s : State) (p m r k : ℕ) → p < 16 → k ≡ pick (in_turn s p m) 2 1 → r ≤ m * 48 + k * 16 + p
    → Silent s (hold s p m) r
unfolding put
hold_silent s p m r k hp ek h x j o hx hj ho l =
    hold_cases (λ t. t (flight x j o) ≡ s (flight x j o)) s p m (λ _. refl)
    (λ _. put_other s (flight m (pick (in_turn s p m) 2 1) p) (flight x j o) _
    (λ e. let a : m ≡ x = cc in let b : pick (in_turn s p m) 2 1 ≡ j = cc in let c : p ≡ o = cc in omega (arith, ek)))

pub held_silent : (s : State) (p m r : ℕ) → s (held p m) ≡ 1 → Silent s (hold s p m) r
held_silent s p m r e x j o hx hj ho l =
    ap (λ (t : State). t (flight x j o)) (hold_held s p m (eq-eqb (s (held p m)) 1 e))

-- ---- a cascade: only OKs of p, of the messages told
pub cascade_silent : (s : State) (p set r : ℕ)
    → ((k : ℕ) → k < 64 → bit set k ≡ false → cascade s p (flight k 2 p) ≡ s (flight k 2 p))
    → r ≤ lowest set * 48 + 32 + p → Silent s (cascade s p) r
cascade_silent s p set r h l x j o hx hj ho k = go (ℕ_discrete j 2) (ℕ_discrete o p)
  where
    go : Dec (j ≡ 2) → Dec (o ≡ p) → cascade s p (flight x j o) ≡ s (flight x j o)
    go (no d) e = cascade_fixed p s (flight x j o) (a_letter x j o (inl d))
    go (yes d) (no e) = cascade_fixed p s (flight x j o) (a_letter x j o (inr e))
    go (yes d) (yes e) =
        ap₂ (λ (a b : ℕ). cascade s p (flight x a b)) d e
        ∙ h x hx ((first_law 64 0 (bit set)).miss x (omega arith) (omega arith))
        ∙ sym (ap₂ (λ (a b : ℕ). s (flight x a b)) d e)

-- ---- which letters may stand anew: answers and OKs from p, of the messages of a set
abbrev pub Posts : State → State → ℕ → ℕ → Type 0
Posts s t p sent =
    (x j o : ℕ) → x < 64 → j < 3 → o < 16 → (j ≢ 0 → o ≡ p → bit sent x ≡ false) → t (flight x j o) ≡ s (flight x j o)

-- a message held: it is answered, or nothing is sent
pub hold_posts : (s : State) (p m sent : ℕ) → (bit sent m ≡ false → Silent s (hold s p m) 3072) → Posts s (hold s p m) p sent
unfolding put
hold_posts s p m sent h x j o hx hj ho f = go (bit sent m) refl
  where
    kind : (b : Bool) → ◌≢◌ {A = ℕ} (pick b 2 1) 0
    kind true e = omega arith
    kind false e = omega arith

    go : (b : Bool) → bit sent m ≡ b → hold s p m (flight x j o) ≡ s (flight x j o)
    go false e = h e x j o hx hj ho (omega arith)
    go true e =
        hold_cases (λ t. t (flight x j o) ≡ s (flight x j o)) s p m (λ _. refl)
        (λ _. put_other s (flight m (pick (in_turn s p m) 2 1) p) (flight x j o) _
        (λ z. let em : m ≡ x = cc in let ej : pick (in_turn s p m) 2 1 ≡ j = cc in let eo : p ≡ o = cc in
        clash e (ap (bit sent) em ∙ f (λ y. kind (in_turn s p m) (ej ∙ y)) (sym eo))))

-- a cascade: only OKs
pub cascade_posts : (s : State) (p sent : ℕ)
    → ((k : ℕ) → k < 64 → bit sent k ≡ false → cascade s p (flight k 2 p) ≡ s (flight k 2 p))
    → Posts s (cascade s p) p sent
cascade_posts s p sent h x j o hx hj ho f = go (ℕ_discrete j 2) (ℕ_discrete o p)
  where
    go : Dec (j ≡ 2) → Dec (o ≡ p) → cascade s p (flight x j o) ≡ s (flight x j o)
    go (no d) e = cascade_fixed p s (flight x j o) (a_letter x j o (inl d))
    go (yes d) (no e) = cascade_fixed p s (flight x j o) (a_letter x j o (inr e))
    go (yes d) (yes e) =
        ap₂ (λ (y z : ℕ). cascade s p (flight x y z)) d e
        ∙ h x hx (f (λ z. omega arith) e)
        ∙ sym (ap₂ (λ (y z : ℕ). s (flight x y z)) d e)

-- one after the other; of a greater set; seen in words
pub posts_both : (s t u : State) (p sent : ℕ) → Posts s t p sent → Posts t u p sent → Posts s u p sent
posts_both s t u p sent f g x j o hx hj ho h = g x j o hx hj ho h ∙ f x j o hx hj ho h

pub posts_more : (s t : State) (p a b : ℕ) → ((x : ℕ) → bit b x ≡ false → bit a x ≡ false) → Posts s t p a → Posts s t p b
posts_more s t p a b h f x j o hx hj ho g = f x j o hx hj ho (λ y z. h x (g y z))

pub posts_words : (s t : State) (u : List ℕ) (p sent : ℕ) → u ≡ encode t → Posts s t p sent → Posts s (view u) p sent
posts_words s t u p sent e f x j o hx hj ho h =
    reads_cell u (flight x j o) (hx, hj, ho) t e ∙ f x j o hx hj ho h

pub posts_from : (s t : State) (u : List ℕ) (p sent : ℕ) → u ≡ encode s → Posts (view u) t p sent → Posts s t p sent
posts_from s t u p sent e f x j o hx hj ho h =
    f x j o hx hj ho h ∙ reads_cell u (flight x j o) (hx, hj, ho) s e

-- a set with m, if so: m is outside only if not, and what is outside was outside
pub outside_not : (b : Bool) (oks m : ℕ) {sent : ℕ} → sent ≡ pick b (with oks m) oks → bit sent m ≡ false → b ≡ false
outside_not true oks m e h = clash (with_hit oks m) (sym (ap (λ (n : ℕ). bit n m) e) ∙ h)
outside_not false oks m e h = refl

pub outside_before : (b : Bool) (oks m : ℕ) {sent : ℕ} → sent ≡ pick b (with oks m) oks
    → (x : ℕ) → bit sent x ≡ false → bit oks x ≡ false
outside_before false oks m e x h = sym (ap (λ (n : ℕ). bit n x) e) ∙ h
outside_before true oks m e x h = elim (bool_cases (bit oks x)) [
  | inr z ↦ z
  | inl z ↦ clash (with_old oks m x z) (sym (ap (λ (n : ℕ). bit n x) e) ∙ h)
]

-- ---- a process that is quiescent in s is so in the words of s
pub quiescent_words : (s : State) (p : ℕ) → Bounds s → p < 16 → Quiescent s p → Quiescent (view (encode s)) p
quiescent_words s p h hp a m l =
    let low : m < s count = omega (arith, get_encode s count tt) in
    ready_words s h p m hp (omega (arith, h.counts)) ∙ a m low

-- ---- what a caller may know: of all messages, only m may be ready
abbrev pub OnlyIf : Bool → State → ℕ → ℕ → Type 0
OnlyIf true s p m = OnlyReady s p m
OnlyIf false s p m = Unit {0}

-- what the rest of an arrival leans on
abbrev pub Leans : List ℕ → List ℕ → ℕ → ℕ → Bool → Type 0
Leans w x p m only =
    (length w ≡ 20480) × (p < 16) × (m < view w count) × Bounds (view w) × Index (view w) x × Logs (view w) p
    × OnlyIf only (view w) p m

only_is : (b : Bool) (s : State) (p m : ℕ) → b ≡ true → OnlyIf b s p m → OnlyReady s p m
only_is true s p m e h = h
only_is false s p m e h = clash e refl

only_words : (b : Bool) (w : List ℕ) (s : State) (p m : ℕ) → w ≡ encode s → Bounds s → Bounds (view w) → p < 16
    → OnlyIf b s p m → OnlyIf b (view w) p m
only_words false w s p m e hs h hp z = tt
only_words true w s p m e hs h hp z = λ x l d.
    let k = reads_cell w count tt s e in
    ready_law w p x h hp (omega (arith, h.counts)) refl s e ∙ z x (omega arith) d

marked_number : (s : State) (k m q p : ℕ) → mark (leave s k m q p) k m q p count ≡ s count
unfolding put
marked_number s k m q p = marked_keeps s k m q p (λ t. t count) (λ _ _ _ _. refl) (λ _ _. refl)

hold_number : (s : State) (p m : ℕ) → hold s p m count ≡ s count
unfolding put
hold_number s p m = hold_cases (λ t. t count ≡ s count) s p m (λ _. refl) (λ _. refl)

is_quiescent : (b : Bool) (s : State) (p : ℕ) → b ≡ true → QuiescentIf b s p → Quiescent s p
is_quiescent true s p e h = h
is_quiescent false s p e h = clash e refl

-- a mark for m tells of no other message, nor that it is held
pub only_marked : (b : Bool) (s : State) (k m q p : ℕ) → QuiescentIf b s p → OnlyIf b (mark (leave s k m q p) k m q p) p m
only_marked false s k m q p h = tt
only_marked true s k m q p h = λ x l d.
    marked_keeps s k m q p (λ t. ready t p x) (λ t j o v. ready_same p x t (put t (flight m j o) v) (put_same_test p x t (flight m j o) v (λ z. z)))
    (λ t v. ready_same p x t (put t (marks p m) v) (put_same_test p x t (marks p m) v (λ z. d (sym z.1))))
    ∙ h x (omega (arith, marked_number s k m q p))

only_hold : (b : Bool) (s : State) (p m : ℕ) → OnlyIf b s p m → OnlyIf b (hold s p m) p m
only_hold false s p m h = tt
only_hold true s p m h = λ x l d.
    hold_cases (λ t. ready t p x ≡ ready s p x) s p m (λ _. refl)
    (λ _. ready_same p x (put s (held p m) 1) _ (put_same_test p x (put s (held p m) 1) (flight m _ p) _ (λ z. z))
    ∙ ready_same p x s (put s (held p m) 1) (put_same_test p x s (held p m) 1 (λ z. d (sym z.1))))
    ∙ h x (omega (arith, hold_number s p m)) d

-- the set of that message, if it is ready
module _ (b : Bool) (s : State) (p m : ℕ) (eb : b ≡ true) (h : OnlyIf b s p m) where
  pub ready_one : {set : ℕ} → m < s count → ready s p m ≡ true → set ≡ with 0 m → Ready s p set
  ready_one {set} l e es k hk = ap (λ (y : ℕ). bit y k) es ∙ go (ℕ_discrete m k)
    where
      none : (c : Bool) → ltb k (s count) ≡ c → m ≢ k → false ≡ both c (ready s p k)
      none true q d = sym (only_is b s p m eb h k (ltb-true k (s count) q) d)
      none false q d = refl

      go : Dec (m ≡ k) → bit (with 0 m) k ≡ both (ltb k (s count)) (ready s p k)
      go (yes d) =
          subst (λ (y : ℕ). bit (with 0 m) y ≡ both (ltb y (s count)) (ready s p y)) d
          (with_hit 0 m ∙ sym (ap₂ both (lt-ltb m (s count) l) e))
      go (no d) = with_other 0 m k d ∙ bit_zero k ∙ none (ltb k (s count)) refl d

  pub ready_no : ready s p m ≡ false → Ready s p 0
  ready_no e k hk = bit_zero k ∙ go (ltb k (s count)) refl (ℕ_discrete m k)
    where
      go : (c : Bool) → ltb k (s count) ≡ c → Dec (m ≡ k) → false ≡ both c (ready s p k)
      go false q d = refl
      go true q (yes d) = sym (ap (ready s p) (sym d) ∙ e)
      go true q (no d) = sym (only_is b s p m eb h k (ltb-true k (s count) q) d)

-- where none is ready, no cascade follows
ready_none : (s : State) (p set : ℕ) → s count ≤ 64 → set ≡ 0 → Ready s p set → cascade s p ≡ s
ready_none s p set few e h =
    cascade_none s p
    (λ m l. sym (ap (λ (b : Bool). both b (ready s p m)) (lt-ltb m (s count) l)) ∙ sym (h m (omega arith))
    ∙ ap (λ (y : ℕ). bit y m) e ∙ bit_zero m)

-- ---- nothing follows: p was quiescent, holds m, and waits for a mark
pub not_marked : (s : State) (p m : ℕ) → every (s size) (marked s p m) ≡ false → ready s p m ≡ false
unfolding ready
not_marked s p m e =
    ap (both (both (both (eqb (s (held p m)) 1) (outside_fifo s p m)) (in_turn s p m))) e
    ∙ go (both (both (eqb (s (held p m)) 1) (outside_fifo s p m)) (in_turn s p m))
  where
    go : (b : Bool) → both b false ≡ false
    go true = refl
    go false = refl

abbrev pub marked_of : State → ℕ → ℕ → ℕ → ℕ → State
marked_of s k m q p = mark (leave s k m q p) k m q p

pub only_mark : (s : State) (k m q p : ℕ) → Quiescent s p → marked_of s k m q p (held p m) ≡ 1
    → ready (marked_of s k m q p) p m ≡ false → arrival s k m q p ≡ marked_of s k m q p
unfolding arrival
only_mark s k m q p h e n =
    let z : received s k m q p ≡ marked_of s k m q p =
    hold_held (marked_of s k m q p) p m (eq-eqb (marked_of s k m q p (held p m)) 1 e) in
    cascade_none (received s k m q p) p
    (received_quiescent k m q p s h (ap (λ (t : State). ready t p m) z ∙ n)) ∙ z

-- ---- the index and the logs on the way
module _ (s : State) (x : List ℕ) (k m q p : ℕ) where
  pub marked_index : Index s x → Index (marked_of s k m q p) x
  unfolding leave put
  marked_index z = mark_cases (λ t. Index t x) (leave s k m q p) k m q p (λ _. z) (λ _. z)

  pub marked_logs : Logs s p → Logs (marked_of s k m q p) p
  unfolding leave put
  marked_logs z = mark_cases (λ t. Logs t p) (leave s k m q p) k m q p (λ _. z) (λ _. z)

  hold_index : Index s x → Index (hold s p m) x
  unfolding put
  hold_index z = hold_cases (λ t. Index t x) s p m (λ _. z) (λ _. z)

  hold_logs : Logs s p → Logs (hold s p m) p
  unfolding put
  hold_logs z = hold_cases (λ t. Logs t p) s p m (λ _. z) (λ _. z)

-- ---- with the message held the rest leans on the same
module _ (only : Bool) {w u x : List ℕ} {p m : ℕ} (h : Leans w x p m only) (l : length u ≡ 20480)
    (c : Changes w u (λ s. hold s p m)) where
  abbrev s : State
  s = hold (view w) p m

  pub held_state : u ≡ encode (hold (view w) p m)
  held_state = changes_own w u (λ s. hold s p m) h.0 c

  bounds_s : Bounds (hold (view w) p m)
  bounds_s = bounds_hold (view w) p m h.3

  pub held_leans : Leans u x p m only
  held_leans = (
    l,
    h.1,
    omega (arith, h.2, reads_cell u count tt s held_state, hold_number (view w) p m),
    bounds_words u s held_state bounds_s,
    index_words u s held_state bounds_s (hold_index (view w) x 0 m 0 p h.4),
    logs_words u s held_state bounds_s p h.1 (hold_logs (view w) x 0 m 0 p h.5),
    only_words only u s p m held_state bounds_s (bounds_words u s held_state bounds_s) h.1
        (only_hold only (view w) p m h.6),
  )

  -- where none is ready then, that was all
  pub none_follows : {set : ℕ} → set ≡ 0 → Ready (view u) p set → Changes w u (λ s. cascade (hold s p m) p)
  none_follows {set} none told t e =
      let b = held_leans.3 in
      let now = c t e in
      now ∙ ap encode (sym (ready_none (hold t p m) p set (bounds_state u (hold t p m) now b).counts none
      (ready_state u (hold t p m) p set now b h.1 told)))

-- ---- the words with the message held
module _ (w : List ℕ) (p m : ℕ) (l : length w ≡ 20480) (hp : p < 16) (hm : m < 64) where
  abbrev with_held : List ℕ
  with_held = set w (addr (held p m)) 1

  is_held_state : with_held ≡ encode (put (view w) (held p m) 1)
  is_held_state = changes_own w with_held (λ s. put s (held p m) 1) l (changes_put w (held p m) 1 (hp, hm))

  pub held_count : view with_held count ≡ view w count
  unfolding put
  held_count = reads_cell with_held count tt (put (view w) (held p m) 1) is_held_state

  pub held_index : {x : List ℕ} → Bounds (view w) → Index (view w) x → Index (view with_held) x
  unfolding put
  held_index {x} h z = index_words with_held (put (view w) (held p m) 1) is_held_state h z

-- ---- the words with the mark set
module _ (w u : List ℕ) (k m q p : ℕ) (l : length w ≡ 20480) (h : Bounds (view w))
    (c : Changes w u (λ s. marked_of s k m q p)) where
  abbrev marked_state : u ≡ encode (marked_of (view w) k m q p)
  marked_state = changes_own w u (λ s. marked_of s k m q p) l c

  pub marked_bounds : Bounds (view u)
  marked_bounds = bounds_words u (marked_of (view w) k m q p) marked_state (bounds_marked (view w) k m q p h)

  pub marked_count : view u count ≡ view w count
  unfolding put
  marked_count =
      reads_cell u count tt (marked_of (view w) k m q p) marked_state
      ∙ marked_keeps (view w) k m q p (λ t. t count) (λ _ _ _ _. refl) (λ _ _. refl)

  pub marked_words : {x : List ℕ} → Index (view w) x → Index (view u) x
  marked_words {x} z =
      index_words u (marked_of (view w) k m q p) marked_state (bounds_marked (view w) k m q p h)
      (marked_index (view w) x k m q p z)

  pub marked_held_logs : p < 16 → Logs (view w) p → Logs (view u) p
  marked_held_logs hp z =
      logs_words u (marked_of (view w) k m q p) marked_state (bounds_marked (view w) k m q p h) p hp
      (marked_logs (view w) [] k m q p z)

  -- only m may be ready, if none was
  pub marked_only : (b : Bool) → p < 16 → QuiescentIf b (view w) p → OnlyIf b (view u) p m
  marked_only b hp z =
      only_words b u (marked_of (view w) k m q p) p m marked_state (bounds_marked (view w) k m q p h) marked_bounds hp
      (only_marked b (view w) k m q p z)

  -- the letters, seen from the state with the mark set
  pub silent_marked : (t : State) (r : ℕ) → Silent (view u) t r → Silent (marked_of (view w) k m q p) t r
  silent_marked t r f x j o hx hj ho l =
      f x j o hx hj ho l
      ∙ reads_cell u (flight x j o) (hx, hj, ho) (marked_of (view w) k m q p) marked_state

  pub posts_marked : (t : State) (sent : ℕ) → Posts (view u) t p sent → Posts (marked_of (view w) k m q p) t p sent
  posts_marked t sent = posts_from (marked_of (view w) k m q p) t u p sent marked_state

  -- nothing follows
  pub over : (b : Bool) → p < 16 → m < 64 → QuiescentIf b (view w) p → b ≡ true → view u (held p m) ≡ 1
      → every (view u size) (marked (view u) p m) ≡ false → u ≡ encode (arrival (view w) k m q p)
  over b hp hm z eb eh em =
      marked_state ∙ ap encode (sym (only_mark (view w) k m q p (is_quiescent b (view w) p eb z)
      (sym (reads_cell u (held p m) (hp, hm) (marked_of (view w) k m q p) marked_state) ∙ eh)
      (sym (ready_law u p m marked_bounds hp hm refl (marked_of (view w) k m q p) marked_state) ∙ not_marked (view u) p m em)))

-- ---- the words after the rest of an arrival
pub silent_words : (s t : State) (u : List ℕ) (r : ℕ) → u ≡ encode t → Silent s t r → Silent s (view u) r
silent_words s t u r e f x j o hx hj ho l =
    reads_cell u (flight x j o) (hx, hj, ho) t e ∙ f x j o hx hj ho l

-- ---- the whole arrival: its words, the index and the logs of p, and that no letter was sent below the place r
pub record Arrived (w u x : List ℕ) (k m q p r : ℕ) : Type 0 where
  pub long : length u ≡ 20480
  pub words : u ≡ encode (arrival (view w) k m q p)
  pub index : Index (view u) x
  pub logs : Logs (view u) p
  pub silent : Silent (marked_of (view w) k m q p) (view u) r

-- what an arrival leans on
pub record Arrives (w x : List ℕ) (k m q p : ℕ) (quiescent : Bool) : Type 0 where
  pub long : length w ≡ 20480
  pub kind : k < 3
  pub message : m < view w count
  pub from : q < 16
  pub to : p < 16
  pub bounds : Bounds (view w)
  pub index : Index (view w) x
  pub logs : Logs (view w) p
  pub known : QuiescentIf quiescent (view w) p

module _ (w u x : List ℕ) (k m q p : ℕ) (b : Bool) (h : Arrives w x k m q p b) (l : length u ≡ 20480)
    (c : Changes w u (λ s. marked_of s k m q p)) where
  -- nothing follows the mark
  pub arrived_marked : (r : ℕ) → (b ≡ true) × (view u (held p m) ≡ 1) × (every (view u size) (marked (view u) p m) ≡ false)
      → Arrived w u x k m q p r
  arrived_marked r z = record {
    long = l;
    words = over w u k m q p h.long h.bounds c b h.to (omega (arith, h.message, h.bounds.counts)) h.known z.0
        z.1 z.2;
    index = marked_words w u k m q p h.long h.bounds c h.index;
    logs = marked_held_logs w u k m q p h.long h.bounds c h.to h.logs;
    silent = silent_marked w u k m q p h.long h.bounds c (view u) r (λ _ _ _ _ _ _ _. refl);
  }

  -- the rest follows
  pub arrived_followed : {v y : List ℕ} {r : ℕ} → length v ≡ 20480 → Changes u v (λ s. cascade (hold s p m) p)
      → Index (view v) y × Logs (view v) p → Silent (view u) (view v) r → Arrived w v y k m q p r
  unfolding arrival
  arrived_followed {v} {y} {r} lv d z f = record {
    long = lv;
    words = d (marked_of (view w) k m q p) (changes_own w u (λ s. marked_of s k m q p) h.long c);
    index = z.0;
    logs = z.1;
    silent = silent_marked w u k m q p h.long h.bounds c (view v) r f;
  }

  pub follows : Leans u x p m b
  follows = (
    l,
    h.to,
    omega (arith, h.message, marked_count w u k m q p h.long h.bounds c),
    marked_bounds w u k m q p h.long h.bounds c,
    marked_words w u k m q p h.long h.bounds c h.index,
    marked_held_logs w u k m q p h.long h.bounds c h.to h.logs,
    marked_only w u k m q p h.long h.bounds c b h.to h.known,
  )
