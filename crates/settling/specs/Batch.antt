-- Settle by batches: all letters of one place, to one receiver after the other, as long as none is sent at that place or
-- below. Assumes nothing.
use Rattle.std.specs.Prelude.{◌≡◌, refl, Bool, true, false, ◌&&◌, List, ◌≢◌, ◌⊎◌, ℕ, ◌+◌, ◌-◌, ◌*◌, ◌^◌, ◌≤◌, ◌<◌, eqb}
use Rattle.std.proofs.Math.Path.{sym, ap}
use Rattle.std.proofs.Common.{ap₂, ◌∙◌, subst, inl, inr, arith, lt-ltb, le-ltb, ltb-true, eq-eqb}
use Rattle.std.proofs.Math.Decide.{ℕ_discrete}
use Rattle.std.proofs.Math.Nat.{sub-zero}
use Rattle.std.proofs.Math.Dec.{ltb}
use Rattle.definitions.specs.General.{pick, first_from, bit, with, without}
use Rattle.base.specs.Tests.{pick_no, clash, both_l, both_r, both_i, le_or_lt, and_false}
use Rattle.base.specs.Search.{first_law, first_hit, first_is}
use Rattle.base.specs.Bits.{bit_zero, without_hit, without_other}
use Rattle.base.specs.Sets.{lowest_low, without_less}
use Rattle.bounds.specs.Bounds.{sound_bounds}
use Rattle.index.specs.Index.{Index, sound_logs}
use Rattle.arrivals.specs.Arrival.{Silent, marked_of, Arrives, Arrived}
use Rattle.letters.specs.Places.{Passed, lowest_before, from_message, from_kind, from_origin}
use Rattle.letters.specs.Search.{waiting, waiting_bit, waiting_above, lowest_found}
use Rattle.letters.specs.declared.Place.{Place}
use Rattle.quiescence.specs.Quiescent.{arrival_size, arrival_count, arrival_up}
use Rattle.settling.specs.Settling.{Going, arrive_words, lowest_from, lowest_more, settle_done, settle_stopped, rested_known, letter_within}
use Rattle.world.specs.Layout.{reads_cell, put_same, Within}
use Rattle.definitions.specs.Machine.{leave, mark, arrival}
use Rattle.definitions.specs.Settle.{letter, nothing, done, stopped, lowest, moves, receiver, origin, kind, movable, any, lowest_first}
use Rattle.definitions.specs.Words.{settle_words}
use Rattle.world.specs.SoundLaws.{size_high, count_high}
use Rattle.world.specs.StepLaws.{lowest_moves}
use Rattle.definitions.specs.Steps.{is_up}
use Rattle.definitions.specs.World.{Cell, size, count, up, marks, flight, State, put, view}
use Rattle.settling.specs.Places.{next_at, going_next}

abbrev pub at : ℕ → ℕ → ℕ → Place
at k m q = record { message = m; kind = k; origin = q }

-- The mask has the processes below n that the letters of kind k for m from q can move to.
abbrev pub Receives : State → ℕ → ℕ → ℕ → ℕ → Type 0
Receives s k m q mask = (p : ℕ) → p < 16 → bit mask p ≡ ltb p (s size) && moves s m k q p

-- ---- the lowest of them gives the lowest letter
module _ (s : State) (k m q mask : ℕ) (h : Passed s (at k m q)) (hq : q < s size) (hm : m < s count) (few : s size ≤ 16)
    (r : Receives s k m q mask) where
  module _ {p : ℕ} (ep : p ≡ first_from 16 0 (bit mask)) (hp : p < 16) where
    both_at : (ltb p (s size) && moves s m k q p) ≡ true
    both_at = sym (r p hp) ∙ ap (bit mask) ep ∙ (first_law 16 0 (bit mask)).hit (omega (arith, ep))

    in_size : p < s size
    in_size = ltb-true p (s size) (both_l (ltb p (s size)) (moves s m k q p) both_at)

    the_receiver : receiver any s m k q ≡ p
    unfolding receiver
    the_receiver =
        let l = in_size in
        first_is (s size) 0 (moves s m k q) p (omega arith) (omega arith)
        (both_r (ltb p (s size)) (moves s m k q p) both_at)
        (λ j _ b. ap (λ (c : Bool). c && moves s m k q j) (sym (lt-ltb j (s size) (omega arith)))
        ∙ sym (r j (omega arith)) ∙ (first_law 16 0 (bit mask)).miss j (omega arith) (omega (arith, ep)))

    has_receiver : ltb (receiver any s m k q) (s size) ≡ true
    has_receiver = let l = in_size in lt-ltb (receiver any s m k q) (s size) (omega (arith, the_receiver))

    the_origin : origin any s m k ≡ q
    unfolding origin
    the_origin =
        from_origin s (at k m q) h
        ∙ first_hit (λ o. ltb (receiver any s m k o) (s size)) (s size) q hq has_receiver

    the_kind : kind any s m ≡ k
    unfolding kind
    the_kind =
        from_kind s (at k m q) h
        ∙ first_hit (λ j. ltb (origin any s m j) (s size)) 3 k h.kinds
        (lt-ltb (origin any s m k) (s size) (omega (arith, the_origin)))

    pub lowest_here : lowest any s ≡ letter k m q p
    unfolding movable
    lowest_here =
        lowest_found any s m k q p
        (from_message s (at k m q) h ∙ first_hit (movable any s) (s count) m hm
        (lt-ltb (kind any s m) 3 (let z = h.kinds in omega (arith, the_kind))))
        hm the_kind the_origin the_receiver

-- ---- the receivers, as the code gets them
pub receives_waiting : (s : State) (k m q : ℕ) {mask : ℕ} → mask ≡ waiting s m k q → Receives s k m q mask
receives_waiting s k m q e p _ = ap (λ (x : ℕ). bit x p) e ∙ go (le_or_lt (s size) p)
  where
    go : (s size ≤ p) ⊎ (p < s size) → bit (waiting s m k q) p ≡ ltb p (s size) && moves s m k q p
    go (inl l) = waiting_above s m k q p l ∙ sym (ap (λ (b : Bool). b && moves s m k q p) (le-ltb p (s size) l))
    go (inr l) = waiting_bit s m k q p l ∙ sym (ap (λ (b : Bool). b && moves s m k q p) (lt-ltb p (s size) l))

out_of : (s : State) (k m q p : ℕ) → marked_of s k m q p (flight m k q) ≡ without (s (flight m k q)) p
unfolding leave mark put
out_of s k m q p = choose (eqb k 2)
  where
    left : State
    left = put s (flight m k q) (without (s (flight m k q)) p)

    choose : (b : Bool) → pick b (put left (marks p m) (with (left (marks p m)) q)) left (flight m k q) ≡ without (s (flight m k q)) p
    choose true = put_same s (flight m k q) (flight m k q) _ refl
    choose false = put_same s (flight m k q) (flight m k q) _ refl

-- after an arrival that sent nothing at the place or below
pub receives_next : (s t : State) (k m q p r mask : ℕ) {next : ℕ} → s size ≤ 16
    → ((c : Cell) → Within c → t c ≡ arrival s k m q p c) → Silent (marked_of s k m q p) t r
    → m * 48 + k * 16 + q < r → m < 64 → k < 3 → q < 16 → p < 16 → next ≡ without mask p → Receives s k m q mask
    → Receives t k m q next
unfolding moves
receives_next s t k m q p r mask {next} few same silent l hm hk hq hp en z y hy =
    ap (λ (v : ℕ). bit v y) en ∙ go (ℕ_discrete p y)
    ∙ sym (ap₂ (λ (a : ℕ) (b : Bool). ltb y a && b) (same size tt ∙ arrival_size s k m q p)
    (ap₂ (λ (a : ℕ) (b : Bool). bit a y && b) left (lives y hy)))
  where
    lives : (o : ℕ) → o < 16 → is_up t o ≡ is_up s o
    lives o h = ap (λ (v : ℕ). eqb v 1) (same (up o) h ∙ arrival_up s k m q p o)

    left : t (flight m k q) ≡ without (s (flight m k q)) p
    left = silent m k q hm hk hq l ∙ out_of s k m q p

    go : Dec (p ≡ y) → bit (without mask p) y
        ≡ ltb y (s size) && (bit (without (s (flight m k q)) p) y && is_up s y)
    go (yes d) =
        subst (λ (v : ℕ). bit (without mask p) v
        ≡ ltb v (s size) && (bit (without (s (flight m k q)) p) v && is_up s v)) d
        (without_hit mask p
        ∙ sym (ap (λ (b : Bool). ltb p (s size) && (b && is_up s p)) (without_hit (s (flight m k q)) p)
        ∙ and_false (ltb p (s size))))
    go (no d) =
        without_other mask p y d ∙ z y hy
        ∙ ap (λ (b : Bool). ltb y (s size) && (b && is_up s y)) (sym (without_other (s (flight m k q)) p y d))

-- the place itself, where it stands
pub next_same : (k m q r : ℕ) → m * 48 + k * 16 + q ≤ r → next_at k m q r ≡ at k m q
unfolding next_at
next_same k m q r l = pick_no _ _ (le-ltb r (m * 48 + k * 16 + q) l)

-- ---- what a batch leaves
pub record Batched (w₀ w x : List ℕ) (live mask made₀ made budget : ℕ) (place : Place) : Type 0 where
  pub going : Going w live mask place
  pub index : Index (view w) x
  pub most : made ≤ budget
  pub same : lowest_from (budget - made₀) made₀ w₀ ≡ lowest_from (budget - made) made w

pub batched_more : {w₀ w u x y : List ℕ} {live mask mask' made₀ made budget k m q p r : ℕ} {place place' : Place}
    → Batched w₀ w x live mask made₀ made budget place → made < budget → lowest any (view w) ≡ letter k m q p
    → u ≡ arrive_words w k m q p → Silent (marked_of (view w) k m q p) (view u) r → mask' ≡ with mask p
    → place' ≡ next_at k m q r → Index (view u) y → Batched w₀ u y live mask' made₀ (made + 1) budget place'
batched_more {w₀} {w} {u} {x} {y} {live} {mask} {mask'} {made₀} {made} {budget} {k} {m} {q} {p} b l e eu s em ea z = record {
  going = going_next b.going e eu s em ea;
  index = z;
  most = omega arith;
  same = b.same ∙ lowest_more budget made w k m q p l e ∙ ap (lowest_from (budget - (made + 1)) (made + 1)) (sym eu);
}

-- ---- the loop of a batch: what it leaves, so far, and the receivers left
pub record Sending (w₀ w x : List ℕ) (live k m q receivers made₀ budget left mask made : ℕ) : Type 0 where
  pub batched : Batched w₀ w x live mask made₀ made budget (at k m q)
  pub receives : Receives (view w) k m q left
  pub low : left < 2 ^ 16
  pub least : made₀ ≤ made
  pub some : (made₀ < made) ⊎ (left ≡ receivers)
  pub from : q < view w size
  pub message : m < view w count

-- a process that is known to be quiescent already
pub with_same : (m p : ℕ) → bit m p ≡ true → m ≡ with m p
unfolding with
with_same m p e = sym (ap (λ (b : Bool). pick b m (m + 2 ^ p)) e)

-- none is left: one has arrived
pub sending_first : {w₀ w x : List ℕ} {live k m q receivers made₀ budget left mask made : ℕ}
    → Sending w₀ w x live k m q receivers made₀ budget left mask made → receivers ≢ 0 → left ≡ 0 → made₀ < made
sending_first {receivers = receivers} {made₀ = made₀} {left = left} {made = made} h n e = go h.some
  where
    go : (made₀ < made) ⊎ (left ≡ receivers) → made₀ < made
    go (inl l) = l
    go (inr z) = absurd (n (sym z ∙ e))

module _ {w₀ w x : List ℕ} {live k m q receivers made₀ budget left mask made p : ℕ}
    (h : Sending w₀ w x live k m q receivers made₀ budget left mask made) (some : left ≢ 0)
    (ep : p ≡ first_from 16 0 (bit left)) where
  pub sending_low : p < 16
  sending_low = omega (arith, ep, lowest_low 16 left h.low some)

  pub sending_member : bit left p ≡ true
  sending_member = ap (bit left) ep ∙ (first_law 16 0 (bit left)).hit (omega (arith, ep, sending_low))

  -- its letter is the lowest
  pub sending_found : lowest any (view w) ≡ letter k m q p
  sending_found =
      lowest_here (view w) k m q left h.batched.going.passed h.from h.message
      (size_high _ h.batched.going.sound.reads) h.receives ep sending_low

  pub sending_arrives : {known : Bool} → known ≡ bit mask p → Arrives w x k m q p known
  sending_arrives {known} e =
      let g = h.batched.going in
      let a = letter_within w k m q p g.sound (lowest_moves (view w) k m q p sending_found) in
      record {
        long = g.sound.long;
        kind = a.0;
        message = h.message;
        from = a.2;
        to = sending_low;
        bounds = sound_bounds _ g.sound.reads;
        index = h.batched.index;
        logs = sound_logs (view w) p g.sound.reads (lowest_moves (view w) k m q p sending_found).letter.to;
        known = rested_known mask (view w) p known g.rested sending_low e;
      }

  module _ {u y : List ℕ} {mask' r : ℕ} (more : made < budget) (a : Arrived w u y k m q p r) (em : mask' ≡ with mask p) where
    -- the batch ends
    pub sending_out : Batched w₀ u y live mask' made₀ (made + 1) budget (next_at k m q r)
    sending_out = batched_more h.batched more sending_found a.words a.silent em refl a.index

    -- it goes on
    pub sending_more : {next : ℕ} → m * 48 + k * 16 + q < r → next ≡ without left p
        → Sending w₀ u y live k m q receivers made₀ budget next mask' (made + 1)
    sending_more {next} l en =
        let g = letter_within w k m q p h.batched.going.sound (lowest_moves (view w) k m q p sending_found) in
        record {
          batched = batched_more h.batched more sending_found a.words a.silent em
              (sym (next_same k m q r (omega arith))) a.index;
          receives = receives_next (view w) (view u) k m q p r left (size_high _ h.batched.going.sound.reads)
              (λ c z. reads_cell u c z (arrival (view w) k m q p) a.words) a.silent l g.1 g.0 g.2 sending_low en
              h.receives;
          low = omega (arith, en, h.low, without_less left p sending_member some);
          least = omega (arith, h.least);
          some = inl (omega (arith, h.least));
          from = omega (arith, h.from, reads_cell u size tt (arrival (view w) k m q p) a.words, arrival_size (view w) k m q p);
          message = omega
              (arith, h.message, reads_cell u count tt (arrival (view w) k m q p) a.words, arrival_count (view w) k m q p);
        }

  pub sending_less : {next : ℕ} → next ≡ without left p → next < left
  sending_less e = omega (arith, e, without_less left p sending_member some)

-- ---- a batch begins where the lowest letter was found
pub going_here : {w : List ℕ} {live mask : ℕ} {place : Place} (k m q p : ℕ) → Going w live mask place
    → lowest any (view w) ≡ letter k m q p → Going w live mask (at k m q)
going_here {w} k m q p g e =
    let a = (lowest_moves (view w) k m q p e).letter in
    record {
      sound = g.sound;
      ups = g.ups;
      rested = g.rested;
      passed = record {
        messages = omega (arith, a.message);
        low = omega (arith, a.message, count_high (view w) g.sound.reads);
        kinds = a.kind;
        origins = omega (arith, a.from);
        none = λ x j o r b hj ho hr. lowest_before (view w) k m q p e x j o r b hj ho hr;
      };
    }

pub some_receiver : (s : State) (k m q p mask : ℕ) → lowest any s ≡ letter k m q p → p < 16 → Receives s k m q mask → mask ≢ 0
unfolding moves
some_receiver s k m q p mask e hp r z =
    let a = lowest_moves s k m q p e in
    clash (r p hp ∙ both_i (ltb p (s size)) (moves s m k q p) (lt-ltb p (s size) a.letter.to)
    (both_i (bit (s (flight m k q)) p) (is_up s p) a.letter.flies (eq-eqb (s (up p)) 1 a.live)))
    (ap (λ (y : ℕ). bit y p) z ∙ bit_zero p)

pub batched_first : {w x : List ℕ} {live mask made budget : ℕ} {place : Place} → Going w live mask place → Index (view w) x
    → made ≤ budget → Batched w w x live mask made made budget place
batched_first g z l = record { going = g; index = z; most = l; same = refl }

-- one batch after the other
pub batched_then : {w₀ w u x y : List ℕ} {live mask mask' made₀ made made' budget : ℕ} {place place' : Place}
    → Batched w₀ w x live mask made₀ made budget place → Batched w u y live mask' made made' budget place'
    → Batched w₀ u y live mask' made₀ made' budget place'
batched_then b d = record { going = d.going; index = d.index; most = d.most; same = b.same ∙ d.same }

-- where no letter moves, or the budget is used up, settling ends
module _ {w₀ w x : List ℕ} {live mask made budget : ℕ} {place : Place} (b : Batched w₀ w x live mask 0 made budget place) where
  same_from : settle_words lowest_first w₀ budget ≡ lowest_from (budget - made) made w
  unfolding settle_words
  same_from = ap (λ (n : ℕ). lowest_from n 0 w₀) (sym (sub-zero budget)) ∙ b.same

  pub batched_done : lowest any (view w) ≡ nothing → settle_words lowest_first w₀ budget ≡ record { world = w; ending = done made }
  batched_done e = same_from ∙ settle_done lowest_first (budget - made) made 0 w e

  pub batched_stopped : {k m q p : ℕ} → budget ≤ made → lowest any (view w) ≡ letter k m q p
      → settle_words lowest_first w₀ budget ≡ record { world = w; ending = stopped made }
  batched_stopped l e = same_from ∙ settle_stopped lowest_first budget made 0 w _ _ _ _ l e
