-- The causal deliveries by the open places: the earliest open place whose message is deliverable is the earliest that the
-- definition takes; and the loop of the code beside the definition's, with the index right at each turn but for the set
-- that the code has in hand. Assumes nothing.
use Rattle.std.specs.Prelude.{◌≡◌, Bool, Option, Some, None, ℕ, ◌+◌, ◌-◌, ◌≤◌, ◌<◌, ltb, get_or, set, length}
use Rattle.std.proofs.Math.Path.{refl, ap, subst}
use Rattle.std.proofs.Common.{sym, ◌∙◌, arith, get_or-set_same}
use Rattle.std.proofs.Math.Bool.{true, false}
use mathlib.Core.List.{List}
use Rattle.std.proofs.lemmas.List.{set-get_or}
use borrow.Author.Tests.{ltb-true, lt-ltb}
use Rattle.base.specs.Tests.{both, both_l, both_r, both_i}
use Rattle.definitions.specs.General.{bit, chosen}
use Rattle.base.specs.Search.{first_is, first_past}
use Rattle.sets.specs.Lowest.{Has}
use Rattle.bounds.specs.Bounds.{Bounds, bounds_state, bounds_words}
use Rattle.causal.specs.Causal.{earliest, Delivering}
use Rattle.deliverable.specs.Tests.{deliverable_words}
use Rattle.index.specs.Index.{Index, Logs, is_open, index_state, index_words, logs_state, logs_words, open_room, frame}
use Rattle.definitions.specs.World.{fifo_length, causal_length, fifo, State, encode, view, outside_causal}
use Rattle.world.specs.Layout.{reads_cell}
use Rattle.definitions.specs.Machine.{deliverable, deliverable_at, causal_all}

-- i is the earliest place of p's FIFO log that can be delivered causally
pub record First (s : State) (p i : ℕ) : Type 0 where
  pub low : i < 64
  pub within : i < s (fifo_length p)
  pub fits : deliverable_at s p i ≡ true
  pub miss : (j : ℕ) → j < i → deliverable_at s p j ≡ false

-- r is that place, or there is none
abbrev pub Earliest : State → ℕ → Option ℕ → Type 0
Earliest s p (Some i) = First s p i
Earliest s p None = (j : ℕ) → j < s (fifo_length p) → deliverable_at s p j ≡ false

-- what the search has shown of a place passed
abbrev pub Waits : State → ℕ → ℕ → Type 0
Waits s p j = deliverable s p (s (fifo p j)) ≡ false

module _ (s : State) (p : ℕ) where
  waiting : (j : ℕ) → j < s (fifo_length p) → (is_open (frame s) p j ≡ true → Waits s p j)
      → deliverable_at s p j ≡ false
  unfolding deliverable_at
  waiting j l h = go (outside_causal s p (s (fifo p j))) refl
    where
      go : (b : Bool) → outside_causal s p (s (fifo p j)) ≡ b
          → both b (deliverable s p (s (fifo p j))) ≡ false
      go true e = h (both_i (ltb j (s (fifo_length p))) _ (lt-ltb j (s (fifo_length p)) l) e)
      go false e = refl

  pub earliest_hit : (r : ℕ) → r < 64 → is_open (frame s) p r ≡ true → deliverable s p (s (fifo p r)) ≡ true
      → ((j : ℕ) → j < r → is_open (frame s) p j ≡ true → Waits s p j) → First s p r
  unfolding deliverable_at
  earliest_hit r l o d h =
      let n = ltb-true r (s (fifo_length p)) (both_l (ltb r (s (fifo_length p))) _ o) in
      record {
        low = l;
        within = n;
        fits = both_i (outside_causal s p (s (fifo p r))) (deliverable s p (s (fifo p r)))
            (both_r (ltb r (s (fifo_length p))) _ o) d;
        miss = λ j k. waiting j (omega arith) (h j k);
      }

  pub earliest_none : s (fifo_length p) ≤ 64 → ((j : ℕ) → j < 64 → is_open (frame s) p j ≡ true → Waits s p j)
      → Earliest s p None
  earliest_none few h = λ j k. waiting j k (h j (omega arith))

-- the same of a state and of its words
module _ (w : List ℕ) (s : State) (p : ℕ) (e : w ≡ encode s) (h : Bounds (view w)) (hp : p < 16) where
  log_same : view w (fifo_length p) ≡ s (fifo_length p)
  log_same = reads_cell w (fifo_length p) hp s e

  same : (j : ℕ) → j < 64 → deliverable_at (view w) p j ≡ deliverable_at s p j
  same j l =
      ap (λ (x : List ℕ). deliverable_at (view x) p j) e
      ∙ deliverable_words s (bounds_state w s e h) p hp j l

  pub earliest_state : (i : ℕ) → First (view w) p i → First s p i
  earliest_state i z =
      let l = z.low in
      record {
        low = l;
        within = omega (arith, log_same, z.within);
        fits = sym (same i l) ∙ z.fits;
        miss = λ j k. sym (same j (omega arith)) ∙ z.miss j k;
      }

  pub none_state : Earliest (view w) p None → Earliest s p None
  none_state z = λ j k. sym (same j (omega (arith, log_same, h.fifo_lengths p hp, h.counts))) ∙ z j (omega (arith, log_same))

-- it is the definition's choice, which is the length of the log where there is none
pub earliest_is : (s : State) (p i : ℕ) → First s p i → i ≡ earliest p s
unfolding chosen
earliest_is s p i z =
    let n = z.within in
    sym (first_is (s (fifo_length p)) 0 (deliverable_at s p) i (omega arith) (omega arith) z.fits (λ j _ k. z.miss j k))

pub earliest_past : (s : State) (p : ℕ) → Earliest s p None → s (fifo_length p) ≤ earliest p s
unfolding chosen
earliest_past s p z =
    let n = first_past (s (fifo_length p)) 0 (deliverable_at s p) (λ j _ k. z j (omega arith)) in
    omega arith

-- ---- the loop: the words hold a state of the definition's loop; the index is right with the set in hand stored
pub record Going (p n : ℕ) (s : State) (w x : List ℕ) (places : ℕ) : Type 0 where
  pub left : ℕ
  pub run : Delivering p n s w left
  pub full : run.state (causal_length p) + left ≡ n
  pub logs : Logs run.state p
  pub index : Index run.state (set x (96 + p) places)

-- it begins with the set that is stored
pub going_start : (p : ℕ) (w x : List ℕ) → p < 16 → Bounds (view w) → Index (view w) x → Logs (view w) p → (s : State)
    → w ≡ encode s → Going p (s (fifo_length p)) s w x (get_or x (96 + p) 0)
unfolding causal_all
going_start p w x hp h z l s e =
    let b = bounds_state w s e h in
    record {
      left = s (fifo_length p) - s (causal_length p);
      run = record {
        state = s;
        words = e;
        kept = record { bounds = b; log = refl; room = omega (arith, b.causal_lengths p hp) };
        rest = refl;
      };
      full = omega (arith, b.causal_lengths p hp);
      logs = logs_state w s e h p hp l;
      index = subst (λ (y : List ℕ). Index s y) (sym (set-get_or x (96 + p) 0)) (index_state w s e h z);
    }

module _ (p n : ℕ) (s : State) (w x : List ℕ) (places : ℕ) (hp : p < 16) (long : length x ≡ 112)
    (g : Going p n s w x places) where
  abbrev t : State
  t = g.run.state

  abbrev b : Bounds t
  b = g.run.kept.bounds

  -- the set in hand is that of the open places
  pub stored : get_or (set x (96 + p) places) (96 + p) 0 ≡ places
  stored = get_or-set_same x (96 + p) places 0 (omega arith)

  pub going_open : Has places (is_open (frame (view w)) p)
  going_open i l =
      ap (λ (y : ℕ). bit y i) (sym stored)
      ∙ (index_words w t g.run.words b g.index).opened p hp i l

  pub going_bounds : Bounds (view w)
  going_bounds = bounds_words w t g.run.words b

  -- a place is delivered
  module _ {i : ℕ} (e : First (view w) p i) where
    pub own : First t p i
    own = earliest_state w t p g.run.words going_bounds hp i e

    pub going_in : bit places i ≡ true
    unfolding deliverable_at
    going_in =
        ap (λ (y : ℕ). bit y i) (sym stored) ∙ g.index.opened p hp i e.low
        ∙ both_i (ltb i (t (fifo_length p))) (outside_causal t p (t (fifo p i)))
        (lt-ltb i (t (fifo_length p)) own.within)
        (both_l (outside_causal t p (t (fifo p i))) (deliverable t p (t (fifo p i))) own.fits)

    pub out : outside_causal t p (t (fifo p i)) ≡ true
    unfolding deliverable_at
    out = both_l (outside_causal t p (t (fifo p i))) (deliverable t p (t (fifo p i))) own.fits

    pub shorter : t (causal_length p) < t (fifo_length p)
    shorter = open_room t p i g.logs own.within out

    pub going_room : view w (causal_length p) < 64
    going_room =
        let k = reads_cell w (causal_length p) hp t g.run.words in
        let m = shorter in
        omega (arith, b.fifo_lengths p hp, b.counts)

  pub going_index : Index (view w) (set x (96 + p) places)
  going_index = index_words w t g.run.words b g.index

  pub going_logs : Logs (view w) p
  going_logs = logs_words w t g.run.words b p hp g.logs
