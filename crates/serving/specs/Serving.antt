-- The fair settle as its loop goes: what it keeps of the words, the index and the queues (Turning), the letter that is
-- next, and what its arrival leaves. Assumes nothing.
use Rattle.std.specs.Prelude.{◌≡◌, refl, Bool, true, false, List, ℕ, ◌+◌, ◌*◌, ◌/◌, ◌%◌, ◌≤◌, ◌<◌, length, get_or}
use Rattle.std.proofs.Common.{sym, ap, ◌∙◌, subst, arith}
use Rattle.definitions.specs.General.{bit, with, mask_of, every}
use Rattle.definitions.specs.World.{Cell, size, count, held, encode, view}
use Rattle.definitions.specs.Machine.{marked, cascade, hold, arrival}
use Rattle.definitions.specs.Steps.{is_up}
use Rattle.definitions.specs.Settle.{letter, nothing, fair, by_turns}
use Rattle.sets.specs.Lowest.{lowest}
use Rattle.world.specs.Layout.{reads_cell, Within, Changes}
use Rattle.world.specs.SoundLaws.{Sound, size_high, count_high}
use Rattle.world.specs.StepLaws.{Arrives as Moves}
use Rattle.world.specs.TurnLaws.{choice_moves}
use Rattle.keeps.specs.Keeps.{SoundWords}
use Rattle.quiescence.specs.Quiescent.{arrival_size}
use Rattle.bounds.specs.Bounds.{sound_bounds}
use Rattle.index.specs.Index.{Index, Logs, sound_logs}
use Rattle.arrivals.specs.Arrival.{Posts, marked_of, posts_marked, Arrives, Arrived, arrived_marked, arrived_followed}
use Rattle.letters.specs.Places.{still_up}
use Rattle.settling.specs.Settling.{Rested, rested_none, rested_known, arrived_sound, rested_on}
use Rattle.queues.specs.Queues.{Queues, queues_same, parted, served_of}
use Rattle.gathering.specs.Gathered.{lettered, all_told}
use Rattle.serving.specs.Choice.{letter_low, fair_found, fair_none}
use Rattle.serving.specs.Sent.{posted_lettered, silent_lettered}

-- what the arrival of a letter leans on, and what it leaves
pub record Serves (w x a : List ℕ) (live k m q p : ℕ) (known : Bool) : Type 0 where
  pub arrives : Arrives w x k m q p known
  pub sound : Sound (view w)
  pub ups : live ≡ mask_of (view w size) (is_up (view w))
  pub queues : Queues (lettered (view w)) a

pub record Served (w u x a : List ℕ) (k m q p : ℕ) : Type 0 where
  pub words : u ≡ encode (arrival (view w) k m q p)
  pub index : Index (view u) x
  pub queues : Queues (lettered (view u)) a

-- ---- the arrival, after the letter has left its queue
module _ {w x a u : List ℕ} {live k m q p : ℕ} {known : Bool} (z : Serves w x a live k m q p known)
    (lu : length u ≡ 20480) (c : Changes w u (λ s. marked_of s k m q p)) where
  -- nothing follows the mark
  pub served_marked : {b : List ℕ} → Queues (parted (lettered (view w)) m (k * 16 + q) p) b
      → (known ≡ true) × (view u (held p m) ≡ 1) × (every (view u size) (marked (view u) p m) ≡ false)
      → Served w u x b k m q p
  served_marked {b} f e =
      let r = arrived_marked w u x k m q p known z.arrives lu c 0 e in
      record {
        words = r.words;
        index = r.index;
        queues = queues_same f (silent_lettered (view w) (view u) k m q p z.sound z.arrives.kind z.arrives.from
            (λ d h. reads_cell u d h (arrival (view w) k m q p) r.words)
            (posts_marked w u k m q p z.arrives.long z.arrives.bounds c (view u) 0 (λ _ _ _ _ _ _ _. refl)));
      }

  -- the rest follows, and what it sent is noted
  module _ {v y : List ℕ} (lv : length v ≡ 20480) (d : Changes u v (λ s. cascade (hold s p m) p))
      (g : Index (view v) y × Logs (view v) p) where
    followed : Arrived w v y k m q p 0
    followed = arrived_followed w u x k m q p known z.arrives lu c lv d g (λ _ _ _ _ _ _ l. absurd (omega arith))

    same_cells : (e : Cell) → Within e → view v e ≡ arrival (view w) k m q p e
    same_cells e h = reads_cell v e h (arrival (view w) k m q p) followed.words

    pub followed_ups : live ≡ mask_of (view v size) (is_up (view v))
    followed_ups = still_up (view w) (view v) k m q p z.sound same_cells live z.ups

    pub served_posted : {b : List ℕ} (sent : ℕ) → Posts (view u) (view v) p sent
        → Queues (all_told (parted (lettered (view w)) m (k * 16 + q) p) (view v) p sent) b
        → Served w v y b k m q p
    served_posted {b} sent f n = record {
      words = followed.words;
      index = g.0;
      queues = queues_same n (posted_lettered (view w) (view v) k m q p z.sound z.arrives.kind z.arrives.from same_cells sent
          (posts_marked w u k m q p z.arrives.long z.arrives.bounds c (view v) sent f));
    }

-- ---- what the loop keeps: the up processes, the quiescent ones, and whose turn it is
pub record Turning (w x a : List ℕ) (live mask t : ℕ) : Type 0 where
  pub sound : SoundWords w
  pub ups : live ≡ mask_of (view w size) (is_up (view w))
  pub rested : Rested mask (view w)
  pub index : Index (view w) x
  pub queues : Queues (lettered (view w)) a
  pub turn : t ≤ view w size

module _ {w x a : List ℕ} {live mask t : ℕ} (g : Turning w x a live mask t) where
  -- nobody waits
  pub turning_none : 64 ≤ served_of (get_or a 1040 0) t → fair t (view w) ≡ nothing
  turning_none l = fair_none (view w) g.sound.reads a g.queues t g.turn l

  -- somebody does
  module _ {p m place : ℕ} (ep : p ≡ served_of (get_or a 1040 0) t) (lp : p < 64)
      (em : m ≡ lowest (get_or a (1024 + p) 0)) (el : place ≡ lowest (get_or a (m * 16 + p) 0)) where
    waits : bit (get_or a 1040 0) p ≡ true
    waits =
        ap (bit (get_or a 1040 0)) ep
        ∙ (fair_found (view w) g.sound.reads a g.queues t g.turn (omega arith)).0

    -- its letter is the choice
    pub turning_found : fair t (view w) ≡ letter (place / 16) m (place % 16) p
    turning_found =
        (fair_found (view w) g.sound.reads a g.queues t g.turn (omega arith)).1
        ∙ named (sym ep) (em ∙ ap (λ (y : ℕ). lowest (get_or a (1024 + y) 0)) ep)
        (el ∙ ap (λ (y : ℕ). lowest (get_or a (y * 16 + p) 0)) em
        ∙ ap (λ (y : ℕ). lowest (get_or a (lowest (get_or a (1024 + y) 0) * 16 + y) 0)) ep)
      where
        named : {p' m' place' : ℕ} → p' ≡ p → m ≡ m' → place ≡ place'
            → letter (place' / 16) m' (place' % 16) p' ≡ letter (place / 16) m (place % 16) p
        named e₀ e₁ e₂ = rw (e₀, e₁, e₂)

    moving : Moves (view w) (place / 16) m (place % 16) p
    moving = choice_moves by_turns t (view w) (place / 16) m (place % 16) p turning_found

    -- it is one of the world's
    pub turning_low : (m < view w count) × (m < 64) × (place < 48) × (p < view w size) × (p < 16)
    turning_low =
        let l = letter_low (view w) g.sound.reads a g.queues p waits in
        let few = size_high (view w) g.sound.reads in
        let many = count_high (view w) g.sound.reads in (
          omega (arith, moving.letter.message),
          omega (arith, moving.letter.message),
          subst (λ (y : ℕ). y < 48)
              (sym (el ∙ ap (λ (y : ℕ). lowest (get_or a (y * 16 + p) 0)) em)) l.1,
          moving.letter.to,
          omega (arith, moving.letter.to),
        )

    pub turning_serves : {known : Bool} → known ≡ bit mask p → Serves w x a live (place / 16) m (place % 16) p known
    turning_serves {known} e =
        let l = turning_low in
        record {
          arrives = record {
            long = g.sound.long;
            kind = moving.letter.kind;
            message = l.0;
            from = omega arith;
            to = l.4;
            bounds = sound_bounds (view w) g.sound.reads;
            index = g.index;
            logs = sound_logs (view w) p g.sound.reads l.3;
            known = rested_known mask (view w) p known g.rested l.4 e;
          };
          sound = g.sound.reads;
          ups = g.ups;
          queues = g.queues;
        }

    -- and after its arrival it is the turn of the next
    pub turning_next : {u y b : List ℕ} {mask' : ℕ} → Served w u y b (place / 16) m (place % 16) p → mask' ≡ with mask p
        → Turning u y b live mask' (p + 1)
    turning_next {u} {y} {b} {mask'} z e =
        let k : ℕ = place / 16 in
        let q : ℕ = place % 16 in
        record {
          sound = subst SoundWords (sym z.words) (arrived_sound w k m q p g.sound moving);
          ups = still_up (view w) (view u) k m q p g.sound.reads (λ c h. reads_cell u c h (arrival (view w) k m q p) z.words) live
              g.ups;
          rested = subst (λ (n : ℕ). Rested n (view u)) (sym e)
              (subst (λ (v : List ℕ). Rested (with mask p) (view v)) (sym z.words)
              (rested_on w k m q p g.sound moving mask g.rested));
          index = z.index;
          queues = z.queues;
          turn = omega
              (arith, moving.letter.to, reads_cell u size tt (arrival (view w) k m q p) z.words, arrival_size (view w) k m q p);
        }

-- where it begins
pub turning_first : {w x a : List ℕ} {live : ℕ} → SoundWords w → live ≡ mask_of (view w size) (is_up (view w))
    → Index (view w) x → Queues (lettered (view w)) a → Turning w x a live 0 0
turning_first {w} h e z q = record {
  sound = h;
  ups = e;
  rested = rested_none (view w);
  index = z;
  queues = q;
  turn = omega arith;
}
