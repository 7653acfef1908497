-- A multicast and the index: the new message goes into it, with its addressees, and the first letters are no part of it.
-- Assumes nothing.
use Rattle.std.specs.Prelude.{◌≡◌, refl, List, ℕ, ◌+◌, ◌<◌, get_or, set}
use Rattle.std.proofs.Common.{sym, ◌∙◌, subst, arith}
use Rattle.std.proofs.Math.Path.{ap}
use Rattle.definitions.specs.General.{with}
use Rattle.definitions.specs.World.{count, State, put, encode, view}
use Rattle.definitions.specs.Machine.{addressees, numbered, stamped, raised, with_tables, posted, multicast}
use Rattle.world.specs.Layout.{reads_cell}
use Rattle.bounds.specs.Bounds.{Bounds, bounds_words}
use Rattle.index.specs.Index.{Index, index_words}
use Rattle.index.specs.Changes.{index_numbered}
use Rattle.sends.specs.Sends.{addressees_law}
use Rattle.multicasts.specs.Multicast.{with_copy, with_message, bounds_message}

module _ (s : State) (p groups m : ℕ) where
  bounds_copy : Bounds s → Bounds (with_copy s p groups m)
  unfolding stamped raised with_tables
  bounds_copy h = h

  index_copy : {x : List ℕ} → Index s x → Index (with_copy s p groups m) x
  unfolding stamped raised with_tables
  index_copy z = z

  room_copy : s count < 64 → with_copy s p groups m count < 64
  unfolding stamped raised with_tables
  room_copy l = l

  count_copy : m ≡ s count → m ≡ with_copy s p groups m count
  unfolding stamped raised with_tables
  count_copy e = e

module _ (w u x y : List ℕ) (p groups o m : ℕ) (h : Bounds (view w)) (z : Index (view w) x) (hp : p < 16)
    (room : view w count < 64) (em : m ≡ view w count) (eu : u ≡ encode (with_message (view w) p groups o m))
    (ey : y ≡ set (set x m (addressees (view u) m)) (64 + p) (with (get_or x (64 + p) 0) m)) where
  abbrev copied : State
  copied = with_copy (view w) p groups m

  abbrev entered : State
  entered = with_message (view w) p groups o m

  pub entered_bounds : Bounds (view u)
  entered_bounds = bounds_words u entered eu (bounds_message (view w) p groups o m hp room h)

  to_entered : addressees (view u) m ≡ addressees entered m
  to_entered = addressees_law u m entered_bounds (omega (arith, em)) refl entered eu

  index_at : (k : ℕ) → m ≡ k → Index entered (set (set x k (addressees (view u) m)) (64 + p) (with (get_or x (64 + p) 0) k))
      → Index entered y
  index_at k e i =
      subst (Index entered) (sym (ey ∙ ap (λ (v : ℕ). set (set x v (addressees (view u) m)) (64 + p) (with (get_or x (64 + p) 0) v)) e)) i

  index_state : Index entered y
  index_state =
      index_at (copied count) (count_copy (view w) p groups m em)
      (index_numbered copied p groups o x (addressees (view u) m) (with (get_or x (64 + p) 0) (copied count))
      (bounds_copy (view w) p groups m h) (index_copy (view w) p groups m z) hp (room_copy (view w) p groups m room)
      (to_entered ∙ ap (addressees entered) (count_copy (view w) p groups m em)) refl)

  pub entered_count : view u count ≡ m + 1
  unfolding numbered put
  entered_count = reads_cell u count tt entered eu ∙ ap (λ (k : ℕ). k + 1) (sym (count_copy (view w) p groups m em))

  pub entered_index : Index (view u) y
  entered_index = index_words u entered eu (bounds_message (view w) p groups o m hp room h) index_state

  -- after the first letters
  posted_bounds : Bounds (posted entered p m)
  unfolding posted put
  posted_bounds = bounds_message (view w) p groups o m hp room h

  posted_index : Index (posted entered p m) y
  unfolding posted put
  posted_index = index_state

  pub sent_index : {v : List ℕ} → v ≡ encode (multicast (view w) p groups o) → Index (view v) y
  unfolding multicast
  sent_index {v} e =
      index_words v (posted entered p m) (e ∙ ap (λ (k : ℕ). encode (posted (with_message (view w) p groups o k) p k)) (sym em))
      posted_bounds posted_index
