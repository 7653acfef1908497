-- The parts of an arrival before its cascade, and of the other steps: what they leave as it was. A letter
-- leaves, a mark is set, a message is held and answered: none of these touches a process's record, the
-- messages, or who is up and trusted. Assumes nothing.
use Rattle.std.specs.Prelude.{◌≡◌, refl, ℕ, ◌≢◌}
use Rattle.std.proofs.Common.{sym, ap, ◌∙◌}
use Rattle.std.proofs.Math.Path.{subst₂}
use Rattle.std.proofs.Math.Bool.{true}
use Rattle.std.proofs.Math.Decide.{ℕ_discrete}
use Rattle.definitions.specs.General.{bit, without}
use Rattle.definitions.specs.World.{held, flight, State, put}
use Rattle.definitions.specs.Machine.{leave, mark, received}
use Rattle.base.specs.Bits.{without_old, without_other}
use Rattle.world.specs.Layout.{put_at}
use Rattle.world.specs.Kept.{mark_cases, hold_cases, marked_keeps, received_keeps}
use Rattle.effects.specs.Views.{process, Scene, scene, ground}

-- ---- r holds m; the letter of kind k for m from q to u flies
abbrev pub Held : State → ℕ → ℕ → Type 0
Held s r m = s (held r m) ≡ 1

-- the letter flies
abbrev pub Fly : State → ℕ → ℕ → ℕ → ℕ → Type 0
Fly s m k q u = bit (s (flight m k q)) u ≡ true

-- ---- a store in the letters of m of kind k from q, by cases
pub put_letter : (s : State) (m k q v : ℕ) (P : ℕ → ℕ → ℕ → ℕ → Type 0) → P m k q v
    → ((x j o : ℕ) → P x j o (s (flight x j o)))
    → (x j o : ℕ) → P x j o (put s (flight m k q) v (flight x j o))
put_letter s m k q v P it other x j o =
    put_at s (flight m k q) (flight x j o) v (P x j o)
    (λ e. subst₂ (λ (y i : ℕ). P y i o v) (cc) (cc) (let d : q ≡ o = cc in rw d at it)) (λ _. other x j o)

-- ---- a letter leaves flight
module _ (s : State) (k m q p : ℕ) where
  pub leave_less : (x j o u : ℕ) → Fly (leave s k m q p) x j o u → Fly s x j o u
  unfolding leave
  leave_less x j o u =
      put_letter s m k q (without (s (flight m k q)) p) (λ x j o v. bit v u ≡ true → Fly s x j o u)
      (without_old (s (flight m k q)) p u) (λ _ _ _ z. z) x j o

  -- a letter that flew is that one, or it still flies
  pub leave_cases : (P : ℕ → ℕ → ℕ → ℕ → Type 0) → P m k q p
      → ((x j o u : ℕ) → Fly (leave s k m q p) x j o u → P x j o u)
      → (x j o u : ℕ) → Fly s x j o u → P x j o u
  unfolding leave
  leave_cases P it other x j o u z =
      put_letter s m k q (without (s (flight m k q)) p)
      (λ x j o v. Fly s x j o u → (bit v u ≡ true → P x j o u) → P x j o u)
      (λ f rest. elim (ℕ_discrete p u) [
        | yes d ↦ rw d at it
        | no d ↦ rest (without_other (s (flight m k q)) p u d ∙ f)
      ])
      (λ _ _ _ f rest. rest f) x j o z (other x j o u)

-- ---- what an arrival before its cascade leaves
module _ (s : State) (k m q p : ℕ) where
  -- marking concerns nothing that is held
  pub marked_held : (r x : ℕ) → mark (leave s k m q p) k m q p (held r x) ≡ s (held r x)
  unfolding put
  marked_held r x = marked_keeps s k m q p (λ t. t (held r x)) (λ _ _ _ _. refl) (λ _ _. refl)

  -- no letter
  pub marked_flight : (x j o : ℕ)
      → mark (leave s k m q p) k m q p (flight x j o) ≡ leave s k m q p (flight x j o)
  unfolding put
  marked_flight x j o =
      mark_cases (λ t. t (flight x j o) ≡ leave s k m q p (flight x j o)) (leave s k m q p) k m q p
      (λ _. refl) (λ _. refl)

  -- no record
  pub mark_process : (r : ℕ) → process (mark (leave s k m q p) k m q p) r ≡ process s r
  unfolding put
  mark_process r = marked_keeps s k m q p (λ t. process t r) (λ _ _ _ _. refl) (λ _ _. refl)

  -- nor size, messages, groups, trust and who is up
  pub mark_ground : ground (mark (leave s k m q p) k m q p) ≡ ground s
  unfolding put
  mark_ground = marked_keeps s k m q p ground (λ _ _ _ _. refl) (λ _ _. refl)

  -- an arrival before its cascade leaves what the order of the logs looks at
  pub received_scene : scene (received s k m q p) ≡ scene s
  unfolding put
  received_scene = received_keeps s k m q p scene (λ _ _ _ _. refl) (λ _ _. refl) (λ _ _. refl)

  -- so every process's record
  pub received_process : (r : ℕ) → process (received s k m q p) r ≡ process s r
  received_process r = ap (λ (v : Scene). v.own r) received_scene

  -- and the ground
  pub received_ground : ground (received s k m q p) ≡ ground s
  unfolding put
  received_ground = received_keeps s k m q p ground (λ _ _ _ _. refl) (λ _ _. refl) (λ _ _. refl)

  -- what is held then was held before, or it is m at p, and new
  pub received_held : (P : ℕ → ℕ → Type 0) → ((r x : ℕ) → Held s r x → P r x) → (s (held p m) ≢ 1 → P p m)
      → (r x : ℕ) → Held (received s k m q p) r x → P r x
  unfolding put
  received_held P old new r x =
      hold_cases (λ t. Held t r x → P r x) (mark (leave s k m q p) k m q p) p m
      (λ _ d. old r x (sym (marked_held r x) ∙ d))
      (λ n. put_at (mark (leave s k m q p) k m q p) (held p m) (held r x) _ (λ v. v ≡ 1 → P r x)
      (λ e _. subst₂ P (cc) (cc) (new (λ d. n (marked_held p m ∙ d))))
      (λ _ d. old r x (sym (marked_held r x) ∙ d)))
