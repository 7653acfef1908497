-- A message that was not held is held, and answered, on words. Assumes nothing.
use Rattle.std.specs.Prelude.{◌≡◌, Bool, true, List, ℕ, ◌<◌, eqb, length, set}
use Rattle.std.proofs.Common.{sym, ap, ◌∙◌, eq-eqb, ne_eqb}
use Rattle.definitions.specs.General.{pick}
use Rattle.definitions.specs.World.{held, flight, addr, State, put, encode, view}
use Rattle.definitions.specs.Machine.{addressees, in_turn, hold}
use Rattle.world.specs.Layout.{Changes, set_encode, reads_cell}
use Rattle.bounds.specs.Bounds.{Bounds, bounds_state, bounds_stored}
use Rattle.sends.specs.Sends.{sent, in_turn_words}
use Rattle.receiving.specs.Receiving.{bounds_pick}

pub bounds_hold : (s : State) (p m : ℕ) → Bounds s → Bounds (hold s p m)
unfolding hold put
bounds_hold s p m h = bounds_pick (eqb (s (held p m)) 1) s _ h h

pub bounds_held : (w : List ℕ) (p m : ℕ) → length w ≡ 20480 → p < 16 → m < 64 → Bounds (view w)
    → Bounds (view (set w (addr (held p m)) 1))
unfolding put
bounds_held w p m l hp hm h = bounds_stored w (held p m) 1 l (hp, hm) h

answered : State → ℕ → ℕ → State
answered s p m = put (put s (held p m) 1) (flight m (pick (in_turn s p m) 2 1) p) (addressees s m)

pub hold_held : (s : State) (p m : ℕ) → eqb (s (held p m)) 1 ≡ true → hold s p m ≡ s
unfolding hold answered
hold_held s p m e = ap (λ (b : Bool). pick b s (answered s p m)) e

pub hold_none : (w : List ℕ) (m p : ℕ) {x : ℕ} → m < 64 → p < 16 → x ≡ view w (held p m) → x ≡ 1
    → Changes w w (λ s. hold s p m)
unfolding hold answered
hold_none w m p hm hp ex h s e =
    e ∙ sym (ap (λ (b : Bool). encode (pick b s (answered s p m)))
    (eq-eqb (s (held p m)) 1 (sym (ex ∙ reads_cell w (held p m) (hp, hm) s e) ∙ h)))

pub hold_law : (w u : List ℕ) (m p : ℕ) {x k : ℕ} {b : Bool} → Bounds (view w) → m < 64 → p < 16
    → x ≡ view w (held p m) → (x ≡ 1 → ⊥) → b ≡ in_turn (view w) p m → k ≡ pick b 2 1
    → Changes (set w (addr (held p m)) 1) u (λ s. sent s p m k) → Changes w u (λ s. hold s p m)
unfolding hold answered put
hold_law w u m p {x} {k} {b} bounds hm hp ex n eb ek c s e =
    let turn : b ≡ in_turn s p m =
    eb ∙ ap (λ (l : List ℕ). in_turn (view l) p m) e
    ∙ in_turn_words s (bounds_state w s e bounds) p m hp hm in
    c (put s (held p m) 1) (ap (λ (l : List ℕ). set l (addr (held p m)) 1) e
    ∙ set_encode s (held p m) 1 (hp, hm))
    ∙ ap (λ (j : ℕ). encode (put (put s (held p m) 1) (flight m j p) (addressees s m)))
    (ek ∙ ap (λ (y : Bool). pick y 2 1) turn)
    ∙ sym (ap (λ (b : Bool). encode (pick b s (answered s p m)))
    (ne_eqb (s (held p m)) 1 (λ z. n (ex ∙ reads_cell w (held p m) (hp, hm) s e ∙ z))))
