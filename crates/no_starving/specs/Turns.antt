-- No machine starves, on states: in a settle by turns, while a letter is in flight to an up process p of n, one of the next
-- n arrivals is at p. The processes tried before p become fewer with every arrival elsewhere, and a letter to p leaves
-- flight only at p. It holds of any sound state. Assumes nothing.
use Rattle.std.specs.Prelude.{◌≡◌, refl, true, ◌≢◌, ℕ, zero, suc, ◌+◌, ◌≤◌, ◌<◌}
use Rattle.std.proofs.Common.{sym, ap, ◌∙◌, subst, inl, inr, arith}
use Rattle.std.proofs.Math.Decide.{ℕ_discrete}
use Rattle.definitions.specs.World.{size, State}
use Rattle.definitions.specs.Machine.{arrival}
use Rattle.definitions.specs.Steps.{arrives, step}
use Rattle.definitions.specs.Settle.{Choice, letter, nothing, has_letter, fair, Manner, by_turns, choice, Settled, settle_from}
use Rattle.base.specs.Tests.{clash, le_or_lt}
use Rattle.world.specs.SoundLaws.{Sound}
use Rattle.world.specs.StepLaws.{Arrives, Chosen, moves_taken, none_flies}
use Rattle.world.specs.TurnLaws.{arrives_has, Turn, ahead, around, nobody, fair_chosen, fair_turn, choice_moves}
use Rattle.world.specs.SettleLaws.{settle, Says, settle_says, settle_keeps}
use Rattle.world.specs.Points.{one_more, none_made, Point, ended, goes, point}
use Rattle.keeps.specs.Keeps.{step_sound}
use Rattle.effects.specs.Views.{Ground}
use Rattle.effects.specs.Holding.{sound_letter, arrival_ground}
use Rattle.effects.specs.Flying.{flies_on}

-- ---- the arrival after j others is at p, of a settle from s, in the turn of t and with n arrivals made before
pub data ServedAt (o : Manner) (n t : ℕ) (s : State) (j p : ℕ) : Type 0 where
  served_at : (k m q : ℕ) → Arrives (settle_from (choice o) arrival j n t s).world k m q p
      → (settle_from (choice o) arrival (j + 1) n t s).world
      ≡ arrival (settle_from (choice o) arrival j n t s).world k m q p
      → ServedAt o n t s j p

-- ---- what each arrival keeps: the turn is that of a process, or of the one after the last; the state is sound
abbrev pub InTurn : ℕ → State → Type 0
InTurn t s = (t ≤ s size) × Sound s

size_kept : (s : State) (k m q p : ℕ) → arrival s k m q p size ≡ s size
size_kept s k m q p = ap (λ (v : Ground). v.size) (arrival_ground s k m q p)

sound_kept : (s : State) (k m q p : ℕ) → Arrives s k m q p → Sound s → Sound (arrival s k m q p)
unfolding step
sound_kept s k m q p a h = step_sound s (arrives k m q p) (moves_taken s k m q p a) h

pub in_turn_kept : (o : Manner) (t : ℕ) (s : State) (k m q p : ℕ) → choice o t s ≡ letter k m q p → InTurn t s
    → InTurn (p + 1) (arrival s k m q p)
in_turn_kept o t s k m q p e h =
    let a = choice_moves o t s k m q p e in
    (omega (arith, a.letter.to, size_kept s k m q p), sound_kept s k m q p a h.1)

-- ---- a letter is in flight to p, which is up
pub data WaitsFor (s : State) (p : ℕ) : Type 0 where
  waits_for : (k m q : ℕ) → Arrives s k m q p → WaitsFor s p

has_one : {s : State} {p : ℕ} → WaitsFor s p → has_letter s p ≡ true
has_one {s} {p} (waits_for k m q a) = arrives_has s k m q p a

-- so the choice names a letter
some_named : {s : State} {p : ℕ} → WaitsFor s p → ¬ Chosen s nothing
some_named {s} {p} (waits_for k m q a) c =
    let l = a.letter in
    clash l.flies (none_flies s c k m q p l.kind l.message l.from l.to a.live)

-- an arrival elsewhere leaves it in flight
still_waits : (s : State) (k m q r p : ℕ) → Sound s → r ≢ p → WaitsFor s p → WaitsFor (arrival s k m q r) p
still_waits s k m q r p h n (waits_for j x o a) =
    let l = a.letter in
    let g = arrival_ground s k m q r in
    waits_for j x o (record {
      letter = record {
        kind = l.kind;
        message = omega (arith, l.message, ap (λ (v : Ground). v.messages.total) g);
        from = omega (arith, l.from, ap (λ (v : Ground). v.size) g);
        to = omega (arith, l.to, ap (λ (v : Ground). v.size) g);
        flies = flies_on s k m q r x j o p l.to (sound_letter s h j x o p l) n l.flies;
      };
      live = ap (λ (v : Ground). v.up p) g ∙ a.live;
    })

-- ---- fewer than j processes of n are tried before p, from t on
abbrev Before : ℕ → ℕ → ℕ → ℕ → Type 0
Before n t p j = (t ≤ p → p < t + j) × (p < t → n + p < t + j)

-- after an arrival at another process, whose turn it was, one fewer is
before_falls : (s : State) (t r p j : ℕ) → t ≤ s size → p < s size → has_letter s p ≡ true → r ≢ p → Turn s t r
    → Before (s size) t p (suc j) → Before (s size) (r + 1) p j
before_falls s t r p j ht hp a n (ahead l hr e none) (near, far) = (
  (λ h. elim (le_or_lt t p) [
    | inl x ↦ let y = near x in omega arith
    | inr x ↦ absurd (omega arith)
  ]),
  (λ h. elim (le_or_lt t p) [
    | inl x ↦ clash a (none p x (omega arith))
    | inr x ↦ let y = far x in omega arith
  ]),
)
before_falls s t r p j ht hp a n (around hr e none first) (near, far) =
    elim (le_or_lt t p) [
      | inl x ↦ clash a (none p x hp)
      | inr x ↦
          let y = far x in (
            (λ h. omega arith),
            (λ h. clash a (first p (omega arith))),
          )
    ]
before_falls s t r p j ht hp a n (nobody l none) d = clash a (none p hp)

-- ---- one of the next j arrivals is at p, if fewer than j processes are tried before p
pub data ServedWithin (n t : ℕ) (s : State) (j p : ℕ) : Type 0 where
  served_within : (i : ℕ) → i < j → ServedAt by_turns n t s i p → ServedWithin n t s j p

-- at once
served_first : (n t : ℕ) (s : State) (k m q p : ℕ) → fair t s ≡ letter k m q p → ServedAt by_turns n t s 0 p
served_first n t s k m q p e =
    let z = (none_made (choice by_turns) arrival n t s).0 in
    served_at k m q (rw z (choice_moves by_turns t s k m q p e))
    (ap (λ (u : Settled State). u.world) (one_more (choice by_turns) arrival 1 0 n t s k m q p refl e)
    ∙ (none_made (choice by_turns) arrival (n + 1) (p + 1) (arrival s k m q p)).0
    ∙ ap (λ (u : State). arrival u k m q p) (sym z))

-- after an arrival elsewhere
served_later : (n t : ℕ) (s : State) (k m q r p : ℕ) → fair t s ≡ letter k m q r → (i : ℕ)
    → ServedAt by_turns (n + 1) (r + 1) (arrival s k m q r) i p
    → ServedAt by_turns n t s (i + 1) p
served_later n t s k m q r p e i (served_at j x o a h) =
    let f = ap (λ (u : Settled State). u.world)
    (one_more (choice by_turns) arrival (i + 1) i n t s k m q r (omega arith) e) in
    served_at j x o (rw f a)
    (ap (λ (u : Settled State). u.world)
    (one_more (choice by_turns) arrival (i + 1 + 1) (i + 1) n t s k m q r (omega arith) e)
    ∙ h ∙ ap (λ (u : State). arrival u j x o p) (sym f))

within : (j n t : ℕ) (s : State) (p : ℕ) → InTurn t s → WaitsFor s p → p < s size → Before (s size) t p j
    → ServedWithin n t s j p
within zero n t s p h w hp d = elim (le_or_lt t p) [
  | inl x ↦ let y = d.0 x in absurd (omega arith)
  | inr x ↦ let y = d.1 x in absurd (omega arith)
]
within (suc j) n t s p h w hp d =
    go (fair t s) refl (λ k m q r. within j (n + 1) (r + 1) (arrival s k m q r) p)
  where
    lift : (k m q r : ℕ) → fair t s ≡ letter k m q r → ServedWithin (n + 1) (r + 1) (arrival s k m q r) j p
        → ServedWithin n t s (suc j) p
    lift k m q r e (served_within i l x) = served_within (i + 1) (omega arith) (served_later n t s k m q r p e i x)

    go : (c : Choice) → fair t s ≡ c
        → ((k m q r : ℕ) → InTurn (r + 1) (arrival s k m q r) → WaitsFor (arrival s k m q r) p
        → p < arrival s k m q r size → Before (arrival s k m q r size) (r + 1) p j
        → ServedWithin (n + 1) (r + 1) (arrival s k m q r) j p)
        → ServedWithin n t s (suc j) p
    go nothing e ih = absurd (some_named w (subst (Chosen s) e (fair_chosen t s)))
    go (letter k m q r) e ih = elim (ℕ_discrete r p) [
      | yes x ↦ served_within 0 (omega arith) (rw x at (served_first n t s k m q r e))
      | no x ↦
          let z = size_kept s k m q r in
          lift k m q r e
          (ih k m q r (in_turn_kept by_turns t s k m q r e h) (still_waits s k m q r p h.1 x w) (omega arith)
          (rw z (before_falls s t r p j h.0 hp (has_one w) x (fair_turn t s k m q r e) d)))
    ]

-- ---- no machine starves: after i arrivals of a call, while a letter waits for p, one of the next n is at p
pub data ServedSoon (s : State) (i n p : ℕ) : Type 0 where
  served_soon : (j : ℕ) → i ≤ j → j < i + n → ServedAt by_turns 0 0 s j p → ServedSoon s i n p

pub starves_none : (s : State) (i p : ℕ) → Sound s → WaitsFor (settle by_turns s i).world p
    → ServedSoon s i (s size) p
unfolding settle
starves_none s i p h w = go (point (choice by_turns) arrival InTurn (in_turn_kept by_turns) i 0 0 s (omega arith, h))
  where
    -- the state then
    W : State
    W = (settle_from (choice by_turns) arrival i 0 0 s).world

    same_size : (settle_from (choice by_turns) arrival i 0 0 s).world size ≡ s size
    same_size =
        settle_keeps (choice by_turns) arrival (λ u. u size ≡ s size) (λ x u k m q r _ e. size_kept u k m q r ∙ e) i 0 0
        s refl

    inside : {u : State} → WaitsFor u p → p < u size
    inside (waits_for k m q a) = a.letter.to

    -- what follows, as a part of the call
    part : (x : ℕ)
        → ((a b : ℕ) → a ≡ i + b
        → settle_from (choice by_turns) arrival a 0 0 s
        ≡ settle_from (choice by_turns) arrival b (0 + i) x (settle_from (choice by_turns) arrival i 0 0 s).world)
        → ServedWithin (0 + i) x (settle_from (choice by_turns) arrival i 0 0 s).world
        ((settle_from (choice by_turns) arrival i 0 0 s).world size) p
        → ServedSoon s i (s size) p
    part x same (served_within j l (served_at k m q a e)) =
        let f = ap (λ (u : Settled State). u.world) (same (i + j) j refl) in
        served_soon (i + j) (omega arith) (omega (arith, same_size))
        (served_at k m q (rw f a)
        (ap (λ (u : Settled State). u.world) (same (i + j + 1) (j + 1) (omega arith)) ∙ e
        ∙ ap (λ (u : State). arrival u k m q p) (sym f)))

    go : Point (choice by_turns) arrival InTurn (in_turn_kept by_turns) i 0 0 s → ServedSoon s i (s size) p
    go (ended j l same d) =
        let u : Settled State = settle_from (choice by_turns) arrival i 0 0 s in
        let e = ap (λ (v : Settled State). v.ending) (same i (omega arith)) ∙ d in
        let z =
        subst (Says (0 + i) (λ x. fair x u.world)) e (settle_says (choice by_turns) arrival i 0 0 s) in
        absurd (some_named w (subst (Chosen u.world) z.1 (fair_chosen z.0 u.world)))
    go (goes x hx same) =
        part x same (within (W size) (0 + i) x W p hx w (inside w) ((λ _. omega (arith, inside w)), (λ l. omega arith)))
