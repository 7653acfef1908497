-- The letters that can move, and those of them that have joined the queues so far: of one message below a place, of the
-- messages below one, the answers and OKs of a process. Assumes nothing.
use Rattle.std.specs.Prelude.{◌≡◌, Bool, true, false, ◌&&◌, ◌||◌, ◌≢◌, ◌⊎◌, ℕ, ◌+◌, ◌*◌, ◌/◌, ◌%◌, ◌≤◌, ◌<◌, ltb, eqb}
use Rattle.std.proofs.Common.{sym, ap, ap₂, ◌∙◌, inl, inr, arith, lt-ltb, le-ltb, ltb-true, eq-eqb, eqb-true}
use Rattle.std.proofs.Math.Decide.{ℕ_discrete}
use Rattle.definitions.specs.General.{bit, without}
use Rattle.definitions.specs.World.{size, count, State}
use Rattle.definitions.specs.Steps.{is_up, in_flight}
use Rattle.definitions.specs.Settle.{moves}
use Rattle.base.specs.Tests.{same, both, either, both_l, both_r, both_i, clash, either_e, either_l, either_r, le_or_lt}
use Rattle.base.specs.Bits.{bit_zero, without_old, without_other}
use Rattle.world.specs.SoundLaws.{Sound, letter_facts, origin_low}
use Rattle.letters.specs.Search.{waiting, waiting_bit, waiting_above}
use Rattle.queues.specs.Queues.{Places, noted}

-- The letter of message x at a place can move to r, in s.
abbrev pub lettered : State → Places
lettered s x j r = bit (waiting s x (j / 16) (j % 16)) r

-- in a sound state such a letter is one of its messages, between its processes
pub letter_is : (s : State) → Sound s → (x j r : ℕ) → x < 64 → j < 48 → r < 16 → lettered s x j r ≡ true
    → (x < s count) × (j % 16 < s size) × (r < s size) × (moves s x (j / 16) (j % 16) r ≡ true)
unfolding moves
letter_is s h x j r hx hj hr e = go (le_or_lt (s size) r)
  where
    go : (s size ≤ r) ⊎ (r < s size)
        → (x < s count) × (j % 16 < s size) × (r < s size) × (moves s x (j / 16) (j % 16) r ≡ true)
    go (inl l) = clash e (waiting_above s x (j / 16) (j % 16) r l)
    go (inr l) =
        let m = sym (waiting_bit s x (j / 16) (j % 16) r l) ∙ e in
        let f =
        letter_facts s h (j / 16) x (j % 16) r (omega arith) hx (omega arith) hr
        (both_l (in_flight s (j / 16) x (j % 16) r) (is_up s r) m) in
        (ltb-true x (s count) f.of, origin_low s h (j / 16) x (j % 16) r f, l, m)

-- ---- letters noted from a state s: of one message below a place; the answers and OKs of p, for one message and for a set
abbrev pub gathered : Places → State → ℕ → ℕ → Places
gathered f s m n x j r = f x j r || (eqb m x && (ltb j n && lettered s x j r))

-- a place of an answer or an OK from p
abbrev pub from_p : ℕ → ℕ → Bool
from_p p j = ltb 15 j && eqb (j % 16) p

abbrev pub told : Places → State → ℕ → ℕ → Places
told f s p m x j r = f x j r || (from_p p j && (eqb m x && lettered s x j r))

abbrev pub all_told : Places → State → ℕ → ℕ → Places
all_told f s p set x j r = f x j r || (from_p p j && (bit set x && lettered s x j r))

-- what is true of such a test
pub or_and : (b c d y : Bool) → either b (both c (both d y)) ≡ true → (b ≡ true) ⊎ ((c ≡ true) × (d ≡ true) × (y ≡ true))
or_and b c d y e = elim (either_e b (both c (both d y)) e) [
  | inl z ↦ inl z
  | inr z ↦ let v = both_r c (both d y) z in inr (both_l c (both d y) z, both_l d y v, both_r d y v)
]

pub and_in : (b c d y : Bool) → c ≡ true → d ≡ true → y ≡ true → either b (both c (both d y)) ≡ true
and_in b c d y ec ed ey = either_r b (both c (both d y)) (both_i c (both d y) ec (both_i d y ed ey))

-- nothing below place 0
pub gathered_none : (f : Places) (s : State) (m x j r : ℕ) → f x j r ≡ gathered f s m 0 x j r
gathered_none f s m x j r =
    same (f x j r) (gathered f s m 0 x j r) (either_l (f x j r) _)
    (λ e. elim (or_and (f x j r) (eqb m x) (ltb j 0) (lettered s x j r) e) [
      | inl z ↦ z
      | inr z ↦ clash z.1 (le-ltb j 0 (omega arith))
    ])

-- a place more
pub gathered_more : (f : Places) (s : State) (m i mask x j r : ℕ) → mask ≡ waiting s m (i / 16) (i % 16)
    → noted (gathered f s m i) m i mask x j r ≡ gathered f s m (i + 1) x j r
gathered_more f s m i mask x j r e =
    same (noted (gathered f s m i) m i mask x j r) (gathered f s m (i + 1) x j r)
    (λ z. elim (or_and (gathered f s m i x j r) (eqb m x) (eqb i j) (bit mask r) z) [
      | inl y ↦ elim (or_and (f x j r) (eqb m x) (ltb j i) (lettered s x j r) y) [
        | inl v ↦ either_l (f x j r) _ v
        | inr v ↦
            and_in (f x j r) (eqb m x) (ltb j (i + 1)) (lettered s x j r) v.0
            (lt-ltb j (i + 1) (omega (arith, ltb-true j i v.1))) v.2
      ]
      | inr y ↦
          let em = eqb-true m x y.0 in
          let ei = eqb-true i j y.1 in
          and_in (f x j r) (eqb m x) (ltb j (i + 1)) (lettered s x j r) y.0 (lt-ltb j (i + 1) (omega arith))
          (sym (rw (em, ei) at (ap (λ (n : ℕ). bit n r) e)) ∙ y.2)
    ])
    (λ z. elim (or_and (f x j r) (eqb m x) (ltb j (i + 1)) (lettered s x j r) z) [
      | inl v ↦ either_l (gathered f s m i x j r) _ (either_l (f x j r) _ v)
      | inr v ↦ elim (ℕ_discrete i j) [
        | yes d ↦
            let em = eqb-true m x v.0 in
            and_in (gathered f s m i x j r) (eqb m x) (eqb i j) (bit mask r) v.0 (eq-eqb i j d)
            ((rw (em, d) at (ap (λ (n : ℕ). bit n r) e)) ∙ v.2)
        | no d ↦
            either_l (gathered f s m i x j r) _
            (and_in (f x j r) (eqb m x) (ltb j i) (lettered s x j r) v.0
            (lt-ltb j i (let l = ltb-true j (i + 1) v.1 in below i j d l)) v.2)
      ]
    ])
  where
    below : (i j : ℕ) → i ≢ j → j < i + 1 → j < i
    below i j d l = elim (le_or_lt i j) [ inl z ↦ absurd (d (omega arith)) | inr z ↦ z ]

-- ---- of the messages below n
abbrev pub below : State → ℕ → Places
below s n x j r = ltb x n && lettered s x j r

pub below_none : (s : State) (x j r : ℕ) → false ≡ below s 0 x j r
below_none s x j r = sym (ap (λ (b : Bool). both b (lettered s x j r)) (le-ltb x 0 (omega arith)))

-- a message more
pub below_more : (s : State) (m x j r : ℕ) → j < 48 → gathered (below s m) s m 48 x j r ≡ below s (m + 1) x j r
below_more s m x j r hj =
    same (gathered (below s m) s m 48 x j r) (below s (m + 1) x j r)
    (λ z. elim (or_and (below s m x j r) (eqb m x) (ltb j 48) (lettered s x j r) z) [
      | inl y ↦
          let l = ltb-true x m (both_l (ltb x m) (lettered s x j r) y) in
          both_i (ltb x (m + 1)) (lettered s x j r) (lt-ltb x (m + 1) (omega arith)) (both_r (ltb x m) (lettered s x j r) y)
      | inr y ↦
          let e = eqb-true m x y.0 in
          both_i (ltb x (m + 1)) (lettered s x j r) (lt-ltb x (m + 1) (omega arith)) y.2
    ])
    (λ z.
    let l = ltb-true x (m + 1) (both_l (ltb x (m + 1)) (lettered s x j r) z) in
    let y = both_r (ltb x (m + 1)) (lettered s x j r) z in
    elim (le_or_lt m x) [
      | inl d ↦ and_in (below s m x j r) (eqb m x) (ltb j 48) (lettered s x j r) (eq-eqb m x (omega arith)) (lt-ltb j 48 hj) y
      | inr d ↦ either_l (below s m x j r) _ (both_i (ltb x m) (lettered s x j r) (lt-ltb x m d) y)
    ])

-- in a sound state there are no others
pub below_all : (s : State) → Sound s → (x j r : ℕ) → x < 64 → j < 48 → r < 16 → below s (s count) x j r ≡ lettered s x j r
below_all s h x j r hx hj hr =
    same (below s (s count) x j r) (lettered s x j r) (both_r (ltb x (s count)) (lettered s x j r))
    (λ e. both_i (ltb x (s count)) (lettered s x j r) (lt-ltb x (s count) (letter_is s h x j r hx hj hr e).0) e)

-- ---- the answers and OKs of a message, noted at two places
-- which these are
two_places : (p j : ℕ) → j < 48 → from_p p j ≡ true → (16 + p ≡ j) ⊎ (32 + p ≡ j)
two_places p j hj e =
    let l = ltb-true 15 j (both_l (ltb 15 j) (eqb (j % 16) p) e) in
    let d = eqb-true (j % 16) p (both_r (ltb 15 j) (eqb (j % 16) p) e) in
    elim (le_or_lt 32 j) [ inl z ↦ inr (omega arith) | inr z ↦ inl (omega arith) ]

at_place : (k p j : ℕ) → 0 < k → p < 16 → k * 16 + p ≡ j → from_p p j ≡ true
at_place k p j hk hp e =
    both_i (ltb 15 j) (eqb (j % 16) p) (lt-ltb 15 j (omega arith)) (eq-eqb (j % 16) p (omega arith))

-- the letters of kind k
mask_is : (s : State) (k m p x j r mask : ℕ) → p < 16 → mask ≡ waiting s m k p → m ≡ x → k * 16 + p ≡ j
    → lettered s x j r ≡ bit mask r
mask_is s k m p x j r mask hp e em ej =
    let e₁ : j / 16 ≡ k = omega arith in
    let e₂ : j % 16 ≡ p = omega arith in
    ap₂ (λ (a b : ℕ). bit (waiting s x a b) r) e₁ e₂ ∙ ap (λ (y : ℕ). bit (waiting s y k p) r) (sym em)
    ∙ ap (λ (n : ℕ). bit n r) (sym e)

pub told_here : (f : Places) (s : State) (p m a b x j r : ℕ) → p < 16 → j < 48 → a ≡ waiting s m 1 p → b ≡ waiting s m 2 p
    → noted (noted f m (16 + p) a) m (32 + p) b x j r ≡ told f s p m x j r
told_here f s p m a b x j r hp hj ea eb =
    same (noted g m (32 + p) b x j r) (told f s p m x j r)
    (λ z. elim (or_and (g x j r) (eqb m x) (eqb (32 + p) j) (bit b r) z) [
      | inl y ↦ elim (or_and (f x j r) (eqb m x) (eqb (16 + p) j) (bit a r) y) [
        | inl v ↦ either_l (f x j r) _ v
        | inr v ↦ here 1 a ea (omega arith) v.0 (eqb-true (16 + p) j v.1) v.2
      ]
      | inr y ↦ here 2 b eb (omega arith) y.0 (eqb-true (32 + p) j y.1) y.2
    ])
    (λ z. elim (or_and (f x j r) (from_p p j) (eqb m x) (lettered s x j r) z) [
      | inl v ↦ either_l (g x j r) _ (either_l (f x j r) _ v)
      | inr v ↦
          let em = eqb-true m x v.1 in
          elim (two_places p j hj v.0) [
            | inl d ↦
                either_l (g x j r) _
                (and_in (f x j r) (eqb m x) (eqb (16 + p) j) (bit a r) v.1 (eq-eqb (16 + p) j d)
                (sym (mask_is s 1 m p x j r a hp ea em (omega arith)) ∙ v.2))
            | inr d ↦
                and_in (g x j r) (eqb m x) (eqb (32 + p) j) (bit b r) v.1 (eq-eqb (32 + p) j d)
                (sym (mask_is s 2 m p x j r b hp eb em (omega arith)) ∙ v.2)
          ]
    ])
  where
    g : Places
    g = noted f m (16 + p) a

    here : (k mask : ℕ) → mask ≡ waiting s m k p → 0 < k → eqb m x ≡ true → k * 16 + p ≡ j → bit mask r ≡ true
        → told f s p m x j r ≡ true
    here k mask e hk em ej z =
        and_in (f x j r) (from_p p j) (eqb m x) (lettered s x j r) (at_place k p j hk hp ej) em
        (mask_is s k m p x j r mask hp e (eqb-true m x em) ej ∙ z)

-- a message after the other
pub told_none : (f : Places) (s : State) (p x j r : ℕ) → all_told f s p 0 x j r ≡ f x j r
told_none f s p x j r =
    same (all_told f s p 0 x j r) (f x j r)
    (λ e. elim (or_and (f x j r) (from_p p j) (bit 0 x) (lettered s x j r) e) [
      | inl z ↦ z
      | inr z ↦ clash z.1 (bit_zero x)
    ])
    (either_l (f x j r) _)

pub told_one : (f : Places) (s : State) (p m set x j r : ℕ) → bit set m ≡ true
    → all_told (told f s p m) s p (without set m) x j r ≡ all_told f s p set x j r
told_one f s p m set x j r hm =
    same (all_told (told f s p m) s p (without set m) x j r) (all_told f s p set x j r)
    (λ z. elim (or_and (told f s p m x j r) (from_p p j) (bit (without set m) x) (lettered s x j r) z) [
      | inl y ↦ elim (or_and (f x j r) (from_p p j) (eqb m x) (lettered s x j r) y) [
        | inl v ↦ either_l (f x j r) _ v
        | inr v ↦
            and_in (f x j r) (from_p p j) (bit set x) (lettered s x j r) v.0
            (ap (bit set) (sym (eqb-true m x v.1)) ∙ hm) v.2
      ]
      | inr y ↦
          and_in (f x j r) (from_p p j) (bit set x) (lettered s x j r) y.0 (without_old set m x y.1) y.2
    ])
    (λ z. elim (or_and (f x j r) (from_p p j) (bit set x) (lettered s x j r) z) [
      | inl v ↦ either_l (told f s p m x j r) _ (either_l (f x j r) _ v)
      | inr v ↦ elim (ℕ_discrete m x) [
        | yes d ↦
            either_l (told f s p m x j r) _
            (and_in (f x j r) (from_p p j) (eqb m x) (lettered s x j r) v.0 (eq-eqb m x d) v.2)
        | no d ↦
            and_in (told f s p m x j r) (from_p p j) (bit (without set m) x) (lettered s x j r) v.0
            (without_other set m x d ∙ v.1) v.2
      ]
    ])
