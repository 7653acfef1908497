-- Settle by the index: where the search goes on after an arrival that tells a place below which it sent no letter.
-- Assumes nothing.
use Rattle.std.specs.Prelude.{◌≡◌, true, false, List, ◌≢◌, ◌⊎◌, ℕ, ◌+◌, ◌*◌, ◌/◌, ◌≤◌, ◌<◌, eqb, ltb}
use Rattle.std.proofs.Math.Path.{refl}
use Rattle.std.proofs.Common.{sym, ◌∙◌, subst, inl, inr, ltb-true, ltb-false}
use Rattle.std.proofs.Math.Bool.{Bool}
use native.Mathlib.Omega.{arith}
use Rattle.definitions.specs.General.{pick, with, without}
use Rattle.base.specs.Tests.{le_or_lt}
use Rattle.arrivals.specs.Arrival.{Silent, marked_of}
use Rattle.letters.specs.Places.{Before, Passed, lowest_before, sizes, counts, still_up, unmoved}
use Rattle.letters.specs.declared.Place.{Place}
use Rattle.settling.specs.Settling.{Going, arrive_words, arrived_sound, rested_on}
use Rattle.world.specs.Layout.{get_encode, put_other, Within}
use Rattle.definitions.specs.Machine.{leave, mark, arrival}
use Rattle.definitions.specs.Settle.{letter, lowest, any, moves}
use Rattle.world.specs.SoundLaws.{Sound, size_high, count_high}
use Rattle.world.specs.StepLaws.{InFlight, lowest_moves}
use Rattle.definitions.specs.World.{Cell, size, count, marks, flight, State, put, view}

-- The place where the search goes on: where the letter stood, or at the message of the place told, if that is before.
unfoldable pub next_at : ℕ → ℕ → ℕ → ℕ → Place
next_at k m q r =
    pick (ltb r (m * 48 + k * 16 + q)) (record { message = r / 48; kind = 0; origin = 0 })
    (record { message = m; kind = k; origin = q })

module _ (s t : State) (k m q p r : ℕ) (h : Sound s) (e : lowest any s ≡ letter k m q p)
    (same : (c : Cell) → Within c → t c ≡ arrival s k m q p c) (silent : Silent (marked_of s k m q p) t r) where
  abbrev place : Place
  place = record { message = m; kind = k; origin = q }

  moving : InFlight s k m q p
  moving = (lowest_moves s k m q p e).letter

  sized : t size ≡ s size
  sized = sizes s t k m q p h same

  counted : t count ≡ s count
  counted = counts s t k m q p h same

  letters_of_mark : (x j o : ℕ) → x * 48 + j * 16 + o < m * 48 + k * 16 + q
      → marked_of s k m q p (flight x j o) ≡ s (flight x j o)
  unfolding leave mark put
  letters_of_mark x j o b = choose (eqb k 2)
    where
      other : flight m k q ≢ flight x j o
      other d =
          let em : m ≡ x = cc in
          let ek : k ≡ j = cc in
          let eq : q ≡ o = cc in
          omega arith

      left : State
      left = put s (flight m k q) (without (s (flight m k q)) p)

      choose : (b : Bool) → pick b (put left (marks p m) (with (left (marks p m)) q)) left (flight x j o) ≡ s (flight x j o)
      choose true = put_other s (flight m k q) (flight x j o) _ other
      choose false = put_other s (flight m k q) (flight x j o) _ other

  -- before it, and before the place told
  stands : (x j o y : ℕ) → x < 64 → j < 3 → o < s size → y < s size → x * 48 + j * 16 + o < m * 48 + k * 16 + q
      → x * 48 + j * 16 + o < r → moves t x j o y ≡ false
  stands x j o y hx hj ho hy a b =
      let few = size_high s h in
      let q16 = moving.from in
      let k3 = moving.kind in
      unmoved s t k m q p h same x j o y (omega arith)
      (silent x j o hx hj (omega arith) b ∙ letters_of_mark x j o a)
      (lowest_before s k m q p e x j o y before hj ho hy)
    where
      before : Before x j o place
      before = go (le_or_lt m x) (le_or_lt k j)
        where
          go : (m ≤ x) ⊎ (x < m) → (k ≤ j) ⊎ (j < k) → Before x j o place
          go (inr l) c = inl l
          go (inl l) (inr c) =
              let few = size_high s h in let k3 = moving.kind in let q16 = moving.from in
              inr (omega arith, inl c)
          go (inl l) (inl c) =
              let few = size_high s h in let k3 = moving.kind in let q16 = moving.from in
              inr (omega arith, inr (omega arith, omega arith))

  pub passed_next : Passed t (next_at k m q r)
  unfolding next_at
  passed_next = go (ltb r (m * 48 + k * 16 + q)) refl
    where
      at_if : Bool → Place
      at_if c = pick c (record { message = r / 48; kind = 0; origin = 0 }) (record { message = m; kind = k; origin = q })

      go : (c : Bool) → ltb r (m * 48 + k * 16 + q) ≡ c → Passed t (at_if c)
      go true c =
          let l = ltb-true r (m * 48 + k * 16 + q) c in
          let few = size_high s h in let k3 = moving.kind in let q16 = moving.from in
          record {
            messages = omega (arith, moving.message, counted);
            low = omega (arith, moving.message, count_high s h);
            kinds = omega arith;
            origins = omega arith;
            none = λ x j o y b hj ho hy. elim b [
              | inl z ↦ stands x j o y (omega (arith, moving.message, count_high s h)) hj (omega (arith, sized))
                  (omega (arith, sized)) (omega (arith, sized)) (omega (arith, sized))
              | inr z ↦ elim z.1 [ inl v ↦ absurd (omega arith) | inr v ↦ let v1 = v.1 in absurd (omega arith) ]
            ];
          }
      go false c =
          let l = ltb-false r (m * 48 + k * 16 + q) c in
          let few = size_high s h in let k3 = moving.kind in let q16 = moving.from in
          record {
            messages = omega (arith, moving.message, counted);
            low = omega (arith, moving.message, count_high s h);
            kinds = moving.kind;
            origins = omega (arith, moving.from, sized);
            none = λ x j o y b hj ho hy.
                let a : x * 48 + j * 16 + o < m * 48 + k * 16 + q = elim b [
                  | inl z ↦ omega (arith, sized)
                  | inr z ↦ elim z.1 [
                    | inl v ↦ let z0 = z.0 in omega (arith, sized)
                    | inr v ↦ let z0 = z.0 in let v0 = v.0 in let v1 = v.1 in omega arith
                  ]
                ] in
                stands x j o y (omega (arith, moving.message, count_high s h)) hj (omega (arith, sized)) (omega (arith, sized)) a
                (omega arith);
          }

-- ---- what the loop of settle keeps, through an arrival
pub going_next : {w u : List ℕ} {k m q p live mask mask' r : ℕ} {at at' : Place} → Going w live mask at
    → lowest any (view w) ≡ letter k m q p → u ≡ arrive_words w k m q p → Silent (marked_of (view w) k m q p) (view u) r
    → mask' ≡ with mask p → at' ≡ next_at k m q r → Going u live mask' at'
going_next {w} {u} {k} {m} {q} {p} {live} {mask} {mask'} {r} {at} {at'} g e eu silent em ea =
    let t : State = arrival (view w) k m q p in
    let v : List ℕ = arrive_words w k m q p in
    let z : Silent (marked_of (view w) k m q p) (view v) r =
    subst (λ (y : List ℕ). Silent (marked_of (view w) k m q p) (view y) r) eu silent in
    let on : Going v live (with mask p) (next_at k m q r) =
    record {
      sound = arrived_sound w k m q p g.sound (lowest_moves (view w) k m q p e);
      ups = still_up (view w) (view v) k m q p g.sound.reads (get_encode t) live g.ups;
      rested = rested_on w k m q p g.sound (lowest_moves (view w) k m q p e) mask g.rested;
      passed = passed_next (view w) (view v) k m q p r g.sound.reads e (get_encode t) z;
    } in
    subst (Going u live mask') (sym ea)
    (subst (λ (y : ℕ). Going u live y (next_at k m q r)) (sym em)
    (subst (λ (y : List ℕ). Going y live (with mask p) (next_at k m q r)) (sym eu) on))
