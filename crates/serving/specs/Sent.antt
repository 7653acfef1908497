-- What an arrival does to the letters that can move: one has left, and what was sent is an answer or an OK, of the messages
-- told (Posts). Noted from the words after it, that is all of them. Assumes nothing.
use Rattle.std.specs.Prelude.{◌≡◌, refl, true, false, not, ◌≢◌, ◌⊎◌, ℕ, ◌+◌, ◌*◌, ◌/◌, ◌%◌, ◌<◌, ltb, eqb}
use Rattle.std.proofs.Common.{sym, ap, ap₂, ◌∙◌, inl, inr, arith, lt-ltb, eq-eqb, eqb-true}
use Rattle.std.specs.Int.Bits.{bit_and}
use Rattle.definitions.specs.General.{bit, mask_of}
use Rattle.definitions.specs.World.{Cell, size, flight, State, put}
use Rattle.definitions.specs.Machine.{leave, arrival}
use Rattle.definitions.specs.Steps.{is_up}
use Rattle.base.specs.Tests.{same, both, both_l, both_r, both_i, bool_cases, clash, either_l, le_or_lt}
use Rattle.base.specs.Bits.{bit_of_and, without_hit}
use Rattle.world.specs.Layout.{put_same, Within}
use Rattle.world.specs.Kept.{marked_keeps}
use Rattle.world.specs.SoundLaws.{Sound}
use Rattle.effects.specs.Arrival.{Fly, leave_cases, leave_less, marked_flight}
use Rattle.effects.specs.Holding.{sound_letter}
use Rattle.effects.specs.Flying.{arrival_flies}
use Rattle.arrivals.specs.Arrival.{Posts, marked_of}
use Rattle.letters.specs.Places.{still_up}
use Rattle.letters.specs.Search.{waiting}
use Rattle.queues.specs.Queues.{Places, is_at, parted}
use Rattle.gathering.specs.Gathered.{lettered, letter_is, from_p, all_told, or_and, and_in, told_none}

-- ---- the letter that arrived has left
-- what can move depends on what is in flight, where the same processes are up
abbrev ups : State → ℕ
ups s = mask_of (s size) (is_up s)

flight_lettered : (s t : State) (x j r : ℕ) → ups t ≡ ups s → t (flight x (j / 16) (j % 16)) ≡ s (flight x (j / 16) (j % 16))
    → lettered t x j r ≡ lettered s x j r
unfolding waiting
flight_lettered s t x j r u e = ap₂ (λ (a b : ℕ). bit (bit_and a b) r) e u

lettered_is : (s : State) (x j r : ℕ) → lettered s x j r ≡ both (bit (s (flight x (j / 16) (j % 16))) r) (bit (ups s) r)
unfolding waiting
lettered_is s x j r = bit_of_and (s (flight x (j / 16) (j % 16))) (ups s) r

module _ (s : State) (k m q p : ℕ) (hk : k < 3) (hq : q < 16) where
  abbrev t : State
  t = marked_of s k m q p

  marked_ups : ups (marked_of s k m q p) ≡ ups s
  unfolding put
  marked_ups = marked_keeps s k m q p ups (λ _ _ _ _. refl) (λ _ _. refl)

  -- it is out of flight
  gone : ¬ Fly (leave s k m q p) m k q p
  unfolding leave
  gone f =
      clash f (ap (λ (n : ℕ). bit n p) (put_same s (flight m k q) (flight m k q) _ refl) ∙ without_hit (s (flight m k q)) p)

  -- in flight are all but that one
  pub parted_is : (x j r : ℕ) → j < 48
      → lettered (marked_of s k m q p) x j r ≡ parted (lettered s) m (k * 16 + q) p x j r
  parted_is x j r hj =
      same (lettered t x j r) (parted (lettered s) m (k * 16 + q) p x j r)
      (λ e.
      let z = sym (lettered_is t x j r) ∙ e in
      let f =
      sym (ap (λ (n : ℕ). bit n r) (marked_flight s k m q p x (j / 16) (j % 16)))
      ∙ both_l (bit (t (flight x (j / 16) (j % 16))) r) (bit (ups t) r) z in
      let u = ap (λ (n : ℕ). bit n r) (sym marked_ups) ∙ both_r (bit (t (flight x (j / 16) (j % 16))) r) (bit (ups t) r) z in
      both_i (lettered s x j r) (not (is_at m (k * 16 + q) p x j r))
      (lettered_is s x j r ∙ both_i _ _ (leave_less s k m q p x (j / 16) (j % 16) r f) u)
      (elim (bool_cases (is_at m (k * 16 + q) p x j r)) [
        | inr y ↦ ap not y
        | inl y ↦
            let v = both_r (eqb m x) (both (eqb (k * 16 + q) j) (eqb p r)) y in
            let em = eqb-true m x (both_l (eqb m x) (both (eqb (k * 16 + q) j) (eqb p r)) y) in
            let ej = eqb-true (k * 16 + q) j (both_l (eqb (k * 16 + q) j) (eqb p r) v) in
            let er = eqb-true p r (both_r (eqb (k * 16 + q) j) (eqb p r) v) in
            let e₁ : j / 16 ≡ k = omega arith in
            let e₂ : j % 16 ≡ q = omega arith in
            absurd (gone (rw (e₁, e₂, ← em, ← er) at f))
      ]))
      (λ e.
      let l = sym (lettered_is s x j r) ∙ both_l (lettered s x j r) (not (is_at m (k * 16 + q) p x j r)) e in
      let n = both_r (lettered s x j r) (not (is_at m (k * 16 + q) p x j r)) e in
      let f = both_l (bit (s (flight x (j / 16) (j % 16))) r) (bit (ups s) r) l in
      let u = both_r (bit (s (flight x (j / 16) (j % 16))) r) (bit (ups s) r) l in
      lettered_is t x j r
      ∙ both_i _ _
      (ap (λ (n : ℕ). bit n r) (marked_flight s k m q p x (j / 16) (j % 16))
      ∙ leave_cases s k m q p
      (λ y i o v. (y ≡ x) × (i ≡ j / 16) × (o ≡ j % 16) × (v ≡ r) → Fly (leave s k m q p) y i o v)
      (λ d. clash n (ap not (both_i (eqb m x) (both (eqb (k * 16 + q) j) (eqb p r)) (eq-eqb m x d.0)
      (both_i (eqb (k * 16 + q) j) (eqb p r)
      (let d₁ = d.1 in let d₂ = d.2 in eq-eqb (k * 16 + q) j (omega arith)) (eq-eqb p r d.3)))))
      (λ y i o v g _. g) x (j / 16) (j % 16) r f (refl, refl, refl, refl))
      (ap (λ (n : ℕ). bit n r) marked_ups ∙ u))

-- ---- the whole arrival
module _ (s t : State) (k m q p : ℕ) (h : Sound s) (hk : k < 3) (hq : q < 16)
    (same_cells : (c : Cell) → Within c → t c ≡ arrival s k m q p c) where
  arrived_ups : ups t ≡ ups s
  arrived_ups = sym (still_up s t k m q p h same_cells (ups s) refl)

  -- what stays in flight can move on
  moves_on : (x j r : ℕ) → x < 64 → j < 48 → r < 16 → parted (lettered s) m (k * 16 + q) p x j r ≡ true
      → lettered t x j r ≡ true
  moves_on x j r hx hj hr e =
      let l = both_l (lettered s x j r) (not (is_at m (k * 16 + q) p x j r)) e in
      let b = sym (lettered_is s x j r) ∙ l in
      let (hm, ho, hu, _) = letter_is s h x j r hx hj hr l in
      let z = sym (lettered_is (marked_of s k m q p) x j r) ∙ parted_is s k m q p hk hq x j r hj ∙ e in
      let f =
      sym (ap (λ (n : ℕ). bit n r) (marked_flight s k m q p x (j / 16) (j % 16)))
      ∙ both_l (bit (marked_of s k m q p (flight x (j / 16) (j % 16))) r) (bit (ups (marked_of s k m q p)) r) z in
      lettered_is t x j r
      ∙ both_i _ _
      (ap (λ (n : ℕ). bit n r) (same_cells (flight x (j / 16) (j % 16)) (hx, omega arith, omega arith))
      ∙ arrival_flies s k m q p x (j / 16) (j % 16) r hu
      (sound_letter s h (j / 16) x (j % 16) r (record {
        kind = omega arith;
        message = hm;
        from = ho;
        to = hu;
        flies = both_l (bit (s (flight x (j / 16) (j % 16))) r) (bit (ups s) r) b;
      })) f)
      (ap (λ (n : ℕ). bit n r) arrived_ups ∙ both_r (bit (s (flight x (j / 16) (j % 16))) r) (bit (ups s) r) b)

  -- with what was sent, these are all
  pub posted_lettered : (sent : ℕ) → Posts (marked_of s k m q p) t p sent → (x j r : ℕ) → x < 64 → j < 48 → r < 16
      → all_told (parted (lettered s) m (k * 16 + q) p) t p sent x j r ≡ lettered t x j r
  posted_lettered sent f x j r hx hj hr =
      same (all_told left t p sent x j r) (lettered t x j r)
      (λ e. elim (or_and (left x j r) (from_p p j) (bit sent x) (lettered t x j r) e) [
        | inl z ↦ moves_on x j r hx hj hr z
        | inr z ↦ z.2
      ])
      (λ e. elim (bool_cases (both (from_p p j) (bit sent x))) [
        | inl y ↦
            and_in (left x j r) (from_p p j) (bit sent x) (lettered t x j r) (both_l (from_p p j) (bit sent x) y)
            (both_r (from_p p j) (bit sent x) y) e
        | inr y ↦
            either_l (left x j r) _
            (sym (parted_is s k m q p hk hq x j r hj)
            ∙ sym (flight_lettered (marked_of s k m q p) t x j r (arrived_ups ∙ sym (marked_ups s k m q p hk hq))
            (f x (j / 16) (j % 16) hx (omega arith) (omega arith)
            (λ a b. none a b (bool_cases (bit sent x)) y))) ∙ e)
      ])
    where
      left : Places
      left = parted (lettered s) m (k * 16 + q) p

      none : j / 16 ≢ 0 → j % 16 ≡ p → (bit sent x ≡ true) ⊎ (bit sent x ≡ false)
          → both (from_p p j) (bit sent x) ≡ false → bit sent x ≡ false
      none a b (inr z) y = z
      none a b (inl z) y =
          clash (both_i (from_p p j) (bit sent x)
          (both_i (ltb 15 j) (eqb (j % 16) p) (lt-ltb 15 j (late a)) (eq-eqb (j % 16) p b)) z) y
        where
          late : j / 16 ≢ 0 → 15 < j
          late a = elim (le_or_lt j 15) [ inl z ↦ absurd (a (omega arith)) | inr z ↦ z ]

  -- where nothing was sent, they are all
  pub silent_lettered : Posts (marked_of s k m q p) t p 0 → (x j r : ℕ) → x < 64 → j < 48 → r < 16
      → parted (lettered s) m (k * 16 + q) p x j r ≡ lettered t x j r
  silent_lettered f x j r hx hj hr =
      sym (told_none (parted (lettered s) m (k * 16 + q) p) t p x j r) ∙ posted_lettered 0 f x j r hx hj hr
