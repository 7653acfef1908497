-- The potential is at most the sum of A + 2 × A × A over the messages, A addressees each, in a world where no
-- letter in flight may still be sent, as in every reached one: so at most 64 × (16 + 512) = 33,792. In any
-- sound world it is at most the sum of A + 4 × A × A. For first letters come from the sender only, relays and
-- OKs from addressees, and all go to addressees. Assumes nothing.
use Rattle.std.specs.Prelude.{◌≡◌, refl, Bool, not, ◌⊎◌, ℕ, zero, suc, ◌+◌, ◌*◌, ◌≤◌, ◌<◌, eqb}
use Rattle.std.proofs.Common.{ap, ◌∙◌, inl, inr, eqb-true, ne_eqb, lt-ltb}
use Rattle.std.proofs.Math.Bool.{true, false}
use native.Mathlib.Omega.{arith}
use Rattle.std.proofs.Math.Nat.{mul-le-mul}
use Rattle.definitions.specs.General.{pick, tally, bit, sum}
use Rattle.definitions.specs.World.{size, count, sender, flight, State, is_process, addressed}
use Rattle.definitions.specs.Sound.{sends}
use Rattle.base.specs.Tests.{bool_cases, clash, pick_le, both, both_l, both_r, both_i}
use Rattle.base.specs.Count.{tally_le, tally_zero, tally_cong}
use Rattle.base.specs.Sums.{sum_mono}
use Rattle.world.specs.SoundLaws.{Sound, size_high, count_high, letter_facts}
use Rattle.effects.specs.Arrival.{Fly}
use Rattle.effects.specs.Spent.{Spent}
use Rattle.bound.specs.Potential.{addressee_count, sent, owed, one, cost, from_one, of_kind, of_message, potential, one_no, sends_later, sent_if}

-- ---- sums
-- a number where a test passes
sum_passing : (n a : ℕ) (f : ℕ → Bool) → sum n (λ r. pick (f r) a 0) ≡ a * tally n f
unfolding sum tally
sum_passing zero a f = omega arith
sum_passing (suc n) a f = go (f n) (sum_passing n a f)
  where
    go : (b : Bool) → sum n (λ r. pick (f r) a 0) ≡ a * tally n f
        → sum n (λ r. pick (f r) a 0) + pick b a 0 ≡ a * pick b (suc (tally n f)) (tally n f)
    go true e = omega arith
    go false e = omega arith

-- and another test passes too
sum_both : (n a : ℕ) (b : Bool) (f : ℕ → Bool) → sum n (λ r. pick (both b (f r)) a 0) ≡ pick b (a * tally n f) 0
sum_both n a true f = sum_passing n a f
sum_both n a false f = omega (arith, sum_passing n 0 (λ r. true))

-- at most one number is x
tally_one : (n x : ℕ) → tally n (λ q. eqb q x) ≤ 1
unfolding tally
tally_one zero x = omega arith
tally_one (suc n) x = go (eqb n x) refl (tally_one n x)
  where
    go : (b : Bool) → eqb n x ≡ b → tally n (λ q. eqb q x) ≤ 1
        → pick b (suc (tally n (λ q. eqb q x))) (tally n (λ q. eqb q x)) ≤ 1
    go false e ih = ih
    go true e ih =
        let z = tally_zero n (λ q. eqb q x) (λ i l. ne_eqb i x (let d = eqb-true n x e in omega arith)) in
        omega arith

-- a number is at most itself
le_self : (n : ℕ) → n ≤ n
le_self n = omega arith

-- one is the most
one_most : (b : Bool) → one b ≤ 1
one_most b = pick_le b (omega arith) (omega arith)

-- ---- the letters of a message in a sound world
module _ (s : State) (h : Sound s) (m : ℕ) (hm : m < s count) where
  -- the letter of kind k from q to u is one that may be
  abbrev may : ℕ → ℕ → ℕ → Bool
  may k q u = both (sends s m k q) (addressed s m u)

  -- any other costs nothing
  no_cost : (k q u : ℕ) → k < 3 → q < s size → u < s size → may k q u ≡ false → cost s k m q u ≡ 0
  unfolding cost
  no_cost k q u hk hq hu z =
      omega (
        arith,
        one_no (fails flies (bool_cases (bit (s (flight m k q)) u))),
        one_no (fails (owes k hk) (bool_cases (owed s k m q u))),
      )
    where
      fails : {b : Bool} → (b ≡ true → may k q u ≡ true) → (b ≡ true) ⊎ (b ≡ false) → b ≡ false
      fails f (inl e) = clash (f e) z
      fails f (inr e) = e

      flies : bit (s (flight m k q)) u ≡ true → may k q u ≡ true
      flies e =
          let d = letter_facts s h k m q u hk (omega (arith, count_high s h)) (omega (arith, size_high s h))
          (omega (arith, size_high s h)) e in
          both_i (sends s m k q) (addressed s m u) d.from
          (both_r (is_process s u) (addressed s m u) d.to)

      owes : (j : ℕ) → j < 3 → owed s j m q u ≡ true → may j q u ≡ true
      owes zero l e = clash {b = false} e refl
      owes (suc j) l e =
          let d = both_r (not (sent s (suc j) m q)) (both (addressed s m q) (addressed s m u)) e in
          both_i (sends s m (suc j) q) (addressed s m u)
          (sends_later s m j q
          ∙ both_i (is_process s q) (addressed s m q) (lt-ltb q (s size) hq)
          (both_l (addressed s m q) (addressed s m u) d)) (both_r (addressed s m q) (addressed s m u) d)

  -- at most c each: so many of a kind
  module _ (k c : ℕ) (hk : k < 3)
      (few : (q u : ℕ) → q < s size → u < s size → cost s k m q u ≤ c) where
    -- from one origin
    from_few : (q : ℕ) → q < s size
        → from_one (s size) s m k q ≤ pick (sends s m k q) (c * addressee_count s m) 0
    from_few q hq =
        omega (
          arith,
          sum_mono (s size) (cost s k m q) (λ u. pick (may k q u) c 0) (λ u hu. each u hu (may k q u) refl),
          sum_both (s size) c (sends s m k q) (addressed s m),
        )
      where
        each : (u : ℕ) → u < s size → (b : Bool) → may k q u ≡ b → cost s k m q u ≤ pick b c 0
        each u hu true e = few q u hq hu
        each u hu false e = omega (arith, no_cost k q u hk hq hu e)

    -- from all of them
    kind_few : of_kind (s size) s m k ≤ c * addressee_count s m * tally (s size) (sends s m k)
    kind_few =
        omega (
          arith,
          sum_mono (s size) (from_one (s size) s m k)
              (λ q. pick (sends s m k q) (c * addressee_count s m) 0) from_few,
          sum_passing (s size) (c * addressee_count s m) (sends s m k),
        )

  -- first letters: A at most
  firsts : of_kind (s size) s m 0 ≤ addressee_count s m
  unfolding cost sends
  firsts =
      omega (
        arith,
        kind_few 0 1 (omega arith) (λ q u _ _. omega (arith, one_most (bit (s (flight m 0 q)) u))),
        mul-le-mul (le_self (addressee_count s m)) (tally_one (s size) (s (sender m))),
      )

  -- relays, and OKs: A × A times what each is worth at most
  laters : (j c : ℕ) → suc j < 3
      → ((q u : ℕ) → q < s size → u < s size → cost s (suc j) m q u ≤ c)
      → of_kind (s size) s m (suc j) ≤ c * (addressee_count s m * addressee_count s m)
  laters j c hj few =
      omega (
        arith,
        kind_few (suc j) c hj few,
        ap (λ (n : ℕ). c * addressee_count s m * n)
            (tally_cong (s size) (sends s m (suc j)) (addressed s m)
            (λ q l. sends_later s m j q ∙ rw (lt-ltb q (s size) l))),
      )

  -- all of them
  message_few : (c : ℕ) → ((k q u : ℕ) → q < s size → u < s size → cost s k m q u ≤ c)
      → of_message (s size) s m ≤ addressee_count s m + 2 * (c * (addressee_count s m * addressee_count s m))
  unfolding sum
  message_few c few =
      omega (arith, firsts, laters 0 c (omega arith) (few 1), laters 1 c (omega arith) (few 2))

-- ---- the bound of one message in a reached world
abbrev pub ceiling : ℕ → ℕ
ceiling a = a + 2 * (a * a)

-- the potential of a world in which what flies cannot be sent again: at most the sum of A + 2 × A × A
pub reached_potential : (s : State) → Sound s → ((k m q u : ℕ) → Fly s m k q u → Spent s k m q)
    → potential s ≤ sum (s count) (λ m. ceiling (addressee_count s m))
unfolding potential cost
reached_potential s h spent =
    sum_mono (s count) (of_message (s size) s) (λ m. ceiling (addressee_count s m))
    (λ m hm. omega (
      arith,
      message_few s h m hm 1 (λ k q u _ _. once k m q u (bool_cases (bit (s (flight m k q)) u))),
    ))
  where
    once : (k m q u : ℕ) → (bit (s (flight m k q)) u ≡ true) ⊎ (bit (s (flight m k q)) u ≡ false)
        → one (bit (s (flight m k q)) u) + one (owed s k m q u) ≤ 1
    once k m q u (inr e) = omega (arith, one_no e, one_most (owed s k m q u))
    once k m q u (inl e) =
        let gone : owed s k m q u ≡ false = rw (sent_if s k m q (spent k m q u e).1) in
        omega (arith, one_no gone, one_most (bit (s (flight m k q)) u))

-- of any sound world: at most the sum of A + 4 × A × A
pub sound_potential : (s : State) → Sound s
    → potential s ≤ sum (s count) (λ m. addressee_count s m + 4 * (addressee_count s m * addressee_count s m))
unfolding potential cost
sound_potential s h =
    sum_mono (s count) (of_message (s size) s)
    (λ m. addressee_count s m + 4 * (addressee_count s m * addressee_count s m))
    (λ m hm. omega (
      arith,
      message_few s h m hm 2 (λ k q u _ _. omega (
        arith,
        one_most (bit (s (flight m k q)) u),
        one_most (owed s k m q u),
      )),
    ))

-- 64 messages of at most 16 addressees
sum_most : (n c : ℕ) (f : ℕ → ℕ) → ((i : ℕ) → i < n → f i ≤ c) → sum n f ≤ n * c
unfolding sum
sum_most zero c f h = omega arith
sum_most (suc n) c f h = omega (arith, sum_most n c f (λ i l. h i (omega arith)), h n (omega arith))

-- so the sum is at most 33,792
pub ceiling_most : (s : State) → Sound s → sum (s count) (λ m. ceiling (addressee_count s m)) ≤ 33792
ceiling_most s h =
    let each = sum_most (s count) 528 (λ m. ceiling (addressee_count s m))
    (λ m _. let a = tally_le (s size) (addressed s m) in
    let few : addressee_count s m ≤ 16 = omega (arith, size_high s h) in
    omega (arith, mul-le-mul few few)) in
    omega (arith, each, count_high s h)
