-- The potential of a world: for each message, kind, origin and receiver one if the letter is in flight, and
-- one if it may still be sent: from an addressee to an addressee, a relay while its origin does not hold the
-- message, an OK while its origin does not hold it in turn or past it. What is sent was not sent before and is
-- now (Once), so that no step but a multicast raises the potential; an arrival lowers it by one at least.
-- Assumes nothing.
use Rattle.std.specs.Prelude.{◌≡◌, Bool, true, not, ◌⊎◌, ltb, leb, eqb}
use Rattle.std.proofs.Math.Path.{refl, ap}
use Rattle.std.proofs.Common.{sym, ap₂, ◌∙◌, eqb-true, eq-eqb, ne_eqb, leb-true, le-leb}
use Rattle.std.proofs.Math.Bool.{false}
use Rattle.std.proofs.Math.Logic.{inl, inr}
use Prim.Native.Nat.{ℕ, zero, suc, ◌+◌, ◌≤◌, ◌<◌}
use native.Mathlib.Omega.{arith}
use Rattle.std.proofs.lemmas.Bool.{not-true}
use Rattle.definitions.specs.General.{pick, tally, sum, bit, without}
use Rattle.definitions.specs.World.{size, count, group, next, held, sender, number, flight, State, put, addressed}
use Rattle.definitions.specs.Sound.{addressee, sends}
use Rattle.definitions.specs.Machine.{leave}
use Rattle.base.specs.Tests.{bool_cases, clash, pick_no, both, both_l, both_r, both_i}
use Rattle.base.specs.Sums.{sum_mono, sum_falls}
use Rattle.base.specs.Bits.{without_hit}
use Rattle.world.specs.Layout.{put_same}
use Rattle.world.specs.SoundLaws.{Sound, size_high, count_high, letter_facts}
use Rattle.effects.specs.Views.{Ground, ground}
use Rattle.effects.specs.Arrival.{Fly}
use Rattle.effects.specs.Spent.{SentBy, Spent, Once, spent_on}

-- ---- the potential
-- A: the number of m's addressees
abbrev pub addressee_count : State → ℕ → ℕ
addressee_count s m = tally (s size) (addressed s m)

-- the letter of kind k for m from q cannot be sent any more (SentBy, as a test)
abbrev pub sent : State → ℕ → ℕ → ℕ → Bool
sent s zero m q = true
sent s (suc zero) m q = eqb (s (held q m)) 1
sent s (suc (suc k)) m q =
    both (eqb (s (held q m)) 1) (leb (s (number m (s (group q)))) (s (next q (s (sender m)))))

-- q may still send the letter to u
abbrev pub owed : State → ℕ → ℕ → ℕ → ℕ → Bool
owed s k m q u = both (not (sent s k m q)) (both (addressed s m q) (addressed s m u))

-- one where a test passes
abbrev pub one : Bool → ℕ
one b = pick b 1 0

-- the letter in flight, and what may still be sent of it
unfoldable pub cost : State → ℕ → ℕ → ℕ → ℕ → ℕ
cost s k m q u = one (bit (s (flight m k q)) u) + one (owed s k m q u)

-- of n processes: over the receivers; over the origins; over the kinds; over c messages
abbrev pub from_one : ℕ → State → ℕ → ℕ → ℕ → ℕ
from_one n s m k q = sum n (cost s k m q)

abbrev pub of_kind : ℕ → State → ℕ → ℕ → ℕ
of_kind n s m k = sum n (from_one n s m k)

abbrev pub of_message : ℕ → State → ℕ → ℕ
of_message n s m = sum 3 (of_kind n s m)

unfoldable pub potential : State → ℕ
potential s = sum (s count) (of_message (s size) s)

-- a relay or an OK comes from an addressee
pub sends_later : (s : State) (m j q : ℕ) → sends s m (suc j) q ≡ addressee s m q
unfolding sends
sends_later s m j q = pick_no _ _ (ne_eqb (suc j) 0 (omega arith))

-- ---- the test, and what it says
pub sent_if : (s : State) (k m q : ℕ) → SentBy s k m q → sent s k m q ≡ true
sent_if s zero m q x = refl
sent_if s (suc zero) m q x = eq-eqb (s (held q m)) 1 x
sent_if s (suc (suc k)) m q x =
    both_i (eqb (s (held q m)) 1) _ (eq-eqb (s (held q m)) 1 x.0)
    (le-leb (s (number m (s (group q)))) (s (next q (s (sender m)))) x.1)

-- the other way round
if_sent : (s : State) (k m q : ℕ) → sent s k m q ≡ true → SentBy s k m q
if_sent s zero m q x = tt
if_sent s (suc zero) m q x = eqb-true (s (held q m)) 1 x
if_sent s (suc (suc k)) m q x =
    let near : Bool = leb (s (number m (s (group q)))) (s (next q (s (sender m)))) in (
      eqb-true (s (held q m)) 1 (both_l (eqb (s (held q m)) 1) near x),
      leb-true (s (number m (s (group q)))) (s (next q (s (sender m))))
          (both_r (eqb (s (held q m)) 1) near x),
    )

-- what is not sent passes the test of what is owed
unsent : (s : State) (k m q : ℕ) → (¬ SentBy s k m q) → not (sent s k m q) ≡ true
unsent s k m q n = elim (bool_cases (sent s k m q)) [
  | inl x ↦ absurd (n (if_sent s k m q x))
  | inr x ↦ ap not x
]

-- ---- a change that sends no letter twice raises no letter's part
-- where it passes, and where it fails
one_yes : {b : Bool} → b ≡ true → one b ≡ 1
one_yes e = rw e

pub one_no : {b : Bool} → b ≡ false → one b ≡ 0
one_no e = rw e

-- a passes only where b does
one_le : (a b : Bool) → (a ≡ true → b ≡ true) → one a ≤ one b
one_le false b f = omega arith
one_le true b f = omega (arith, one_yes (f refl))

-- a letter that flies now flew before, or was owed and is no more
costs : (fly fly' owes owes' : Bool) → (owes' ≡ true → owes ≡ true)
    → (fly' ≡ true → (fly ≡ true) ⊎ ((owes ≡ true) × (owes' ≡ false)))
    → one fly' + one owes' ≤ one fly + one owes
costs fly false owes owes' f g = omega (arith, one_le owes' owes f)
costs fly true owes owes' f g = elim (g refl) [
  | inl x ↦ omega (arith, one_yes x, one_le owes' owes f)
  | inr x ↦ omega (arith, one_yes x.0, one_no x.1)
]

module _ {s t : State} (o : Once s t) (e : ground t ≡ ground s) (h : Sound t) where
  -- the addressees are the same
  to_same : (m r : ℕ) → addressed t m r ≡ addressed s m r
  to_same m r = ap (λ (g : Ground). bit (g.messages.mask m) (g.group r)) e

  -- what is owed now was owed before
  owed_back : (k m q u : ℕ) → m < s count → owed t k m q u ≡ true → owed s k m q u ≡ true
  owed_back k m q u hm z =
      both_i (not (sent s k m q)) (both (addressed s m q) (addressed s m u))
      (unsent s k m q (λ x. clash (sent_if t k m q (spent_on o k m q (hm, x)).1)
      (not-true (sent t k m q) (both_l (not (sent t k m q)) (both (addressed t m q) (addressed t m u)) z))))
      (sym (ap₂ both (to_same m q) (to_same m u))
      ∙ both_r (not (sent t k m q)) (both (addressed t m q) (addressed t m u)) z)

  -- no letter's part is raised
  pub cost_lower : (k m q u : ℕ) → k < 3 → m < s count → q < s size → u < s size
      → cost t k m q u ≤ cost s k m q u
  unfolding cost
  cost_lower k m q u hk hm hq hu =
      costs (bit (s (flight m k q)) u) (bit (t (flight m k q)) u) (owed s k m q u) (owed t k m q u)
      (owed_back k m q u hm) (λ f. elim (o.new_letter k m q u f) [
        | inl a ↦ inl a
        | inr a ↦ inr (was_owed k hk f a.0, rw (sent_if t k m q a.1.1))
      ])
    where
      size_is : t size ≡ s size
      size_is = ap (λ (g : Ground). g.size) e

      was_owed : (j : ℕ) → j < 3 → Fly t m j q u → (¬ Spent s j m q) → owed s j m q u ≡ true
      was_owed zero l f n = absurd (n (hm, tt))
      was_owed (suc j) l f n =
          let count_is = ap (λ (g : Ground). g.messages.total) e in
          let d = letter_facts t h (suc j) m q u l (omega (arith, count_high t h))
          (omega (arith, size_is, size_high t h)) (omega (arith, size_is, size_high t h)) f in
          both_i (not (sent s (suc j) m q)) (both (addressed s m q) (addressed s m u))
          (unsent s (suc j) m q (λ x. n (hm, x)))
          (both_i (addressed s m q) (addressed s m u)
          (sym (to_same m q)
          ∙ both_r (ltb q (t size)) (addressed t m q) (sym (sends_later t m j q) ∙ d.from))
          (sym (to_same m u) ∙ both_r (ltb u (t size)) (addressed t m u) d.to))

-- ---- so the potential falls, where one letter's part does
pub potential_falls : (s t : State) → t count ≡ s count → t size ≡ s size
    → ((k m q u : ℕ) → k < 3 → m < s count → q < s size → u < s size → cost t k m q u ≤ cost s k m q u)
    → (k m q u : ℕ) → k < 3 → m < s count → q < s size → u < s size → cost t k m q u < cost s k m q u
    → potential t < potential s
unfolding potential
potential_falls s t ec ez low k m q u hk hm hq hu less =
    rw (ec, ez) (sum_falls (s count) (of_message n t) (of_message n s)
    (λ x hx. sum_mono 3 (of_kind n t x) (of_kind n s x) (λ j hj. kinds j x hj hx)) m hm
    (sum_falls 3 (of_kind n t m) (of_kind n s m) (λ j hj. kinds j m hj hm) k hk
    (sum_falls n (from_one n t m k) (from_one n s m k) (λ r hr. ones k m r hk hm hr) q hq
    (sum_falls n (cost t k m q) (cost s k m q) (λ v hv. low k m q v hk hm hq hv) u hu less))))
  where
    n : ℕ
    n = s size

    ones : (j x r : ℕ) → j < 3 → x < s count → r < s size
        → from_one (s size) t x j r ≤ from_one (s size) s x j r
    ones j x r hj hx hr = sum_mono n (cost t j x r) (cost s j x r) (λ v hv. low j x r v hj hx hr hv)

    kinds : (j x : ℕ) → j < 3 → x < s count → of_kind (s size) t x j ≤ of_kind (s size) s x j
    kinds j x hj hx = sum_mono n (from_one n t x j) (from_one n s x j) (λ r hr. ones j x r hj hx hr)

-- ---- a letter that leaves lowers its own part
module _ (s : State) (k m q p : ℕ) where
  -- what may still be sent is the same
  leave_sent : (j x r : ℕ) → sent (leave s k m q p) j x r ≡ sent s j x r
  unfolding leave put
  leave_sent zero x r = refl
  leave_sent (suc zero) x r = refl
  leave_sent (suc (suc j)) x r = refl

  -- one less flies
  pub leave_falls : Fly s m k q p → cost (leave s k m q p) k m q p < cost s k m q p
  unfolding leave put cost
  leave_falls f =
      omega (
        arith,
        one_yes f,
        one_no gone,
        ap (λ (b : Bool). one (both (not b) (both (addressed s m q) (addressed s m p)))) (leave_sent k m q),
      )
    where
      gone : bit (leave s k m q p (flight m k q)) p ≡ false
      gone =
          ap (λ (v : ℕ). bit v p)
          (put_same s (flight m k q) (flight m k q) (without (s (flight m k q)) p) refl)
          ∙ without_hit (s (flight m k q)) p
