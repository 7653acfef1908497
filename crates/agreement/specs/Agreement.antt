-- Uniform agreement and validity of the FIFO logs, once no letter flies between two up processes and up
-- processes trust only up processes. If a live process holds a message, every live addressee does. If all
-- live addressees hold it and have delivered the earlier messages of its sender, it is in turn at each, each
-- has the marks of all, and nothing is ready: so each has delivered it. What some process has delivered was
-- marked by a live member of each group (Trusted), which holds it and has delivered the earlier ones: those
-- are everywhere, by induction. Assumes nothing.
use Rattle.std.specs.Prelude.{◌≡◌, refl, Bool, true, false, ◌⊎◌, ℕ, zero, suc, ◌≤◌, ◌<◌, eqb}
use Rattle.std.proofs.Common.{sym, ap, ◌∙◌, subst, inl, inr, arith, eqb-true, eq-eqb}
use Rattle.std.proofs.Math.Decide.{ℕ_discrete}
use Rattle.definitions.specs.General.{pick, tally, in_at, bit}
use Rattle.definitions.specs.World.{size, count, group, up, next, marks, sender, stamp, flight, State, addressed}
use Rattle.definitions.specs.Steps.{is_up}
use Rattle.definitions.specs.History.{Run, Fair}
use Rattle.base.specs.Tests.{bool_cases, clash, strong, pick_yes, both, both_i, eqb_refl}
use Rattle.base.specs.Count.{tally_cong}
use Rattle.world.specs.SoundLaws.{next_is}
use Rattle.effects.specs.Views.{Messages, messages, place}
use Rattle.effects.specs.Cascade.{Near}
use Rattle.effects.specs.Arrival.{Held, Fly}
use Rattle.order.specs.Knowledge.{Knowledge, knowledge}
use Rattle.order.specs.Counters.{To, of_to, of, to, both_less, Counting, sender_before, stamp_lt}
use Rattle.order.specs.Runs.{Whole}
use Rattle.order.specs.Cascade.{Fifo}
use Rattle.agreement.specs.Letters.{Mark, Down, Told, told_done}
use Rattle.agreement.specs.Turns.{Vouched, vouched, Pending, delivered, not_in_turn, unmarked, Live}

-- ---- the number of a message: one more than its sender's earlier ones to that group
-- what passes only below k
tally_below : (n k : ℕ) (f : ℕ → Bool) → k ≤ n → ((i : ℕ) → k ≤ i → i < n → f i ≡ false)
    → tally n f ≡ tally k f
unfolding tally
tally_below zero k f h e = ap (λ (x : ℕ). tally x f) (let z : 0 ≡ k = omega arith in z)
tally_below (suc n) k f h e = elim (ℕ_discrete k (suc n)) [
  | yes a ↦ ap (λ (x : ℕ). tally x f) (sym a)
  | no a ↦ rw (e n (omega arith) (omega arith)) (tally_below n k f (omega arith) (λ i x y. e i x (omega arith)))
]

-- the number of m in a group of its mask
pub number_is : {n : ℕ} {w : Messages} {k : Knowledge} (c : Counting n w k) (m g : ℕ) → m < w.total
    → To w g m
    → w.number m g ≡ suc (tally m (of_to w (w.sender m) g))
unfolding tally
number_is {n} {w} {k} c m g h t =
    let q : ℕ = w.sender m in
    let f : ℕ → Bool = λ x. both (k.before m x) (of_to w q g x) in
    let cut = tally_below w.total (suc m) f h (λ i a b. above i a (bool_cases (k.before m i))) in
    let top : f m ≡ true = both_i (k.before m m) (of_to w q g m) (c.closed.before_self m h)
    (both_i (eqb q q) (bit (w.mask m) g) (eqb_refl q) t) in
    let low = tally_cong m f (of_to w q g) (λ x l. both_less (k.before m x) (of_to w q g x)
    (λ e. sender_before c m x h (omega arith) (of w q g x e))) in
    c.numbers m g h ∙ c.stamps m g q h ∙ cut ∙ pick_yes (suc (tally m f)) (tally m f) top ∙ ap suc low
  where
    above : (i : ℕ) → suc m ≤ i → (k.before m i ≡ true) ⊎ (k.before m i ≡ false)
        → both (k.before m i) (of_to w (w.sender m) g i) ≡ false
    above i a (inl e) = absurd (omega (arith, (c.closed.before m).low i e))
    above i a (inr e) = rw e

-- if the number of each that passes is below c, so is the count of them
count_up : (f : ℕ → Bool) (c m : ℕ) → 1 ≤ c → ((y : ℕ) → y < m → f y ≡ true → suc (tally y f) < c)
    → suc (tally m f) ≤ c
unfolding tally
count_up f c zero l h = l
count_up f c (suc m) l h =
    go (f m) refl (λ z. h m (omega arith) z) (count_up f c m l (λ y a. h y (omega arith)))
  where
    go : (b : Bool) → f m ≡ b → (f m ≡ true → suc (tally m f) < c) → suc (tally m f) ≤ c
        → suc (pick b (suc (tally m f)) (tally m f)) ≤ c
    go true e step ih = step e
    go false e step ih = ih

-- ---- no letter flies between two up processes
abbrev pub Calm : State → Type 0
Calm s =
    (k m r u : ℕ) → k < 3 → m < s count → r < s size → u < s size → s (up r) ≡ 1 → s (up u) ≡ 1
    → bit (s (flight m k r)) u ≡ false

-- r is a process that is up
abbrev pub Up : State → ℕ → Type 0
Up s r = (r < s size) × (s (up r) ≡ 1)

-- what some process has FIFO-delivered, and what a live process has multicast, every live addressee has
-- FIFO-delivered
pub record Agreed (s : State) : Type 0 where
  pub valid : (m u : ℕ) → m < s count → s (up (s (sender m))) ≡ 1 → Up s u → addressed s m u ≡ true
      → Fifo s u m
  pub uniform : (m p u : ℕ) → p < s size → Fifo s p m → Up s u → addressed s m u ≡ true → Fifo s u m

module _ {r : Run State} (w : Whole r) (v : Live (is_up r.now) r.now) (calm : Calm r.now)
    (fair : Fair r.now) where
  abbrev s : State
  s = r.now

  -- no letter flies between live processes
  none : (k m x u : ℕ) → k < 3 → m < r.now count → Up r.now x → Up r.now u → ¬ Fly r.now m k x u
  none k m x u hk hm ux uu f = clash f (calm k m x u hk hm ux.0 uu.0 ux.1 uu.1)

  -- so what one told another has been done
  heard : (x u : ℕ) {done flying : Type 0} → Up r.now x → Up r.now u → (¬ flying)
      → Told (Down r.now x) (Down r.now u) done flying → done
  heard x u ux uu n = told_done (λ d. d ux.1) (λ d. d uu.1) n

  -- if a live process holds m, every live addressee does
  spread : (m x u : ℕ) → m < r.now count → Up r.now x → Held r.now x m → Up r.now u
      → addressed r.now m u ≡ true
      → Held r.now u m
  spread m x u hm ux h uu a =
      heard x u ux uu
      (λ f. elim f [
        | inl z ↦ none 1 m x u (omega arith) hm ux uu z
        | inr z ↦ none 2 m x u (omega arith) hm ux uu z
      ])
      (v.net.relayed m x u hm ux.0 uu.0 h a)

  -- m is in the FIFO log of every live addressee
  abbrev Everywhere : ℕ → Type 0
  Everywhere m = (u : ℕ) → Up r.now u → addressed r.now m u ≡ true → Fifo r.now u m

  -- every live addressee holds m, and has delivered the earlier messages of its sender
  module _ (m : ℕ) (hm : m < r.now count)
      (all : (u : ℕ) → Up r.now u → addressed r.now m u ≡ true → Held r.now u m)
      (prior : (y u : ℕ) → y < m → r.now (sender y) ≡ r.now (sender m) → Up r.now u
      → addressed r.now m u ≡ true
      → addressed r.now y u ≡ true → Fifo r.now u y) where
    -- then m is in turn at each, or past it
    near : (u : ℕ) → Up r.now u → addressed r.now m u ≡ true → Near r.now m u
    near u uu a =
        omega (
          arith,
          number_is c m g hm a,
          count_up (of_to (messages r.now) q g) (r.now (next u q)) m
              (omega (arith, next_is r.now w.sound u q uu.0 (c.senders m hm))) earlier,
        )
      where
        q : ℕ
        q = r.now (sender m)

        g : ℕ
        g = r.now (group u)

        c : Counting (r.now size) (messages r.now) (knowledge r.seen)
        c = w.meaning.counting

        below : (y : ℕ) → Fifo r.now u y
            → r.now (stamp y (r.now (group u)) (r.now (sender y))) < r.now (next u (r.now (sender y)))
        below y (in_at i h e) =
            subst
            (λ (z : ℕ). r.now (stamp z (r.now (group u)) (r.now (sender z)))
            < r.now (next u (r.now (sender z)))) e
            (omega (arith, (w.meaning.each u).fifo_log.prefix.in_below i h))

        earlier : (y : ℕ) → y < m → of_to (messages r.now) (r.now (sender m)) (r.now (group u)) y ≡ true
            → suc (tally y (of_to (messages r.now) (r.now (sender m)) (r.now (group u))))
            < r.now (next u (r.now (sender m)))
        earlier y ly d =
            let sy = of (messages r.now) q g y d in
            let ty = to (messages r.now) q g y d in
            let hy : y < r.now count = omega arith in
            omega (
              arith,
              below y (prior y u ly sy uu a ty),
              number_is c y g hy ty,
              c.numbers y g hy,
              ap (λ (x : ℕ). r.now (next u x)) sy,
              ap (λ (x : ℕ). tally y (of_to (messages r.now) x g)) sy,
            )

    -- and each has delivered it
    everywhere : Everywhere m
    everywhere u uu a = go (v.idle u uu.0 m hm (all u uu a))
      where
        marked : (q : ℕ) → Up r.now q → addressed r.now m q ≡ true → Mark r.now u m q
        marked q uq b =
            heard q u uq uu (none 2 m q u (omega arith) hm uq uu)
            (v.net.okayed m q u hm uq.0 uu.0 (all q uq b) (near q uq b) a)

        go : Pending (place r.now u) m → Fifo r.now u m
        go (delivered f) = f
        go (not_in_turn d) =
            (w.meaning.each u).fifo_log.prefix.below_in m hm a
            (omega (arith, near u uu a, w.meaning.counting.numbers m (r.now (group u)) hm))
        go (unmarked q hq t b d) = clash (marked q (hq, fair u q uu.0 hq uu.1 t) b) d

  -- what a live process multicast is everywhere
  validity : (m : ℕ) → m < r.now count → r.now (up (r.now (sender m))) ≡ 1 → Everywhere m
  validity = strong (λ m. m < r.now count → r.now (up (r.now (sender m))) ≡ 1 → Everywhere m)
      (λ m ih hm us. everywhere m hm
      (λ u uu a.
      let live : Up r.now (r.now (sender m)) = (w.meaning.counting.senders m hm, us) in
      heard (r.now (sender m)) u live uu (none 0 m (r.now (sender m)) u (omega arith) hm live uu)
      (v.net.posted m u hm uu.0 a))
      (λ y u ly e uu a d. ih y ly (omega arith) (rw e us) u uu d))

  -- what some process has delivered is everywhere
  agreement : (m p : ℕ) → p < r.now size → Fifo r.now p m → Everywhere m
  agreement = strong (λ m. (p : ℕ) → p < r.now size → Fifo r.now p m → Everywhere m) one
    where
      one : (m : ℕ) → ((y : ℕ) → y < m → (p : ℕ) → p < r.now size → Fifo r.now p y → Everywhere y)
          → (p : ℕ) → p < r.now size → Fifo r.now p m → Everywhere m
      one m ih p hp f =
          everywhere m hm (λ u uu a. holder u uu a (vouch u uu a))
          (λ y u ly e uu a d. earlier y u ly e uu a d (vouch u uu a))
        where
          hm : m < r.now count
          hm = elim f [ in_at i h e ↦ rw e at ((w.meaning.each p).fifo_log.old i h) ]

          vouch : (u : ℕ) → Up r.now u → addressed r.now m u ≡ true
              → Vouched (is_up r.now) (r.now size) (λ x. r.now (group x)) (r.now (marks p m)) u
          vouch u uu a = v.trusted p m u f uu.0 (eq-eqb (r.now (up u)) 1 uu.1) a

          marked_by : (x : ℕ) → x < r.now size → Mark r.now p m x → Held r.now x m × Near r.now m x
          marked_by x hx z = v.net.ok_marked m x p hm hx hp z

          holder : (u : ℕ) → Up r.now u → addressed r.now m u ≡ true
              → Vouched (is_up r.now) (r.now size) (λ x. r.now (group x)) (r.now (marks p m)) u
              → Held r.now u m
          holder u uu a (vouched x hx lx gx mx) =
              let ux : Up r.now x = (hx, eqb-true (r.now (up x)) 1 lx) in
              spread m x u hm ux (marked_by x hx mx).0 uu a

          earlier : (y u : ℕ) → y < m → r.now (sender y) ≡ r.now (sender m) → Up r.now u
              → addressed r.now m u ≡ true
              → addressed r.now y u ≡ true
              → Vouched (is_up r.now) (r.now size) (λ x. r.now (group x)) (r.now (marks p m)) u
              → Fifo r.now u y
          earlier y u ly e uu a d (vouched x hx lx gx mx) =
              let c = w.meaning.counting in
              let g : ℕ = r.now (group x) in
              let hy : y < r.now count = omega (arith, hm) in
              let am : addressed r.now m x ≡ true =
              rw gx a in
              let ay : addressed r.now y x ≡ true =
              rw gx d in
              let fy = (w.meaning.each x).fifo_log.prefix.below_in y hy ay
              (omega (
                arith,
                stamp_lt c m y g hm ly am,
                c.numbers m g hm,
                (marked_by x hx mx).1,
                ap (λ (z : ℕ). r.now (stamp y g z)) e,
                ap (λ (z : ℕ). r.now (next x z)) e,
              )) in
              ih y ly x hx fy u uu d

  -- the FIFO logs agree
  pub agrees : Agreed r.now
  agrees = record {
    valid = λ m u hm us uu a. validity m hm us u uu a;
    uniform = λ m p u hp f uu a. agreement m p hp f u uu a;
  }
