-- The letters of a sound state that can move, sorted (Queues), give the choice by turns: the first waiting process from the
-- turn on, or else of all; its lowest message; the lowest place. Assumes nothing.
use Rattle.std.specs.Prelude.{◌≡◌, Bool, true, false, ◌&&◌, List, ◌⊎◌, get_or}
use Rattle.std.proofs.Math.Path.{refl, sym, ap, ap₂, subst}
use Rattle.std.proofs.Common.{◌∙◌, shr-shr}
use Rattle.std.proofs.Math.Logic.{inl, inr}
use Prim.Native.Nat.{ℕ, ◌+◌, ◌-◌, ◌*◌, ◌/◌, ◌%◌, ◌^◌, ◌≤◌, ◌<◌}
use native.Mathlib.Omega.{arith}
use Rattle.std.proofs.Math.Dec.{ltb, eqb}
use borrow.Author.Tests.{lt-ltb, le-ltb, ltb-true, eqb-true, ne_eqb}
use Rattle.definitions.specs.General.{first_from, bit}
use Rattle.definitions.specs.World.{size, count, State}
use Rattle.definitions.specs.Settle.{Choice, letter, nothing, moves, receiver, origin, kind, movable, lowest as lowest_letter, has_letter, served, fair}
use Rattle.base.specs.Tests.{same, both, both_l, both_r, both_i, eqb_refl, bool_cases, clash, le_or_lt, pick_yes, pick_no}
use Rattle.base.specs.Search.{first_law, first_is, first_past}
use Rattle.sets.specs.Lowest.{lowest}
use Rattle.world.specs.SoundLaws.{Sound, size_high, count_high}
use Rattle.world.specs.StepLaws.{hit, ChosenTo, lowest_law}
use Rattle.letters.specs.Search.{waiting, waiting_bit, lowest_found}
use Rattle.queues.specs.Queues.{Queues, some_member, ahead_of, served_of}
use Rattle.gathering.specs.Gathered.{lettered, letter_is}

-- a set from t on
bit_shift : (x t j : ℕ) → bit (x / 2 ^ t) j ≡ bit x (t + j)
unfolding bit
bit_shift x t j = ap (λ (n : ℕ). eqb (n % 2) 1) (shr-shr x t j)

-- ---- in a sound state
module _ (s : State) (h : Sound s) where
  -- a letter that moves has its place among those that can move
  place_of : (x k q r : ℕ) → q < 16 → r < s size → moves s x k q r ≡ true → lettered s x (k * 16 + q) r ≡ true
  place_of x k q r hq hr e =
      let ek : (k * 16 + q) / 16 ≡ k = omega arith in
      let eq : (k * 16 + q) % 16 ≡ q = omega arith in
      ap₂ (λ (a b : ℕ). bit (waiting s x a b) r) ek eq ∙ waiting_bit s x k q r hr ∙ e

  -- ---- the searches of the letters to r alone
  module _ (x k o r : ℕ) (hr : r < s size) where
    receiver_is : moves s x k o r ≡ true → receiver (eqb r) s x k o ≡ r
    unfolding receiver
    receiver_is e =
        first_is (s size) 0 (λ p. eqb r p && moves s x k o p) r (omega arith) (omega arith)
        (both_i (eqb r r) (moves s x k o r) (eqb_refl r) e)
        (λ p _ l. ap (λ (b : Bool). b && moves s x k o p) (ne_eqb r p (λ d. absurd (omega arith))))

    has_receiver : ltb (receiver (eqb r) s x k o) (s size) ≡ moves s x k o r
    unfolding receiver
    has_receiver =
        same (ltb p (s size)) (moves s x k o r)
        (λ e.
        let h = hit (s size) (λ p. eqb r p && moves s x k o p) e in
        subst (λ (y : ℕ). moves s x k o y ≡ true) (sym (eqb-true r p (both_l (eqb r p) (moves s x k o p) h)))
        (both_r (eqb r p) (moves s x k o p) h))
        (λ e. lt-ltb p (s size) (omega (arith, receiver_is e)))
      where
        p : ℕ
        p = receiver (eqb r) s x k o

  -- a kind that has a sender has a letter from it
  origin_moves : (x k r : ℕ) → r < s size → ltb (origin (eqb r) s x k) (s size) ≡ true
      → (origin (eqb r) s x k < s size) × (moves s x k (origin (eqb r) s x k) r ≡ true)
  unfolding origin
  origin_moves x k r hr e = (
    ltb-true (origin (eqb r) s x k) (s size) e,
    sym (has_receiver x k (origin (eqb r) s x k) r hr) ∙ hit (s size) (λ o. ltb (receiver (eqb r) s x k o) (s size)) e,
  )

  module _ (a : List ℕ) (q : Queues (lettered s) a) where
    -- the places of x to r; a lowest one is below 48
    queue_is : (x r j : ℕ) → x < 64 → r < 16 → j < 48 → bit (get_or a (x * 16 + r) 0) j ≡ lettered s x j r
    queue_is x r j hx hr hj =
        q.letters x r j hx hr (omega arith) ∙ ap (λ (b : Bool). both b (lettered s x j r)) (lt-ltb j 48 hj)

    module _ (x r : ℕ) (hx : x < 64) (hr : r < 16) (e : bit (get_or a (1024 + r) 0) x ≡ true) where
      abbrev place : ℕ
      place = lowest (get_or a (x * 16 + r) 0)

      place_low : (lowest (get_or a (x * 16 + r) 0) < 48) × (lettered s x (lowest (get_or a (x * 16 + r) 0)) r ≡ true)
      place_low =
          let l = ltb-true place 64 (sym (q.messages r x hr hx) ∙ e) in
          let b = sym (q.letters x r place hx hr l) ∙ (first_law 64 0 (bit (get_or a (x * 16 + r) 0))).hit l in (
            ltb-true place 48 (both_l (ltb place 48) (lettered s x place r) b),
            both_r (ltb place 48) (lettered s x place r) b,
          )

      place_first : (j : ℕ) → j < lowest (get_or a (x * 16 + r) 0) → lettered s x j r ≡ false
      place_first j l =
          sym (queue_is x r j hx hr (omega (arith, place_low.0)))
          ∙ (first_law 64 0 (bit (get_or a (x * 16 + r) 0))).miss j (omega arith) l

      -- kind and origin
      origin_is : origin (eqb r) s x (place / 16) ≡ place % 16
      unfolding origin
      origin_is =
          let f = letter_is s h x place r hx place_low.0 hr place_low.1 in
          first_is (s size) 0 (λ o. ltb (receiver (eqb r) s x (place / 16) o) (s size)) (place % 16) (omega arith)
          (omega (arith, f.1)) (has_receiver x (place / 16) (place % 16) r f.2 ∙ f.3)
          (λ o _ l. has_receiver x (place / 16) o r f.2
          ∙ elim (bool_cases (moves s x (place / 16) o r)) [
            | inr z ↦ z
            | inl z ↦ clash (place_of x (place / 16) o r (omega arith) f.2 z)
                (place_first (place / 16 * 16 + o) (omega arith))
          ])

      kind_is : kind (eqb r) s x ≡ place / 16
      unfolding kind
      kind_is =
          let f = letter_is s h x place r hx place_low.0 hr place_low.1 in
          first_is 3 0 (λ k. ltb (origin (eqb r) s x k) (s size)) (place / 16) (omega arith) (omega (arith, place_low.0))
          (lt-ltb (origin (eqb r) s x (place / 16)) (s size) (omega (arith, origin_is, f.1)))
          (λ k _ l. elim (bool_cases (ltb (origin (eqb r) s x k) (s size))) [
            | inr z ↦ z
            | inl z ↦
                let (lo, m) = origin_moves x k r f.2 z in
                clash (place_of x k (origin (eqb r) s x k) r (omega (arith, size_high s h)) f.2 m)
                (place_first (k * 16 + origin (eqb r) s x k) (omega (arith, size_high s h)))
          ])

    -- whether a message has a letter to r
    message_has : (x r : ℕ) → x < s count → r < s size → movable (eqb r) s x ≡ bit (get_or a (1024 + r) 0) x
    unfolding movable kind
    message_has x r hx hr =
        let x64 : x < 64 = omega (arith, count_high s h) in
        let r16 : r < 16 = omega (arith, size_high s h) in
        same (movable (eqb r) s x) (bit (get_or a (1024 + r) 0) x)
        (λ e.
        let k : ℕ = kind (eqb r) s x in
        let lk = ltb-true k 3 e in
        let o : ℕ = origin (eqb r) s x k in
        let (lo, m) = origin_moves x k r hr (hit 3 (λ k. ltb (origin (eqb r) s x k) (s size)) e) in
        q.messages r x r16 x64
        ∙ some_member (get_or a (x * 16 + r) 0) (k * 16 + o) (omega (arith, size_high s h))
        (queue_is x r (k * 16 + o) x64 r16 (omega (arith, size_high s h))
        ∙ place_of x k o r (omega (arith, size_high s h)) hr m))
        (λ e. ap (λ (k : ℕ). ltb k 3) (kind_is x r x64 r16 e)
        ∙ lt-ltb (lowest (get_or a (x * 16 + r) 0) / 16) 3 (omega (arith, (place_low x r x64 r16 e).0)))

    -- ---- a process that waits, and its lowest message
    module _ (r : ℕ) (e : bit (get_or a 1040 0) r ≡ true) where
      abbrev message : ℕ
      message = lowest (get_or a (1024 + r) 0)

      waits_low : (r < 16) × (lowest (get_or a (1024 + r) 0) < 64)
      waits_low =
          let b = sym (q.waits r) ∙ e in (
            ltb-true r 16 (both_l (ltb r 16) (ltb message 64) b),
            ltb-true message 64 (both_r (ltb r 16) (ltb message 64) b),
          )

      message_in : bit (get_or a (1024 + r) 0) (lowest (get_or a (1024 + r) 0)) ≡ true
      message_in = (first_law 64 0 (bit (get_or a (1024 + r) 0))).hit waits_low.1

      -- the letter
      abbrev lowest_place : ℕ
      lowest_place = lowest (get_or a (message * 16 + r) 0)

      pub letter_low : (lowest (get_or a (1024 + r) 0) < s count)
          × (lowest (get_or a (lowest (get_or a (1024 + r) 0) * 16 + r) 0) < 48) × (r < s size)
          × (lettered s (lowest (get_or a (1024 + r) 0)) (lowest (get_or a (lowest (get_or a (1024 + r) 0) * 16 + r) 0)) r ≡ true)
      letter_low =
          let w = waits_low in
          let z = place_low message r w.1 w.0 message_in in
          let f = letter_is s h message lowest_place r w.1 z.0 w.0 z.1 in
          (f.0, z.0, f.2, z.1)

      message_is : first_from (s count) 0 (movable (eqb r) s) ≡ lowest (get_or a (1024 + r) 0)
      message_is =
          let l = letter_low in
          first_is (s count) 0 (movable (eqb r) s) message (omega arith) (omega (arith, l.0))
          (message_has message r l.0 l.2 ∙ message_in)
          (λ x _ k. message_has x r (omega (arith, l.0)) l.2
          ∙ (first_law 64 0 (bit (get_or a (1024 + r) 0))).miss x (omega arith) k)

      lowest_is : lowest_letter (eqb r) s ≡ letter (lowest_place / 16) message (lowest_place % 16) r
      lowest_is =
          let w = waits_low in
          let l = letter_low in
          let f = letter_is s h message lowest_place r w.1 l.1 w.0 l.3 in
          lowest_found (eqb r) s message (lowest_place / 16) (lowest_place % 16) r message_is l.0
          (kind_is message r w.1 w.0 message_in) (origin_is message r w.1 w.0 message_in)
          (receiver_is message (lowest_place / 16) (lowest_place % 16) r l.2 f.3)

    has_is : (r : ℕ) → r < s size → has_letter s r ≡ bit (get_or a 1040 0) r
    unfolding has_letter
    has_is r hr =
        let r16 : r < 16 = omega (arith, size_high s h) in
        same (has_letter s r) (bit (get_or a 1040 0) r)
        (λ e.
        let x : ℕ = first_from (s count) 0 (movable (eqb r) s) in
        let lx = ltb-true x (s count) e in
        q.waits r
        ∙ ap₂ both (lt-ltb r 16 r16)
        (some_member (get_or a (1024 + r) 0) x (omega (arith, count_high s h))
        (sym (message_has x r lx hr) ∙ hit (s count) (movable (eqb r) s) e)))
        (λ e. ap (λ (x : ℕ). ltb x (s count)) (message_is r e)
        ∙ lt-ltb _ (s count) (letter_low r e).0)

    -- ---- whose turn it is
    abbrev wait : ℕ
    wait = get_or a 1040 0

    -- nobody waits that is no process
    waits_process : (r : ℕ) → bit (get_or a 1040 0) r ≡ true → r < s size
    waits_process r e = (letter_low r e).2

    -- somebody from t on
    module _ (t : ℕ) (ht : t ≤ s size) where
      abbrev i : ℕ
      i = ahead_of (get_or a 1040 0) t

      ahead_in : ahead_of (get_or a 1040 0) t < 64 → bit (get_or a 1040 0) (t + ahead_of (get_or a 1040 0) t) ≡ true
      ahead_in l = sym (bit_shift wait t i) ∙ (first_law 64 0 (bit (wait / 2 ^ t))).hit l

      -- none waits past the processes
      ahead_low : ahead_of (get_or a 1040 0) t < 64 → t + ahead_of (get_or a 1040 0) t < s size
      ahead_low l = waits_process (t + i) (ahead_in l)

      served_ahead : ahead_of (get_or a 1040 0) t < 64 → served s t ≡ t + ahead_of (get_or a 1040 0) t
      unfolding served
      served_ahead l =
          let low = ahead_low l in
          let first : first_from (s size - t) t (has_letter s) ≡ t + i =
          first_is (s size - t) t (has_letter s) (t + i) (omega arith) (omega (arith, low))
          (has_is (t + i) low ∙ ahead_in l)
          (λ j a b. has_is j (omega (arith, low))
          ∙ subst (λ (k : ℕ). bit wait k ≡ false) (let z : t + (j - t) ≡ j = omega arith in z)
          (sym (bit_shift wait t (j - t)) ∙ (first_law 64 0 (bit (wait / 2 ^ t))).miss (j - t) (omega arith) (omega arith))) in
          pick_yes _ _ (lt-ltb _ (s size) (omega (arith, low, first))) ∙ first

      -- nobody from t on
      none_ahead : 64 ≤ ahead_of (get_or a 1040 0) t → served s t ≡ first_from (s size) 0 (has_letter s)
      unfolding served
      none_ahead l =
          pick_no _ _ (le-ltb _ (s size)
          (let z =
          first_past (s size - t) t (has_letter s)
          (λ j a b. has_is j (omega arith)
          ∙ subst (λ (k : ℕ). bit wait k ≡ false) (let z : t + (j - t) ≡ j = omega arith in z)
          (sym (bit_shift wait t (j - t))
          ∙ (first_law 64 0 (bit (wait / 2 ^ t))).miss (j - t) (omega arith) (omega (arith, size_high s h)))) in
          omega arith))

      served_first : 64 ≤ ahead_of (get_or a 1040 0) t → lowest (get_or a 1040 0) < 64 → served s t ≡ lowest (get_or a 1040 0)
      served_first l b =
          let e = (first_law 64 0 (bit wait)).hit b in
          let low = waits_process (lowest wait) e in
          none_ahead l
          ∙ first_is (s size) 0 (has_letter s) (lowest wait) (omega arith) (omega (arith, low)) (has_is (lowest wait) low ∙ e)
          (λ j _ k. has_is j (omega (arith, low)) ∙ (first_law 64 0 (bit wait)).miss j (omega arith) k)

      served_nobody : 64 ≤ ahead_of (get_or a 1040 0) t → 64 ≤ lowest (get_or a 1040 0) → s size ≤ served s t
      served_nobody l b =
          let z =
          first_past (s size) 0 (has_letter s)
          (λ j _ k. has_is j (omega arith)
          ∙ (first_law 64 0 (bit wait)).miss j (omega arith) (omega (arith, size_high s h))) in
          omega (arith, none_ahead l)

      -- ---- the choice
      abbrev p : ℕ
      p = served_of (get_or a 1040 0) t

      served_is : served_of (get_or a 1040 0) t < 64
          → (bit (get_or a 1040 0) (served_of (get_or a 1040 0) t) ≡ true) × (served s t ≡ served_of (get_or a 1040 0) t)
      served_is l = go (le_or_lt 64 i)
        where
          go : (64 ≤ ahead_of (get_or a 1040 0) t) ⊎ (ahead_of (get_or a 1040 0) t < 64)
              → (bit (get_or a 1040 0) (served_of (get_or a 1040 0) t) ≡ true) × (served s t ≡ served_of (get_or a 1040 0) t)
          go (inl z) =
              let e : served_of (get_or a 1040 0) t ≡ lowest (get_or a 1040 0) = pick_no _ _ (le-ltb i 64 z) in
              let b : lowest (get_or a 1040 0) < 64 = omega arith in
              (ap (bit wait) e ∙ (first_law 64 0 (bit wait)).hit b, served_first z b ∙ sym e)
          go (inr z) =
              let e : served_of (get_or a 1040 0) t ≡ t + ahead_of (get_or a 1040 0) t = pick_yes _ _ (lt-ltb i 64 z) in
              (ap (bit wait) e ∙ ahead_in z, served_ahead z ∙ sym e)

      pub fair_found : served_of (get_or a 1040 0) t < 64
          → (bit (get_or a 1040 0) (served_of (get_or a 1040 0) t) ≡ true)
          × (fair t s ≡ letter (lowest (get_or a (lowest (get_or a (1024 + served_of (get_or a 1040 0) t) 0) * 16 + served_of (get_or a 1040 0) t) 0) / 16)
          (lowest (get_or a (1024 + served_of (get_or a 1040 0) t) 0))
          (lowest (get_or a (lowest (get_or a (1024 + served_of (get_or a 1040 0) t) 0) * 16 + served_of (get_or a 1040 0) t) 0) % 16)
          (served_of (get_or a 1040 0) t))
      unfolding fair
      fair_found l =
          let z = served_is l in
          (z.0, ap (λ (r : ℕ). lowest_letter (eqb r) s) z.1 ∙ lowest_is p z.0)

      pub fair_none : 64 ≤ served_of (get_or a 1040 0) t → fair t s ≡ nothing
      unfolding fair
      fair_none l = go (lowest_letter (eqb (served s t)) s) refl (lowest_law (eqb (served s t)) s) (le_or_lt 64 i)
        where
          go : (c : Choice) → lowest_letter (eqb (served s t)) s ≡ c → ChosenTo (eqb (served s t)) s c
              → (64 ≤ ahead_of (get_or a 1040 0) t) ⊎ (ahead_of (get_or a 1040 0) t < 64) → lowest_letter (eqb (served s t)) s ≡ nothing
          go nothing e c z = e
          go (letter k m o r) e c (inl z) =
              let d : served_of (get_or a 1040 0) t ≡ lowest (get_or a 1040 0) = pick_no _ _ (le-ltb i 64 z) in
              let low = served_nobody z (omega arith) in
              absurd (omega (arith, eqb-true (served s t) r c.0, c.1.letter.to))
          go (letter k m o r) e c (inr z) =
              let d : served_of (get_or a 1040 0) t ≡ t + ahead_of (get_or a 1040 0) t = pick_yes _ _ (lt-ltb i 64 z) in
              absurd (omega (arith, ahead_low z, size_high s h))
