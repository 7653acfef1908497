-- "each log lists distinct messages addressed to its process, the causal one only members of the FIFO one",
-- by the sets of the messages that they list. Assumes nothing.
use Rattle.std.specs.Prelude.{◌≡◌, Bool, cond, ◌&&◌, Option, Some, None, is_some, List, ◌⊎◌, ltb, leb, eqb, get_or}
use Rattle.std.proofs.Math.Path.{refl, ap, ap₂}
use Rattle.std.proofs.Common.{sym, ◌∙◌, subst, inl, inr, arith}
use Rattle.std.proofs.Math.Bool.{true, false, not}
use Prim.Native.Nat.{ℕ, ◌+◌, ◌-◌, ◌*◌, ◌^◌, ◌≤◌, ◌<◌}
use Rattle.std.specs.Int.Bits.{bit_and}
use Rattle.std.proofs.lemmas.Option.{cond_some}
use borrow.Author.Tests.{lt-ltb, le-ltb, ltb-true, eq-eqb, eqb-true, le-leb, leb-true}
use Rattle.definitions.specs.General.{pick, every, tally, In, in_at, absent, bit}
use Rattle.definitions.specs.World.{Cell, State, size, count, fifo_length, causal_length, fifo, causal, addr, view, is_process, is_message}
use Rattle.definitions.specs.Sound.{addressee, word, item, fit, fine}
use Rattle.base.specs.Tests.{both, both_l, both_r, both_i, clash, le_or_lt}
use Rattle.base.specs.Search.{every_true, every_intro, every_cong}
use Rattle.base.specs.Count.{tally_le, tally_cong, absent_in}
use Rattle.world.specs.Layout.{Within}
use Rattle.world.specs.SoundLaws.{word_in}
use Rattle.sets.specs.Members.{Members}
use Rattle.ranges.specs.Ranges.{zeros_at, within_at}
use Rattle.logtest.specs.Log.{log_at, item_ok, Passed}
use Rattle.logtest.specs.Laws.{items_law, within_law}
use Rattle.limits.specs.Addressees.{Addressees, addressee_bit}
use Rattle.limits.specs.Senders.{Senders}
use Rattle.regions.specs.Runs.{fine_run, run_split, run_of, run_cell}
use Rattle.regions.specs.Nexts.{from_at, Counted, Small}
use Rattle.blocks.specs.declared.Listed.{Listed}
use Rattle.blocks.specs.Known.{Bounds}

-- The items of p's logs are below 64, and zero past the logs' ends.
abbrev pub tidy_log : ℕ → (ℕ → ℕ) → Bool
tidy_log n log = every 64 (λ i. leb (log i) (pick (ltb i n) 63 0))

unfoldable pub tidy_logs : State → ℕ → Bool
tidy_logs s p = tidy_log (s (fifo_length p)) (λ i. s (fifo p i)) && tidy_log (s (causal_length p)) (λ i. s (causal p i))

-- The two logs of p are fine.
unfoldable pub logs_fine : State → ℕ → Bool
logs_fine s p = fine_run s (3 + p * 429 + 301) 64 && fine_run s (3 + p * 429 + 365) 64

-- There are sets exactly if the logs and next of p are fine; they are the messages of each log.
pub record LogsOf (s : State) (p : ℕ) (r : Option Listed) : Type 0 where
  pub is_good : is_some r ≡ (logs_fine s p && fine_run s (3 + p * 429 + 138) 16)
  pub first : (x : Listed) → r ≡ Some x → Members x.fifo (s (fifo_length p)) (λ i. s (fifo p i))
  pub second : (x : Listed) → r ≡ Some x → Members x.causal (s (causal_length p)) (λ i. s (causal p i))

-- ---- a tidy log, against the limits
pub tidy_within : (w t : List ℕ) (a n : ℕ) → Bounds (view w) t → n ≤ 64
    → within_at w a t (216 - n) 64 ≡ tidy_log n (log_at w a)
unfolding within_at
tidy_within w t a n h l =
    every_cong 64 (λ i. leb (get_or w (a + i) 0) (get_or t (216 - n + i) 0))
    (λ i. leb (log_at w a i) (pick (ltb i n) 63 0)) (λ i k. ap (leb (log_at w a i)) (go i k (le_or_lt n i)))
  where
    go : (i : ℕ) → i < 64 → (n ≤ i) ⊎ (i < n) → get_or t (216 - n + i) 0 ≡ pick (ltb i n) 63 0
    go i k (inl a) =
        let e : 216 - n + i ≡ 216 + (i - n) = omega arith in
        ap (λ (j : ℕ). get_or t j 0) e ∙ h.past (i - n) (omega arith)
        ∙ sym (ap (λ (b : Bool). pick b 63 0) (le-ltb i n a))
    go i k (inr a) =
        let e : 216 - n + i ≡ 152 + (64 - n + i) = omega arith in
        ap (λ (j : ℕ). get_or t j 0) e ∙ h.items (64 - n + i) (omega arith)
        ∙ sym (ap (λ (b : Bool). pick b 63 0) (lt-ltb i n a))

module _ (n : ℕ) (log : ℕ → ℕ) (e : tidy_log n log ≡ true) where
  at_most : (i : ℕ) → i < 64 → log i ≤ pick (ltb i n) 63 0
  at_most i l =
      leb-true (log i) (pick (ltb i n) 63 0) (every_true 64 (λ i. leb (log i) (pick (ltb i n) 63 0)) e i l)

  pub tidy_low : n ≤ 64 → (i : ℕ) → i < n → log i < 64
  tidy_low few i l =
      omega (arith, subst (λ (b : Bool). log i ≤ pick b 63 0) (lt-ltb i n l) (at_most i (omega arith)))

  tidy_past : (i : ℕ) → n ≤ i → i < 64 → log i ≡ 0
  tidy_past i l k =
      omega (arith, subst (λ (b : Bool). log i ≤ pick b 63 0) (le-ltb i n l) (at_most i k))

tidy_intro : (n : ℕ) (log : ℕ → ℕ) → ((i : ℕ) → i < n → log i < 64) → ((i : ℕ) → n ≤ i → i < 64 → log i ≡ 0)
    → tidy_log n log ≡ true
tidy_intro n log low past =
    every_intro 64 (λ i. leb (log i) (pick (ltb i n) 63 0)) (λ i l. go i l (le_or_lt n i))
  where
    go : (i : ℕ) → i < 64 → (n ≤ i) ⊎ (i < n) → leb (log i) (pick (ltb i n) 63 0) ≡ true
    go i l (inl a) =
        ap (λ (b : Bool). leb (log i) (pick b 63 0)) (le-ltb i n a) ∙ le-leb (log i) 0 (omega (arith, past i a l))
    go i l (inr a) =
        ap (λ (b : Bool). leb (log i) (pick b 63 0)) (lt-ltb i n a) ∙ le-leb (log i) 63 (omega (arith, low i a))

-- a log of n items from a on: the items, and zeros after them
log_law : (w : List ℕ) (a n : ℕ) (c : ℕ → Cell) (test : ℕ → Bool) (good : Bool) → n ≤ 64
    → ((i : ℕ) → i < 64 → Within (c i)) → ((i : ℕ) → addr (c i) ≡ a + i)
    → ((i : ℕ) → fine (view w) (c i) ≡ item n test (log_at w a) i (log_at w a i))
    → good ≡ every n (item_ok (log_at w a) test)
    → (good && zeros_at w (a + n) (64 - n)) ≡ fine_run (view w) a 64
unfolding zeros_at item item_ok
log_law w a n c test good l inside place is h =
    ap₂ both
    (h
    ∙ run_of (view w) a n c (λ i. test (x i) && absent i (x i) x) (λ i k. inside i (omega arith))
    (λ i k. place i)
    (λ i k. sym (is i ∙ ap (λ (b : Bool). word b (x i) (test (x i) && absent i (x i) x)) (lt-ltb i n k))))
    (run_of (view w) (a + n) (64 - n) (λ i. c (n + i)) (λ i. eqb (get_or w (a + n + i) 0) 0)
    (λ i k. inside (n + i) (omega arith))
    (λ i k. place (n + i) ∙ (let e : a + (n + i) ≡ a + n + i = omega arith in e))
    (λ i k. ap (λ (j : ℕ). eqb (get_or w j 0) 0) (let e : a + n + i ≡ a + (n + i) = omega arith in e)
    ∙ sym (is (n + i)
    ∙ ap (λ (b : Bool). word b (x (n + i)) (test (x (n + i)) && absent (n + i) (x (n + i)) x))
    (le-ltb (n + i) n (omega arith)))))
    ∙ sym (run_split (view w) a n (64 - n))
    ∙ ap (fine_run (view w) a) (let e : n + (64 - n) ≡ 64 = omega arith in e)
  where
    x : ℕ → ℕ
    x = log_at w a

-- the same of a tidy log
tidy_law : (w : List ℕ) (a n : ℕ) (c : ℕ → Cell) (test : ℕ → Bool) (good : Bool) → n ≤ 64
    → tidy_log n (log_at w a) ≡ true
    → ((i : ℕ) → i < 64 → Within (c i)) → ((i : ℕ) → addr (c i) ≡ a + i)
    → ((i : ℕ) → fine (view w) (c i) ≡ item n test (log_at w a) i (log_at w a i))
    → good ≡ every n (item_ok (log_at w a) test) → good ≡ fine_run (view w) a 64
unfolding zeros_at
tidy_law w a n c test good l tidy inside place is h =
    and_true good ∙ ap (both good) (sym zeros) ∙ log_law w a n c test good l inside place is h
  where
    and_true : (b : Bool) → b ≡ both b true
    and_true true = refl
    and_true false = refl

    zeros : zeros_at w (a + n) (64 - n) ≡ true
    zeros =
        every_intro (64 - n) (λ i. eqb (get_or w (a + n + i) 0) 0)
        (λ i k. let e : a + n + i ≡ a + (n + i) = omega arith in
        eq-eqb (get_or w (a + n + i) 0) 0 (ap (λ (j : ℕ). get_or w j 0) e
        ∙ tidy_past n (log_at w a) tidy (n + i) (omega arith) (omega arith)))

-- the messages that the FIFO log of p may have
may_deliver : State → ℕ → ℕ → Bool
may_deliver s p m = is_message s m && addressee s m p

module _ (w : List ℕ) (p : ℕ) (low : p < 16) (here : p < view w size) where
  is_here : is_process (view w) p ≡ true
  is_here = lt-ltb p (view w size) here

  fifo_cell : (i : ℕ) → fine (view w) (fifo p i)
      ≡ item (view w (fifo_length p)) (may_deliver (view w) p) (log_at w (3 + p * 429 + 301)) i
      (log_at w (3 + p * 429 + 301) i)
  unfolding fine fit may_deliver
  fifo_cell i =
      ap (λ (b : Bool). word b (view w (fifo p i))
      (item (view w (fifo_length p)) (may_deliver (view w) p) (λ j. view w (fifo p j)) i (view w (fifo p i)))) is_here

  causal_cell : (i : ℕ) → fine (view w) (causal p i)
      ≡ item (view w (causal_length p))
      (λ m. not (absent (view w (fifo_length p)) m (log_at w (3 + p * 429 + 301)))) (log_at w (3 + p * 429 + 365)) i
      (log_at w (3 + p * 429 + 365) i)
  unfolding fine fit
  causal_cell i =
      ap (λ (b : Bool). word b (view w (causal p i)) (item (view w (causal_length p))
      (λ m. not (absent (view w (fifo_length p)) m (λ i. view w (fifo p i)))) (λ j. view w (causal p j)) i
      (view w (causal p i)))) is_here

  -- logs that are fine are tidy
  module _ (few : view w count ≤ 64) (e : logs_fine (view w) p ≡ true) where
    fifo_fine : (i : ℕ) → i < 64 → fine (view w) (fifo p i) ≡ true
    unfolding logs_fine
    fifo_fine i l =
        run_cell (view w) (3 + p * 429 + 301) 64
        (both_l (fine_run (view w) (3 + p * 429 + 301) 64) (fine_run (view w) (3 + p * 429 + 365) 64) e)
        (fifo p i) (low, l) (omega arith) (omega arith)

    causal_fine : (i : ℕ) → i < 64 → fine (view w) (causal p i) ≡ true
    unfolding logs_fine
    causal_fine i l =
        run_cell (view w) (3 + p * 429 + 365) 64
        (both_r (fine_run (view w) (3 + p * 429 + 301) 64) (fine_run (view w) (3 + p * 429 + 365) 64) e)
        (causal p i) (low, l) (omega arith) (omega arith)

    pub fifo_low : (i : ℕ) → i < 64 → i < view w (fifo_length p) → view w (fifo p i) < view w count
    unfolding item may_deliver
    fifo_low i k l =
        let x : ℕ = view w (fifo p i) in
        let a = word_in (ltb i (view w (fifo_length p))) x _ (sym (fifo_cell i) ∙ fifo_fine i k)
        (lt-ltb i (view w (fifo_length p)) l) in
        ltb-true x (view w count)
        (both_l (is_message (view w) x) (addressee (view w) x p)
        (both_l (is_message (view w) x && addressee (view w) x p) (absent i x (λ j. view w (fifo p j))) a))

    past_zero : (b : Bool) (x : ℕ) (t : Bool) → b ≡ false → word b x t ≡ true → x ≡ 0
    past_zero true x t q r = clash {b = true} refl q
    past_zero false x t q r = eqb-true x 0 r

    pub fine_tidy : view w (fifo_length p) ≤ 64 → view w (causal_length p) ≤ 64 → tidy_logs (view w) p ≡ true
    unfolding tidy_logs item
    fine_tidy lf lc =
        both_i (tidy_log (view w (fifo_length p)) (λ i. view w (fifo p i)))
        (tidy_log (view w (causal_length p)) (λ i. view w (causal p i)))
        (tidy_intro (view w (fifo_length p)) (λ i. view w (fifo p i))
        (λ i l. omega (arith, fifo_low i (omega arith) l))
        (λ i l k. past_zero (ltb i (view w (fifo_length p))) (view w (fifo p i)) _
        (le-ltb i (view w (fifo_length p)) l) (sym (fifo_cell i) ∙ fifo_fine i k)))
        (tidy_intro (view w (causal_length p)) (λ i. view w (causal p i))
        (λ i l. listed i (absent_in (view w (fifo_length p)) (view w (causal p i)) (λ j. view w (fifo p j))
        (not_true_is _ (both_l (not (absent (view w (fifo_length p)) (view w (causal p i)) (λ j. view w (fifo p j))))
        (absent i (view w (causal p i)) (λ j. view w (causal p j)))
        (word_in (ltb i (view w (causal_length p))) (view w (causal p i)) _
        (sym (causal_cell i) ∙ causal_fine i (omega arith)) (lt-ltb i (view w (causal_length p)) l))))))
        (λ i l k. past_zero (ltb i (view w (causal_length p))) (view w (causal p i)) _
        (le-ltb i (view w (causal_length p)) l) (sym (causal_cell i) ∙ causal_fine i k)))
      where
        not_true_is : (b : Bool) → not b ≡ true → b ≡ false
        not_true_is true q = clash {b = false} q refl
        not_true_is false q = refl

        listed : (i : ℕ) → In (view w (fifo_length p)) (λ j. view w (fifo p j)) (view w (causal p i))
            → view w (causal p i) < 64
        listed i (in_at j k d) = omega (arith, fifo_low j (omega arith) k, d)

  -- the two logs by what a pass over each tells
  module _ (to from counts : List ℕ) (a : Addressees (view w) to) (f c fifos all causals : ℕ)
      (ef : f ≡ view w (fifo_length p)) (ec : c ≡ view w (causal_length p)) (lf : f ≤ 64) (lc : c ≤ 64)
      (tidy : tidy_logs (view w) p ≡ true)
      (h : Passed (log_at w (3 + p * 429 + 301)) f to from fifos all counts)
      (k : Members causals c (log_at w (3 + p * 429 + 365))) where
    first_tidy : tidy_log f (log_at w (3 + p * 429 + 301)) ≡ true
    unfolding tidy_logs
    first_tidy =
        ap (λ (n : ℕ). tidy_log n (log_at w (3 + p * 429 + 301))) ef
        ∙ both_l (tidy_log (view w (fifo_length p)) (λ i. view w (fifo p i)))
        (tidy_log (view w (causal_length p)) (λ i. view w (causal p i))) tidy

    second_tidy : tidy_log c (log_at w (3 + p * 429 + 365)) ≡ true
    unfolding tidy_logs
    second_tidy =
        ap (λ (n : ℕ). tidy_log n (log_at w (3 + p * 429 + 365))) ec
        ∙ both_r (tidy_log (view w (fifo_length p)) (λ i. view w (fifo p i)))
        (tidy_log (view w (causal_length p)) (λ i. view w (causal p i))) tidy

    first_low : (i : ℕ) → i < f → log_at w (3 + p * 429 + 301) i < 64
    first_low = tidy_low f (log_at w (3 + p * 429 + 301)) first_tidy lf

    fifo_law : (eqb (tally 64 (bit fifos)) f && bit all p) ≡ fine_run (view w) (3 + p * 429 + 301) 64
    unfolding may_deliver
    fifo_law =
        tidy_law w (3 + p * 429 + 301) f (fifo p) (may_deliver (view w) p) (eqb (tally 64 (bit fifos)) f && bit all p) lf
        first_tidy (λ i l. (low, l)) (λ i. refl)
        (λ i. fifo_cell i ∙ ap (λ (n : ℕ). item n (may_deliver (view w) p) (log_at w (3 + p * 429 + 301)) i
        (log_at w (3 + p * 429 + 301) i)) (sym ef))
        (items_law (log_at w (3 + p * 429 + 301)) f fifos first_low h.members (may_deliver (view w) p) (bit all p)
        (h.common p low
        ∙ every_cong f (λ i. bit (get_or to (log_at w (3 + p * 429 + 301) i) 0) p)
        (λ i. may_deliver (view w) p (log_at w (3 + p * 429 + 301) i))
        (λ i l. ap (λ (x : ℕ). bit x p) (a.at (log_at w (3 + p * 429 + 301) i) (first_low i l))
        ∙ addressee_bit (view w) (log_at w (3 + p * 429 + 301) i) p)))

    causal_law : causals < 2 ^ 64 → (eqb (tally 64 (bit causals)) c && eqb (bit_and causals fifos) causals)
        ≡ fine_run (view w) (3 + p * 429 + 365) 64
    causal_law small =
        tidy_law w (3 + p * 429 + 365) c (causal p) (λ m. not (absent f m (log_at w (3 + p * 429 + 301))))
        (eqb (tally 64 (bit causals)) c && eqb (bit_and causals fifos) causals) lc second_tidy (λ i l. (low, l)) (λ i. refl)
        (λ i. causal_cell i ∙ ap₂ (λ (n m : ℕ). item n (λ x. not (absent m x (log_at w (3 + p * 429 + 301))))
        (log_at w (3 + p * 429 + 365)) i (log_at w (3 + p * 429 + 365) i)) (sym ec) (sym ef))
        (items_law (log_at w (3 + p * 429 + 365)) c causals second_low k
        (λ m. not (absent f m (log_at w (3 + p * 429 + 301)))) (eqb (bit_and causals fifos) causals)
        (within_law (log_at w (3 + p * 429 + 365)) c causals second_low k f fifos (log_at w (3 + p * 429 + 301)) small
        h.members))
      where
        second_low : (i : ℕ) → i < c → log_at w (3 + p * 429 + 365) i < 64
        second_low = tidy_low c (log_at w (3 + p * 429 + 365)) second_tidy lc

    -- with next, which is right where the logs are
    pub logs_law : (next good : Bool) → causals < 2 ^ 64
        → (logs_fine (view w) p ≡ true → next ≡ fine_run (view w) (3 + p * 429 + 138) 16)
        → ((((eqb (tally 64 (bit fifos)) f && bit all p) && eqb (tally 64 (bit causals)) c)
        && eqb (bit_and causals fifos) causals) && next) ≡ good
        → LogsOf (view w) p (cond good (Some record { fifo = fifos; causal = causals }) None)
    unfolding logs_fine
    logs_law next good small en e = record {
      is_good = some_if good ∙ sym e
          ∙ ap (λ (b : Bool). b && next)
          (assoc (eqb (tally 64 (bit fifos)) f && bit all p) (eqb (tally 64 (bit causals)) c)
          (eqb (bit_and causals fifos) causals)
          ∙ ap₂ both fifo_law (causal_law small))
          ∙ go (logs_fine (view w) p) refl;
      first = λ x q m l. ap (λ (y : Listed). bit y.fifo m) (sym (cond_some good sets x q).1)
          ∙ h.members m l ∙ ap (λ (n : ℕ). not (absent n m (log_at w (3 + p * 429 + 301)))) ef;
      second = λ x q m l. ap (λ (y : Listed). bit y.causal m) (sym (cond_some good sets x q).1)
          ∙ k m l ∙ ap (λ (n : ℕ). not (absent n m (log_at w (3 + p * 429 + 365)))) ec;
    }
      where
        sets : Listed
        sets = record { fifo = fifos; causal = causals }

        some_if : (b : Bool) → is_some (cond b (Some sets) None) ≡ b
        some_if true = refl
        some_if false = refl

        assoc : (x y z : Bool) → ((x && y) && z) ≡ (x && (y && z))
        assoc true y z = refl
        assoc false y z = refl

        go : (b : Bool) → logs_fine (view w) p ≡ b
            → (logs_fine (view w) p && next) ≡ (logs_fine (view w) p && fine_run (view w) (3 + p * 429 + 138) 16)
        go true q = ap (both (logs_fine (view w) p)) (en q)
        go false q =
            ap (λ (b : Bool). b && next) q
            ∙ sym (ap (λ (b : Bool). b && fine_run (view w) (3 + p * 429 + 138) 16) q)

    -- how many are of each sender, where the logs are fine
    pub passed_counted : Senders (view w) (view w count) from → view w count ≤ 64 → logs_fine (view w) p ≡ true
        → Counted w (3 + p * 429 + 301) f counts
    passed_counted t few e = record {
      long = h.long;
      entries = λ q l. h.counted q l
          ∙ tally_cong f (λ i. eqb (get_or from (log_at w (3 + p * 429 + 301) i) 0) q) (from_at w (3 + p * 429 + 301) q)
          (λ i l. ap (λ (x : ℕ). eqb x q) (t.at (log_at w (3 + p * 429 + 301) i)
          (fifo_low few e i (omega arith) (omega arith))));
    }

pub passed_small : (log : ℕ → ℕ) (n : ℕ) (to from : List ℕ) (set all : ℕ) (counts : List ℕ) → n ≤ 64
    → Passed log n to from set all counts → Small counts
passed_small log n to from set all counts l h = record {
  long = h.long;
  small = λ q k. omega (arith, h.counted q k, tally_le n (λ i. eqb (get_or from (log i) 0) q));
}
