-- The block of a process: its parts, in the order of the test, are the whole block. Assumes nothing.
use Rattle.std.specs.Prelude.{◌≡◌, Bool, true, false, cond, ◌&&◌, Some, None, List, eqb, length, take, drop}
use Rattle.std.proofs.Math.Path.{refl, sym, ap₂}
use Rattle.std.proofs.Common.{ap, ◌∙◌, subst, lt-ltb}
use Prim.Native.Nat.{ℕ, ◌+◌, ◌*◌, ◌/◌, ◌^◌, ◌≤◌, ◌<◌}
use native.Mathlib.Omega.{arith}
use Rattle.std.specs.Int.Bits.{bit_and}
use Rattle.std.proofs.Math.Dec.{ltb, leb}
use Rattle.definitions.specs.General.{every, tally, bit, only}
use Rattle.definitions.specs.World.{State, size, count, group, trust, counter, sequence, delivered, up, fifo_length, causal_length, fifo, causal, view, is_process}
use Rattle.definitions.specs.Sound.{word, fit, fine}
use Rattle.base.specs.Tests.{both, both_l, both_r, both_i, clash, same}
use Rattle.base.specs.Search.{every_true}
use Rattle.world.specs.SoundLaws.{word_leb}
use Rattle.sets.specs.Members.{Members, item_of, members_cong}
use Rattle.sets.specs.Powers.{Low}
use Rattle.ranges.specs.Ranges.{within_at}
use Rattle.ranges.specs.Laws.{part_length, part_word}
use Rattle.base.specs.Sets.{shift_only}
use Rattle.logtest.specs.Log.{log_at, Passable, Passed}
use Rattle.logtest.specs.Laws.{passed_cong}
use Rattle.limits.specs.Senders.{Senders}
use Rattle.regions.specs.Runs.{fine_run, run_one, run_join, run_part, run_cell}
use Rattle.regions.specs.Rows.{Block}
use Rattle.regions.specs.Nexts.{nexts_at, nexts_law}
use Rattle.blocks.specs.declared.Known.{Known}
use Rattle.blocks.specs.Known.{Ready, Tables, Lengths, from_small}
use Rattle.blocks.specs.Counted.{table_law, row_law}
use Rattle.blocks.specs.Logs.{tidy_log, tidy_logs, logs_fine, LogsOf, tidy_low, fine_tidy, logs_law, passed_counted}

-- What stands before the logs and does not rest on them.
unfoldable pub front_fine : State → ℕ → Bool
front_fine s p =
    fine s (trust p) && fine_run s (3 + p * 429 + 2) 136 && fine_run s (3 + p * 429 + 154) 16
    && fine s (up p) && fine s (fifo_length p) && fine s (causal_length p)

-- The same, part by part.
record Front (s : State) (p : ℕ) : Type 0 where
  trust_part : fine s (trust p) ≡ true
  counters_part : fine_run s (3 + p * 429 + 2) 136 ≡ true
  delivered_part : fine_run s (3 + p * 429 + 154) 16 ≡ true
  up_part : fine s (up p) ≡ true
  fifo_part : fine s (fifo_length p) ≡ true
  causal_part : fine s (causal_length p) ≡ true

front_parts : (s : State) (p : ℕ) → front_fine s p ≡ true → Front s p
unfolding front_fine
front_parts s p e =
    let a : Bool = fine s (trust p) in
    let b : Bool = a && fine_run s (3 + p * 429 + 2) 136 in
    let c : Bool = b && fine_run s (3 + p * 429 + 154) 16 in
    let d : Bool = c && fine s (up p) in
    let f : Bool = d && fine s (fifo_length p) in
    let ef = both_l f (fine s (causal_length p)) e in
    let ed = both_l d (fine s (fifo_length p)) ef in
    let ec = both_l c (fine s (up p)) ed in
    let eb = both_l b (fine_run s (3 + p * 429 + 154) 16) ec in
    record {
      trust_part = both_l a (fine_run s (3 + p * 429 + 2) 136) eb;
      counters_part = both_r a (fine_run s (3 + p * 429 + 2) 136) eb;
      delivered_part = both_r b (fine_run s (3 + p * 429 + 154) 16) ec;
      up_part = both_r c (fine s (up p)) ed;
      fifo_part = both_r d (fine s (fifo_length p)) ef;
      causal_part = both_r f (fine s (causal_length p)) e;
    }

parts_front : (s : State) (p : ℕ) → Front s p → front_fine s p ≡ true
unfolding front_fine
parts_front s p x =
    rw (x.trust_part, x.counters_part, x.delivered_part, x.up_part, x.fifo_part, x.causal_part)

-- The blocks of the first n processes are fine.
unfoldable pub processes_fine : State → ℕ → Bool
processes_fine s n = every n (λ p. fine_run s (3 + p * 429) 429)

pub processes_not : (s : State) (n p : ℕ) → p < n → false ≡ fine_run s (3 + p * 429) 429 → false ≡ processes_fine s n
unfolding processes_fine
processes_not s n p l e = go (every n f) refl
  where
    f : ℕ → Bool
    f q = fine_run s (3 + q * 429) 429

    go : (b : Bool) → every n f ≡ b → false ≡ b
    go true q = e ∙ every_true n f q p l
    go false q = refl

module _ (w : List ℕ) (p : ℕ) (t : Known) (h : Ready w t) (l : p < t.size) where
  is_here : is_process (view w) p ≡ true
  is_here = lt-ltb p (view w size) (let e = h.sized.size_is in omega arith)

  pub low : p < 16
  low = let e = h.sized.high in omega arith

  pub block : Block w p
  block = record {
    long = h.sized.long;
    low = low;
    here = let e = h.sized.size_is in omega arith;
  }

  used : (x : ℕ) (t : Bool) → word (is_process (view w) p) x t ≡ t
  used x t = ap (λ (b : Bool). word b x t) is_here

  counters_law : within_at w (3 + p * 429 + 2) t.limits 0 136 ≡ fine_run (view w) (3 + p * 429 + 2) 136
  unfolding fine fit
  counters_law =
      table_law w t.limits h.bounds (is_process (view w) p) is_here (3 + p * 429 + 2) (counter p)
      (sequence p)
      (λ g q a b. (low, a, b)) (λ g q. refl) (λ g a. (low, a)) (λ g. omega arith) (λ g q. refl) (λ g. refl)

  delivered_law : within_at w (3 + p * 429 + 154) t.limits 136 16 ≡ fine_run (view w) (3 + p * 429 + 154) 16
  unfolding fine fit
  delivered_law =
      row_law w t.limits h.bounds (is_process (view w) p) is_here (3 + p * 429 + 154) (delivered p)
      (λ q a. (low, a)) (λ q. refl) (λ q. refl)

  trust_law : (x : ℕ) → x ≡ view w (trust p) → x < 2 ^ 16 → eqb (x / 2 ^ t.size) 0 ≡ fine (view w) (trust p)
  unfolding fine fit
  trust_law x e k =
      shift_only 16 t.size x k h.sized.high
      ∙ ap₂ (λ (y j : ℕ). only 16 y (λ i. ltb i j)) e h.sized.size_is
      ∙ sym (used (view w (trust p)) (only 16 (view w (trust p)) (is_process (view w))))

  up_law : leb (view w (up p)) 1 ≡ fine (view w) (up p)
  unfolding fine fit
  up_law = sym (used (view w (up p)) (leb (view w (up p)) 1))

  fifo_length_law : (f : ℕ) → f ≡ view w (fifo_length p) → leb f t.count ≡ fine (view w) (fifo_length p)
  unfolding fine fit
  fifo_length_law f e =
      ap₂ leb e h.sized.count_is
      ∙ sym (used (view w (fifo_length p)) (leb (view w (fifo_length p)) (view w count)))

  causal_length_law : (c f : ℕ) → c ≡ view w (causal_length p) → f ≡ view w (fifo_length p)
      → leb c f ≡ fine (view w) (causal_length p)
  unfolding fine fit
  causal_length_law c f ec ef =
      ap₂ leb ec ef ∙ sym (used (view w (causal_length p))
      (leb (view w (causal_length p)) (view w (fifo_length p))))

  pub front_law : (x f c : ℕ) → x ≡ view w (trust p) → x < 2 ^ 16 → f ≡ view w (fifo_length p)
      → c ≡ view w (causal_length p)
      → (((((eqb (x / 2 ^ t.size) 0 && within_at w (3 + p * 429 + 2) t.limits 0 136)
      && within_at w (3 + p * 429 + 154) t.limits 136 16)
      && leb (view w (up p)) 1) && leb f t.count) && leb c f)
      ≡ front_fine (view w) p
  unfolding front_fine
  front_law x f c ex k ef ec =
      ap₂ both
      (ap₂ both
      (ap₂ both (ap₂ both (ap₂ both (trust_law x ex k) counters_law) delivered_law) up_law)
      (fifo_length_law f ef)) (causal_length_law c f ec ef)

  -- ---- what the parts tell
  pub lengths : front_fine (view w) p ≡ true → Lengths (view w) p
  unfolding fine fit
  lengths e =
      let x = front_parts (view w) p e in
      let a : view w (fifo_length p) ≤ view w count =
      word_leb (is_process (view w) p) (view w (fifo_length p)) (view w count) x.fifo_part in
      let b : view w (causal_length p) ≤ view w (fifo_length p) =
      word_leb (is_process (view w) p) (view w (causal_length p)) (view w (fifo_length p))
      x.causal_part in
      let k = h.sized.count_is in
      let m = h.sized.few in
      record { fifo_few = omega arith; causal_few = omega arith }

  -- ---- what the passes over the logs want, and what they tell
  abbrev pub part : ℕ → ℕ → List ℕ
  part a n = take n (drop a w)

  module _ (r : Lengths (view w) p) (tidy : tidy_logs (view w) p ≡ true) where
    -- the logs as parts of the words: how long each is, and its items
    pub first_length : (n : ℕ) → n ≡ view w (fifo_length p) → length (part (3 + p * 429 + 301) n) ≡ n
    first_length n e = part_length w (3 + p * 429 + 301) n (omega (arith, h.sized.long, low, r.fifo_few))

    second_length : (n : ℕ) → n ≡ view w (causal_length p) → length (part (3 + p * 429 + 365) n) ≡ n
    second_length n e = part_length w (3 + p * 429 + 365) n (omega (arith, h.sized.long, low, r.causal_few))

    pub first_item : (n : ℕ) → n ≡ view w (fifo_length p) → (i : ℕ) → i < length (part (3 + p * 429 + 301) n)
        → item_of (part (3 + p * 429 + 301) n) i ≡ view w (fifo p i)
    first_item n e i k = part_word w (3 + p * 429 + 301) n i (omega (arith, k, first_length n e))

    pub passable : Tables (view w) t → (n : ℕ) → n ≡ view w (fifo_length p)
        → Passable (part (3 + p * 429 + 301) n) t.addressees t.from t.bits
    unfolding tidy_logs
    passable b n e = record {
      items = λ i k. omega (
        arith,
        first_item n e i k,
        tidy_low (view w (fifo_length p)) (λ j. view w (fifo p j))
            (both_l (tidy_log (view w (fifo_length p)) (λ j. view w (fifo p j)))
            (tidy_log (view w (causal_length p)) (λ j. view w (causal p j))) tidy) r.fifo_few i
            (omega (arith, k, first_length n e)),
      );
      few = omega (arith, first_length n e, r.fifo_few);
      addressees = h.to.long;
      senders = b.senders.long;
      small = from_small w t h b;
      powers = b.powers;
    }

    pub causal_items : (n : ℕ) → n ≡ view w (causal_length p) → Low (part (3 + p * 429 + 365) n)
    unfolding tidy_logs
    causal_items n e i k =
        let d : i < n = omega (arith, k, second_length n e) in
        omega (
          arith,
          part_word w (3 + p * 429 + 365) n i d,
          tidy_low (view w (causal_length p)) (λ j. view w (causal p j))
              (both_r (tidy_log (view w (fifo_length p)) (λ j. view w (fifo p j)))
              (tidy_log (view w (causal_length p)) (λ j. view w (causal p j))) tidy) r.causal_few i (omega arith),
        )

    pub logs_told : Tables (view w) t → (f c x y fifos all causals : ℕ) (counts : List ℕ) (next good : Bool)
        → f ≡ view w (fifo_length p) → c ≡ view w (causal_length p) → x ≡ f → y ≡ c → causals < 2 ^ 64
        → Passed (item_of (part (3 + p * 429 + 301) x)) (length (part (3 + p * 429 + 301) x)) t.addressees t.from fifos all
        counts
        → Members causals (length (part (3 + p * 429 + 365) y)) (item_of (part (3 + p * 429 + 365) y))
        → next ≡ nexts_at w (3 + p * 429 + 138) t.size counts
        → ((((eqb (tally 64 (bit fifos)) f && bit all p) && eqb (tally 64 (bit causals)) c)
        && eqb (bit_and causals fifos) causals) && next) ≡ good
        → LogsOf (view w) p (cond good (Some record { fifo = fifos; causal = causals }) None)
    logs_told b f c x y fifos all causals counts next good ef ec ex ey small parts_a parts_b en =
        let a = passed_cong (item_of (part (3 + p * 429 + 301) x)) (log_at w (3 + p * 429 + 301)) _ f
        (first_length x (ex ∙ ef) ∙ ex) (λ i l. part_word w (3 + p * 429 + 301) x i (omega arith)) parts_a in
        let d = members_cong causals _ c (item_of (part (3 + p * 429 + 365) y)) (log_at w (3 + p * 429 + 365))
        (second_length y (ey ∙ ec) ∙ ey) (λ i l. part_word w (3 + p * 429 + 365) y i (omega arith)) parts_b in
        let few : view w count ≤ 64 = omega (arith, h.sized.count_is, h.sized.few) in
        logs_law w p low block.here t.addressees t.from counts h.to f c fifos all causals ef ec
        (omega (arith, r.fifo_few)) (omega (arith, r.causal_few)) tidy a d next good small
        (λ e. en ∙ nexts_law w p t.size f counts block h.sized.size_is ef
        (passed_counted w p low block.here t.addressees t.from counts h.to f c fifos all causals ef ec
        (omega (arith, r.fifo_few)) (omega (arith, r.causal_few)) tidy a d
        (subst (λ (k : ℕ). Senders (view w) k t.from) h.sized.count_is b.senders) few e))

  -- ---- the whole block
  parts_whole : front_fine (view w) p ≡ true → logs_fine (view w) p ≡ true
      → fine_run (view w) (3 + p * 429 + 138) 16 ≡ true → fine_run (view w) (3 + p * 429 + 173) 64 ≡ true
      → fine_run (view w) (3 + p * 429 + 237) 64 ≡ true → fine_run (view w) (3 + p * 429) 429 ≡ true
  unfolding logs_fine
  parts_whole ef el en eh em =
      let x = front_parts s p ef in
      let b : ℕ = 3 + p * 429 in
      let g = h.placed.fine_groups p (let e = h.sized.size_is in omega arith) in
      let f = both_l (fine_run s (3 + p * 429 + 301) 64) (fine_run s (3 + p * 429 + 365) 64) el in
      let c = both_r (fine_run s (3 + p * 429 + 301) 64) (fine_run s (3 + p * 429 + 365) 64) el in
      run_join s b 1 428 (b + 1) 429 refl refl (sym (run_one s (group p) low) ∙ g)
      (run_join s (b + 1) 1 427 (b + 2) 428 (omega arith) refl (sym (run_one s (trust p) low)
      ∙ x.trust_part)
      (run_join s (b + 2) 136 291 (b + 138) 427 (omega arith) refl x.counters_part
      (run_join s (b + 138) 16 275 (b + 154) 291 (omega arith) refl en
      (run_join s (b + 154) 16 259 (b + 170) 275 (omega arith) refl x.delivered_part
      (run_join s (b + 170) 1 258 (b + 171) 259 (omega arith) refl (sym (run_one s (up p) low) ∙ x.up_part)
      (run_join s (b + 171) 1 257 (b + 172) 258 (omega arith) refl (sym (run_one s (fifo_length p) low)
      ∙ x.fifo_part)
      (run_join s (b + 172) 1 256 (b + 173) 257 (omega arith) refl (sym (run_one s (causal_length p) low)
      ∙ x.causal_part)
      (run_join s (b + 173) 64 192 (b + 237) 256 (omega arith) refl eh
      (run_join s (b + 237) 64 128 (b + 301) 192 (omega arith) refl em
      (run_join s (b + 301) 64 64 (b + 365) 128 (omega arith) refl f c))))))))))
    where
      s : State
      s = view w

  pub block_law : (front_fine (view w) p
      && (logs_fine (view w) p && (fine_run (view w) (3 + p * 429 + 138) 16
      && (fine_run (view w) (3 + p * 429 + 173) 64 && fine_run (view w) (3 + p * 429 + 237) 64))))
      ≡ fine_run (view w) (3 + p * 429) 429
  unfolding logs_fine
  block_law = same (F && (L && (N && (H && M)))) (fine_run s b 429)
      (λ e.
      let e1 = both_r F (L && (N && (H && M))) e in
      let e2 = both_r L (N && (H && M)) e1 in
      let e3 = both_r N (H && M) e2 in
      parts_whole (both_l F (L && (N && (H && M))) e) (both_l L (N && (H && M)) e1) (both_l N (H && M) e2)
      (both_l H M e3) (both_r H M e3))
      (λ e. both_i F (L && (N && (H && M))) (front_whole e) (both_i L (N && (H && M))
      (both_i (fine_run s (b + 301) 64) (fine_run s (b + 365) 64)
      (part e (b + 301) 64 (omega arith) (omega arith)) (part e (b + 365) 64 (omega arith) (omega arith)))
      (both_i N (H && M) (part e (b + 138) 16 (omega arith) (omega arith))
      (both_i H M (part e (b + 173) 64 (omega arith) (omega arith))
      (part e (b + 237) 64 (omega arith) (omega arith))))))
    where
      s : State
      s = view w

      b : ℕ
      b = 3 + p * 429

      F : Bool
      F = front_fine s p

      L : Bool
      L = logs_fine s p

      N : Bool
      N = fine_run s (3 + p * 429 + 138) 16

      H : Bool
      H = fine_run s (3 + p * 429 + 173) 64

      M : Bool
      M = fine_run s (3 + p * 429 + 237) 64

      part : fine_run s b 429 ≡ true → (a k : ℕ) → b ≤ a → a + k ≤ b + 429 → fine_run s a k ≡ true
      part e a k lo hi = run_part s b 429 e a k lo hi

      front_whole : fine_run s b 429 ≡ true → front_fine s p ≡ true
      front_whole e = parts_front s p record {
        trust_part = run_cell s b 429 e (trust p) low (omega arith) (omega arith);
        counters_part = part e (b + 2) 136 (omega arith) (omega arith);
        delivered_part = part e (b + 154) 16 (omega arith) (omega arith);
        up_part = run_cell s b 429 e (up p) low (omega arith) (omega arith);
        fifo_part = run_cell s b 429 e (fifo_length p) low (omega arith) (omega arith);
        causal_part = run_cell s b 429 e (causal_length p) low (omega arith) (omega arith);
      }

  -- ---- what the test answers after each part
  pub block_front : front_fine (view w) p ≡ false → false ≡ fine_run (view w) (3 + p * 429) 429
  block_front e =
      sym (ap (λ (b : Bool). b && (logs_fine (view w) p && (fine_run (view w) (3 + p * 429 + 138) 16
      && (fine_run (view w) (3 + p * 429 + 173) 64 && fine_run (view w) (3 + p * 429 + 237) 64)))) e)
      ∙ block_law

  pub block_tidy : front_fine (view w) p ≡ true → tidy_logs (view w) p ≡ false
      → false ≡ fine_run (view w) (3 + p * 429) 429
  block_tidy f e =
      sym (ap₂ (λ (a b : Bool). a && (b && (fine_run (view w) (3 + p * 429 + 138) 16
      && (fine_run (view w) (3 + p * 429 + 173) 64 && fine_run (view w) (3 + p * 429 + 237) 64)))) f
      (untidy (logs_fine (view w) p) refl))
      ∙ block_law
    where
      untidy : (b : Bool) → logs_fine (view w) p ≡ b → logs_fine (view w) p ≡ false
      untidy true q =
          let r = lengths f in
          clash (fine_tidy w p low (let e = h.sized.size_is in omega arith)
          (omega (arith, h.sized.count_is, h.sized.few)) q r.fifo_few r.causal_few) e
      untidy false q = q

  pub block_rest : front_fine (view w) p ≡ true → (x y : Bool)
      → x ≡ (logs_fine (view w) p && fine_run (view w) (3 + p * 429 + 138) 16)
      → y ≡ (fine_run (view w) (3 + p * 429 + 173) 64 && fine_run (view w) (3 + p * 429 + 237) 64)
      → (x && y) ≡ fine_run (view w) (3 + p * 429) 429
  block_rest f x y ex ey =
      ap₂ both ex ey
      ∙ assoc (logs_fine (view w) p) (fine_run (view w) (3 + p * 429 + 138) 16)
      (fine_run (view w) (3 + p * 429 + 173) 64 && fine_run (view w) (3 + p * 429 + 237) 64)
      ∙ sym (ap (λ (a : Bool). a && (logs_fine (view w) p && (fine_run (view w) (3 + p * 429 + 138) 16
      && (fine_run (view w) (3 + p * 429 + 173) 64 && fine_run (view w) (3 + p * 429 + 237) 64)))) f)
      ∙ block_law
    where
      assoc : (a b c : Bool) → ((a && b) && c) ≡ (a && (b && c))
      assoc true b c = refl
      assoc false b c = refl
