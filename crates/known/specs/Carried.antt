-- The known runs on lent words: whatever 20,480 words are lent, each row's setup record gives its refusal,
-- and the calls in turn give the refusals, the answers and the logs of its lines. One theorem carries a row
-- that passes on states to the words, so the table is computed once and on states. Assumes nothing.
use Rattle.std.specs.Prelude.{◌≡◌, refl, Bool, true, false, ◌&&◌, List, [], ◌∷◌, ℕ, eqb, length}
use Rattle.std.proofs.Common.{sym, ap, ap₂, ◌∙◌, arith, eqb-true, ltb-true}
use Rattle.definitions.specs.General.{tabulate, gives}
use Rattle.definitions.specs.World.{size, up, fifo_length, causal_length, fifo, causal, State, encode, view, is_process}
use Rattle.definitions.specs.Setup.{setup_refusal, made}
use Rattle.definitions.specs.Steps.{read, is_up, refusal, after}
use Rattle.definitions.specs.Settle.{Ending, done, stopped}
use Rattle.definitions.specs.Words.{making_refusal, made_words, step_refusal, stepped_words, settled_words, settle_reply, log_words}
use Rattle.definitions.specs.Block.{block, check_of}
use Rattle.base.specs.Tests.{clash, both_l, both_r}
use Rattle.world.specs.SoundLaws.{Sound, size_high}
use Rattle.world.specs.SettleLaws.{settle}
use Rattle.keeps.specs.Keeps.{fresh_sound, after_sound, settle_sound}
use Rattle.carried.specs.Calls.{view_agree, refusal_carried, step_carried, making_carried, made_carried, log_carried}
use Rattle.carried.specs.Carried.{settle_carried, reply_carried}
use Rattle.known.specs.Runs.{Line, takes, settles, shows, Row, plays, checks, same_list, same_flag, same_ending, lines_pass, row_passes, all_pass}

-- ---- what a row says of words
abbrev pub LinesHold : List ℕ → List Line → Type 0
LinesHold w [] = Unit {0}
LinesHold w (takes bytes n ∷ ls) = (step_refusal w bytes ≡ n) × LinesHold (stepped_words w bytes) ls
LinesHold w (settles o b e ∷ ls) = (settle_reply o w b ≡ gives e) × LinesHold (settled_words o w b) ls
LinesHold w (shows p live fs cs ∷ ls) =
    (is_up (view w) p ≡ live) × (log_words w p false ≡ fs) × (log_words w p true ≡ cs) × LinesHold w ls

pub record PlayHolds (w setup : List ℕ) (n : ℕ) (ls : List Line) : Type 0 where
  pub setup_answer : making_refusal w setup ≡ n
  pub lines_hold : n ≡ 0 → LinesHold (made_words w setup) ls

abbrev pub RowHolds : List ℕ → Row → Type 0
RowHolds w (plays setup n ls) = PlayHolds w setup n ls
RowHolds w (checks records n) = check_of (block 0 records) ≡ n

abbrev pub TableHolds : List ℕ → List Row → Type 0
TableHolds w [] = Unit {0}
TableHolds w (r ∷ rs) = RowHolds w r × TableHolds w rs

-- ---- from a test to an equation
list_same : (xs ys : List ℕ) → same_list xs ys ≡ true → xs ≡ ys
list_same [] [] e = refl
list_same [] (y ∷ ys) e = clash {b = false} e refl
list_same (x ∷ xs) [] e = clash {b = false} e refl
list_same (x ∷ xs) (y ∷ ys) e =
    ap₂ (λ (a : ℕ) (l : List ℕ). a ∷ l) (eqb-true x y (both_l (eqb x y) (same_list xs ys) e))
    (list_same xs ys (both_r (eqb x y) (same_list xs ys) e))

flag_same : (a b : Bool) → same_flag a b ≡ true → a ≡ b
flag_same true true e = refl
flag_same true false e = sym e
flag_same false true e = e
flag_same false false e = refl

ending_same : (a b : Ending) → same_ending a b ≡ true → a ≡ b
ending_same (done m) (done n) e = ap done (eqb-true m n e)
ending_same (done m) (stopped n) e = clash {b = false} e refl
ending_same (stopped m) (done n) e = clash {b = false} e refl
ending_same (stopped m) (stopped n) e = ap stopped (eqb-true m n e)

-- ---- lines that pass at a sound state hold at its words
pub lines_carried : (s : State) → Sound s → (ls : List Line) → lines_pass s ls ≡ true
    → LinesHold (encode s) ls
unfolding lines_pass
lines_carried s h [] e = tt
lines_carried s h (takes bytes n ∷ ls) e =
    let t : State = after s (read bytes) in
    let a = both_l (eqb (refusal s (read bytes)) n) (lines_pass t ls) e in
    let rest = lines_carried t (after_sound s (read bytes) h) ls
    (both_r (eqb (refusal s (read bytes)) n) (lines_pass t ls) e) in (
      refusal_carried s h bytes ∙ eqb-true (refusal s (read bytes)) n a,
      rw (step_carried s h bytes) rest,
    )
lines_carried s h (settles o b x ∷ ls) e =
    let t : State = (settle o s b).world in
    let a = both_l (same_ending (settle o s b).ending x) (lines_pass t ls) e in
    let rest = lines_carried t (settle_sound o s b h) ls
    (both_r (same_ending (settle o s b).ending x) (lines_pass t ls) e) in (
      reply_carried o s h b ∙ ap gives (ending_same (settle o s b).ending x a),
      rw (settle_carried o s h b) rest,
    )
lines_carried s h (shows p live fs cs ∷ ls) e =
    let here : Bool = is_process s p in
    let flag : Bool = same_flag (is_up s p) live in
    let first : Bool = same_list (tabulate (s (fifo_length p)) (λ i. s (fifo p i))) fs in
    let second : Bool = same_list (tabulate (s (causal_length p)) (λ i. s (causal p i))) cs in
    let e1 = both_l (here && flag && first && second) (lines_pass s ls) e in
    let e2 = both_l (here && flag && first) second e1 in
    let e3 = both_l (here && flag) first e2 in
    let hp = ltb-true p (s size) (both_l here flag e3) in (
      sym (ap (λ (v : ℕ). eqb v 1) ((view_agree s h).at (up p) (omega (arith, hp, size_high s h))).0)
          ∙ flag_same (is_up s p) live (both_r here flag e3),
      log_carried s h p hp false ∙ list_same _ fs (both_r (here && flag) first e2),
      log_carried s h p hp true ∙ list_same _ cs (both_r (here && flag && first) second e1),
      lines_carried s h ls (both_r (here && flag && first && second) (lines_pass s ls) e),
    )

pub row_carried : (w : List ℕ) → length w ≡ 20480 → (r : Row) → row_passes r ≡ true → RowHolds w r
unfolding row_passes
row_carried w l (plays setup n ls) e =
    let a = eqb-true (setup_refusal setup) n (both_l _ (lines_pass (made setup) ls) e) in
    let rest = both_r (eqb (setup_refusal setup) n) (lines_pass (made setup) ls) e in
    record {
      setup_answer = making_carried w setup l ∙ a;
      lines_hold = λ z.
          (let ok : setup_refusal setup ≡ 0 = a ∙ z in
          rw (made_carried w setup l ok) (lines_carried (made setup) (fresh_sound setup ok) ls rest));
    }
row_carried w l (checks records n) e = eqb-true (check_of (block 0 records)) n e

pub table_carried : (w : List ℕ) → length w ≡ 20480 → (rs : List Row) → all_pass rs ≡ true → TableHolds w rs
unfolding all_pass
table_carried w l [] e = tt
table_carried w l (r ∷ rs) e = (
  row_carried w l r (both_l (row_passes r) (all_pass rs) e),
  table_carried w l rs
      (both_r (row_passes r) (all_pass rs) e),
)
