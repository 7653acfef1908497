-- What a step does to the count and to the order numbers: a multicast adds one message with its number, and
-- every other step leaves both. So the number of a message that there is stays. Assumes nothing.
use Rattle.std.specs.Prelude.{◌≡◌, refl, List, ◌≢◌, ℕ, ◌+◌, ◌<◌}
use Rattle.std.proofs.Common.{ap, ◌∙◌, arith}
use Rattle.definitions.specs.World.{count, order, State, put}
use Rattle.definitions.specs.Machine.{with_tables, merge, causal_one, appended, raised_next, fifo_one, cascade, raised, stamped, numbered, posted, multicast, leave, arrival, trust_set, crash}
use Rattle.definitions.specs.Steps.{Step, multicasts, arrives, loses, trusts, crashes, malformed, step}
use Rattle.definitions.specs.History.{Run, Item, taken, run}
use Rattle.world.specs.Layout.{put_same, put_other}
use Rattle.world.specs.Kept.{causal_all_keeps, oks_keep, cascade_keeps, received_keeps}
use Rattle.world.specs.Runs.{on_states}
use Rattle.effects.specs.Runs.{run_keeps}

-- ---- what no cascade changes
-- the count, and the number of each message
abbrev numbers : State → ℕ × (ℕ → ℕ)
numbers s = (s count, λ m. s (order m))

fifo_one_numbers : (s : State) (p m : ℕ) → numbers (fifo_one s p m) ≡ numbers s
unfolding fifo_one appended raised_next causal_one merge with_tables put
fifo_one_numbers s p m =
    oks_keep numbers p (λ t m v. refl) _ _ _ ∙ causal_all_keeps numbers p (λ t i. refl) (appended s p m)

cascade_numbers : (s : State) (p : ℕ) → numbers (cascade s p) ≡ numbers s
cascade_numbers s p = cascade_keeps numbers p (λ t m. fifo_one_numbers t p m) s

pub arrival_numbers : (s : State) (k m q p : ℕ) → numbers (arrival s k m q p) ≡ numbers s
unfolding arrival put
arrival_numbers s k m q p =
    cascade_numbers _ p
    ∙ received_keeps s k m q p numbers (λ t j o v. refl) (λ t v. refl) (λ t v. refl)

-- ---- a step
-- from s to t by x: one message more, with the number that x carries, or nothing
pub data Sets (s t : State) (x : Step) : Type 0 where
  one_more : (p groups o : ℕ) → x ≡ multicasts p groups o → t count ≡ s count + 1 → t (order (s count)) ≡ o
      → ((m : ℕ) → s count ≢ m → t (order m) ≡ s (order m)) → Sets s t x
  none : numbers t ≡ numbers s → Sets s t x

pub step_sets : (s : State) (x : Step) → Sets s (step s x) x
unfolding step multicast posted numbered stamped raised leave trust_set crash with_tables put
step_sets s (multicasts p groups o) =
    one_more p groups o refl refl (put_same s (order (s count)) (order (s count)) o refl)
    (λ m n. put_other s (order (s count)) (order m) o (λ e. n cc))
step_sets s (arrives k m q p) = none (arrival_numbers s k m q p)
step_sets s (loses k m q p) = none refl
step_sets s (trusts p set) = none (cascade_numbers _ p)
step_sets s (crashes p) = none refl
step_sets s malformed = none refl

-- ---- a message that there is
-- m is one, and has the number o
abbrev pub Has : ℕ → ℕ → Run State → Type 0
Has m o r = (m < r.now count) × (r.now (order m) ≡ o)

-- stays so
pub has_stays : (m o : ℕ) (r : Run State) (items : List Item) → Has m o r → Has m o (run on_states r items)
has_stays m o r items h = run_keeps (Has m o) (λ t x e. keep t x (step_sets t.now x)) r items h
  where
    keep : (t : Run State) (x : Step) → Sets t.now (step t.now x) x → Has m o t
        → Has m o (taken on_states t x)
    keep t x (one_more p groups n e c z f) (l, q) = (omega arith, f m (omega arith) ∙ q)
    keep t x (none e) (l, q) =
        let c : step t.now x count ≡ t.now count = ap (λ (z : ℕ × (ℕ → ℕ)). z.0) e in
        (omega arith, ap (λ (z : ℕ × (ℕ → ℕ)). z.1 m) e ∙ q)
