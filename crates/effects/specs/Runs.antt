-- What every accepted step keeps, every item and every list keeps: a refused step is no step, and a settle is the
-- arrivals that it makes, each of which would be accepted. Assumes nothing.
use Rattle.std.specs.Prelude.{◌≡◌, Bool}
use Rattle.std.proofs.Math.Path.{refl}
use Rattle.std.proofs.Math.Bool.{true, false}
use mathlib.Core.List.{List, [], ◌∷◌, ◌++◌}
use Rattle.definitions.specs.General.{pick}
use Rattle.definitions.specs.World.{State}
use Rattle.definitions.specs.Steps.{Step, arrives, read, accepted}
use Rattle.definitions.specs.Settle.{choice}
use Rattle.definitions.specs.History.{Run, Item, given, settling, taken, tick, settles, act, run}
use Rattle.world.specs.StepLaws.{moves_taken}
use Rattle.world.specs.TurnLaws.{choice_moves}
use Rattle.world.specs.SettleLaws.{settle_keeps}
use Rattle.world.specs.Runs.{on_states}

module _ (P : Run State → Type 0)
    (keep : (r : Run State) (x : Step) → accepted r.now x ≡ true → P r → P (taken on_states r x)) where
  -- an item
  pub act_keeps : (r : Run State) (i : Item) → P r → P (act on_states r i)
  unfolding act tick settles
  act_keeps r (given bytes) w = go (accepted r.now (read bytes)) refl
    where
      go : (b : Bool) → accepted r.now (read bytes) ≡ b → P (pick b (taken on_states r (read bytes)) r)
      go true e = keep r (read bytes) e w
      go false e = w
  act_keeps r (settling o b) w =
      settle_keeps (λ x t. choice o x t.now) (λ t k m q p. taken on_states t (arrives k m q p)) P
      (λ x t k m q p e. keep t (arrives k m q p)
      (moves_taken t.now k m q p (choice_moves o x t.now k m q p e))) b 0 0 r w

  -- a list
  pub run_keeps : (r : Run State) (items : List Item) → P r → P (run on_states r items)
  unfolding run
  run_keeps r [] w = w
  run_keeps r (i ∷ items) w = run_keeps (act on_states r i) items (act_keeps r i w)

-- a list, then another
pub run_append : (r : Run State) (is js : List Item)
    → run on_states r (is ++ js) ≡ run on_states (run on_states r is) js
unfolding run
run_append r [] js = refl
run_append r (i ∷ is) js = run_append (act on_states r i) is js
