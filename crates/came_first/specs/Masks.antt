-- Every message of every run has a lowest group: the mask of an accepted multicast is below 256, no step changes one that
-- is there, and in a sound world no message has an empty one. Assumes nothing.
use Rattle.std.specs.Prelude.{◌≡◌, true, not, ◌&&◌, List, ℕ, ◌<◌, ltb, eqb}
use Rattle.std.proofs.Common.{ap, arith, ltb-true}
use Rattle.definitions.specs.General.{only}
use Rattle.definitions.specs.World.{count, trust, mask, State, put, has_group}
use Rattle.definitions.specs.Setup.{fresh, made}
use Rattle.definitions.specs.Machine.{with_tables, raised, stamped, numbered, posted, multicast, cascade, leave, arrival, trust_set, crash}
use Rattle.definitions.specs.Steps.{Step, multicasts, arrives, loses, trusts, crashes, malformed, good_mask, accepted, step}
use Rattle.definitions.specs.History.{Run, Item, taken, run}
use Rattle.definitions.specs.Words.{lowest_group}
use Rattle.base.specs.Tests.{both_l, both_r}
use Rattle.base.specs.Sets.{lowest_low}
use Rattle.world.specs.Layout.{put_at}
use Rattle.world.specs.SoundLaws.{Sound, mask_some}
use Rattle.world.specs.StepLaws.{accepted_multicast}
use Rattle.world.specs.Runs.{on_states, started}
use Rattle.effects.specs.Views.{Ground, ground, Still}
use Rattle.effects.specs.Cascade.{cascade_still}
use Rattle.effects.specs.Holding.{arrival_ground}
use Rattle.effects.specs.Runs.{run_keeps}

-- every mask is a set of the 8 groups that there may be
abbrev pub Masked : State → Type 0
Masked s = (x : ℕ) → s (mask x) < 256

-- one that a multicast may have
good_low : (s : State) (groups : ℕ) → good_mask s groups ≡ true → groups < 256
unfolding good_mask
good_low s groups e =
    ltb-true groups 256
    (both_r (not (eqb groups 0)) (ltb groups 256)
    (both_l (not (eqb groups 0) && ltb groups 256) (only 8 groups (has_group s)) e))

-- the masks are part of the ground
ground_masked : (s t : State) → ground t ≡ ground s → Masked s → Masked t
ground_masked s t e h x = rw (ap (λ (v : Ground). v.messages.mask x) e) (h x)

-- every accepted step keeps that
step_masked : (r : Run State) (x : Step) → accepted r.now x ≡ true → Masked r.now
    → Masked (taken on_states r x).now
unfolding step multicast posted numbered stamped raised with_tables trust_set leave crash put
step_masked r (multicasts p groups o) e h = λ x.
    let s = r.now in
    put_at s (mask (s count)) (mask x) groups (λ v. v < 256)
    (λ _. good_low s groups (accepted_multicast s p groups o e).mask) (λ _. h x)
step_masked r (arrives k m q p) e h =
    ground_masked r.now (arrival r.now k m q p) (arrival_ground r.now k m q p) h
step_masked r (loses k m q p) e h = h
step_masked r (trusts p set) e h =
    let u : State = put r.now (trust p) set in
    ground_masked u (cascade u p) (ap (λ (v : Still). v.ground) (cascade_still u p)) h
step_masked r (crashes p) e h = h
step_masked r malformed e h = h

-- so it is in every run
pub reached_masked : (setup : List ℕ) (items : List Item) → Masked (run on_states (started setup) items).now
unfolding made fresh
reached_masked setup items =
    run_keeps (λ r. Masked r.now) step_masked (started setup) items (λ x. omega arith)

-- and the lowest group of a message is one of the 8
pub lowest_there : (s : State) → Sound s → Masked s → (x : ℕ) → x < s count → lowest_group s x < 8
lowest_there s h masked x l = lowest_low 8 (s (mask x)) (masked x) (mask_some s h x l)
