-- `settling::settle_sound` meets its contract. Assumes nothing.
use Rattle.std.proofs.Common.{◌≡◌, sym, ap, ◌∙◌, List, ℕ, ◌<◌, arith}
use Rattle.definitions.specs.World.{count, view}
use Rattle.definitions.specs.Settle.{letter, Settled, lowest, any}
use Rattle.world.specs.SoundLaws.{size_high, count_high}
use Rattle.world.specs.StepLaws.{Arrives, lowest_moves}
use Rattle.keeps.specs.Keeps.{SoundWords}
use Rattle.letters.specs.Letters.{choice_of}
use Rattle.settling.specs.Settling.{letter_within, going_first}
use Rattle.settling.specs.Batch.{receives_waiting, going_here, some_receiver, batched_first, batched_then, batched_done, batched_stopped}
use Rattle.settling.proofs.settle_sound.Goals as goal
use Rattle.settling.proofs.settle_sound.Goals.{In-Some}

-- the letter that was found is the lowest
found : (c : In-Some) → let l = c.in-Some.letter in lowest any (view c.loop-reached.w) ≡ letter l.kind l.message l.from l.to
found c = sym c.lowest_letter.ensures ∙ ap choice_of c.in-Some.is

moving : (c : In-Some) → let l = c.in-Some.letter in Arrives (view c.loop-reached.w) l.kind l.message l.from l.to
moving c = lowest_moves (view c.loop-reached.w) _ _ _ _ (found c)

-- where it goes
within : (c : In-Some)
    → let l = c.in-Some.letter in
    (l.kind < 3) × (l.message < 64) × (l.from < 16) × (l.to < 16) × (l.message < view c.loop-reached.w count)
within c = letter_within c.loop-reached.w _ _ _ _ c.loop-reached.invariant.going.sound (moving c)

pub up_mask-up-requires : goal.up_mask-up-requires
up_mask-up-requires c = size_high _ c.requires.sound

pub loop-reached-init : goal.loop-reached-init
loop-reached-init c =
    let h : SoundWords c.args.w.now = record { long = c.told-w; reads = c.requires.sound } in
    batched_first (going_first c.args.w.now c.up_mask-up.result h c.up_mask-up.ensures) c.requires.index (omega arith)

pub lowest_letter-requires : goal.lowest_letter-requires
lowest_letter-requires c =
    let g = c.loop-reached.invariant.going in
    let v = g.sound.reads in
    record { processes = size_high _ v; messages = count_high _ v; ups = g.ups; passed = g.passed }

pub returns-in_default : goal.returns-in_default
returns-in_default c =
    let e = batched_done c.loop-reached.invariant (sym c.lowest_letter.ensures ∙ ap choice_of c.in_default.is) in
    record {
      answer = sym (ap (λ (x : Settled (List ℕ)). x.ending) e);
      words = sym (ap (λ (x : Settled (List ℕ)). x.world) e);
    }

pub receivers-receivers-requires : goal.receivers-receivers-requires
receivers-receivers-requires c =
    let a = within (goal.at.receivers-receivers-requires c).In-Some in
    record { places = (a.1, a.0, a.2); ups = c.loop-reached.invariant.going.ups }

pub batch-reached-requires : goal.batch-reached-requires
batch-reached-requires c =
    let here = (goal.at.batch-reached-requires c).In-Some in
    let v = c.loop-reached.invariant in
    let l = c.in-Some.letter in
    let s = view c.loop-reached.w in
    let z = (moving here).letter in
    let r = receives_waiting s l.kind l.message l.from c.receivers-receivers.ensures in
    record {
      begins = batched_first (going_here l.kind l.message l.from l.to v.going (found here)) v.index v.most;
      receives = r;
      some = some_receiver s l.kind l.message l.from l.to _ (found here) (within here).3 r;
      more = c.loop-reached-test.true;
      origin = z.from;
      message = z.message;
    }

pub loop-reached-preserved : goal.loop-reached-preserved
loop-reached-preserved c = batched_then c.loop-reached.invariant c.batch-reached.ensures.reached

pub lowest_letter-requires-2 : goal.lowest_letter-requires-2
lowest_letter-requires-2 c =
    let g = c.loop-reached.invariant.going in
    let v = g.sound.reads in
    record { processes = size_high _ v; messages = count_high _ v; ups = g.ups; passed = g.passed }

pub returns-in-Some-lowest_letter : goal.returns-in-Some-lowest_letter
returns-in-Some-lowest_letter c =
    let e = batched_stopped c.loop-reached.invariant (omega arith)
    (sym c.lowest_letter-2.ensures ∙ ap choice_of c.in-Some-lowest_letter.is) in
    record {
      answer = sym (ap (λ (x : Settled (List ℕ)). x.ending) e);
      words = sym (ap (λ (x : Settled (List ℕ)). x.world) e);
    }

pub returns-in-None : goal.returns-in-None
returns-in-None c =
    let e = batched_done c.loop-reached.invariant (sym c.lowest_letter-2.ensures ∙ ap choice_of c.in-None.is) in
    record {
      answer = sym (ap (λ (x : Settled (List ℕ)). x.ending) e);
      words = sym (ap (λ (x : Settled (List ℕ)). x.world) e);
    }
