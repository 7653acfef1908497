-- Small laws of the calls: a refused call leaves the words as they were, a preview is refused as the step and shows its
-- words, and the words of a run of History are what the public calls of Words give in turn. Assumes nothing.
use Rattle.std.specs.Prelude.{◌≡◌, refl, Bool, true, false, ◌&&◌, List, [], ◌∷◌, ℕ, eqb, length}
use Rattle.std.proofs.Common.{sym, ap, ◌∙◌, eq-eqb, ne_eqb}
use Rattle.definitions.specs.General.{pick, needs, unless_refused, gives}
use Rattle.definitions.specs.World.{State, view}
use Rattle.definitions.specs.Sound.{sound}
use Rattle.definitions.specs.Steps.{Step, arrives, read, refusal, accepted, step, after}
use Rattle.definitions.specs.Settle.{Settled, Manner, choice, settle_from}
use Rattle.definitions.specs.History.{Run, Item, given, settling, taken, tick, settles, act, run}
use Rattle.definitions.specs.Words.{needs_world, making_refusal, made_words, step_words, step_refusal, stepped_words, settle_words, settled_words, settle_reply, preview_refusal, previewed_words, on_words}
use Rattle.world.specs.SettleLaws.{settle_related}

-- ---- a refused call changes nothing
pub refused_same : (n : ℕ) (u w : List ℕ) → (n ≡ 0 → ⊥) → unless_refused n u w ≡ w
refused_same n u w h = rw (ne_eqb n 0 h)

pub step_refused : (w bytes : List ℕ) → (step_refusal w bytes ≡ 0 → ⊥) → stepped_words w bytes ≡ w
unfolding stepped_words
step_refused w bytes h = refused_same (step_refusal w bytes) (step_words w (read bytes)) w h

pub making_refused : (w bytes : List ℕ) → (making_refusal w bytes ≡ 0 → ⊥) → made_words w bytes ≡ w
unfolding made_words
making_refused w bytes h = refused_same (making_refusal w bytes) _ w h

pub settle_refused : (o : Manner) (w : List ℕ) (b : ℕ) → (needs_world w 0 ≡ 0 → ⊥) → settled_words o w b ≡ w
unfolding settled_words
settle_refused o w b h = refused_same (needs_world w 0) _ w h

-- a settle of a sound world
pub settle_taken : (o : Manner) (w : List ℕ) (b : ℕ) → needs_world w 0 ≡ 0
    → (gives (settle_words o w b).ending ≡ settle_reply o w b) × ((settle_words o w b).world ≡ settled_words o w b)
unfolding settle_reply settled_words
settle_taken o w b e = (rw e, rw e)

pub after_refused : (s : State) (x : Step) → (refusal s x ≡ 0 → ⊥) → after s x ≡ s
unfolding after
after_refused s x h = rw (ne_eqb (refusal s x) 0 h)

-- ---- a preview
module _ (w bytes second : List ℕ) where
  -- with a second slice as long as a world it is refused as the step, else with 1
  pub preview_judged : length second ≡ 20480 → preview_refusal w bytes second ≡ step_refusal w bytes
  unfolding preview_refusal
  preview_judged l = rw (eq-eqb (length second) 20480 l)

  pub preview_unjudged : (length second ≡ 20480 → ⊥) → preview_refusal w bytes second ≡ 1
  unfolding preview_refusal
  preview_unjudged h = rw (ne_eqb (length second) 20480 h)

  -- one that is taken shows the words of the step, one that is refused leaves the second slice
  pub preview_taken : preview_refusal w bytes second ≡ 0 → previewed_words w bytes second ≡ stepped_words w bytes
  unfolding previewed_words
  preview_taken e = rw e

  pub preview_refused : (preview_refusal w bytes second ≡ 0 → ⊥) → previewed_words w bytes second ≡ second
  unfolding previewed_words
  preview_refused h = refused_same (preview_refusal w bytes second) (stepped_words w bytes) second h

-- ---- the words of a run
-- What the calls give in turn.
unfoldable pub item_words : List ℕ → Item → List ℕ
item_words w (given bytes) = stepped_words w bytes
item_words w (settling o b) = settled_words o w b

unfoldable pub run_words : List ℕ → List Item → List ℕ
run_words w [] = w
run_words w (i ∷ is) = run_words (item_words w i) is

-- the refusals 1 and 2 in front of n, as tests
needs_split : (a b : Bool) (n : ℕ)
    → eqb (needs 1 a (needs 2 b n)) 0 ≡ (eqb (needs 1 a (needs 2 b 0)) 0 && eqb n 0)
needs_split true true n = refl
needs_split true false n = refl
needs_split false b n = refl

pub tick_words : (r : Run (List ℕ)) (bytes : List ℕ)
    → (tick on_words r (read bytes)).now ≡ stepped_words r.now bytes
unfolding tick stepped_words step_refusal
tick_words r bytes =
    let w : List ℕ = r.now in
    either_way (on_words.world w && accepted (view w) (read bytes))
    ∙ ap (λ (b : Bool). pick b (step_words w (read bytes)) w)
    (sym (needs_split (eqb (length w) 20480) (sound (view w)) (refusal (view w) (read bytes))))
  where
    either_way : (b : Bool)
        → (pick b (taken on_words r (read bytes)) r).now ≡ pick b (step_words r.now (read bytes)) r.now
    either_way true = refl
    either_way false = refl

pub settles_words : (o : Manner) (r : Run (List ℕ)) (b : ℕ) → (settles on_words o r b).now ≡ settled_words o r.now b
unfolding settles settled_words settle_words step
settles_words o r b = go (on_words.world r.now)
  where
    all : Settled (Run (List ℕ))
    all = settle_from (λ x t. choice o x (view t.now)) (λ t k m q p. taken on_words t (arrives k m q p)) b 0 0 r

    same : all.world.now ≡ (settle_words o r.now b).world
    same =
        (settle_related (λ x t. choice o x (view t.now)) (λ t k m q p. taken on_words t (arrives k m q p))
        (λ x w. choice o x (view w)) (λ w k m q p. step_words w (arrives k m q p)) (λ t w. t.now ≡ w)
        (λ x t w e. ap (λ (u : List ℕ). choice o x (view u)) e)
        (λ x t w k m q p e _. ap (λ (u : List ℕ). step_words u (arrives k m q p)) e) b 0 0 r r.now refl
        ).worlds

    go : (x : Bool) → (pick x all.world r).now ≡ pick x (settle_words o r.now b).world r.now
    go true = same
    go false = refl

pub run_is_calls : (r : Run (List ℕ)) (is : List Item) → (run on_words r is).now ≡ run_words r.now is
unfolding run run_words act item_words
run_is_calls r [] = refl
run_is_calls r (i ∷ is) = run_is_calls (act on_words r i) is ∙ ap (λ (w : List ℕ). run_words w is) (item i)
  where
    item : (i : Item) → (act on_words r i).now ≡ item_words r.now i
    item (given bytes) = tick_words r bytes
    item (settling o b) = settles_words o r b
