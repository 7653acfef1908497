-- What a settle leaves, read off its answer and its words, whatever words were lent. Done: no letter can move, and in a
-- sound world every letter in flight is of a message and a process. Stopped: the choice names a letter. Assumes nothing.
use Rattle.std.specs.Prelude.{◌≡◌, refl, Bool, true, false, ℕ, ◌+◌, ◌<◌, eqb}
use Rattle.std.proofs.Common.{sym, subst, arith, ltb-true}
use Rattle.std.proofs.Math.Path.{subst₂}
use mathlib.Core.List.{List}
use Rattle.definitions.specs.General.{pick, gives}
use Rattle.definitions.specs.World.{size, count, encode, view}
use Rattle.definitions.specs.Machine.{arrival}
use Rattle.definitions.specs.Settle.{Choice, letter, nothing, Manner, choice, Ending, done, stopped, settle_from}
use Rattle.definitions.specs.Words.{needs_world, settle_words, settled_words, settle_reply}
use Rattle.definitions.specs.NothingToCome.{ToCome, SomeToCome, to_come}
use Rattle.base.specs.Refusals.{reply_gives}
use Rattle.world.specs.SoundLaws.{Sound, size_high, count_high, letter_facts, origin_low}
use Rattle.world.specs.StepLaws.{Chosen}
use Rattle.world.specs.TurnLaws.{choice_chosen}
use Rattle.world.specs.SettleLaws.{goes_on, NamesLetter, Says, settle_says}
use Rattle.world.specs.Calls.{settle_taken}
use Rattle.keeps.specs.Keeps.{SoundWords, taken_sound_words, settled_words_sound}

-- ---- a letter that is to come in a sound world is of one of its messages, and from one of its processes
pub come_within : (u : List ℕ) (k m q p : ℕ) → SoundWords u → ToCome u k m q p → (m < view u count) × (q < view u size)
come_within u k m q p h (hk, hm, hq, l, z) =
    let f = letter_facts (view u) h.reads k m q p hk hm hq (omega (arith, l.0, size_high (view u) h.reads)) z in
    (ltb-true m (view u count) f.of, origin_low (view u) h.reads k m q p f)

-- ---- the answer
module _ (o : Manner) (w : List ℕ) (b : ℕ) (e : Ending) (says : settle_reply o w b ≡ gives e) where
  -- the words were a world
  unrefused : (needs_world w 0 ≡ 0) × (e ≡ (settle_words o w b).ending)
  unfolding settle_reply
  unrefused = reply_gives (needs_world w 0) e (settle_words o w b).ending (sym says)

  pub left_sound : SoundWords (settled_words o w b)
  left_sound = settled_words_sound o w b (taken_sound_words w unrefused.0)

  -- what it says of the choice that is left
  left_says : Says (0 + b) (λ x. choice o x (view (settled_words o w b))) e
  unfolding settle_words
  left_says =
      subst₂ (λ (u : List ℕ) (y : Ending). Says (0 + b) (λ x. choice o x (view u)) y)
      (settle_taken o w b unrefused.0).1
      (sym unrefused.1)
      (settle_says (λ x u. choice o x (view u)) (λ u k m q p. encode (arrival (view u) k m q p)) b 0 0 w)

-- done: no letter can move
pub nothing_moves : (o : Manner) (w : List ℕ) (b n : ℕ) → settle_reply o w b ≡ gives (done n)
    → Chosen (view (settled_words o w b)) nothing
nothing_moves o w b n e =
    let z = left_says o w b (done n) e in
    subst (Chosen (view (settled_words o w b))) z.1 (choice_chosen o z.0 (view (settled_words o w b)))

-- stopped: the budget is used
pub all_made : (o : Manner) (w : List ℕ) (b n : ℕ) → settle_reply o w b ≡ gives (stopped n) → n ≡ b
all_made o w b n e = omega (arith, (left_says o w b (stopped n) e).0)

-- and the letter named is in flight to an up process
pub one_moves : (o : Manner) (w : List ℕ) (b n : ℕ) → settle_reply o w b ≡ gives (stopped n)
    → SomeToCome (settled_words o w b)
one_moves o w b n e =
    let z = (left_says o w b (stopped n) e).1 in
    let s = view (settled_words o w b) in
    go (choice o z.0 s) (choice_chosen o z.0 s) z.1
  where
    sound : Sound (view (settled_words o w b))
    sound = (left_sound o w b (stopped n) e).reads

    go : (c : Choice) → Chosen (view (settled_words o w b)) c → NamesLetter c → SomeToCome (settled_words o w b)
    go (letter k m q p) a _ =
        let l = a.letter in
        to_come k m q p (
          l.kind,
          omega (arith, l.message, count_high (view (settled_words o w b)) sound),
          omega (arith, l.from, size_high (view (settled_words o w b)) sound),
          (l.to, a.live),
          l.flies,
        )
    go nothing a n = elim n [ ]

-- ---- a settle that is allowed no arrival leaves every word, and so only tells whether anything is to come
pub asked_only : (o : Manner) (w : List ℕ) → settled_words o w 0 ≡ w
unfolding settled_words settle_words settle_from
asked_only o w = unchanged (eqb (needs_world w 0) 0) (choice o 0 (view w))
  where
    unchanged : (b : Bool) (c : Choice)
        → pick b (goes_on c (λ k m q p. record { world = w; ending = stopped 0 }) w 0).world w ≡ w
    unchanged true (letter k m q p) = refl
    unchanged true nothing = refl
    unchanged false c = refl
