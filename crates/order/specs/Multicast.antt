-- A multicast keeps what the counters and logs of a state mean: it adds one message, whose counters are its
-- sender's after they were raised (OneMore), and which no process has delivered. Assumes nothing.
use Rattle.std.specs.Prelude.{◌≡◌, refl, Bool, true, false, List, ◌∷◌, ◌≢◌, ℕ, suc, ◌+◌, ◌<◌, eqb}
use Rattle.std.proofs.Math.Path.{sym, ap}
use Rattle.std.proofs.Common.{◌∙◌, add-one, ne_eqb}
use native.Mathlib.Omega.{arith}
use Rattle.definitions.specs.General.{pick, bit}
use Rattle.definitions.specs.World.{size, count, counter, sequence, causal_length, sender, mask, stamp, number, State, put}
use Rattle.definitions.specs.Machine.{with_tables, raised, stamped, numbered, posted, multicast}
use Rattle.definitions.specs.History.{Event, sent}
use Rattle.base.specs.Tests.{pick_no, both, eqb_refl}
use Rattle.world.specs.Layout.{put_same, put_other}
use Rattle.effects.specs.Views.{messages, process as own}
use Rattle.order.specs.Knowledge.{knowledge}
use Rattle.order.specs.Counters.{own_all, OneMore, counting_sent, counter_sent, all_more}
use Rattle.order.specs.Logs.{fifo_log_sent, causal_log_sent, quiet_sent}
use Rattle.order.specs.Cascade.{MeaningOf, QuietOf}

module _ (s : State) (es : List Event) (p groups order_no : ℕ) (o : MeaningOf s es) where
  -- one more, as the counters count
  raised_suc : (b : Bool) (v : ℕ) → pick b (v + 1) v ≡ pick b (suc v) v
  raised_suc b v = ap (λ (z : ℕ). pick b z v) (add-one v)

  -- the messages after it
  pub one_more : OneMore (messages s) (knowledge es) p groups (messages (multicast s p groups order_no))
  unfolding multicast posted numbered stamped raised put with_tables
  one_more = record {
    total = refl;
    old_sender = λ x h. put_other s (sender (s count)) (sender x) p (λ e. apart x h (cc));
    old_mask = λ x h. put_other s (mask (s count)) (mask x) groups (λ e. apart x h (cc));
    old_stamp = λ x g q h. pick_no _ (s (stamp x g q)) (ne_eqb (s count) x (apart x h));
    old_number = λ x g h. pick_no _ (s (number x g)) (ne_eqb (s count) x (apart x h));
    new_sender = put_same s (sender (s count)) (sender (s count)) p refl;
    new_mask = put_same s (mask (s count)) (mask (s count)) groups refl;
    new_stamp = λ g q. stamp_is g q ∙ raised_suc (both (eqb p q) (bit groups g)) (s (counter p g q))
        ∙ ap (λ (v : ℕ). pick (both (eqb p q) (bit groups g)) (suc v) v) ((o.each p).counters g q);
    new_number = λ g. number_is g
        ∙ ap (λ (v : ℕ). pick (bit groups g) (v + 1) v)
        ((o.each p).sequences g ∙ sym (own_all o.counting p g) ∙ sym ((o.each p).counters g p))
        ∙ sym
        (stamp_is g p
        ∙ ap (λ (b : Bool). pick (both b (bit groups g)) (s (counter p g p) + 1) (s (counter p g p)))
        (eqb_refl p));
  }
    where
      apart : (x : ℕ) → x < s count → s count ≢ x
      apart x h = omega arith

      stamp_is : (g q : ℕ) → multicast s p groups order_no (stamp (s count) g q)
          ≡ pick (both (eqb p q) (bit groups g)) (s (counter p g q) + 1) (s (counter p g q))
      stamp_is g q = rw (eqb_refl (s count), eqb_refl p)

      number_is : (g : ℕ) → multicast s p groups order_no (number (s count) g)
          ≡ pick (bit groups g) (s (sequence p g) + 1) (s (sequence p g))
      number_is g = rw (eqb_refl (s count), eqb_refl p)

  -- tests grouped otherwise
  grouped : (a b c : Bool) → both (both a b) c ≡ both a (both b c)
  grouped true b c = refl
  grouped false b c = refl

  -- the counters and logs mean what they should
  pub meaning_multicast : p < s size → MeaningOf (multicast s p groups order_no) (sent p (s count) ∷ es)
  unfolding multicast posted numbered stamped raised put with_tables knowledge
  meaning_multicast hp = record {
    counting = counting_sent o.counting one_more hp;
    each = λ r. record {
      counters = λ g q.
          raised_suc (both (both (eqb p r) (eqb p q)) (bit groups g)) (s (counter r g q))
          ∙ ap (λ (b : Bool). pick b (suc (s (counter r g q))) (s (counter r g q)))
          (grouped (eqb p r) (eqb p q) (bit groups g))
          ∙ counter_sent o.counting one_more r g q (s (counter r g q)) ((o.each r).counters g q);
      sequences = λ g.
          raised_suc (both (eqb p r) (bit groups g)) (s (sequence r g))
          ∙ ap (λ (v : ℕ). pick (both (eqb p r) (bit groups g)) (suc v) v) ((o.each r).sequences g)
          ∙ sym (all_more o.counting one_more r g);
      fifo_log = fifo_log_sent o.counting one_more (own s r) (o.each r).fifo_log;
      causal_log =
          causal_log_sent o.counting one_more (own s r) (o.each r).fifo_log (o.each r).causal_log;
    };
  }

  -- and nothing is left to deliver
  pub quiet_multicast : QuietOf s → QuietOf (multicast s p groups order_no)
  unfolding multicast posted numbered stamped raised put with_tables
  quiet_multicast z r = quiet_sent o.counting one_more (own s r) (o.each r).fifo_log (z r)

-- no causal log grows
pub multicast_logs : (s : State) (p groups order_no r : ℕ)
    → multicast s p groups order_no (causal_length r) ≡ s (causal_length r)
unfolding multicast posted numbered stamped raised put with_tables
multicast_logs s p groups order_no r = refl

-- there is one message more
pub multicast_count : (s : State) (p groups order_no : ℕ) → multicast s p groups order_no count ≡ suc (s count)
unfolding multicast posted numbered stamped raised put with_tables
multicast_count s p groups order_no = add-one (s count)
