-- What the five steps do to a state: document 01, section "Steps", in its order and words; the tests, the
-- cascade with its two loops, and each step as a composition of named changes. It rests on the cells of
-- World. Assumes nothing.
use Rattle.std.specs.Prelude.{Bool, true, false, not, ◌&&◌, ◌||◌, ℕ, zero, suc, ◌+◌, ◌-◌, max, ltb, leb, eqb}
use Rattle.definitions.specs.General.{pick, every, first_from, loop, bit, with, without, mask_of}
use Rattle.definitions.specs.World.{size, count, rule, group, trust, counter, sequence, next, delivered, up, fifo_length, causal_length, held, marks, fifo, causal, sender, mask, stamp, number, flight, order, unused, State, put, addressed, outside_fifo, outside_causal}

-- ---- the tables of a state: C and b of the processes, and C and s on the messages
pub record Tables : Type 0 where
  pub counters : ℕ → ℕ → ℕ → ℕ
  pub sequences : ℕ → ℕ → ℕ
  pub stamps : ℕ → ℕ → ℕ → ℕ
  pub numbers : ℕ → ℕ → ℕ

-- s with these tables
unfoldable pub with_tables : State → Tables → State
with_tables s t size = s size
with_tables s t count = s count
with_tables s t rule = s rule
with_tables s t (group p) = s (group p)
with_tables s t (trust p) = s (trust p)
with_tables s t (counter p g q) = t.counters p g q
with_tables s t (sequence p g) = t.sequences p g
with_tables s t (next p q) = s (next p q)
with_tables s t (delivered p q) = s (delivered p q)
with_tables s t (up p) = s (up p)
with_tables s t (fifo_length p) = s (fifo_length p)
with_tables s t (causal_length p) = s (causal_length p)
with_tables s t (held p m) = s (held p m)
with_tables s t (marks p m) = s (marks p m)
with_tables s t (fifo p i) = s (fifo p i)
with_tables s t (causal p i) = s (causal p i)
with_tables s t (sender m) = s (sender m)
with_tables s t (mask m) = s (mask m)
with_tables s t (stamp m g q) = t.stamps m g q
with_tables s t (number m g) = t.numbers m g
with_tables s t (flight m k q) = s (flight m k q)
with_tables s t (order m) = s (order m)
with_tables s t (unused i) = s (unused i)

-- ---- addressees
-- The addressees of m, as a mask.
abbrev pub addressees : State → ℕ → ℕ
addressees s m = mask_of (s size) (addressed s m)

-- ---- the tests of the cascade
-- m is the next message of its sender to the group of p: "s[group of p] = next[sender]".
abbrev pub in_turn : State → ℕ → ℕ → Bool
in_turn s p m = eqb (s (number m (s (group p)))) (s (next p (s (sender m))))

-- p has an OK mark for m from q, if it waits for one: if it trusts q and q is an addressee.
abbrev pub marked : State → ℕ → ℕ → ℕ → Bool
marked s p m q = not (bit (s (trust p)) q && addressed s m q) || bit (s (marks p m)) q

-- "some held m outside the FIFO log has s[group of p] = next[sender], and marks from every trusted process of
-- each addressed group"
unfoldable pub ready : State → ℕ → ℕ → Bool
ready s p m = eqb (s (held p m)) 1 && outside_fifo s p m && in_turn s p m && every (s size) (marked s p m)

-- "for all q other than the sender, the message's C[group of p][q] is at most del[q]": for one q, of "any 16
-- words and any del" (document 02, card 3).
abbrev pub at_most_del : ℕ → (ℕ → ℕ) → (ℕ → ℕ) → ℕ → Bool
at_most_del own counters del q = eqb q own || leb (counters q) (del q)

-- The same of message m and process p, where they stand in the world.
abbrev pub fits : State → ℕ → ℕ → ℕ → Bool
fits s p m = at_most_del (s (sender m)) (λ q. s (stamp m (s (group p)) q)) (λ q. s (delivered p q))

-- What the deliverable test answers (document 02, card 5): "either yes, or the lowest process q whose entry falls short
-- together with the lowest message of q to this group"; "with no such message the answer names q alone".
pub data Awaited : Type 0 where
  yes_now : Awaited
  message_of : ℕ → ℕ → Awaited
  process_alone : ℕ → Awaited

-- "the lowest process q whose entry falls short", other than the sender: n where none does.
unfoldable pub lowest_short : State → ℕ → ℕ → ℕ
lowest_short s p m = first_from (s size) 0 (λ q. not (fits s p m q))

-- x is a "message of q to this group whose C[this group][q] is del[q] plus 1".
abbrev pub is_awaited : State → ℕ → ℕ → ℕ → Bool
is_awaited s p q x =
    eqb (s (sender x)) q && addressed s x p && eqb (s (stamp x (s (group p)) q)) (s (delivered p q) + 1)

-- "the lowest message of q": count where there is none.
unfoldable pub lowest_awaited : State → ℕ → ℕ → ℕ
lowest_awaited s p q = first_from (s count) 0 (is_awaited s p q)

-- Where q falls short: it "together with the lowest message", or "q alone".
unfoldable pub short_of : State → ℕ → ℕ → Awaited
short_of s p q =
    pick (ltb (lowest_awaited s p q) (s count)) (message_of q (lowest_awaited s p q)) (process_alone q)

-- The answer of the test for message m at process p.
unfoldable pub awaited : State → ℕ → ℕ → Awaited
awaited s p m = pick (ltb (lowest_short s p m) (s size)) (short_of s p (lowest_short s p m)) yes_now

abbrev pub is_yes : Awaited → Bool
is_yes yes_now = true
is_yes (message_of q x) = false
is_yes (process_alone q) = false

-- "Deliverable": the answer is yes. "The cascade takes the new answer."
unfoldable pub deliverable : State → ℕ → ℕ → Bool
deliverable s p m = is_yes (awaited s p m)

-- "some message of the FIFO log outside the causal log is deliverable": the one at place i of the FIFO log.
unfoldable pub deliverable_at : State → ℕ → ℕ → Bool
deliverable_at s p i = outside_causal s p (s (fifo p i)) && deliverable s p (s (fifo p i))

-- ---- causal deliveries at p
-- "raise p's C to the entrywise maximum"
unfoldable pub merge : State → ℕ → ℕ → State
merge s p m = with_tables s (record {
  counters = λ r g q. pick (eqb p r) (max (s (counter r g q)) (s (stamp m g q))) (s (counter r g q));
  sequences = λ r g. s (sequence r g);
  stamps = λ x g q. s (stamp x g q);
  numbers = λ x g. s (number x g);
})

-- "append it to the causal log, set del[its sender] to its C[group of p][its sender], raise p's C": the
-- message at place i of the FIFO log.
unfoldable pub causal_one : State → ℕ → ℕ → State
causal_one s p i =
    let m = s (fifo p i) in
    let q = s (sender m) in
    let n = s (causal_length p) in
    let t = put (put s (causal p n) m) (causal_length p) (n + 1) in
    merge (put t (delivered p q) (s (stamp m (s (group p)) q))) p m

-- "while some message of the FIFO log outside the causal log is deliverable, take the earliest in the FIFO
-- log". No more can be delivered than stand in the FIFO log alone: that is the fuel.
unfoldable pub causal_all : State → ℕ → State
causal_all s p =
    loop (λ t. t (fifo_length p)) (λ t. deliverable_at t p) (λ t. causal_one t p)
    (s (fifo_length p) - s (causal_length p)) s

-- ---- FIFO deliveries at p
-- "Append it to the FIFO log."
unfoldable pub appended : State → ℕ → ℕ → State
appended s p m = put (put s (fifo p (s (fifo_length p))) m) (fifo_length p) (s (fifo_length p) + 1)

-- "Then next[sender of m] rises by 1": of the sender q.
unfoldable pub raised_next : State → ℕ → ℕ → State
raised_next s p q = put s (next p q) (s (next p q) + 1)

-- p owes an OK for m of the sender q: "each held message of that same sender whose s[group of p] equals it".
unfoldable pub due : State → ℕ → ℕ → ℕ → Bool
due s p q m = eqb (s (held p m)) 1 && eqb (s (sender m)) q && in_turn s p m

-- p sends the OK for m to all addressees, if it owes one.
unfoldable pub send_ok : State → ℕ → ℕ → ℕ → State
send_ok s p q m = pick (due s p q m) (put s (flight m 2 p) (addressees s m)) s

-- "p sends OK for each held message of that same sender": of the messages below k.
unfoldable pub send_oks : State → ℕ → ℕ → ℕ → State
send_oks s p q zero = s
send_oks s p q (suc k) = send_ok (send_oks s p q k) p q k

-- One turn of the cascade: append m, the causal deliveries, next, the OKs.
unfoldable pub fifo_one : State → ℕ → ℕ → State
fifo_one s p m =
    let t = raised_next (causal_all (appended s p m) p) p (s (sender m)) in
    send_oks t p (s (sender m)) (t count)

-- "Cascade at p: while some held m .., take the lowest such m." The fuel: the messages outside the FIFO log.
unfoldable pub cascade : State → ℕ → State
cascade s p = loop (λ t. t count) (λ t. ready t p) (λ t. fifo_one t p) (s count - s (fifo_length p)) s

-- ---- 1 multicast by p to the groups of a mask, with the order number o
-- "For each group g in the mask p raises C[g][p] and b[g] by 1."
unfoldable pub raised : State → ℕ → ℕ → State
raised s p groups = with_tables s (record {
  counters = λ r g q. pick (eqb p r && eqb p q && bit groups g) (s (counter r g q) + 1) (s (counter r g q));
  sequences = λ r g. pick (eqb p r && bit groups g) (s (sequence r g) + 1) (s (sequence r g));
  stamps = λ x g q. s (stamp x g q);
  numbers = λ x g. s (number x g);
})

-- "Only then are C and b copied onto the message as C and s."
unfoldable pub stamped : State → ℕ → ℕ → State
stamped s p m = with_tables s (record {
  counters = λ r g q. s (counter r g q);
  sequences = λ r g. s (sequence r g);
  stamps = λ x g q. pick (eqb m x) (s (counter p g q)) (s (stamp x g q));
  numbers = λ x g. pick (eqb m x) (s (sequence p g)) (s (number x g));
})

-- "numbered from 0 in order; the count is the number so far": message number count has this sender and mask, and
-- the order number o: "The message's record in the world keeps it" (document 02, card 1).
unfoldable pub numbered : State → ℕ → ℕ → ℕ → State
numbered s p groups o =
    let m = s count in put (put (put (put s (sender m) p) (mask m) groups) (order m) o) count (m + 1)

-- "First letters go in flight to all addressees, down ones too."
unfoldable pub posted : State → ℕ → ℕ → State
posted s p m = put s (flight m 0 p) (addressees s m)

unfoldable pub multicast : State → ℕ → ℕ → ℕ → State
multicast s p groups o = posted (numbered (stamped (raised s p groups) p (s count)) p groups o) p (s count)

-- ---- 2 arrival of the letter of kind k for m from q to p
-- "The letter leaves flight."
unfoldable pub leave : State → ℕ → ℕ → ℕ → ℕ → State
leave s k m q p = put s (flight m k q) (without (s (flight m k q)) p)

-- "Kind 2 sets the mark of its origin."
unfoldable pub mark : State → ℕ → ℕ → ℕ → ℕ → State
mark s k m q p = pick (eqb k 2) (put s (marks p m) (with (s (marks p m)) q)) s

-- "If the receiver did not hold m, it holds it now and sends, to all addressees, OK if s[its group] =
-- next[sender], else relay."
unfoldable pub hold : State → ℕ → ℕ → State
hold s p m =
    pick (eqb (s (held p m)) 1) s
    (put (put s (held p m) 1) (flight m (pick (in_turn s p m) 2 1) p) (addressees s m))

-- An arrival up to here: the letter has left flight, an OK has set its mark, the message is held.
abbrev pub received : State → ℕ → ℕ → ℕ → ℕ → State
received s k m q p = hold (mark (leave s k m q p) k m q p) p m

-- "Then the cascade."
unfoldable pub arrival : State → ℕ → ℕ → ℕ → ℕ → State
arrival s k m q p = cascade (received s k m q p) p

-- ---- 3 loss: "The letter leaves flight", and nothing else (leave)
-- ---- 4 trust: the set of p "replaces the set. Then the cascade."
unfoldable pub trust_set : State → ℕ → ℕ → State
trust_set s p set = cascade (put s (trust p) set) p

-- ---- 5 crash of p
unfoldable pub crash : State → ℕ → State
crash s p = put s (up p) 0
